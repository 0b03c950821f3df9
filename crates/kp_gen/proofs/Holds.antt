-- A generated job violates no rule of stages, and none of the sections.
use Rattle.std.proofs.Common.{◌≡◌, ℕ, zero, suc, ◌+◌, ◌-◌, ◌<◌, ◌≤◌, ◌/◌, ◌^◌, List, [], ◌∷◌, length, Option, None, true, refl, ap, arith, ◌∙◌}
use Rattle.std.{proofs.Math.Nat.mod-lt, proofs.lemmas.Bool.lt-ltb, specs.Prelude.nat_lt, specs.Option.option_map, specs.Option.option_or}
use Rattle.kp_base.{specs.First.first, proofs.First.first_append_none}
use Rattle.kp_stage.specs.{Facts.facts_of, Findings.refusal_of, Rules.asked_by, Sizes.sizes_of, Counts.counts_of, Stages.answers_of, Stages.broken_of}
use Rattle.kp_image.specs.Sections.{asked_by as asked_of_sections, broken_unless, rules_of, sections_of}
use Rattle.kp_image.specs.declared.fault.SectionFault.TheVariants as faults
use Rattle.kp_gen.specs.{declared.draws.Route.Route, Draws.next, Draws.drawn, Draws.routes_from, Draws.routes_drawn, Draws.stages_drawn, Draws.registers_drawn}
use Rattle.kp_gen.{specs.Generated.place, specs.Generated.job_of, specs.Generated.gen_job, proofs.NamesHold.few_registers, proofs.Finds.AllFrom}
use Rattle.kp_gen.proofs.{Kept.IsFine, Kept.rules_kept, Totals.sizes_kept, Totals.counts_kept}

pub three : {F : Type 0} (a b c : Option F) → a ≡ None → b ≡ None → c ≡ None → first (a ∷ b ∷ c ∷ []) ≡ None
three a b c e f g = rw (e, f, g) refl

pub stages_hold : (n : ℕ) (rs : List Route) → 3 ≤ n → n ≤ 12 → length rs ≤ 35 → AllFrom (λ i r. IsFine n r) 0 rs → broken_of (job_of n rs) ≡ None
unfolding broken_of answers_of
stages_hold n rs least most few fine =
    let job = job_of n rs in
    let numbers = first (sizes_of job).asked ∷ first (counts_of job).asked ∷ [] in
    ap (option_map refusal_of)
    (first_append_none (asked_by (facts_of job) job) numbers (rules_kept n rs least most few fine)
    ∙ three None (first (sizes_of job).asked) (first (counts_of job).asked) refl (sizes_kept n rs most few) (counts_kept n rs few))

-- the choices that are drawn stay within the stages
routes_fine : (n m count x i : ℕ) → 3 ≤ n → AllFrom (λ i r. IsFine n r) i (routes_from n m count x)
routes_fine n m zero x i least = tt
routes_fine n m (suc count) x i least =
    let write : drawn x (n - 1) < n - 1 = mod-lt (next x / 2 ^ 33) (omega (arith, least)) in
    let set : drawn (next x) (1 + drawn x (n - 1)) < 1 + drawn x (n - 1) = mod-lt (next (next x) / 2 ^ 33) (omega arith) in (
      record { some = omega arith; order = omega (arith, set); within = omega (arith, write) },
      routes_fine n m count (next (next (next x))) (i + 1) least,
    )

few_stages : (G : ℕ) → stages_drawn G ≤ 12
few_stages G = let within : drawn G 8 < 8 = mod-lt (next G / 2 ^ 33) (omega arith) in omega (arith, within)

pub generated_stages_hold : (G : ℕ) → broken_of (gen_job G) ≡ None
generated_stages_hold G =
    stages_hold (stages_drawn G) (routes_drawn G) (omega arith) (few_stages G) (few_registers G)
    (routes_fine (stages_drawn G) (registers_drawn G) (registers_drawn G) (next (next G)) 0 (omega arith))

stall_holds : (n : ℕ) → 1 ≤ n → broken_unless (nat_lt (n - 1) n) (faults.NoStage (n - 1) n) place ≡ None
stall_holds n h = let e : nat_lt (n - 1) n ≡ true = lt-ltb (n - 1) n (omega (arith, h)) in rw e refl

sections_hold : (n : ℕ) (rs : List Route) → 1 ≤ n → first (sections_of (job_of n rs)).asked ≡ None
unfolding job_of sections_of asked_of_sections
sections_hold n rs h = ap (λ a. first (rules_of (option_or a None ∷ []))) (stall_holds n h)

pub generated_sections_hold : (G : ℕ) → first (sections_of (gen_job G)).asked ≡ None
generated_sections_hold G = sections_hold (stages_drawn G) (routes_drawn G) (omega arith)
