-- The numbers of registers and files.
use Rattle.std.proofs.Common.{◌≡◌, ◌∙◌, ℕ, zero, suc, ◌+◌, ◌<◌, Bool, true, false, not, List, [], ◌∷◌, ◌++◌, take, length, get_or, refl, ap, arith}
use Rattle.std.{proofs.lemmas.Bool.eq-eqb, proofs.lemmas.Bool.eqb-true, proofs.lemmas.Bool.false_from_ne_true, proofs.lemmas.Bool.not-true, specs.List.filter}
use Rattle.std.specs.Prelude.{◌==◌}
use Rattle.kp_machine.{proofs.Cases.by_test, specs.Slots.Slot, specs.Slots.targets_of, specs.Slots.hints_of, specs.Slots.is_register}
use Rattle.kp_machine.specs.Machine.{registers_before, files_before}
use Rattle.kp_ast.specs.declared.tree.Job.{Job}
use Rattle.kp_synth_registers.specs.{declared.key.Key.Key, declared.key.Key.TheVariants.Visible}
use Rattle.kp_design.specs.Numbers.{no_slot, target_at}
use Rattle.kp_synth_registers.specs.Keys.{visible_keys, later_keys, hint_keys, keys_of, place_in, place_of}
use Rattle.kp_synth_next.specs.Shows.{files_of}
use Rattle.kp_synth.proofs.Places.{comes_from, file_number}

abbrev pub is_file : Slot → Bool
is_file s = not (is_register s)

-- the visible registers come first, in order
place_visible : (ss : List Slot) (rest : List Key) (n i t : ℕ) → i < length ss → is_register (get_or ss i no_slot) ≡ true → t ≡ n + i
    → place_in (visible_keys n ss ++ rest) (Visible t) ≡ length (filter is_register (take i ss))
place_visible [] rest n i t l r e = absurd (omega arith)
place_visible (s ∷ ss) rest n zero t l r e =
    let z : t ≡ n = omega arith in
    let q = eq-eqb t n z in
    rw (r, q) refl
place_visible (s ∷ ss) rest n (suc i) t l r e =
    let more = place_visible ss rest (suc n) i t (omega arith) r (omega arith) in
    let q : (t == n) ≡ false = false_from_ne_true (t == n) (λ y. let z = eqb-true t n y in absurd (omega (arith, z, e))) in
    by_test (is_register s) (λ b. rw (b, q) (ap suc more)) (λ b. rw b more)

pub register_place : (job : Job) (t : ℕ) → t < length (targets_of job.decls) → is_register (target_at job t) ≡ true → place_of job (Visible t) ≡ registers_before (targets_of job.decls) t
unfolding place_of keys_of
register_place job t l r = place_visible (targets_of job.decls) (later_keys job job.stages.value ++ hint_keys 0 (hints_of job.decls)) 0 t t l r (omega arith)

-- each file is that of a target
pub file_found : (job : Job) (f : ℕ) → f < length (files_of job)
    → (t : ℕ) × (t < length (targets_of job.decls)) × (is_register (target_at job t) ≡ false) × (files_before (targets_of job.decls) t ≡ f)
file_found job f l =
    let c = comes_from is_file (targets_of job.decls) f no_slot l in
    (c.at, c.there, not-true _ c.passes, file_number (targets_of job.decls) c.at (omega (arith, c.there)) ∙ c.before)
