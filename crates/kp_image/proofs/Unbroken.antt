-- Answers without a violation.
use Rattle.std.proofs.Common.{◌≡◌, ◌∙◌, ◌<◌, ℕ, zero, suc, List, [], ◌∷◌, map, Option, Some, None, Bool, true, false, not, ◌==◌, refl, ap, sym, arith}
use Rattle.std.specs.{Prelude.nat_lt, Prelude.option_map, Prelude.slice_get, Prelude.take, Option.option_or}
use Rattle.std.specs.List.{All}
use Rattle.std.proofs.lemmas.List.Elements.{All-nil, All-cons}
use Rattle.kp_base.specs.{First.first, Check.answer, Findings.findings}
use Rattle.kp_base.proofs.Collecting.{first_taken}
use Rattle.kp_ast.specs.declared.tree.{Num.Num, Stalls.Stalls, Job.Job}
use Rattle.kp_stage.specs.Start.{number_or, image_of, stalls_of, inputs_of}
use Rattle.kp_width.proofs.Unbroken.{first_split}
use Rattle.kp_image.specs.{Faults.refusal_of, declared.fault.SectionFault.SectionFault}
use Rattle.kp_image.specs.declared.fault.SectionFault.TheVariants as faults
use Rattle.kp_image.specs.Sections.{Answer, entry_of, stall_of, input_of, step_of, asked_by, rules_of, sections_of}

pub or_none : {X : Type 0} (a b : Option X) → option_or a b ≡ None → (a ≡ None) × (b ≡ None)
or_none None b e = (refl, e)
or_none (Some x) b e = cc

pub answer_none : {F : Type 0} (holds : Bool) (finding : F) → answer holds finding ≡ None → holds ≡ true
answer_none true finding e = refl
answer_none false finding e = cc

positive : (n : ℕ) → not (n == 0) ≡ true → 0 < n
positive zero e = cc
positive (suc n) e = omega arith

pub step_right : (fault : SectionFault) (o : Option Num) → step_of fault o ≡ None → 0 < number_or o 1
step_right fault None e = omega arith
step_right fault (Some n) e = positive n.value (answer_none (not (n.value == 0)) _ e)

-- the stage of an entry of the stalls is one of this many
pub stage_right : (stages : ℕ) (e : Stalls) → stall_of stages e ≡ None → nat_lt e.stage.value stages ≡ true
stage_right stages e u = answer_none (nat_lt e.stage.value stages) _ (or_none _ (step_of faults.StallStep e.step) u).0

each : {X : Type 0} (f : X → Answer) (xs : List X) → first (map f xs) ≡ None → All (λ x. f x ≡ None) xs
each f [] e = All-nil _
each f (x ∷ xs) e = let both = head_none (f x) (map f xs) e in All-cons (λ x. f x ≡ None) x xs both.0 (each f xs both.1)
  where
    head_none : (a : Answer) (others : List Answer) → first (a ∷ others) ≡ None → (a ≡ None) × (first others ≡ None)
    head_none None others e = (refl, e)
    head_none (Some x) others e = cc

first_rule : (answers : List Answer) → first (rules_of answers) ≡ option_map refusal_of (first answers)
first_rule [] = refl
first_rule (None ∷ answers) = first_rule answers
first_rule (Some x ∷ answers) = refl

-- the first finding has the first violated rule
pub asked_first : (job : Job) → first (sections_of job).asked ≡ option_map refusal_of (first (asked_by job))
unfolding sections_of
asked_first job = first_rule (asked_by job)

pub verdict : (job : Job) → first (sections_of job).asked ≡ option_map refusal_of (slice_get (take 1 (findings (asked_by job))) 0)
verdict job = asked_first job ∙ ap (option_map refusal_of) (sym (first_taken (asked_by job)))

not_some : (answer : Answer) → option_map refusal_of answer ≡ None → answer ≡ None
not_some None e = refl
not_some (Some x) e = cc

-- of sections that violate no rule: no entry has a finding
pub record AreRight (job : Job) : Type 0 where
  pub image : All (λ e. entry_of job.decls e ≡ None) (image_of job)
  pub stalls : All (λ e. stall_of job.stages.value e ≡ None) (stalls_of job)
  pub inputs : All (λ e. input_of job.decls e ≡ None) (inputs_of job)

pub are_right : (job : Job) → first (sections_of job).asked ≡ None → AreRight job
unfolding sections_of asked_by
are_right job e =
    let image = first_split (map (entry_of job.decls) (image_of job)) _ (not_some _ (sym (first_rule (asked_by job)) ∙ e)) in
    let others = first_split (map (stall_of job.stages.value) (stalls_of job)) (map (input_of job.decls) (inputs_of job)) image.1 in
    record { image = each (entry_of job.decls) (image_of job) image.0; stalls = each (stall_of job.stages.value) (stalls_of job) others.0; inputs = each (input_of job.decls) (inputs_of job) others.1 }
