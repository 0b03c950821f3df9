-- Properties of a job that violates no rule.
use Rattle.std.proofs.Common.{◌≡◌, ◌≤◌, List, [], ◌∷◌, ◌++◌, Option, Some, None, cond, Bool, true, false, not, refl, ap}
use Rattle.std.{proofs.lemmas.Bool.leb-true, proofs.lemmas.Bool.and_parts, specs.Prelude.◌&&◌, specs.Prelude.nat_le, specs.Prelude.length}
use Rattle.kp_base.specs.{First.first, declared.place.Place.Place}
use Rattle.kp_ast.specs.declared.tree.Job.{Job}
use Rattle.kp_stage.specs.{Facts.Facts, Findings.broken_if, declared.fault.StageFault.StageFault, declared.rules.Rule.Rule, Rules.asked_at, Rules.asked_by, Rules.broken_by, Rules.holds_of}

-- all answers are None
pub first_none : {X : Type 0} (a : Option X) (more : List (Option X)) → first (a ∷ more) ≡ None → (a ≡ None) × (first more ≡ None)
first_none None more e = (refl, e)
first_none (Some r) more e = cc

pub none_of_two : {X : Type 0} (a b : Option X) → first (a ∷ b ∷ []) ≡ None → (a ≡ None) × (b ≡ None)
none_of_two None None e = (refl, refl)
none_of_two None (Some r) e = cc
none_of_two (Some r) b e = cc

pub none_of_both : {X : Type 0} (xs ys : List (Option X)) → first (xs ++ ys) ≡ None → (first xs ≡ None) × (first ys ≡ None)
none_of_both [] ys e = (refl, e)
none_of_both (None ∷ xs) ys e = none_of_both xs ys e
none_of_both (Some r ∷ xs) ys e = cc

-- a test without a violation holds
pub answer_none : {X : Type 0} (holds : Bool) (r : X) → cond holds None (Some r) ≡ None → holds ≡ true
answer_none true r e = refl
answer_none false r e = cc

-- nothing is found that passes the test
pub found_none : {X : Type 0} (test : X → Bool) (fault : X → StageFault) (o : Option X) (at : Place) → broken_if test fault o at ≡ None → not (holds_of test o) ≡ true
found_none test fault None at e = refl
found_none test fault (Some x) at e = answer_none (not (test x)) _ e

-- so there is no violation
pub none_found : {X : Type 0} (test : X → Bool) (fault : X → StageFault) (o : Option X) (at : Place) → holds_of test o ≡ false → broken_if test fault o at ≡ None
none_found test fault None at e = refl
none_found test fault (Some x) at e = ap (λ b. cond (not b) None (Some (record { place = at; fault = fault x }))) e

-- a job that keeps E15 has 2 to 12 stages, and a block for each
pub stages_kept : (facts : Facts) (job : Job) → broken_by facts job ≡ None → (2 ≤ job.stages.value) × (job.stages.value ≤ 12) × (job.stages.value ≤ length job.blocks)
unfolding broken_by asked_by
stages_kept facts job e =
    let head = (first_none _ _ (none_of_both (asked_at facts job Rule.E15) _ e).0).0 in
    let n = job.stages.value in
    let all = and_parts (nat_le 2 n && nat_le n 12) (nat_le n (length job.blocks)) (answer_none _ _ head) in
    let limits = and_parts (nat_le 2 n) (nat_le n 12) all.0 in
    (leb-true 2 n limits.0, leb-true n 12 limits.1, leb-true n (length job.blocks) all.1)

pub few_stages : (facts : Facts) (job : Job) → broken_by facts job ≡ None → job.stages.value ≤ 12
few_stages facts job e = (stages_kept facts job e).1
