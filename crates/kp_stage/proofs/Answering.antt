-- What is returned of a job is of the first violation in the list of all.
use Rattle.std.proofs.Common.{◌≡◌, ◌∙◌, ℕ, List, [], ◌∷◌, ◌++◌, take, Option, Some, None, Ok, Err, refl, ap, sym}
use Rattle.std.specs.Option.{option_map}
use Rattle.kp_base.specs.{First.first, Check.after, Findings.findings, Findings.Collected, Findings.with_answers, declared.finding.Finding.Finding}
use Rattle.kp_base.proofs.{First.first_append_none, Collecting.append, Collecting.first_of_all}
use Rattle.kp_ast.specs.declared.tree.Job.{Job}
use Rattle.kp_stage.specs.{Findings.Answer, Findings.refusal_of, Facts.facts_of, Rules.asked_by, Rules.broken_by, Sizes.sizes_of, Counts.counts_of, Counts.summary_of, Stages.answers_of, Stages.broken_of}
use Rattle.kp_stage.specs.declared.{counts.Summary.Summary, fault.StageFault.StageFault}

abbrev numbers : Job → List Answer
numbers job = first (sizes_of job).asked ∷ first (counts_of job).asked ∷ []

found_first : {X : Type 0} (xs ys : List (Option X)) (x : X) → first xs ≡ Some x → first (xs ++ ys) ≡ Some x
found_first [] ys x e = cc
found_first (None ∷ xs) ys x e = found_first xs ys x e
found_first (Some y ∷ xs) ys x e = e

-- a violation of E15 to E25, E34 and E35
pub refused_first : (job : Job) (f : Finding StageFault) → broken_by (facts_of job) job ≡ Some f → first (answers_of job) ≡ Some f
unfolding answers_of broken_by
refused_first job f e = found_first (asked_by (facts_of job) job) (numbers job) f e

-- none of them: the numbers remain
pub numbers_left : (job : Job) → broken_by (facts_of job) job ≡ None → first (answers_of job) ≡ first (first (sizes_of job).asked ∷ first (counts_of job).asked ∷ [])
unfolding answers_of broken_by
numbers_left job e = first_append_none (asked_by (facts_of job) job) (numbers job) e

-- both are noted, up to a limit
pub all_noted : (job : Job) (most : ℕ) (a b c : Collected (Finding StageFault)) → a ≡ record { most = most; found = [] } → b ≡ with_answers a (asked_by (facts_of job) job) → c ≡ with_answers b (first (sizes_of job).asked ∷ first (counts_of job).asked ∷ [])
    → c.found ≡ take most (findings (answers_of job))
unfolding answers_of
all_noted job most a b c begin rules rest =
    let xs = asked_by (facts_of job) job in
    let start : Collected (Finding StageFault) = record { most = most; found = [] } in
    ap (λ (n : Collected (Finding StageFault)). n.found) (rest ∙ ap (λ n. with_answers n (numbers job)) (rules ∙ ap (λ n. with_answers n xs) begin) ∙ sym (append start xs (numbers job)))
    ∙ first_of_all most (xs ++ numbers job)

none_of : (o : Option (Finding StageFault)) (x s : Summary) → Ok s ≡ after o (Ok x) → (o ≡ None) × (s ≡ x)
none_of None x s e = (refl, cc)
none_of (Some f) x s e = cc

some_of : (o : Option (Finding StageFault)) (x : Summary) (f : Finding StageFault) → Err f ≡ after o (Ok x) → o ≡ Some f
some_of None x f e = cc
some_of (Some g) x f e = cc

pub accepts : (job : Job) (s : Summary) → Ok s ≡ after (first (answers_of job)) (Ok (summary_of job)) → (broken_of job ≡ None) × (s ≡ summary_of job)
unfolding broken_of
accepts job s e =
    let h = none_of (first (answers_of job)) (summary_of job) s e in
    (ap (option_map refusal_of) h.0, h.1)

pub refuses : (job : Job) (f : Finding StageFault) → Err f ≡ after (first (answers_of job)) (Ok (summary_of job)) → broken_of job ≡ Some (refusal_of f)
unfolding broken_of
refuses job f e = ap (option_map refusal_of) (some_of (first (answers_of job)) (summary_of job) f e)
