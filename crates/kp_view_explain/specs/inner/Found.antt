-- What the passes find in a tree, with what is said of it.
use Rattle.std.specs.Prelude.{◌≡◌, ℕ, List, [], ◌∷◌, Option, Some, None}
use Rattle.kp_base.specs.{Refusal.e_rule, declared.refusal.Refusal.Refusal}
use Rattle.kp_view_message.specs.Rules.{rule_of}
use Rattle.kp_view_explain.specs.declared.passes.Finding.{Finding}
use Rattle.kp_view_explain.specs.{Showing.ShowsPlace, Showing.job_mark, declared.explanation.Explanation.Explanation}

-- the rule that a finding is of, at its place
abbrev pub head_of : Finding → Refusal
head_of f = e_rule (rule_of f.message) f.place

abbrev pub first_rule : List Finding → Option Refusal
first_rule [] = None
first_rule (f ∷ fs) = Some (head_of f)

-- the explanation of a violated rule of a job
abbrev pub IsOfRule : List ℕ → List ℕ → Refusal → Explanation → Type 0
IsOfRule file text refusal e = (e.status ≡ 2) × ShowsPlace file text refusal (job_mark text refusal) e.text.items

-- the explanation of the first rule that a tree violates, where it violates one
abbrev pub IsOfTree : List ℕ → List ℕ → Option Refusal → Option Explanation → Type 0
IsOfTree file text broken None = broken ≡ None
IsOfTree file text broken (Some e) = (refusal : Refusal) × (broken ≡ Some refusal) × IsOfRule file text refusal e
