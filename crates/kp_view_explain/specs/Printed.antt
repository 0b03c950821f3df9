-- WHAT IS PRINTED for a job that violates no rule.
use Rattle.std.specs.Prelude.{◌≡◌, ℕ, List, [], ◌∷◌, take}
use Rattle.kp_base.specs.{Findings.findings, declared.finding.Finding.Finding}
use Rattle.kp_ast.specs.declared.tree.Job.{Job}
use Rattle.kp_lint.specs.{Lints.warned_in, declared.lint.Lint.Lint}
use Rattle.kp_view_message.specs.declared.warning.Warning.{Warning}
use Rattle.kp_view_explain.specs.{Messages.AppendsWarning, Warned.SaysOf}

-- The new text is the old one, and these warnings, one after the other.
abbrev pub Prints : List ℕ → List ℕ → Job → List (Finding Lint) → List ℕ → List ℕ → Type 0
Prints file text job [] old new = new ≡ old
Prints file text job (f ∷ fs) old new =
    (w : Warning) × SaysOf text job f.place f.fault w × ((more : List ℕ) × AppendsWarning text file f.place w old more × Prints file text job fs more new)

-- The first 20 warnings in the order of the text, and nothing else; with no warning nothing is printed.
abbrev pub IsPrinted : List ℕ → List ℕ → Job → List ℕ → Type 0
IsPrinted file text job out = Prints file text job (take 20 (findings (warned_in job))) [] out
