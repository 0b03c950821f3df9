-- Warnings that are printed one after the other.
use Rattle.std.proofs.Common.{◌≡◌, ◌+◌, ◌<◌, ℕ, List, [], ◌∷◌, ◌++◌, length, take, get_or, refl, sym, subst}
use Rattle.std.proofs.lemmas.List.{take_more}
use Rattle.kp_base.specs.declared.finding.Finding.{Finding}
use Rattle.kp_ast.specs.declared.tree.Job.{Job}
use Rattle.kp_lint.specs.declared.lint.Lint.{Lint}
use Rattle.kp_view_message.specs.declared.warning.Warning.{Warning}
use Rattle.kp_view_explain.specs.{Messages.AppendsWarning, Printed.Prints, Warned.SaysOf}

module _ (file text : List ℕ) (job : Job) where
  one_more : (xs : List (Finding Lint)) (f : Finding Lint) (w : Warning) (old mid new : List ℕ) → Prints file text job xs old mid → SaysOf text job f.place f.fault w
      → AppendsWarning text file f.place w mid new → Prints file text job (xs ++ f ∷ []) old new
  one_more [] f w old mid new e says h = (w, says, (new, subst (λ (l : List ℕ). AppendsWarning text file f.place w l new) e h, refl))
  one_more (x ∷ xs) f w old mid new (v, said, (more, a, rest)) says h = (v, said, (more, a, one_more xs f w more mid new rest says h))

  pub next : (xs : List (Finding Lint)) (i : ℕ) (d : Finding Lint) (w : Warning) (old mid new : List ℕ) → i < length xs → Prints file text job (take i xs) old mid
      → SaysOf text job (get_or xs i d).place (get_or xs i d).fault w → AppendsWarning text file (get_or xs i d).place w mid new
      → Prints file text job (take (i + 1) xs) old new
  next xs i d w old mid new l p says h =
      subst (λ ys. Prints file text job ys old new) (sym (take_more xs i d l)) (one_more (take i xs) (get_or xs i d) w old mid new p says h)
