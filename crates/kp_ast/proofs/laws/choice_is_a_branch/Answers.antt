use Rattle.std.proofs.Common.{◌≡◌, ◌∙◌, Bool, true, false, inl, inr, ap, refl, ◌⊎◌, cond, eqb}
use Rattle.kp_bits.specs.Word.{Word}
use Rattle.kp_ast.{proofs.Levels.fold-Mux, specs.Expressions.eval}
use Rattle.kp_ast.proofs.laws.choice_is_a_branch.Goals as goal

either : (b : Bool) (x y : Word) → (cond b x y ≡ x) ⊎ (cond b x y ≡ y)
either true x y = inl refl
either false x y = inr refl

pub returns-clause-yes : goal.returns-clause-yes
returns-clause-yes c env place test a b one = fold-Mux _ _ _ _ place test a b ∙ ap (λ n. cond (eqb n 1) (eval env a) (eval env b)) one

pub returns-clause-either : goal.returns-clause-either
returns-clause-either c env place test a b = rw (fold-Mux _ _ _ _ place test a b) (either _ (eval env a) (eval env b))
