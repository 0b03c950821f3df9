use Rattle.std.proofs.Common.{◌≡◌, ◌∙◌, ◌++◌, [], ◌∷◌, ap, cond, Bool, true, map}
use Rattle.std.proofs.lemmas.{Cmp.nat_list_eq_equiv, List.Sums.fold-append}
use Rattle.kp_ast.specs.Expressions.{Calls, env_of, eval, no_calls, calls_after}
use Rattle.kp_ast.{specs.Size.Bodies, specs.Size.no_bodies, specs.Size.bodies_after, proofs.Levels.fold-Call}
use Rattle.kp_ast.specs.declared.tree.Decl.TheVariants as decls
use Rattle.kp_ast.proofs.laws.call_is_its_body.Goals as goal

here : {X : Type 0} (test : Bool) (x y : X) → test ≡ true → cond test x y ≡ x
here test x y e = ap (λ b. cond b x y) e

pub returns-clause-value : goal.returns-clause-value
returns-clause-value c ds f values place args =
    let name = f.name.name in
    let values_of = map (eval (env_of (ds ++ decls.Func f ∷ []) values)) args in
    fold-Call _ _ _ _ place name args
    ∙ ap (λ (calls : Calls). calls name values_of) (fold-append calls_after no_calls ds (decls.Func f ∷ []))
    ∙ here _ _ _ (nat_list_eq_equiv.refl name)

pub returns-clause-size : goal.returns-clause-size
returns-clause-size c ds f =
    ap (λ (bodies : Bodies). bodies f.name.name) (fold-append bodies_after no_bodies ds (decls.Func f ∷ []))
    ∙ here _ _ _ (nat_list_eq_equiv.refl f.name.name)
