use Rattle.std.proofs.Common.{◌≡◌, ◌∙◌, ℕ, ◌+◌, ◌-◌, List, drop, refl, ap, sym, subst, arith}
use Rattle.kp_build.{specs.Names.Scope, specs.Names.node_of, proofs.Names.bound_more, proofs.Names.given}
use Rattle.kp_build.proofs.env.Env.of_call.Goals as goal

pub loop-i-preserved : goal.loop-i-preserved
loop-i-preserved c =
    let ps = c.args.params.now in
    let args = c.args.args.now in
    let i = c.loop-i.i - 1 in
    let e : i + 1 ≡ c.loop-i.i = omega (arith, c.loop-i-test.true) in
    let new = c.in_ok-bind.ensures.bound in (
      ap (λ (s : Scope). s.decls) new ∙ c.loop-i.invariant.0,
      λ q. ap (λ (s : Scope). node_of s.names q) new
          ∙ bound_more ps args i _ c.index-params-i.result _ _ (omega (arith, c.loop-i-test.true, c.loop-i.auto.i)) (omega (arith, c.loop-i-test.true, c.loop-i.auto.i, c.requires)) refl refl c.loop-i.env.names
          (subst (λ k. (q : List ℕ) → node_of c.loop-i.env.names q ≡ node_of (given (drop k ps) (drop k args)) q) (sym e) c.loop-i.invariant.1) q,
    )
