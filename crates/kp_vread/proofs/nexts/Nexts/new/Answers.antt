use Rattle.std.proofs.Common.{◌≡◌, ◌+◌, ◌-◌, ℕ, [], List, drop, length, sym, subst, arith}
use Rattle.std.proofs.lemmas.List.{drop_all}
use Rattle.kp_net.specs.declared.node.NodeId.{NodeId}
use Rattle.kp_vlog.specs.declared.tree.Update.{Update}
use Rattle.kp_vread.{specs.inner.Nexts.AreNexts, proofs.Updating.no_nexts, proofs.Updating.one_before}
use Rattle.kp_vread.proofs.nexts.Nexts.new.Goals as goal

pub updates-init : goal.updates-init
updates-init c = (
  omega arith,
  subst (λ (xs : List Update). AreNexts c.args.wires.now c.empty-nexts.result xs) (sym (drop_all (length c.args.updates.now) c.args.updates.now (omega arith)))
      (subst (λ (es : List (List ℕ × NodeId)). AreNexts c.args.wires.now es []) (sym c.empty-nexts.ensures) (no_nexts c.args.wires.now)),
)

pub updates-preserved : goal.updates-preserved
updates-preserved c =
    let next : (c.updates.left - 1) + 1 ≡ c.updates.left = omega (arith, c.updates-test.true) in (
      omega (arith, c.updates.invariant.0),
      one_before c.args.wires.now c.put.new.self c.args.updates.now (c.updates.left - 1) c.index-updates-left.result (omega (arith, c.updates.invariant.0, c.updates-test.true)) c.index-updates-left.is
          (c.in_ok-put.ensures _ (subst (λ (k : ℕ). AreNexts c.args.wires.now c.updates.nexts (drop k c.args.updates.now)) (sym next) c.updates.invariant.1)),
    )

pub returns : goal.returns
returns c =
    let start : c.updates.left ≡ 0 = omega (arith, c.updates-test.false) in
    subst (λ (k : ℕ). AreNexts c.args.wires.now c.updates.nexts (drop k c.args.updates.now)) start c.updates.invariant.1
