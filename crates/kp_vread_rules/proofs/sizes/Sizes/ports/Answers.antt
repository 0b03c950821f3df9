use Rattle.std.proofs.Common.{◌≡◌, ◌+◌, ◌-◌, ◌++◌, ℕ, List, drop, map, length, sym, subst, arith}
use Rattle.std.proofs.lemmas.List.{drop_all}
use Rattle.kp_vlog.specs.{declared.tree.VPort.VPort, Scope.port_size}
use Rattle.kp_vread_rules.{specs.Tables.AlikeSizes, proofs.Sizing.sizes_alike, proofs.Sizing.one_port}
use Rattle.kp_vread_rules.proofs.sizes.Sizes.ports.Goals as goal

pub ports-init : goal.ports-init
ports-init c = (
  omega arith,
  subst (λ (xs : List VPort). AlikeSizes c.args.self.now (map port_size xs ++ c.args.self.now)) (sym (drop_all (length c.args.ports.now) c.args.ports.now (omega arith))) (sizes_alike c.args.self.now),
)

pub ports-preserved : goal.ports-preserved
ports-preserved c =
    let next : (c.ports.left - 1) + 1 ≡ c.ports.left = omega (arith, c.ports-test.true) in (
      omega (arith, c.ports.invariant.0),
      one_port c.args.ports.now (c.ports.left - 1) c.index-ports-left.result c.args.self.now c.ports.self c.port.new.self (omega (arith, c.ports.invariant.0, c.ports-test.true)) c.index-ports-left.is
          (subst (λ (k : ℕ). AlikeSizes c.ports.self (map port_size (drop k c.args.ports.now) ++ c.args.self.now)) (sym next) c.ports.invariant.1) c.in_ok-port.ensures,
    )

pub returns : goal.returns
returns c =
    let start : c.ports.left ≡ 0 = omega (arith, c.ports-test.false) in
    subst (λ (k : ℕ). AlikeSizes c.ports.self (map port_size (drop k c.args.ports.now) ++ c.args.self.now)) start c.ports.invariant.1
