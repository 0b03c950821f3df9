use Rattle.std.proofs.Common.{◌≡◌, ◌+◌, ◌-◌, ℕ, List, drop, map, length, sym, subst, arith}
use Rattle.std.proofs.lemmas.List.{drop_all}
use Rattle.kp_vread_rules.specs.{inner.Listed.occurrence_of, inner.Sets.AlikeDriven, inner.Sets.all_by, declared.names.Occurrence.Occurrence as Listed}
use Rattle.kp_vread_rules.proofs.{Drives.as_before, AllDriven.one_before}
use Rattle.kp_vread_rules.proofs.driver_rule.drive_all.Goals as goal

pub names-init : goal.names-init
names-init c = (
  omega arith,
  subst (λ (xs : List Listed). AlikeDriven c.args.all.now (all_by (map occurrence_of xs) c.args.all.now)) (sym (drop_all (length c.args.names.now) c.args.names.now (omega arith))) (as_before c.args.all.now),
)

pub names-preserved : goal.names-preserved
names-preserved c =
    let next : (c.names.left - 1) + 1 ≡ c.names.left = omega (arith, c.names-test.true) in (
      omega (arith, c.names.invariant.0),
      one_before c.args.names.now (c.names.left - 1) c.index-names-left.result c.names.all c.drive.new.self c.args.all.now (omega (arith, c.names.invariant.0, c.names-test.true)) c.index-names-left.is
          (subst (λ (k : ℕ). AlikeDriven c.names.all (all_by (map occurrence_of (drop k c.args.names.now)) c.args.all.now)) (sym next) c.names.invariant.1) c.in_ok-drive.ensures,
    )

pub returns : goal.returns
returns c =
    let start : c.names.left ≡ 0 = omega (arith, c.names-test.false) in
    subst (λ (k : ℕ). AlikeDriven c.names.all (all_by (map occurrence_of (drop k c.args.names.now)) c.args.all.now)) start c.names.invariant.1
