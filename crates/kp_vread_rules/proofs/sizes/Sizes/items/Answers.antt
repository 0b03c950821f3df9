use Rattle.std.proofs.Common.{◌≡◌, ◌+◌, ◌-◌, ◌++◌, ℕ, List, drop, length, sym, subst, arith}
use Rattle.std.proofs.lemmas.List.{drop_all}
use Rattle.kp_vlog.specs.{declared.tree.Item.Item, Scope.item_sizes}
use Rattle.kp_vread_rules.{specs.Tables.AlikeSizes, proofs.Sizing.sizes_alike, proofs.Sizing.one_item}
use Rattle.kp_vread_rules.proofs.sizes.Sizes.items.Goals as goal

pub items-init : goal.items-init
items-init c = (
  omega arith,
  subst (λ (xs : List Item). AlikeSizes c.args.self.now (item_sizes xs ++ c.args.self.now)) (sym (drop_all (length c.args.items.now) c.args.items.now (omega arith))) (sizes_alike c.args.self.now),
)

pub items-preserved : goal.items-preserved
items-preserved c =
    let next : (c.items.left - 1) + 1 ≡ c.items.left = omega (arith, c.items-test.true) in (
      omega (arith, c.items.invariant.0),
      one_item c.args.items.now (c.items.left - 1) c.index-items-left.result c.args.self.now c.items.self c.item.new.self (omega (arith, c.items.invariant.0, c.items-test.true)) c.index-items-left.is
          (subst (λ (k : ℕ). AlikeSizes c.items.self (item_sizes (drop k c.args.items.now) ++ c.args.self.now)) (sym next) c.items.invariant.1) c.in_ok-item.ensures,
    )

pub returns : goal.returns
returns c =
    let start : c.items.left ≡ 0 = omega (arith, c.items-test.false) in
    subst (λ (k : ℕ). AlikeSizes c.items.self (item_sizes (drop k c.args.items.now) ++ c.args.self.now)) start c.items.invariant.1
