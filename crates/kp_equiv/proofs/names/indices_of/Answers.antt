use Rattle.std.proofs.Common.{◌≡◌, ◌∙◌, ◌+◌, ◌-◌, ℕ, List, cond, Some, drop, length, map, refl, sym, ap, subst, arith}
use Rattle.std.{proofs.lemmas.List.drop_all, specs.Map.lookup}
use Rattle.kp_net.specs.Names.{same}
use Rattle.kp_equiv.{specs.inner.Indexed.HasIndices, proofs.Naming.one_before}
use Rattle.kp_equiv.proofs.names.indices_of.Goals as goal

pub names-init : goal.names-init
names-init c = (omega arith, rw (drop_all (length c.args.names.now) c.args.names.now (omega arith), c.new-indices.ensures.empty) (record { index = λ q. refl }))

pub names-preserved : goal.names-preserved
names-preserved c =
    let next : (c.names.left - 1) + 1 ≡ c.names.left = omega (arith, c.names-test.true) in (
      omega (arith, c.names.invariant.0),
      one_before (λ n. n.now) c.args.names.now (c.names.left - 1) c.index-names-left.result c.names.indices.entries c.insert.new.self.entries (omega (arith, c.names.invariant.0, c.names-test.true)) c.index-names-left.is
          (λ q. c.in_ok-insert.ensures.updates.0 q ∙ ap (λ (k : List ℕ). cond (same k q) (Some (c.names.left - 1)) (lookup (same q) c.names.indices.entries)) c.new.ensures)
          (subst (λ (k : ℕ). HasIndices c.names.indices.entries k (map (λ n. n.now) (drop k c.args.names.now))) (sym next) c.names.invariant.1),
    )

pub returns : goal.returns
returns c =
    let start : c.names.left ≡ 0 = omega (arith, c.names-test.false) in
    subst (λ (k : ℕ). HasIndices c.names.indices.entries k (map (λ n. n.now) (drop k c.args.names.now))) start c.names.invariant.1
