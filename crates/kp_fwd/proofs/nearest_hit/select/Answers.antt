use Rattle.std.proofs.Common.{◌∙◌, ◌+◌, ◌≤◌, cond, true, length, refl, rules, arith}
use Rattle.kp_net.{specs.Nodes.at, specs.Nodes.on, specs.Depth.IsNoDeeper, proofs.Growing.grown_then, proofs.Growing.grown_more}
use Rattle.kp_net.proofs.Depths.{still_no_deeper, deeper_yet}
use Rattle.kp_fwd.proofs.{Standing.bit_is, Within.picked_more}
use Rattle.kp_fwd.proofs.nearest_hit.select.Goals as goal

pub returns-then-is_empty-clause-depth : goal.returns-then-is_empty-clause-depth
returns-then-is_empty-clause-depth c = λ d shallow none.
    let a = c.bit-any.ensures in
    let b = c.bit-ok.ensures in
    let any : IsNoDeeper c.bit-any.new.pool.nodes c.bit-any.result (d + 6) = record { bound = omega (arith, a.depth) } in
    record {
      any = still_no_deeper _ _ _ _ _ _ b.grown a.wire any;
      ok = record { bound = omega (arith, b.depth) };
      value = deeper_yet _ _ d (d + 6) (still_no_deeper _ _ _ _ _ _ (grown_then _ _ _ _ _ a.grown b.grown) (record { inside = c.requires.none; wide = refl }) none) (omega arith);
    }

pub returns-clause-any : goal.returns-clause-any
returns-clause-any c = λ x. c.picked.ensures.any x ∙ bit_is _ ∙ c.first_hit-first.ensures.stands.hit x _

pub returns-clause-ok : goal.returns-clause-ok
returns-clause-ok c = λ x. c.picked.ensures.ok x ∙ c.first_hit-first.ensures.stands.ok x true

pub returns-clause-value : goal.returns-clause-value
returns-clause-value c = λ x.
    let q = c.first_hit-first.new.pool in
    let r = c.first_hit-first.result in
    let none = c.first_hit-first.ensures.grown.kept.same x c.args.none.0 c.requires.none in
    c.picked.ensures.value x ∙ (λ i. cond (on x q.nodes r.hit.0) (at x q.nodes r.value.0) (none i)) ∙ c.first_hit-first.ensures.stands.value x (at x c.args.pool.now.nodes c.args.none.0)

pub returns-clause-depth : goal.returns-clause-depth
returns-clause-depth c = λ d shallow none.
    let first = c.first_hit-first.ensures in
    let own = deeper_yet _ _ d (d + 4) (still_no_deeper _ _ _ _ _ _ first.grown (record { inside = c.requires.none; wide = refl }) none) (omega arith) in
    picked_more _ (d + 4 + 1) (d + 6) _ (omega arith) (c.picked.ensures.depth (d + 4) (first.depth d 4 (omega arith) shallow) own)

pub returns-clause-grown : goal.returns-clause-grown
returns-clause-grown c =
    let some : 1 ≤ length c.args.rows.now = search rules in
    grown_more _ _ _ _ (grown_then _ _ _ _ _ c.first_hit-first.ensures.grown c.picked.ensures.grown) (omega arith)
