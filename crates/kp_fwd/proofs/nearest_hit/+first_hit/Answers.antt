use Rattle.std.proofs.Common.{◌+◌, length, List, All, subst, sym, arith}
use Rattle.std.proofs.lemmas.List.Elements.{All-take, All-drop}
use Rattle.kp_net.proofs.Growing.{grown_then, grown_more}
use Rattle.kp_fwd.specs.{declared.entries.Candidate.Candidate, Forward.CandidateOk, Forward.IsWithin, inner.Tree.StandsFor}
use Rattle.kp_fwd.proofs.Standing.{stands_later, stands_grown, stands_joined}
use Rattle.kp_fwd.proofs.Within.{within_grown, within_more, all_within_grown, halves}
use Rattle.kp_fwd.proofs.nearest_hit.+first_hit.Goals as goal

pub returns-clause-stands : goal.returns-clause-stands
returns-clause-stands t c =
    let p = c.args.pool.now in
    let w = c.args.width in
    let ok = c.requires.rows in
    let a = c.first_hit-first.ensures in
    let b = c.first_hit-second.ensures in
    let far = subst (All (CandidateOk p w)) (sym c.split_at.ensures.back) (All-drop (CandidateOk p w) _ _ ok) in
    subst (λ (xs : List Candidate). StandsFor p xs c.joined.new.pool c.joined.result) (sym c.split_at.ensures.by_index.0)
    (stands_joined p c.first_hit-second.new.pool c.joined.new.pool _ _ c.first_hit-first.result c.first_hit-second.result c.joined.result
    (stands_grown _ _ _ _ w _ _ b.grown a.wires a.stands)
    (stands_later _ _ _ _ w _ _ a.grown far b.stands)
    c.joined.ensures.hit c.joined.ensures.ok c.joined.ensures.value)

pub returns-clause-depth : goal.returns-clause-depth
returns-clause-depth t c = λ d l few shallow.
    let p = c.args.pool.now in
    let w = c.args.width in
    let a = c.first_hit-first.ensures in
    let b = c.first_hit-second.ensures in
    let h = halves (length c.args.rows.now) l (omega arith) few in
    let near = subst (All (IsWithin p d)) (sym c.split_at.ensures.front) (All-take (IsWithin p d) _ _ shallow) in
    let far = subst (All (IsWithin p d)) (sym c.split_at.ensures.back) (All-drop (IsWithin p d) _ _ shallow) in
    let ok = subst (All (CandidateOk p w)) (sym c.split_at.ensures.back) (All-drop (CandidateOk p w) _ _ c.requires.rows) in
    let x = a.depth d h.0 (omega (arith, h.2)) near in
    let y = b.depth d h.0 (omega (arith, h.3)) (all_within_grown _ _ _ w d _ a.grown ok far) in
    within_more _ (d + h.0 + 1) (d + l) _ (omega (arith, h.1)) (c.joined.ensures.depth (d + h.0) (within_grown _ _ _ w _ _ b.grown a.wires x) y)

pub returns-clause-grown : goal.returns-clause-grown
returns-clause-grown t c =
    let g = grown_then _ _ _ _ _ (grown_then _ _ _ _ _ c.first_hit-first.ensures.grown c.first_hit-second.ensures.grown) c.joined.ensures.grown in
    grown_more _ _ _ _ g (omega arith)
