use Rattle.kp_net.proofs.{Growing.grown_then, Depths.still_no_deeper}
use Rattle.kp_fwd.proofs.nearest_hit.joined.Goals as goal

pub returns-clause-depth : goal.returns-clause-depth
returns-clause-depth c = λ d a b.
    let n = c.requires.near in
    let f = c.requires.far in
    let g1 = c.either-hit.ensures.grown in
    let g2 = c.pick-ok.ensures.grown in
    let g3 = c.choose-value.ensures.grown in
    let g12 = grown_then _ _ _ _ _ g1 g2 in
    record {
      hit = still_no_deeper _ _ _ _ _ _ (grown_then _ _ _ _ _ g2 g3) c.either-hit.ensures.wire (c.either-hit.ensures.depth d a.hit b.hit);
      ok = still_no_deeper _ _ _ _ _ _ g3 c.pick-ok.ensures.wire (c.pick-ok.ensures.depth d (still_no_deeper _ _ _ _ _ _ g1 n.hit a.hit) (still_no_deeper _ _ _ _ _ _ g1 n.ok a.ok) (still_no_deeper _ _ _ _ _ _ g1 f.ok b.ok));
      value = c.choose-value.ensures.depth d (still_no_deeper _ _ _ _ _ _ g12 n.hit a.hit) (still_no_deeper _ _ _ _ _ _ g12 n.value a.value) (still_no_deeper _ _ _ _ _ _ g12 f.value b.value);
    }
