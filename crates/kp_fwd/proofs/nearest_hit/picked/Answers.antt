use Rattle.std.proofs.Common.{◌+◌, arith}
use Rattle.kp_net.{specs.Depth.IsNoDeeper, proofs.Growing.grown_then, proofs.Depths.still_no_deeper, proofs.Depths.deeper_yet}
use Rattle.kp_fwd.proofs.nearest_hit.picked.Goals as goal

pub returns-clause-depth : goal.returns-clause-depth
returns-clause-depth c = λ d a b.
    let f = c.requires.first in
    let g1 = c.bit-yes.ensures.grown in
    let g2 = c.pick-ok.ensures.grown in
    let g3 = c.choose-value.ensures.grown in
    let g12 = grown_then _ _ _ _ _ g1 g2 in
    let flat : IsNoDeeper c.bit-yes.new.pool.nodes c.bit-yes.result d = record { bound = omega (arith, c.bit-yes.ensures.depth) } in
    record {
      any = deeper_yet _ _ d (d + 1) (still_no_deeper _ _ _ _ _ _ (grown_then _ _ _ _ _ g12 g3) f.hit a.hit) (omega arith);
      ok = still_no_deeper _ _ _ _ _ _ g3 c.pick-ok.ensures.wire (c.pick-ok.ensures.depth d (still_no_deeper _ _ _ _ _ _ g1 f.hit a.hit) (still_no_deeper _ _ _ _ _ _ g1 f.ok a.ok) flat);
      value = c.choose-value.ensures.depth d (still_no_deeper _ _ _ _ _ _ g12 f.hit a.hit) (still_no_deeper _ _ _ _ _ _ g12 f.value a.value) (still_no_deeper _ _ _ _ _ _ g12 c.requires.none b);
    }
