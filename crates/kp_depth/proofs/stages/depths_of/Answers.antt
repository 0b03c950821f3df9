use Rattle.std.proofs.Common.{ℕ}
use Rattle.kp_depth.specs.{Depths.IsRow, Depths.no_row, Ends.ends_of, declared.stages.Row.Row}
use Rattle.kp_depth.proofs.Listing.{pushed}
use Rattle.kp_depth.proofs.stages.depths_of.Goals as goal

pub loop-k-preserved : goal.loop-k-preserved
loop-k-preserved c =
    let job = c.args.layout.now in
    let net = c.args.net.now in
    pushed (λ (k : ℕ) (row : Row). IsRow job net c.args.inside (ends_of job net c.args.inside) k row) no_row c.loop-k.rows.items c.push.new.self.items c.in_ok-row.row c.loop-k.k
    c.loop-k.invariant.0 c.loop-k.invariant.1
    (rw (c.in_ok-times.ensures.inside, c.as_slice.ensures.value, c.in_ok-ends.ensures) at c.in_ok-row.ensures) c.in_ok-push.ensures.items
