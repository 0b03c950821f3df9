use Rattle.std.proofs.Common.{arith}
use Rattle.kp_run.specs.Boards.{due_behind}
use Rattle.kp_report.proofs.{Lines.past, Lines.at_most_one, Sums.sum_more}
use Rattle.kp_report.proofs.totals.sum_of.Goals as goal

pub loop-decl-preserved : goal.loop-decl-preserved
loop-decl-preserved c =
    let job = c.args.board.now.design.now.job in
    let rows = c.args.board.now.cycles.rows.items in
    let more = sum_more c.args.decls.now c.loop-decl.decl-index c.decl-item.result c.loop-decl-test.true c.decl-item.is c.loop-decl.t (due_behind job rows) c.loop-decl.sum _ c.loop-decl.invariant.summed in
    let counted = past c.args.decls.now c.loop-decl.decl-index c.decl-item.result c.loop-decl-test.true c.decl-item.is c.loop-decl.t c.loop-decl.invariant.counted in
    let one = at_most_one c.decl-item.result in
    rw (c.value_of-sum.ensures, c.targets_in-t.ensures) (record {
      summed = more;
      counted = counted;
      few = omega arith;
    })
