use Rattle.std.proofs.Common.{◌≤◌, ℕ, length, arith, subst, sym}
use Rattle.kp_sched.specs.Rows.{rows_seen}
use Rattle.kp_pipeline.proofs.Counts.{passed-bound}
use Rattle.kp_run.proofs.Machines.{stages_fit}
use Rattle.kp_report.proofs.totals.totals_of.Goals as goal

pub overflow_sub-stages : goal.overflow_sub-stages
overflow_sub-stages c =
    let board = c.args.board.now in
    let some : 2 ≤ board.cycles.monitor.stages = subst (λ (n : ℕ). 2 ≤ n) (sym board.stages) (stages_fit board.design.now.job c.job-job.ensures.sound.stages).0 in
    let is = c.stages.ensures.stages in
    omega (arith, some, is)

pub count-requires : goal.count-requires
count-requires c =
    let board = c.args.board.now in
    let some : 2 ≤ board.cycles.monitor.stages = subst (λ (n : ℕ). 2 ≤ n) (sym board.stages) (stages_fit board.design.now.job c.job-job.ensures.sound.stages).0 in
    let is = c.stages.ensures.stages in
    omega (arith, some, is)

pub passed-requires : goal.passed-requires
passed-requires c =
    let board = c.args.board.now in
    let some : 2 ≤ board.cycles.monitor.stages = subst (λ (n : ℕ). 2 ≤ n) (sym board.stages) (stages_fit board.design.now.job c.job-job.ensures.sound.stages).0 in
    omega (arith, some)

pub overflow_sub-result : goal.overflow_sub-result
overflow_sub-result c =
    let board = c.args.board.now in
    let rows = board.cycles.rows.items in
    let bound = passed-bound (rows_seen board.cycles.monitor.stages rows) 0 (length rows) in
    let is = c.passed.ensures.seen rows board.seen in
    let all = c.len-cycles.ensures in
    omega (arith, bound, is, all)
