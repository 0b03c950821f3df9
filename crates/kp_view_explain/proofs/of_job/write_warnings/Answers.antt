use Rattle.kp_view_explain.proofs.Printed.{next}
use Rattle.kp_view_explain.proofs.of_job.write_warnings.Goals as goal

pub loop-lint-preserved : goal.loop-lint-preserved
loop-lint-preserved c =
    next c.args.file.now c.args.text.now c.args.job.now c.args.found.now c.loop-lint.lint-index _ c.warning_of.result c.args.out.now.items c.loop-lint.out.items
    c.write_warning.new.out.items c.loop-lint-test.true c.loop-lint.invariant c.warning_of.ensures c.in_ok-write_warning.ensures
