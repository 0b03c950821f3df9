use Rattle.std.proofs.{Common.Some, lemmas.Result.err_from_is_err_and}
use Rattle.kp_words.specs.declared.commands.Command.TheVariants.{OnJob}
use Rattle.kp_tool.{specs.Due.DueFor, proofs.Dues.refused_is_due, proofs.Ends.refused_job, proofs.Ends.accepted_job}
use Rattle.kp_tool.proofs.commands.on_job.Goals as goal

pub returns-in_err-job : goal.returns-in_err-job
returns-in_err-job g c =
    let p = err_from_is_err_and c.from_residual.result c.from_residual.ensures.1 in
    rw p.1 (refused_job g.K.Sink.held g.K.Sink.faults (DueFor (Some (OnJob c.args.command)) c.args.input.now) c.args.input.now
    (λ r judged. refused_is_due c.args.command c.args.input.now r c.requires judged) c.args.sink.now c.in_err-job.field-0.0 p.0 p.2 c.in_err-job.ensures)

pub returns : goal.returns
returns g c =
    accepted_job g.K.Sink.held g.K.Sink.faults c.args.command c.args.input.now c.in_ok-job.job.design.job c.requires c.in_ok-job.ensures _ _ _ c.of_job-end.ensures
