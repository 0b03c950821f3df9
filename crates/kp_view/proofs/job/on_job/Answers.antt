use Rattle.std.{proofs.Common.refl, proofs.lemmas.Result.err_from_is_err_and, specs.Prelude.⊤}
use Rattle.kp_view_words.specs.Asked.{task_seen}
use Rattle.kp_view.proofs.Ends.{refused_job, accepted_job}
use Rattle.kp_view.proofs.job.on_job.Goals as goal

pub returns-in_err-job : goal.returns-in_err-job
returns-in_err-job g c =
    let p = err_from_is_err_and c.from_residual.result c.from_residual.ensures.1 in
    rw p.1 (refused_job g.K.Sink.held g.K.Sink.faults (task_seen c.args.task.now).file (task_seen c.args.task.now) c.args.input.now c.args.out.now c.in_err-job.field-0.0 p.0 ⊤ c.requires p.2 refl c.in_err-job.ensures)

pub returns : goal.returns
returns g c =
    accepted_job g.K.Sink.held g.K.Sink.faults (task_seen c.args.task.now).file (task_seen c.args.task.now) c.args.input.now c.in_ok-job.job.design.job c.requires c.in_ok-job.ensures _ _ _ c.of_job-end.ensures
