use Rattle.kp_machine.specs.Machine.{inputs_from, pipe_of}
use Rattle.kp_run.proofs.Legal.{rows_of_pipe, values_of_pipe, alike_itself}
use Rattle.kp_run.proofs.laws.a_run_shows_the_pipeline.Goals as goal

pub returns-clause-rows : goal.returns-clause-rows
returns-clause-rows c net n rows monitor shows has =
    rows_of_pipe c.args.job.now.design.job c.job-kept.ensures.sound.names c.args.job.now.unbroken net n rows monitor shows has

pub returns-clause-values : goal.returns-clause-values
returns-clause-values c net n rows monitor t a shows has word =
    let job = c.args.job.now.design.job in
    let ins = inputs_from job 0 n in
    values_of_pipe job c.job-kept.ensures.sound.names c.args.job.now.unbroken net n rows monitor shows has t a
    (c.what_shows_alike_is_legal_and_moves.ensures.legal ins (pipe_of job ins) (alike_itself job (pipe_of job ins))) word
