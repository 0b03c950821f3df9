use Rattle.kp_stage.specs.Start.{start_of}
use Rattle.kp_machine.specs.Machine.{pipe_of, state_of, start_hints}
use Rattle.kp_sched.proofs.Runs.{alike_is_legal, alike_moves, alike_stays}
use Rattle.kp_sched.proofs.laws.what_shows_alike_is_legal_and_moves.Goals as goal

pub returns-clause-legal : goal.returns-clause-legal
returns-clause-legal c ins trace alike =
    let job = c.args.design.now.job in
    alike_is_legal job ins trace (pipe_of job ins) alike (c.a_design_is_legal.ensures.legal (state_of job (start_of job)) (start_hints job) ins)

pub returns-clause-moves : goal.returns-clause-moves
returns-clause-moves c ins trace alike =
    let job = c.args.design.now.job in
    alike_moves job ins trace (pipe_of job ins) alike (c.a_design_moves.ensures (state_of job (start_of job)) (start_hints job) ins)

pub returns-clause-stays : goal.returns-clause-stays
returns-clause-stays c ins trace alike =
    let job = c.args.design.now.job in
    alike_stays job trace (pipe_of job ins) alike
    (c.the_highest_full_stage_of_a_design_stays.ensures (state_of job (start_of job)) (start_hints job) ins)
