use Rattle.std.specs.Prelude.{drop}
use Rattle.kp_machine.specs.Machine.{start_hints}
use Rattle.kp_sched.proofs.Runs.{alike_moves}
use Rattle.kp_implements.proofs.{Legal.alike_is_legal_from, Anew.shown_anew}
use Rattle.kp_implements.specs.{Traces.trace_of, Traces.inputs_seen, Cuts.to_reset, Cuts.begins_with}
use Rattle.kp_implements.proofs.resets.every_run_is_legal_and_moves_from_its_last_reset_on.Goals as goal

pub returns-clause-legal : goal.returns-clause-legal
returns-clause-legal c net ins h b =
    let job = c.args.design.now.job in
    alike_is_legal_from job (begins_with job (trace_of job net ins) (to_reset ins)) (inputs_seen job (drop (to_reset ins) ins)) _ _ (shown_anew net job h b ins)
    (c.a_design_is_legal.ensures.legal _ (start_hints job) _)

pub returns-clause-moves : goal.returns-clause-moves
returns-clause-moves c net ins h b =
    let job = c.args.design.now.job in
    alike_moves job (inputs_seen job (drop (to_reset ins) ins)) _ _ (shown_anew net job h b ins)
    (c.a_design_moves.ensures (begins_with job (trace_of job net ins) (to_reset ins)) (start_hints job) (inputs_seen job (drop (to_reset ins) ins)))
