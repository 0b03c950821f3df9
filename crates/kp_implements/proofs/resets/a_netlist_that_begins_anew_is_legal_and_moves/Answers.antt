use Rattle.kp_machine.specs.Machine.{start_hints}
use Rattle.kp_sched.proofs.Runs.{alike_moves, alike_stays}
use Rattle.kp_implements.proofs.Legal.{alike_is_legal_from}
use Rattle.kp_implements.specs.{Naming.value_shown, Traces.inputs_seen, Anew.left_by_reset}
use Rattle.kp_implements.proofs.resets.a_netlist_that_begins_anew_is_legal_and_moves.Goals as goal

pub returns-clause-legal : goal.returns-clause-legal
returns-clause-legal c net st i ins h m r q =
    let job = c.args.design.now.job in
    alike_is_legal_from job (left_by_reset job (value_shown job net st)) (inputs_seen job ins) _ _ (h.runs st i ins m r q) (c.a_design_is_legal.ensures.legal _ (start_hints job) _)

pub returns-clause-moves : goal.returns-clause-moves
returns-clause-moves c net st i ins h m r q =
    let job = c.args.design.now.job in
    alike_moves job (inputs_seen job ins) _ _ (h.runs st i ins m r q) (c.a_design_moves.ensures (left_by_reset job (value_shown job net st)) (start_hints job) (inputs_seen job ins))

pub returns-clause-stays : goal.returns-clause-stays
returns-clause-stays c net st i ins h m r q =
    let job = c.args.design.now.job in
    alike_stays job _ _ (h.runs st i ins m r q) (c.the_highest_full_stage_of_a_design_stays.ensures (left_by_reset job (value_shown job net st)) (start_hints job) (inputs_seen job ins))
