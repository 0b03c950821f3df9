use Rattle.std.proofs.Common.{◌∙◌, ◌≤◌, length, drop, sym, arith}
use Rattle.kp_implements.specs.{Traces.trace_of, Cuts.to_reset, Cuts.since}
use Rattle.kp_implements.proofs.Anew.{last_shown, rows_many}
use Rattle.kp_implements.proofs.resets.memory_is_what_instructions_left.Goals as goal

pub returns : goal.returns
returns c net ins t a h b word =
    let job = c.args.design.now.job in
    let few : length (drop (to_reset ins) ins) ≤ length (since (to_reset ins) (trace_of job net ins)).rows = omega (arith, rows_many net job h b ins) in
    sym (last_shown net job ins t a)
    ∙ c.every_run_is_legal_and_moves_from_its_last_reset_on.ensures.legal net ins h b (length (drop (to_reset ins) ins)) t a few word
