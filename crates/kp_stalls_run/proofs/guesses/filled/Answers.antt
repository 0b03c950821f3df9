use Rattle.std.proofs.Common.{◌∙◌, length, ap, sym}
use Rattle.kp_cycle.specs.Steps.{Running}
use Rattle.kp_stalls_run.proofs.Values.{has_registers, holds_state, same_line}
use Rattle.kp_stalls_run.proofs.guesses.filled.Goals as goal

pub returns-then-not-names_guess-clause-line : goal.returns-then-not-names_guess-clause-line
returns-then-not-names_guess-clause-line c = same_line c.args.job.now.design.job c.args.line (sym c.names_guess.ensures ∙ c.if-not-names_guess.true)

pub line_with-requires-clause-registers : goal.line_with-requires-clause-registers
line_with-requires-clause-registers c =
    ap (λ (s : Running). length s.net.parts.regs) c.go_to.ensures.at
    ∙ has_registers c.args.job.now.design.job c.args.sim.now.net c.requires.carries c.a_job_gives_its_own_inputs.ensures.quiet

pub line_with-requires-clause-holds : goal.line_with-requires-clause-holds
line_with-requires-clause-holds c =
    holds_state c.args.job.now.design.job c.args.sim.now.net c.requires.carries c.a_job_gives_its_own_inputs.ensures.quiet c.args.line.cycle c.go_to.new.sim.state
    c.a_job_gives_its_own_inputs.ensures.seen (ap (λ (s : Running). s.state) c.go_to.ensures.at)
