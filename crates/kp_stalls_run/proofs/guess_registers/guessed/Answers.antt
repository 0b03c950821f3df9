use Rattle.std.proofs.Common.{◌∙◌, sym}
use Rattle.kp_net.specs.Netlist.{cells_of, stalled}
use Rattle.kp_stalls_run.proofs.GuessSteps.{disputed, undisputed}
use Rattle.kp_stalls_run.proofs.guess_registers.guessed.Goals as goal

pub returns-then-is_disputed : goal.returns-then-is_disputed
returns-then-is_disputed c = λ st i h.
    disputed c.args.layout.now (cells_of (stalled 0) c.args.sim.now.state) c.args.stage c.args.register st i c.requires.stage h c.first-found.result c.first-found.ensures
    (sym c.is_disputed.ensures ∙ c.if-is_disputed.true)

pub returns-else-is_disputed : goal.returns-else-is_disputed
returns-else-is_disputed c = λ st i h.
    undisputed c.args.layout.now (cells_of (stalled 0) c.args.sim.now.state) c.args.stage c.args.register st i c.requires.stage h c.first-found.result c.first-found.ensures
    (sym c.is_disputed.ensures ∙ c.if-is_disputed.false)
