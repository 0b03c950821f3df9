use Rattle.kp_synth_registers.proofs.Growth.{ready_kept}
use Rattle.kp_synth.proofs.{Naming.has_stages, Room.no_cells}
use Rattle.kp_synth.proofs.flow.fill.Goals as goal

pub close-requires-clause-cells : goal.close-requires-clause-cells
close-requires-clause-cells c = c.in_ok-staged.ensures.added.fits (c.in_ok-reads.ensures.added.fits (no_cells _ _ c.requires.empty))

pub close-requires-clause-ready : goal.close-requires-clause-ready
close-requires-clause-ready c = ready_kept _ _ _ _ _ c.in_ok-staged.ensures.added.kept c.in_ok-reads.ensures.ready

pub returns-clause-stages : goal.returns-clause-stages
returns-clause-stages c =
    has_stages c.args.layout.now _ _ _ _ _ c.in_ok-net.ensures.contains c.in_ok-staged.ensures.says c.in_ok-staged.ensures.name_count c.in_ok-staged.ensures.names
