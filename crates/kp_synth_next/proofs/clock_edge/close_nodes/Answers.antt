use Rattle.kp_net.proofs.Growing.{kept_then}
use Rattle.kp_synth_next.proofs.Squashes.{all_say_kept}
use Rattle.kp_synth_next.proofs.Transport.{updating_kept, controls_kept, nexts_kept, ports_kept, closes}
use Rattle.kp_synth_registers.proofs.Growth.{ready_kept}
use Rattle.kp_synth_next.proofs.clock_edge.close_nodes.Goals as goal

pub next_nodes-requires-clause-ready : goal.next_nodes-requires-clause-ready
next_nodes-requires-clause-ready c = ready_kept _ _ _ _ _ c.steer-control.ensures.grown.kept c.requires.ready

pub write_ports-requires-clause-ready : goal.write_ports-requires-clause-ready
write_ports-requires-clause-ready c = ready_kept _ _ _ _ _ (kept_then _ _ _ _ _ c.steer-control.ensures.grown.kept c.next_nodes.ensures.grown.kept) c.requires.ready

pub row_nodes-row-requires-clause-ready : goal.row_nodes-row-requires-clause-ready
row_nodes-row-requires-clause-ready c = ready_kept _ _ _ _ _ (kept_then _ _ _ _ _ (kept_then _ _ _ _ _ c.steer-control.ensures.grown.kept c.next_nodes.ensures.grown.kept) c.write_ports.ensures.grown.kept) c.requires.ready

pub next_nodes-requires-clause-says : goal.next_nodes-requires-clause-says
next_nodes-requires-clause-says c = all_say_kept _ _ _ _ _ c.steer-control.ensures.grown.kept c.requires.says

pub write_ports-requires-clause-says : goal.write_ports-requires-clause-says
write_ports-requires-clause-says c =
    all_say_kept _ _ _ _ _ (kept_then _ _ _ _ _ c.steer-control.ensures.grown.kept c.next_nodes.ensures.grown.kept) c.requires.says

pub write_ports-requires-clause-updates : goal.write_ports-requires-clause-updates
write_ports-requires-clause-updates c = updating_kept _ _ _ _ _ c.next_nodes.ensures.grown.kept c.steer-control.ensures.controls.updating

pub row_nodes-row-requires-clause-controls : goal.row_nodes-row-requires-clause-controls
row_nodes-row-requires-clause-controls c =
    controls_kept _ _ _ _ _ (kept_then _ _ _ _ _ c.next_nodes.ensures.grown.kept c.write_ports.ensures.grown.kept) c.steer-control.ensures.controls

pub returns-clause-closes : goal.returns-clause-closes
returns-clause-closes c =
    let a = c.steer-control.ensures.grown.kept in
    let b = c.next_nodes.ensures.grown.kept in
    let d = c.write_ports.ensures.grown.kept in
    let e = c.row_nodes-row.ensures.grown.kept in
    let s = all_say_kept _ _ _ _ _ (kept_then _ _ _ _ _ a b) c.requires.says in
    let f = kept_then _ _ _ _ _ d e in
    let n = nexts_kept _ _ _ _ _ _ f s c.in_ok-nexts.ensures.nexts in
    let p = ports_kept _ _ _ _ _ e c.in_ok-ports.ensures.ports in
    closes _ _ _ c.in_ok-nexts.nexts.items c.in_ok-ports.ports.items (all_say_kept _ _ _ _ _ f s) n p c.in_ok-nexts.ensures.all c.in_ok-ports.ensures.all
