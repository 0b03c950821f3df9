use Rattle.kp_base.proofs.Writing.{◌▷◌}
use Rattle.kp_vwrite.proofs.{Safe.net_files_safe, Safe.nodes_safe, Whole.canon_is}
use Rattle.kp_vwrite.proofs.writer.write_whole.Goals as goal

pub write_files-requires : goal.write_files-requires
write_files-requires g c = rw (c.as_slice-files.ensures, c.parts-parts.ensures.parts) (net_files_safe c.args.net.now c.parts-parts.ensures.right)

pub write_nodes-requires : goal.write_nodes-requires
write_nodes-requires g c = rw (c.parts-parts.ensures.parts, c.nodes.ensures.nodes) (nodes_safe c.args.net.now c.nodes.ensures.right)

pub write_fills-requires : goal.write_fills-requires
write_fills-requires g c = rw (c.as_slice-files.ensures, c.parts-parts.ensures.parts) (net_files_safe c.args.net.now c.parts-parts.ensures.right)

pub returns : goal.returns
returns g c =
    rw (canon_is c.args.net.now)
    (c.write_header.ensures
    ▷ (rw c.parts-parts.ensures.parts at
    ((rw (c.as_slice-regs.ensures, c.as_slice-files.ensures) at (c.write_regs.ensures ▷ (c.write_files.ensures ▷ c.write_integer.ensures)))
    ▷ ((rw c.nodes.ensures.nodes at c.write_nodes.ensures) ▷ (c.write_outs.ensures
    ▷ ((rw (c.as_slice-regs.ensures, c.as_slice-files.ensures) at (c.write_values.ensures ▷ c.write_fills.ensures)) ▷ (c.put.ensures ▷ (c.write_body.ensures ▷ c.put-2.ensures))))))))
