-- The cells of the next cycle.
use Rattle.std.specs.Prelude.{◌≡◌, ℕ, ◌<◌, ◌^◌, length, Option, false}
use Rattle.kp_ast.specs.declared.tree.Job.{Job}
use Rattle.kp_machine.specs.{Slots.targets_of, Slots.is_register, Machine.files_before}
use Rattle.kp_net.specs.{declared.node.NodeId.NodeId, declared.netlist.WritePort.WritePort, Nodes.Cells, Nodes.at, Growth.Held}
use Rattle.kp_design.specs.Numbers.{target_at}
use Rattle.kp_synth_registers.specs.Keys.{keys_of}
use Rattle.kp_synth_next.specs.Nexts.{port_word}

-- The cells after a cycle have the values of the next nodes and the write ports.
pub record CellsAfter (job : Job) (p : Held) (nexts : ℕ → NodeId) (ports : ℕ → Option WritePort) (c c' : Cells) : Type 0 where
  pub regs : (r : ℕ) → r < length (keys_of job) → c'.reg r ≡ at c p.nodes (nexts r).0
  pub words : (t a : ℕ) → t < length (targets_of job.decls) → is_register (target_at job t) ≡ false → a < 2 ^ (target_at job t).address
      → c'.word (files_before (targets_of job.decls) t) a ≡ port_word c p (ports t) a (c.word (files_before (targets_of job.decls) t) a)
