-- A VERILOG TEXT OF A JOB.
use Rattle.std.specs.Prelude.{◌≡◌, ℕ, ◌+◌, ◌*◌, ◌≤◌, List, length}
use Rattle.kp_ast.specs.declared.tree.Job.{Job}
use Rattle.kp_stage.specs.{declared.counts.Summary.Summary, Counts.summary_of}
use Rattle.kp_synth_registers.specs.Keys.{keys_of}
use Rattle.kp_net.specs.{Netlist.Net, Widths.Distinct}
use Rattle.kp_vlog.specs.{Canon.canon, Denote.Denotes}
use Rattle.kp_implements.specs.{Shows.Shows, Shows.IsInOrder, Anew.BeginsAnew}

-- The most nodes that the netlist of a job has, by the numbers of its machine: those of its expressions, and a few for each stage and entry of
-- its tables.
abbrev pub node_bound : Summary → ℕ
node_bound s =
    8 * s.size + 64 * (s.stages * (s.reads + s.results + s.pipes + s.hints + s.files + s.regs + 1)) + 64 * (s.stages * (s.stages * s.guesses)) + 4096

-- It is the canonical text of a netlist that it denotes. This netlist shows the pipelined machine of the job, and begins anew after each reset.
-- No two of its nodes are equal, and there are at most `node_bound` of them. It has a register for each key of the job's tables, and no other.
pub record IsVerilogOf (job : Job) (text : List ℕ) : Type 0 where
  pub net : Net
  pub canonical : text ≡ canon net
  pub denotes : Denotes 0 text net
  pub shows : Shows net job
  pub anew : BeginsAnew net job
  pub order : IsInOrder net job
  pub distinct : Distinct net.nodes
  pub few : length net.nodes ≤ node_bound (summary_of job)
  pub regs : length net.parts.regs ≡ length (keys_of job)
