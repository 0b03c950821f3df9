-- PROPERTIES OF THE FINISHED NETLIST, which imply that it shows the pipeline.
use Rattle.std.specs.Prelude.{◌≡◌, ℕ, ◌<◌, ◌^◌, List, length, get_or, Option, true, false}
use Rattle.kp_ast.specs.declared.tree.Job.{Job}
use Rattle.kp_stage.specs.declared.start.Start.{Start}
use Rattle.kp_pipeline.specs.Pipeline.{PipelineState, Inputs, ue, back}
use Rattle.kp_machine.specs.{Slots.targets_of, Slots.is_register, Machine.machine_of, Machine.state_of, Machine.registers_before, Machine.files_before}
use Rattle.kp_net.specs.{declared.node.NodeId.NodeId, declared.netlist.WritePort.WritePort, Nodes.Cells, Nodes.at, Growth.Held, Parts.no_reg, Parts.no_file}
use Rattle.kp_net.specs.Netlist.{Net}
use Rattle.kp_synth_registers.specs.declared.key.Key.TheVariants.{Visible}
use Rattle.kp_design.specs.{Numbers.target_at, Fits.Fits}
use Rattle.kp_synth_registers.specs.Keys.{keys_of, key_at, key_width, key_start, place_of}
use Rattle.kp_synth_registers.specs.{declared.outcome.Outcome.Outcome, Holding.Holds, Holding.word_bit}
use Rattle.kp_synth_next.specs.Nexts.{Closes, GuessesFit}

abbrev pub next_in : Net → ℕ → NodeId
next_in net r = (get_or net.parts.regs r no_reg).next

abbrev pub port_in : Job → Net → ℕ → Option WritePort
port_in job net t = (get_or net.parts.files (files_before (targets_of job.decls) t) no_file).port

-- The outputs mean the row of a cycle.
pub record Outputs (job : Job) (net : Net) : Type 0 where
  pub full : (c : Cells) (st : PipelineState) (i : Inputs) → Holds job c st i → (k : ℕ) → k < job.stages.value
      → word_bit (at c net.nodes net.parts.full.0) k ≡ (st.stage k).full
  pub ue : (c : Cells) (st : PipelineState) (i : Inputs) → Holds job c st i → (k : ℕ) → k < job.stages.value
      → word_bit (at c net.nodes net.parts.ue.0) k ≡ ue (machine_of job) st i k
  pub back : (c : Cells) (st : PipelineState) (i : Inputs) → Holds job c st i
      → at c net.nodes net.parts.back.0 ≡ back (machine_of job) st i

-- The registers and files start with the start state. The number of a register is that of its key, and the number of a file that among the files.
pub record Starts (job : Job) (net : Net) (start : Start) : Type 0 where
  pub regs : length net.parts.regs ≡ length (keys_of job)
  pub values : (r : ℕ) → r < length (keys_of job) → (get_or net.parts.regs r no_reg).start.value ≡ key_start job start (key_at job r)
  pub fits : (r : ℕ) → r < length (keys_of job) → (get_or net.parts.regs r no_reg).start.value < 2 ^ key_width job (key_at job r)
  pub places : (t : ℕ) → t < length (targets_of job.decls) → is_register (target_at job t) ≡ true
      → place_of job (Visible t) ≡ registers_before (targets_of job.decls) t
  pub files : (t : ℕ) → t < length (targets_of job.decls) → is_register (target_at job t) ≡ false
      → files_before (targets_of job.decls) t < length net.parts.files
  pub sizes : (t : ℕ) → t < length (targets_of job.decls) → is_register (target_at job t) ≡ false
      → length (get_or net.parts.files (files_before (targets_of job.decls) t) no_file).words ≡ 2 ^ (target_at job t).address
  pub words : (t a : ℕ) → t < length (targets_of job.decls) → is_register (target_at job t) ≡ false → a < 2 ^ (target_at job t).address
      → get_or (get_or net.parts.files (files_before (targets_of job.decls) t) no_file).words a 0 ≡ state_of job start t a
  pub word_fits : (t a : ℕ) → t < length (targets_of job.decls) → is_register (target_at job t) ≡ false → a < 2 ^ (target_at job t).address
      → state_of job start t a < 2 ^ (target_at job t).width

-- The pool, the outcomes of the stages, and the netlist that was built from them.
pub record Closed (job : Job) (net : Net) (start : Start) (outs : List Outcome) (p : Held) : Type 0 where
  pub nodes : net.nodes ≡ p.nodes
  pub reset : net.parts.reset ≡ true
  pub some : 0 < job.stages.value
  pub fits : Fits job
  pub guesses : GuessesFit job
  pub closes : Closes job p outs (next_in net) (port_in job net)
  pub outputs : Outputs job net
  pub starts : Starts job net start
