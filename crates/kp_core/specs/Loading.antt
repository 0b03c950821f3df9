-- FILES THAT ARE LOADED: what the lines `load F` of a module add to its cycles.
--
-- In a cycle that raises the reset, and in which the enable `le_F` is 1, the word of F at the address `la_F` becomes `l_F` at the edge. So in such a cycle
-- a word is put into each file whose enable is 1.
use Rattle.std.specs.Prelude.{◌≡◌, ℕ, ◌<◌, ◌^◌, true, false, ◌&&◌, ◌==◌, List, [], length, get_or, set, fold, All, if◌then◌else◌}
use Rattle.kp_ast.specs.declared.tree.Job.{Job}
use Rattle.kp_machine.specs.{Slots.targets_of, Slots.is_register, Words.target}
use Rattle.kp_net.specs.Netlist.{Net, Input, State, state_after}
use Rattle.kp_implements.specs.Naming.{file_of}
use Rattle.kp_pipeline.specs.Machine.{State as MachineState}

-- a word that is put into a file, which is the target of this number
pub record Load : Type 0 where
  pub target : ℕ
  pub address : ℕ
  pub value : ℕ

-- the file exists, and has the address and words of this width
pub record IsLoad (job : Job) (l : Load) : Type 0 where
  pub there : l.target < length (targets_of job.decls)
  pub file : is_register (target job l.target) ≡ false
  pub address : l.address < 2 ^ (target job l.target).address
  pub value : l.value < 2 ^ (target job l.target).width

-- the inputs of a cycle, and the words that are put into files if it raises the reset
pub record Cycle : Type 0 where
  pub input : Input
  pub loads : List Load

-- a cycle that raises the reset
pub record LoadsIn (job : Job) (c : Cycle) : Type 0 where
  pub raised : c.input.reset ≡ true
  pub loads : All (IsLoad job) c.loads

-- THE STATE OF THE MODULE after a word is put in, after a cycle, and after some cycles
abbrev pub put_in : Net → Job → State → Load → State
put_in net job st l = let f = file_of net (target job l.target) in record {
  regs = st.regs;
  files = set st.files f (set (get_or st.files f []) l.address l.value);
}

abbrev pub after_cycle : Net → Job → State → Cycle → State
after_cycle net job st c = fold (put_in net job) (state_after net c.input st) (if c.input.reset then c.loads else [])

abbrev pub after_cycles : Net → Job → State → List Cycle → State
after_cycles net job st cs = fold (after_cycle net job) st cs

-- THE VALUES OF THE TARGETS after the same: each word is the last one that was put in there
abbrev pub with_load : MachineState → Load → MachineState
with_load v l t a = if l.target == t && l.address == a then l.value else v t a

abbrev pub with_loads : MachineState → List Load → MachineState
with_loads v ls = fold with_load v ls

abbrev pub all_loaded : MachineState → List Cycle → MachineState
all_loaded v cs = fold (λ w c. with_loads w c.loads) v cs
