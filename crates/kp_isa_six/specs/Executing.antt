-- WHAT A RUN OF THE ACCUMULATOR MACHINE IS, in terms of the instruction set alone.
use Rattle.std.specs.Prelude.{◌≡◌, ℕ, ◌<◌, ◌≤◌, ◌^◌, List, length, ⊤}
use Rattle.kp_ast.specs.declared.tree.Job.{Job}
use Rattle.kp_pipeline.specs.{Pipeline.Inputs, Rows.Trace, Rows.passed}
use Rattle.kp_isa.specs.Runs.{start_state, Retires}
use Rattle.kp_isa_six.specs.Isa.{Cpu, Runs, cpu_of}
use Rattle.kp_pipeline.specs.Machine.{State}

-- where the table applies: everywhere
abbrev pub IsReady : State → Type 0
IsReady s = ⊤

-- At each time of a run that starts with the values s of registers and files, the program counter is that of the table after as many instructions as
-- have left stage 2 by then; the accumulator and each word of the memory are those after as many as have left stage 3; for as long as each
-- instruction is one of the table.
pub record Follows (s : State) (trace : Trace) : Type 0 where
  pub pc : (T : ℕ) (c : Cpu) → T ≤ length trace.rows → Runs (cpu_of s) (passed trace.rows 2 T) c → trace.visible T 0 0 ≡ c.pc
  pub acc : (T : ℕ) (c : Cpu) → T ≤ length trace.rows → Runs (cpu_of s) (passed trace.rows 3 T) c → trace.visible T 1 0 ≡ c.acc
  pub mem : (T a : ℕ) (c : Cpu) → T ≤ length trace.rows → a < 2 ^ 5 → Runs (cpu_of s) (passed trace.rows 3 T) c → trace.visible T 3 a ≡ c.mem a

-- A RUN OF THE TABLE from the values s of registers and files on, and from the start of a job on. Any 4 stall-free cycles retire an instruction.
abbrev pub IsSixFrom : Job → State → List Inputs → Trace → Type 0
IsSixFrom job s ins trace = (IsReady s → Follows s trace) × Retires 4 ins trace

abbrev pub IsSix : Job → List Inputs → Trace → Type 0
IsSix job ins trace = IsSixFrom job (start_state job) ins trace

-- the same from the start on, without the claim that instructions retire
abbrev pub ShowsSix : Job → List Inputs → Trace → Type 0
ShowsSix job ins trace = IsReady (start_state job) → Follows (start_state job) trace
