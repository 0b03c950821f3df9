-- WHAT IS PROMISED of a module, and of a table of its registers or wires: what each run of its netlist does, what its ports show, and what its wires have. A run
-- begins at power-up, or after cycles that raise the reset, in which files may be loaded (`Begins`), and no input of it raises the reset.
use Rattle.std.specs.Prelude.{◌≡◌, ℕ, suc, ◌+◌, ◌-◌, ◌<◌, ◌≤◌, ◌^◌, false, List, [], ◌∷◌, length, get_or, Ok, ⊤}
use Rattle.kp_ast.specs.declared.tree.Job.{Job}
use Rattle.kp_pipeline.specs.{Machine.State as Values, Rows.passed}
use Rattle.kp_net.specs.Netlist.{Net, Input, State, state_after}
use Rattle.kp_implements.specs.{Legal.value_from, Traces.inputs_seen, Traces.AreQuiet, Anew.trace_from}
use Rattle.kp_synth_registers.specs.{Keys.place_of, declared.key.Key.TheVariants.Pipe}
use Rattle.kp_design.specs.Numbers.{target_at}
use Rattle.kp_machine.specs.Machine.{machine_of}
use Rattle.kp_frontend.specs.Judging.{JudgesHead}
use Rattle.kp_tool.specs.{Headline.IsCorrectFrom, Written.IsVerilogOf}
use Rattle.kp_core_ports.specs.{declared.port.Port.Port, Ports.ports_of, Ports.Exists}
use Rattle.kp_core_ports.specs.declared.port.Ask.TheVariants.{Show, Peek, Probe, Next, Commit}
use Rattle.kp_wires.specs.Table.{wires_of}
use Rattle.kp_core.specs.{Bare.without_comments, Beginning.Begins, Due.IsCoreOf, Waves.AllHave, Waves.IsPipeWithComments, Waves.IsPipeWithLines}
use Rattle.kp_core.specs.declared.request.Form.{Form, TheVariants.Module, TheVariants.Named, TheVariants.Comments}
use Rattle.kp_core.specs.Values.{port_value, state_in, moment_in, IsFull, NoneWrong, pipe_of, pipe_of_instruction}

-- THE TEXT is one that `pipe` may write for the job, with what was asked for added to it: ports with their lines, names, or comments.
abbrev pub IsOfPipe : Form → Job → List Port → List ℕ → Type 0
IsOfPipe Module job [] text = IsVerilogOf job text
IsOfPipe Module job (p ∷ ps) text = IsPipeWithLines job text
IsOfPipe Named job ports text = IsPipeWithLines job text
IsOfPipe Comments job [] text = IsVerilogOf job (without_comments text)
IsOfPipe Comments job (p ∷ ps) text = IsPipeWithComments job text
IsOfPipe form job ports text = ⊤

-- THE PORTS, in the cycle after T others, in which the inputs are i and the address at the port of a file is a. `s` is the state in which the run begins, and v
-- are the values of registers and files then.
--   show, peek   the value of the sequential machine that begins with v, after as many instructions as have passed the write stage
--   probe        the pipe, as stage k of the pipelined machine holds it
--   right        the pipe of the instruction of the sequential machine that is in stage k, if the stage is full, and no guess that is pending in it or in a
--                later one is wrong
--   late         so from the last write stage of a guessed register on, where no guess is pending
--   stores       and in the cycles in which stage k updates it shows that pipe of instructions 0, 1, 2 and so on: what a memory outside takes in these cycles, from
--                pipes for its enable, address and data, are the stores of the sequential machine, each once and in order
--   next         what the register of the pipe has in the next cycle, if the reset isn't raised
--   commit       1 where an instruction leaves the last stage
pub record PortsShow (job : Job) (net : Net) (s : State) (v : Values) (ins : List Input) : Type 0 where
  pub show : (i : Input) (T t a : ℕ) → T ≤ length ins → Exists job (Show t)
      → port_value job net i (state_in net s ins T) a (Show t) ≡ value_from job v (inputs_seen job ins) (trace_from job net s ins).rows T t 0
  pub peek : (i : Input) (T t a : ℕ) → T ≤ length ins → Exists job (Peek t) → a < 2 ^ (target_at job t).address
      → port_value job net i (state_in net s ins T) a (Peek t) ≡ value_from job v (inputs_seen job ins) (trace_from job net s ins).rows T t a
  pub probe : (i : Input) (T x k a : ℕ) → T ≤ length ins → Exists job (Probe x k)
      → port_value job net i (state_in net s ins T) a (Probe x k) ≡ ((moment_in job v (inputs_seen job ins) T).state.stage k).instruction.pipes x
  pub right : (i : Input) (T x k a : ℕ) → T ≤ length ins → Exists job (Probe x k) → IsFull job v (inputs_seen job ins) T k → NoneWrong job net s v ins T k
      → port_value job net i (state_in net s ins T) a (Probe x k) ≡ pipe_of_instruction job net s v ins T x k
  pub late : (i : Input) (T x k a : ℕ) → T ≤ length ins → Exists job (Probe x k) → IsFull job v (inputs_seen job ins) T k → (machine_of job).last_guessed ≤ k
      → port_value job net i (state_in net s ins T) a (Probe x k) ≡ pipe_of_instruction job net s v ins T x k
  pub stores : (i : Input) (T x k a : ℕ) → T < length ins → Exists job (Probe x k) → (machine_of job).last_guessed ≤ k
      → passed (trace_from job net s ins).rows k (suc T) ≡ suc (passed (trace_from job net s ins).rows k T)
      → port_value job net i (state_in net s ins T) a (Probe x k) ≡ pipe_of job net s v ins (passed (trace_from job net s ins).rows k T) x k
  pub next : (i : Input) (T x k a : ℕ) → i.reset ≡ false → Exists job (Next x k)
      → port_value job net i (state_in net s ins T) a (Next x k) ≡ get_or (state_after net i (state_in net s ins T)).regs (place_of job (Pipe x k)) 0
  pub commit : (i : Input) (T a : ℕ) → T < length ins
      → passed (trace_from job net s ins).rows (job.stages.value - 1) (suc T)
      ≡ passed (trace_from job net s ins).rows (job.stages.value - 1) T + port_value job net (get_or ins T i) (state_in net s ins T) a Commit

-- The text is the module of the input's job, or a table of it, with the ports that the lines after the job ask for. Each run of its netlist is correct: legal for
-- the sequential machine that begins with the same values, live, and without a needless stall. The ports show what they are for, and in each cycle each wire of
-- the table has the value of its signal in its stage of the pipelined machine.
pub record IsPromised (form : Form) (input text : List ℕ) : Type 0 where
  pub job : Job
  pub rest : ℕ
  pub judged : JudgesHead input (Ok (job, rest))
  pub ports : List Port
  pub lines : ports_of job input rest ≡ Ok ports
  pub core : IsCoreOf form job ports text
  pub of_pipe : IsOfPipe form job ports text
  pub correct : (s : State) (v : Values) (ins : List Input) → Begins core.net job s v → AreQuiet ins
      → IsCorrectFrom job v (inputs_seen job ins) (trace_from job core.net s ins)
  pub shown : (s : State) (v : Values) (ins : List Input) → Begins core.net job s v → AreQuiet ins → PortsShow job core.net s v ins
  pub wires : (s : State) (v : Values) (ins : List Input) (i : Input) (T : ℕ) → Begins core.net job s v → AreQuiet ins → T ≤ length ins
      → AllHave job core.net s v ins i T (wires_of core.net job core.outcomes core.names)
