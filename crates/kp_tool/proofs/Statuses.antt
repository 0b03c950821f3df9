-- The statuses of the specified outcomes: 1 if the arguments aren't accepted, and 0, 2, 6 or 7 for a command.
use Rattle.std.proofs.Common.{◌≡◌, ◌⊎◌, ℕ, List, Ok, Err, Some, None, inl, inr, refl, arith}
use Rattle.std.specs.declared.{option.Option.Option, result.Result.Result}
use Rattle.kp_base.specs.declared.refusal.Refusal.{Refusal}
use Rattle.kp_ast.specs.declared.tree.Job.{Job}
use Rattle.kp_words.specs.declared.commands.Command.{Command}
use Rattle.kp_words.specs.declared.commands.Command.TheVariants.{OnJob, Assemble, Read, Watch, Compare, Debug, Generate}
use Rattle.kp_words.specs.declared.commands.JobCommand.{JobCommand}
use Rattle.kp_words.specs.declared.commands.JobCommand.TheVariants.{Timing}
use Rattle.kp_net.specs.Netlist.{Net}
use Rattle.kp_timing.specs.Unfit.{untimed}
use Rattle.kp_equiv.specs.declared.verdict.Verdict.TheVariants.{Same, Differs}
use Rattle.kp_debug_script.specs.{declared.command.Command.Command as Step, Scripts.script_of}
use Rattle.kp_tool.specs.Due.{DueFor, DueOfJob, DueOfTiming, DueOfProgram, program_of, IsFinal}
use Rattle.kp_tool.specs.Read.{DueOfVerilog, read_over, read_within}
use Rattle.kp_tool.specs.Watched.{DueOfText, DueOfNetlist, of_other, of_job, agrees, differs}
use Rattle.kp_tool.specs.{Compared.DueOfSecond, Compared.DueOfFirst, Scripted.DueOfScript}

abbrev pub IsOfCommand : ℕ → Type 0
IsOfCommand s = (s ≡ 0) ⊎ ((s ≡ 2) ⊎ ((s ≡ 6) ⊎ (s ≡ 7)))

module _ (s : ℕ) (t : List ℕ) where
  timing : (n : ℕ) (job : Job) (found : Option Refusal) → DueOfTiming n job found s t → IsOfCommand s
  timing n job (Some refusal) said = inr (inl said.0)
  timing n job None said = inl said.0

  on_job : (command : JobCommand) (job : Job) → DueOfJob command job s t → IsOfCommand s
  on_job (Timing n) job said = timing n job (untimed job) said
  on_job _ job said = inl said.0

  program : (found : Result (List ℕ) Refusal) → DueOfProgram found s t → IsOfCommand s
  program (Ok words) said = inl said.0
  program (Err refusal) said = inr (inl said.0)

  verilog : (verdict : Result Net Refusal) → DueOfVerilog verdict s t → IsOfCommand s
  verilog (Ok net) said = inl said.0
  verilog (Err refusal) said = inr (inr (inl said.0))

  netlist : (n : ℕ) (job : Job) (net : Net) → DueOfNetlist n job net s t → IsOfCommand s
  netlist n job net (of_other other said) = inr (inr (inl said.0))
  netlist n job net (of_job is (agrees all said)) = inl said.0
  netlist n job net (of_job is (differs T r a first said)) = inr (inr (inr said.0))

  watched : (n : ℕ) (job : Job) (verdict : Result Net Refusal) → DueOfText n job verdict s t → IsOfCommand s
  watched n job (Ok net) said = netlist n job net said
  watched n job (Err refusal) said = inr (inr (inl said.0))

  second : (a : Net) (verdict : Result Net Refusal) → DueOfSecond a verdict s t → IsOfCommand s
  second a (Ok b) (Same, is, said) = inl said.0
  second a (Ok b) (Differs root, is, said) = inr (inr (inr said.0))
  second a (Err refusal) said = inr (inr (inl said.0))

  first : (job : Job) (input : List ℕ) (middle : ℕ) (verdict : Result Net Refusal) → DueOfFirst job input middle verdict s t → IsOfCommand s
  first job input middle (Ok a) (verdict, read, said) = second a verdict said
  first job input middle (Err refusal) said = inr (inr (inl said.0))

  script : (job : Job) (found : Result (List Step) Refusal) → DueOfScript job found s t → IsOfCommand s
  script job (Ok commands) said = inl said.0
  script job (Err refusal) said = inr (inl said.0)

  pub of_command : (command : Command) (input : List ℕ) → DueFor (Some command) input s t → IsOfCommand s
  of_command (OnJob command) input (Ok job, judged, said) = on_job command job said
  of_command (OnJob command) input (Err refusal, judged, said) = inr (inl said.0)
  of_command Assemble input said = program (program_of input) said
  of_command Read input (read_over long said) = inr (inl said.0)
  of_command Read input (read_within verdict short read said) = verilog verdict said
  of_command (Watch n) input (Ok (job, rest), judged, (verdict, read, said)) = watched n job verdict said
  of_command (Watch n) input (Err refusal, judged, said) = inr (inl said.0)
  of_command Compare input (Ok (job, rest), judged, (middle, ends, (verdict, read, said))) = first job input middle verdict said
  of_command Compare input (Err refusal, judged, said) = inr (inl said.0)
  of_command Debug input (Ok (job, rest), judged, said) = script job (script_of job.decls input rest) said
  of_command Debug input (Err refusal, judged, said) = inr (inl said.0)
  of_command (Generate number count) input said = inl said.0

final_of : (s : ℕ) → IsOfCommand s → IsFinal s
final_of s (inl is) = (λ e. omega arith, λ e. omega arith, λ e. omega arith)
final_of s (inr (inl is)) = (λ e. omega arith, λ e. omega arith, λ e. omega arith)
final_of s (inr (inr (inl is))) = (λ e. omega arith, λ e. omega arith, λ e. omega arith)
final_of s (inr (inr (inr is))) = (λ e. omega arith, λ e. omega arith, λ e. omega arith)

not_one : (s : ℕ) → IsOfCommand s → s ≡ 1 → ⊥
not_one s (inl is) one = omega arith
not_one s (inr (inl is)) one = omega arith
not_one s (inr (inr (inl is))) one = omega arith
not_one s (inr (inr (inr is))) one = omega arith

one_final : (s : ℕ) → s ≡ 1 → IsFinal s
one_final s is = (λ e. omega arith, λ e. omega arith, λ e. omega arith)

-- none of them is that of a failure
pub final : (command : Option Command) (input : List ℕ) (s : ℕ) (t : List ℕ) → DueFor command input s t → IsFinal s
final None input s t said = one_final s said.0
final (Some command) input s t said = final_of s (of_command s t command input said)

-- status 1 only comes if the arguments aren't accepted
pub no_command : (command : Option Command) (input : List ℕ) (s : ℕ) (t : List ℕ) → DueFor command input s t → s ≡ 1 → command ≡ None
no_command None input s t said one = refl
no_command (Some command) input s t said one = absurd (not_one s (of_command s t command input said) one)
