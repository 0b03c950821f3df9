-- What is promised of a module follows from what is specified.
use Rattle.std.proofs.Common.{◌≡◌, ℕ, ◌<◌, List, Option, Result, None, Ok, Err, refl, subst, arith}
use Rattle.kp_ast.specs.declared.tree.Job.{Job}
use Rattle.kp_pipeline.specs.{Accepted.Accepted, Machine.State as Values}
use Rattle.kp_stage.proofs.Unbroken.{first_none}
use Rattle.kp_width.{specs.Widths.widths_of, proofs.Unbroken.Unbroken, proofs.Listed.unbroken_widths}
use Rattle.kp_machine.specs.Machine.{machine_of}
use Rattle.kp_net.specs.Netlist.{Net, Input, State}
use Rattle.kp_implements.specs.{Shows.Shows, Anew.trace_from, Anew.BeginsAnew, Traces.inputs_seen, Traces.AreQuiet}
use Rattle.kp_synth.specs.Carrying.{Carries}
use Rattle.kp_frontend.specs.Judging.{JudgesHead, broken_in}
use Rattle.kp_tool.{specs.Due.Between, specs.Headline.IsCorrectFrom, proofs.Headline.accepted_machine, proofs.Headline.head_unbroken, proofs.Headline.correct_alike}
use Rattle.kp_core_ports.specs.{declared.port.Port.Port, declared.port.PortRefusal.PortRefusal, Ports.ports_of}
use Rattle.kp_wires.{specs.Table.wires_of, proofs.True.all_true}
use Rattle.kp_core.specs.{Beginning.Begins, Due.DueFor, Due.DueOfLines, Due.IsCoreOf, Due.IsDue, Due.Prints, Messages.file_name, Promises.IsPromised, Promises.PortsShow, Values.state_in}
use Rattle.kp_core.specs.{Words.Asked, Words.write, declared.request.Form.Form}
use Rattle.kp_core.proofs.{Beginning.shown_along, Plain.of_pipe, Showing.shown, Showing.peeked, Showing.probed, Showing.probed_right, Showing.probed_late, Showing.probed_stores, Showing.taken_next, Showing.committed, Showing.wires_shown}

pub names_kept : (job : Job) → broken_in job ≡ None → Unbroken (widths_of job)
unfolding broken_in
names_kept job none = unbroken_widths job (first_none _ _ none).0

-- ---- one run

module _ (job : Job) (none : broken_in job ≡ None) (net : Net) (shows : Shows net job) (anew : BeginsAnew net job) (s : State) (v : Values) (ins : List Input)
    (begins : Begins net job s v) (quiet : AreQuiet ins) where
  pub correct : IsCorrectFrom job v (inputs_seen job ins) (trace_from job net s ins)
  correct = correct_alike job v (inputs_seen job ins) (trace_from job net s ins) (accepted_machine job none)
      (shown_along net job shows (names_kept job none) anew s v ins begins quiet)

  some : Accepted (machine_of job) → 0 < job.stages.value
  unfolding machine_of
  some accepted = let h = accepted.some_stages in omega (arith, h)

  ports_show : Carries net job → PortsShow job net s v ins
  ports_show carries = record {
    show = shown job net s v ins correct.legal;
    peek = peeked job net s v ins correct.legal;
    probe = probed net job shows (names_kept job none) carries s v ins begins quiet;
    right = probed_right net job shows (names_kept job none) carries s v ins begins quiet anew (accepted_machine job none);
    late = probed_late net job shows (names_kept job none) carries s v ins begins quiet anew (accepted_machine job none);
    stores = probed_stores net job shows (names_kept job none) carries s v ins begins quiet anew (accepted_machine job none);
    next = λ i T x k a off has. taken_next job net i (state_in net s ins T) x k a carries off has;
    commit = λ i T a l. committed job net s ins T a i (some (accepted_machine job none)) l;
  }

-- ---- all runs

module _ (form : Form) (input text : List ℕ) where
  module _ (job : Job) (rest : ℕ) (judged : JudgesHead input (Ok (job, rest))) where
    none : broken_in job ≡ None
    none = head_unbroken input job rest judged

    by_core : (ports : List Port) → ports_of job input rest ≡ Ok ports → IsCoreOf form job ports text → IsPromised form input text
    by_core ports lines core =
        let names = names_kept job none in
        let all = all_true core.net job core.outcomes core.names core.stages in
        record {
          job = job;
          rest = rest;
          judged = judged;
          ports = ports;
          lines = lines;
          core = core;
          of_pipe = of_pipe form job ports text core;
          correct = λ s v ins b q. correct job none core.net core.shows core.anew s v ins b q;
          shown = λ s v ins b q. ports_show job none core.net core.shows core.anew s v ins b q core.carries;
          wires = λ s v ins i T b q h. wires_shown core.net job core.shows names core.carries s v ins b q i T h (wires_of core.net job core.outcomes core.names) all;
        }

    by_lines : (file : List ℕ) (lines : Result (List Port) PortRefusal) → ports_of job input rest ≡ lines → DueOfLines form file input job lines 0 text
        → IsPromised form input text
    by_lines file (Ok ports) e due = by_core ports e due.1
    by_lines file (Err refusal) e due = absurd (omega (arith, due.0))

  pub promised : (file : Option (List ℕ)) → DueFor (write form file) input 0 text → IsPromised form input text
  promised file (Ok (job, rest), judged, due) = by_lines job rest judged (file_name file) (ports_of job input rest) refl due
  promised file (Err refusal, judged, due) = absurd (omega (arith, due.0))

-- ---- for the bytes that were read, and those that were written

module _ {S T : Type 0} (held : S → Option (List ℕ)) (held_err : T → Option (List ℕ)) (old new : S) (old_err new_err : T) where
  pub between : (form : Form) (file : Option (List ℕ)) (asked : Asked) (left left_after : Option (List ℕ)) (status : ℕ) (text : List ℕ) → asked ≡ write form file → status ≡ 0
      → IsDue asked left left_after status text → Prints held held_err old new old_err new_err status text
      → Between left left_after (held old) (held new) (IsPromised form)
  between form file asked left left_after status text is done due prints =
      let owed : DueFor (write form file) due.taken 0 text =
      subst (λ (x : ℕ). DueFor (write form file) due.taken x text) done (subst (λ (a : Asked). DueFor a due.taken status text) is due.due) in
      let out : Prints held held_err old new old_err new_err 0 text = subst (λ (x : ℕ). Prints held held_err old new old_err new_err x text) done prints in
      (due.taken, text, due.consumed, out.0, promised form due.taken text file owed)
