-- Runs that show the same values are printed alike.
use Rattle.std.proofs.Common.{◌≡◌, ◌∙◌, ℕ, suc, ◌-◌, ◌<◌, ◌≤◌, List, [], ◌∷◌, ◌++◌, length, Bool, refl, ap, ap₂, sym, subst, arith}
use Rattle.std.{proofs.lemmas.Nat.pow_pos, specs.Prelude.◌==◌, specs.Prelude.slice_get}
use Rattle.kp_bits.specs.Word.{Word}
use Rattle.kp_ast.specs.declared.tree.Job.{Job}
use Rattle.kp_pipeline.specs.{Pipeline.Inputs, Rows.Row, Rows.Trace}
use Rattle.kp_machine.specs.{Machine.pipe_of, Machine.inputs_from, Slots.targets_of, Words.target}
use Rattle.kp_net.specs.Netlist.{Net}
use Rattle.kp_debug_script.specs.declared.command.Command.{Command}
use Rattle.kp_debug.specs.Inspecting.{all_cycles, whole_run, has_value, first_from, ahead, reached, hit_line, at_line, row_or_end, printed_by, printed, ends_in, IsOfTargets, AreOfJob}
use Rattle.kp_debug.specs.{Sessions.Debugged, inner.Standing.IsInspection, inner.Standing.run_of}
use Rattle.kp_debug.proofs.{Searching.alike, Standing.reached_within, Standing.many}
use Rattle.kp_run.specs.Cycles.{inputs_to, own_trace}
use Rattle.kp_sched.specs.Runs.{ShowsAlike}
use Rattle.kp_implements.specs.{Shows.Shows, Traces.inputs_seen, Traces.AreQuiet}
use Rattle.kp_debug_script.specs.declared.command.Command.TheVariants as commands
use Rattle.kp_report.{specs.States.no_counts, proofs.Alike.lines_alike}

module _ (job : Job) (a b : Trace) (same : ShowsAlike job a b) where
  value_is : (t : ℕ) (v : Word) (k : ℕ) → t < length (targets_of job.decls) → k ≤ length a.rows → has_value a t v k ≡ has_value b t v k
  value_is t v k there h = ap (λ (x : ℕ). x == v.value) (same.values k t 0 h (record { target = there; address = pow_pos (target job t).address }))

  ahead_is : (cycle n : ℕ) → ahead a cycle n ≡ ahead b cycle n
  ahead_is cycle n = ap (λ (rows : List Row). ahead (record { rows = rows; visible = a.visible }) cycle n) same.rows

  reached_is : (cycle : ℕ) (command : Command) → cycle ≤ length a.rows → IsOfTargets job command → reached a cycle command ≡ reached b cycle command
  reached_is cycle (commands.Step n) h of = ahead_is cycle n
  reached_is cycle (commands.Back n) h of = refl
  reached_is cycle (commands.Until t v n) h of =
      alike (has_value a t v) (has_value b t v) cycle (ahead a cycle n - cycle) (λ k l. value_is t v k of.0 (omega (arith, l, h)))
      ∙ ap (λ (last : ℕ). first_from (has_value b t v) cycle (last - cycle)) (ahead_is cycle n)
  reached_is cycle commands.Show h of = refl
  reached_is cycle commands.Row h of = refl

  prints_alike : (cycle : ℕ) (command : Command) → cycle ≤ length a.rows → IsOfTargets job command → printed_by job a cycle command ≡ printed_by job b cycle command
  prints_alike cycle (commands.Step n) h of = refl
  prints_alike cycle (commands.Back n) h of = refl
  prints_alike cycle (commands.Until t v n) h of = ap (λ (hit : Bool). hit_line hit cycle) (value_is t v cycle of.0 h)
  prints_alike cycle commands.Show h of =
      ap (λ (text : List ℕ). at_line cycle ++ text) (lines_alike job no_counts (a.visible cycle) (b.visible cycle) (λ t x there. same.values cycle t x h there))
  prints_alike cycle commands.Row h of = ap (λ (rows : List Row). row_or_end cycle (slice_get rows cycle)) same.rows

  pub printed_alike : (cycle : ℕ) (cs : List Command) → cycle ≤ length a.rows → AreOfJob job cs → (printed job a cycle cs ≡ printed job b cycle cs) × (ends_in a cycle cs ≡ ends_in b cycle cs)
  printed_alike cycle [] h all = (refl, refl)
  printed_alike cycle (c ∷ cs) h all =
      let of : IsOfTargets job c = all 0 c (omega arith) in
      let low : reached a cycle c ≤ length a.rows = reached_within a cycle c h in
      let rest = printed_alike (reached a cycle c) cs low (λ i d l. all (suc i) d (omega (arith, l))) in (
        ap₂ (λ (x y : List ℕ). x ++ y) (prints_alike (reached a cycle c) c low of) rest.0 ∙ ap (λ (k : ℕ). printed_by job b k c ++ printed job b k cs) (reached_is cycle c h of),
        rest.1 ∙ ap (λ (k : ℕ). ends_in b k cs) (reached_is cycle c h of),
      )

-- the run of a netlist that implements the machine of a job is that of the job
pub own_is_whole : (job : Job) (net : Net) → Shows net job → inputs_seen job (inputs_to job all_cycles) ≡ inputs_from job 0 all_cycles → AreQuiet (inputs_to job all_cycles)
    → ShowsAlike job (own_trace job net all_cycles) (whole_run job)
unfolding whole_run
own_is_whole job net shows seen quiet =
    subst (λ (ins : List Inputs). ShowsAlike job (own_trace job net all_cycles) (pipe_of job ins)) seen (shows.runs (inputs_to job all_cycles) quiet)

-- what a session over such a netlist prints is the text of the job, and it ends in the same cycle
pub text_is : (job : Job) (net : Net) (d : Debugged) → IsInspection job net d → inputs_seen job (inputs_to job all_cycles) ≡ inputs_from job 0 all_cycles
    → AreQuiet (inputs_to job all_cycles) → (cs : List Command) → AreOfJob job cs
    → (printed job (run_of job d) d.cycle cs ≡ printed job (whole_run job) d.cycle cs) × (ends_in (run_of job d) d.cycle cs ≡ ends_in (whole_run job) d.cycle cs)
text_is job net d is seen quiet cs of =
    let shows : Shows d.net job = subst (λ (n : Net). Shows n job) (sym is.net_is) is.shows in
    let start = is.under.within in
    let low : d.cycle ≤ length (run_of job d).rows = omega (arith, start, many job d is.under) in
    printed_alike job (run_of job d) (whole_run job) (own_is_whole job d.net shows seen quiet) d.cycle cs low of
