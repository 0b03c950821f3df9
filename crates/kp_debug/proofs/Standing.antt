-- A session and the run that it steps through.
use Rattle.std.proofs.Common.{◌≡◌, ◌∙◌, ℕ, ◌+◌, ◌-◌, ◌<◌, ◌≤◌, Bool, true, false, List, [], ◌∷◌, ◌++◌, length, get_or, drop, min, refl, ap, sym, subst, arith}
use Rattle.std.proofs.lemmas.{List.drop_more, List.drop_all, Option.slice_get-map}
use Rattle.std.specs.{Prelude.slice_get, Prelude.option_map, Prelude.Option, Io.KnownBytes.Appends}
use Rattle.kp_base.{specs.inner.Bytes.WrittenUpTo, proofs.Bytes.written_piece}
use Rattle.kp_bits.specs.Word.{Word}
use Rattle.kp_ast.specs.declared.tree.Job.{Job}
use Rattle.kp_pipeline.specs.Rows.{Trace}
use Rattle.kp_net.specs.Netlist.{Net, Input, run}
use Rattle.kp_debug_script.specs.declared.command.Command.{Command}
use Rattle.kp_debug.specs.Sessions.{Debugged, no_state, row_there, forward}
use Rattle.kp_debug.specs.Inspecting.{all_cycles, has_value, first_from, ahead, reached, printed_by, printed, ends_in}
use Rattle.kp_debug.specs.inner.Standing.{IsUnderWay, IsSearched, IsInspection, run_of, state_seen}
use Rattle.kp_debug.proofs.{Gathering.inputs_many, Searching.within, Searching.found, Searching.goes_on}
use Rattle.kp_run.{specs.Cycles.inputs_to, proofs.Prefixes.rows_many}
use Rattle.kp_sched.specs.Rows.{row_seen}
use Rattle.kp_sched.proofs.Counting.{seen_length}
use Rattle.kp_implements.specs.{Naming.value_shown, Shows.Shows, Traces.trace_of}
use Rattle.kp_debug_script.specs.declared.command.Command.TheVariants as commands
use Rattle.kp_report.proofs.Lines.{left_is}

-- one command more
pub printed_next : (job : Job) (trace : Trace) (cycle : ℕ) (cs : List Command) (i : ℕ) (c : Command) → i < length cs → c ≡ get_or cs i c
    → printed job trace cycle (drop i cs) ≡ printed_by job trace (reached trace cycle c) c ++ printed job trace (reached trace cycle c) (drop (i + 1) cs)
printed_next job trace cycle cs i c h is =
    ap (printed job trace cycle) (drop_more cs i c h ∙ ap (λ (x : Command). x ∷ drop (i + 1) cs) (sym is))

pub printed_end : (job : Job) (trace : Trace) (cycle : ℕ) (cs : List Command) (i : ℕ) → length cs ≤ i → printed job trace cycle (drop i cs) ≡ []
printed_end job trace cycle cs i h = ap (printed job trace cycle) (drop_all i cs h)

pub ends_next : (trace : Trace) (cycle : ℕ) (cs : List Command) (i : ℕ) (c : Command) → i < length cs → c ≡ get_or cs i c
    → ends_in trace cycle (drop i cs) ≡ ends_in trace (reached trace cycle c) (drop (i + 1) cs)
ends_next trace cycle cs i c h is = ap (ends_in trace cycle) (drop_more cs i c h ∙ ap (λ (x : Command). x ∷ drop (i + 1) cs) (sym is))

pub ends_end : (trace : Trace) (cycle : ℕ) (cs : List Command) (i : ℕ) → length cs ≤ i → ends_in trace cycle (drop i cs) ≡ cycle
ends_end trace cycle cs i h = ap (ends_in trace cycle) (drop_all i cs h)

-- no command leads past the end of a run
pub reached_within : (trace : Trace) (cycle : ℕ) (command : Command) → cycle ≤ length trace.rows → reached trace cycle command ≤ length trace.rows
reached_within trace cycle (commands.Step n) h = omega (arith, h)
reached_within trace cycle (commands.Back n) h = omega (arith, h)
reached_within trace cycle (commands.Until t v n) h =
    let low = (within (has_value trace t v) cycle (ahead trace cycle n - cycle)).1 in
    omega (arith, h, low)
reached_within trace cycle commands.Show h = h
reached_within trace cycle commands.Row h = h

module _ (job : Job) (d : Debugged) (under : IsUnderWay job d) where
  -- the state and the row of the current cycle
  pub visible_is : (run_of job d).visible d.cycle ≡ state_seen job d
  unfolding trace_of
  visible_is = ap (λ (ins : List Input). λ t a. value_shown job d.net (get_or (run d.net ins).states d.cycle no_state) t a) (sym under.inputs)

  pub row_is : slice_get (run_of job d).rows d.cycle ≡ option_map (row_seen job.stages.value) (row_there d)
  unfolding trace_of
  row_is =
      slice_get-map (row_seen job.stages.value) (run d.net (inputs_to job all_cycles)).rows d.cycle
      ∙ ap (λ (ins : List Input). option_map (row_seen job.stages.value) (slice_get (run d.net ins).rows d.cycle)) (sym under.inputs)

  -- the number of cycles
  pub many : length (run_of job d).rows ≡ all_cycles
  unfolding trace_of
  many = seen_length job.stages.value (run d.net (inputs_to job all_cycles)).rows ∙ rows_many job d.net all_cycles

  pub inputs_are : length d.inputs ≡ all_cycles
  inputs_are = ap (λ (ins : List Input). length ins) under.inputs ∙ inputs_many job all_cycles

  -- the session at another cycle
  pub moved : (c : ℕ) → c ≤ all_cycles → IsUnderWay job (record d { cycle = c })
  moved c h = record { of_job = under.of_job; inputs = under.inputs; within = h }

  pub reached_there : (command : Command) → reached (run_of job d) d.cycle command ≤ all_cycles
  reached_there command =
      let start = under.within in
      let low = reached_within (run_of job d) d.cycle command (omega (arith, start, many)) in
      omega (arith, low, many)

  pub steps : (n : ℕ) → forward n d ≡ record d { cycle = ahead (run_of job d) d.cycle n }
  steps n = let same : length d.inputs ≡ length (run_of job d).rows = inputs_are ∙ sym many in λ i. record d { cycle = min (d.cycle + n) (same i) }

  -- how many cycles a search may move on
  pub most_left : (n left : ℕ) → left ≡ min n (all_cycles - d.cycle) → ahead (run_of job d) d.cycle n - d.cycle ≡ left
  most_left n left is = let start = under.within in omega (arith, is, start, many)

  -- the session at cycle k
  module _ (s : Debugged) (k : ℕ) (at : s ≡ record d { cycle = k }) where
    pub under_at : k ≤ all_cycles → IsUnderWay job s
    under_at h = subst (IsUnderWay job) (sym at) (moved k h)

    pub met_at : (t : ℕ) (v : Word) → has_value (run_of job s) t v s.cycle ≡ has_value (run_of job d) t v k
    met_at t v = ap (λ (x : Debugged). has_value (run_of job x) t v x.cycle) at

  step_at : (s : Debugged) (k : ℕ) → s ≡ record d { cycle = k } → k < all_cycles → forward 1 s ≡ record d { cycle = k + 1 }
  step_at s k at h =
      let on : min (k + 1) (length d.inputs) ≡ k + 1 = omega (arith, h, inputs_are) in
      ap (forward 1) at ∙ (λ i. record d { cycle = on i })

  -- a search from there, of which k cycles are done
  module _ (t : ℕ) (v : Word) (left : ℕ) where
    abbrev holds : ℕ → Bool
    holds = has_value (run_of job d) t v

    pub search_begins : IsSearched job d t v left 0 d
    search_begins =
        let here : d.cycle ≡ d.cycle + 0 = omega arith in
        let all : left ≡ left - 0 = omega arith in
        record { at = λ i. record d { cycle = here i }; rest = λ i. first_from holds (here i) (all i) }

    pub search_goes_on : (k : ℕ) (s new : Debugged) → d.cycle + left ≤ all_cycles → k < left → IsSearched job d t v left k s → has_value (run_of job s) t v s.cycle ≡ false
        → new ≡ forward 1 s → IsSearched job d t v left (k + 1) new
    search_goes_on k s new inside h so none is =
        let next : d.cycle + k + 1 ≡ d.cycle + (k + 1) = omega arith in
        let fewer : left - k - 1 ≡ left - (k + 1) = omega arith in
        record {
          at = is ∙ step_at s (d.cycle + k) so.at (omega (arith, inside, h)) ∙ (λ i. record d { cycle = next i });
          rest = so.rest ∙ goes_on holds (d.cycle + k) (left - k) (sym (met_at s (d.cycle + k) so.at t v) ∙ none) (omega (arith, h)) ∙ (λ i. first_from holds (next i) (fewer i));
        }

    pub search_finds : (k : ℕ) (s : Debugged) → IsSearched job d t v left k s → has_value (run_of job s) t v s.cycle ≡ true → s ≡ record d { cycle = first_from holds d.cycle left }
    search_finds k s so met =
        let all = so.rest ∙ found holds (d.cycle + k) (left - k) (sym (met_at s (d.cycle + k) so.at t v) ∙ met) in
        so.at ∙ (λ i. record d { cycle = sym all i })

    pub search_ends : (k : ℕ) (s : Debugged) → IsSearched job d t v left k s → left ≤ k → s ≡ record d { cycle = first_from holds d.cycle left }
    search_ends k s so h =
        let none : left - k ≡ 0 = omega (arith, h) in
        let all = so.rest ∙ ap (first_from holds (d.cycle + k)) none in
        so.at ∙ (λ i. record d { cycle = sym all i })

-- a session at the start
pub begins : (job : Job) (net : Net) (s : Debugged) → Shows net job → s ≡ record { net = net; inputs = inputs_to job all_cycles; cycle = 0 } → IsInspection job net s
begins job net s shows is =
    subst (IsInspection job net) (sym is)
    (record { net_is = refl; shows = shows; under = record { of_job = shows.of_job; inputs = refl; within = omega arith } })

-- one command more of those that are executed
pub one_command : (job : Job) (s new : Debugged) (cs : List Command) (i : ℕ) (c : Command) → i < length cs → c ≡ get_or cs i c → (whole : List ℕ) (old mid end : Option (List ℕ))
    → WrittenUpTo whole (printed job (run_of job s) s.cycle (drop i cs)) old mid → new ≡ record s { cycle = reached (run_of job s) s.cycle c }
    → Appends mid end (printed_by job (run_of job s) (reached (run_of job s) s.cycle c) c) → WrittenUpTo whole (printed job (run_of job new) new.cycle (drop (i + 1) cs)) old end
one_command job s new cs i c h is whole old mid end text on piece =
    let next = printed_next job (run_of job s) s.cycle cs i c h is in
    let more : List ℕ = printed job (run_of job s) (reached (run_of job s) s.cycle c) (drop (i + 1) cs) in
    let this : List ℕ = printed_by job (run_of job s) (reached (run_of job s) s.cycle c) c in
    subst (λ (x : Debugged). WrittenUpTo whole (printed job (run_of job x) x.cycle (drop (i + 1) cs)) old end) (sym on)
    (written_piece whole this more old mid end (left_is whole (printed job (run_of job s) s.cycle (drop i cs)) (this ++ more) old mid next text) piece)

-- and the cycle where all of them end
pub one_end : (job : Job) (s new : Debugged) (cs : List Command) (i : ℕ) (c : Command) → i < length cs → c ≡ get_or cs i c → (last : ℕ)
    → last ≡ ends_in (run_of job s) s.cycle (drop i cs) → new ≡ record s { cycle = reached (run_of job s) s.cycle c }
    → last ≡ ends_in (run_of job new) new.cycle (drop (i + 1) cs)
one_end job s new cs i c h is last at on =
    subst (λ (x : Debugged). last ≡ ends_in (run_of job x) x.cycle (drop (i + 1) cs)) (sym on) (at ∙ ends_next (run_of job s) s.cycle cs i c h is)
