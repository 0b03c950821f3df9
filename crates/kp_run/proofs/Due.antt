-- A netlist that implements the machine of a job has the specified values after a run.
use Rattle.std.proofs.Common.{◌≡◌, ◌∙◌, ℕ, ◌≤◌, List, length, None, ap, sym, arith}
use Rattle.kp_base.specs.{First.first, declared.row.Row.Row}
use Rattle.kp_bits.specs.Word.{Word, word}
use Rattle.kp_ast.specs.declared.tree.Job.{Job}
use Rattle.kp_width.specs.Widths.{widths_of}
use Rattle.kp_image.specs.Sections.{sections_of}
use Rattle.kp_pipeline.specs.{Accepted.Accepted, Pipeline.Inputs}
use Rattle.kp_pipeline.specs.Rows as law
use Rattle.kp_machine.specs.{Machine.machine_of, Machine.inputs_from, Machine.pipe_of, Words.HasWord, Words.target}
use Rattle.kp_net.specs.Netlist.{Net, State, last_of}
use Rattle.kp_sched.specs.{Monitors.Kept, Rows.rows_seen, Runs.passes}
use Rattle.kp_sched.proofs.Counting.{seen_length}
use Rattle.kp_implements.specs.{Naming.value_shown, Shows.Shows, Traces.trace_of}
use Rattle.kp_run.specs.{Boards.due_behind, Cycles.inputs_to, Cycles.HasRows, Homes.AreHomes, inner.Boards.HasCounts, inner.Finals.AreFinals}
use Rattle.kp_run.proofs.{Inputs.seen_to, Inputs.quiet_to, Legal.as_many, Legal.traced, Machines.home_passes, Prefixes.state_is}

pub counts_are : (job : Job) (rows : List Row) (homes : List ℕ) → Accepted (machine_of job) → AreHomes job homes → HasCounts job rows homes
counts_are job rows homes acc are =
    let seen : List law.Row = rows_seen job.stages.value rows in
    record { homes = are; passes = λ t. home_passes job seen acc (length seen) t ∙ ap (λ (T : ℕ). passes job seen T t) (seen_length job.stages.value rows) }

module _ (job : Job) (widths : first (widths_of job).asked ≡ None) (sections : first (sections_of job).asked ≡ None)
    (net : Net) (n : ℕ) (rows : List Row) (monitor : Kept) (shows : Shows net job) (has : HasRows job net n rows monitor)
    (due : (t a : ℕ) → HasWord job t a → (pipe_of job (inputs_from job 0 n)).visible n t a ≡ due_behind job rows t a) where
  -- a word of the last state
  pub shown_is_due : (t a : ℕ) → HasWord job t a → value_shown job net (last_of net (inputs_to job n)) t a ≡ due_behind job rows t a
  unfolding trace_of
  shown_is_due t a there =
      let many : length (trace_of job net (inputs_to job n)).rows ≡ n =
      ap (λ (l : List law.Row). length l) (sym (traced job widths sections net n rows monitor shows has)) ∙ seen_length job.stages.value rows ∙ as_many job widths sections net n rows monitor shows has in
      let alike = (shows.runs (inputs_to job n) (quiet_to job n)).values n t a (let e : n ≤ length (trace_of job net (inputs_to job n)).rows = omega (arith, many) in e) there in
      ap (λ (st : State). value_shown job net st t a) (sym (state_is job net n n (omega arith)))
      ∙ alike
      ∙ ap (λ (ins : List Inputs). (pipe_of job ins).visible n t a) (seen_to job widths sections n)
      ∙ due t a there

-- stored words of a state are those of another with the same words
pub finals_alike : (job : Job) (shown due : ℕ → ℕ → ℕ) (finals : List (List Word)) → ((t a : ℕ) → HasWord job t a → shown t a ≡ due t a)
    → AreFinals job shown finals → AreFinals job due finals
finals_alike job shown due finals same are = record {
  there = are.there;
  words = λ t h. record {
    there = (are.words t h).there;
    values = λ a there. (are.words t h).values a there ∙ ap (word (target job t).width) (same t a there);
  };
}
