-- What is written about a netlist that was run and compared is the specified outcome.
use Rattle.std.proofs.Common.{◌≡◌, ◌∙◌, ℕ, ◌≤◌, ◌<◌, ◌++◌, List, length, take, Option, Some, None, refl, ap, ap₂, sym, subst, arith}
use Rattle.std.{proofs.lemmas.List.take-map, specs.Prelude.MatchOption, specs.Prelude.IfSome}
use Rattle.kp_base.specs.declared.row.Row as masks
use Rattle.kp_bits.specs.Word.{word}
use Rattle.kp_ast.specs.declared.tree.Job.{Job}
use Rattle.kp_pipeline.specs.Rows.{Row}
use Rattle.kp_machine.specs.{Machine.inputs_from, Slots.targets_of, Words.HasWord, Words.target}
use Rattle.kp_net.specs.Netlist.{Net}
use Rattle.kp_sched.specs.{Lines.row_lines, Monitors.Kept, Rows.row_seen, Rows.rows_seen, Runs.due_value}
use Rattle.kp_sched.proofs.Counting.{seen_length}
use Rattle.kp_implements.specs.Traces.{trace_of}
use Rattle.kp_run.{specs.Boards.due_behind, specs.Cycles.HasRows, specs.Cycles.own_trace, specs.declared.board.Board.Board, proofs.Prefixes.rows_many}
use Rattle.kp_run.specs.declared.difference.Difference.{Difference}
use Rattle.kp_watch.specs.Watching.{own_due, Agrees, IsFirstDifference}
use Rattle.kp_report.specs.{Runs.run_text, Texts.differs_line}
use Rattle.kp_report.specs.Differing as shown
use Rattle.kp_tool.proofs.OwnText.{run_text_alike}
use Rattle.kp_tool.specs.{Watched.own_text, Watched.differing_text, Watched.DueOfRun, Watched.agrees, Watched.differs, Watching.status_by, Watching.text_by}

rows_taken : (n : ℕ) (rows : List masks.Row) (T : ℕ) → rows_seen n (take T rows) ≡ take T (rows_seen n rows)
rows_taken n rows T = sym (take-map (row_seen n) T rows)

module _ (n : ℕ) (job : Job) (net : Net) (rows : List masks.Row) (monitor : Kept) (has : HasRows job net n rows monitor) where
  abbrev seen : List Row
  seen = rows_seen job.stages.value rows

  traced : seen ≡ (own_trace job net n).rows
  unfolding trace_of
  traced = ap (rows_seen job.stages.value) has.rows

  many : length rows ≡ n
  many = ap (λ (l : List masks.Row). length l) has.rows ∙ rows_many job net n

  own_many : length (own_trace job net n).rows ≡ n
  own_many = ap (λ (l : List Row). length l) (sym traced) ∙ seen_length job.stages.value rows ∙ many

  -- where the run agrees, the specified values after it are those of the netlist
  shows_due : Agrees job net n → (t a : ℕ) → HasWord job t a → due_behind job rows t a ≡ (own_trace job net n).visible n t a
  shows_due all t a there =
      ap (λ (l : List Row). due_value job (inputs_from job 0 (length rows)) l (length rows) t a) traced
      ∙ ap (λ (m : ℕ). due_value job (inputs_from job 0 m) (own_trace job net n).rows m t a) many
      ∙ sym (all n t a (let h : n ≤ length (own_trace job net n).rows = omega (arith, own_many) in h) there)

  whole_text : Agrees job net n → run_text job seen (due_behind job rows) ≡ own_text n job net
  whole_text all =
      ap (λ (l : List Row). run_text job l (due_behind job rows)) traced
      ∙ run_text_alike job (own_trace job net n).rows (due_behind job rows) ((own_trace job net n).visible n) (shows_due all)

  part_text : (d : Difference) → d.found ≡ word (target job d.target).width ((own_trace job net n).visible d.cycle d.target d.address)
      → d.due ≡ word (target job d.target).width (own_due job net n d.cycle d.target d.address)
      → shown.differing_text job.stages.value job rows d ≡ differing_text n job net d.cycle d.target d.address
  part_text d found due =
      ap₂ (λ (l : List Row) (line : List ℕ). row_lines 0 l ++ line) (rows_taken job.stages.value rows d.cycle ∙ ap (take d.cycle) traced)
      (λ i. differs_line d.cycle (target job d.target) d.address (found i) (due i))

abbrev Reported : ℕ → Job → Net → Option Difference → Type 0
Reported n job net found = MatchOption found (Agrees job net n)
    (λ d. IsFirstDifference job net n d.cycle d.target d.address
    × (d.found ≡ word (target job d.target).width ((own_trace job net n).visible d.cycle d.target d.address))
    × (d.due ≡ word (target job d.target).width (own_due job net n d.cycle d.target d.address)))

pub watched_is_due : (n : ℕ) (job : Job) (net : Net) (board : Board) (found : Option Difference) → board.design.now.job ≡ job
    → HasRows job net n board.cycles.rows.items board.cycles.monitor → Reported n job net found → DueOfRun n job net (status_by found) (text_by board found)
watched_is_due n job net board None same has all =
    agrees all (
      refl,
      ap (λ (j : Job). run_text j (rows_seen j.stages.value board.cycles.rows.items) (due_behind j board.cycles.rows.items)) same
          ∙ whole_text n job net board.cycles.rows.items board.cycles.monitor has all,
    )
watched_is_due n job net board (Some d) same has (first, found, due) =
    differs d.cycle d.target d.address first (
      refl,
      (λ i. shown.differing_text (has.stages i) (same i) board.cycles.rows.items d)
          ∙ part_text n job net board.cycles.rows.items board.cycles.monitor has d found due,
    )

-- the difference is in a cycle of the run, at a target of the job
pub fits : (n : ℕ) (job : Job) (net : Net) (board : Board) (found : Option Difference) → board.design.now.job ≡ job
    → HasRows job net n board.cycles.rows.items board.cycles.monitor → Reported n job net found
    → IfSome found (λ d. (d.cycle ≤ length board.cycles.rows.items) × (d.target < length (targets_of board.design.now.job.decls)))
fits n job net board None same has all = tt
fits n job net board (Some d) same has (first, found, due) =
    let within = first.within in
    let length_is = many n job net board.cycles.rows.items board.cycles.monitor has in
    (omega (arith, within, length_is), subst (λ (j : Job). d.target < length (targets_of j.decls)) (sym same) first.there.target)
