use Rattle.std.proofs.Common.{◌∙◌, ℕ, ap, sym}
use Rattle.kp_bits.specs.Word.{Word, word}
use Rattle.kp_image.specs.Feeds.{row_in}
use Rattle.kp_sched.specs.Rows.{rows_seen}
use Rattle.kp_run.{specs.Columns.words_taken, proofs.Gathering.one_taken, proofs.Gathering.none_taken, proofs.Samples.is_got}
use Rattle.kp_run.proofs.columns.column_for.Goals.{then-updates+in_ok-push, else-updates}
use Rattle.kp_run.proofs.columns.column_for.Goals as goal

pub loop-cycle-preserved : goal.loop-cycle-preserved
loop-cycle-preserved c =
    let given = row_in c.args.inputs.now in
    let n = c.args.n in
    let rows = c.args.rows.now in
    let total = words_taken given c.args.x c.args.k 0 (rows_seen n rows) in
    let cycle = c.loop-cycle.cycle in
    let ws = c.loop-cycle.words.items in
    elim c.if-updates.branch [
      | then-updates+in_ok-push w ↦
          rw w.words-is (rw w.in_ok-push.ensures.items
          (one_taken given c.args.x c.args.k n cycle rows _ c.loop-cycle-test.true ws total c.loop-cycle.invariant w.value.result (sym c.updates.ensures ∙ w.if-updates.true)
          (is_got (given cycle) c.args.x w.value.result w.value.ensures)))
      | else-updates w ↦
          rw w.words-is (none_taken given c.args.x c.args.k n cycle rows _ c.loop-cycle-test.true ws total c.loop-cycle.invariant (sym c.updates.ensures ∙ w.if-updates.false))
    ]

pub returns-clause-none : goal.returns-clause-none
returns-clause-none c =
    c.zero-none.ensures
    ∙ ap (λ (w : ℕ). word w 0) (c.width.ensures.value ∙ ap (λ (v : Word). v.width) (is_got (row_in c.args.inputs.now 0) c.args.x c.value-2.result c.value-2.ensures))
