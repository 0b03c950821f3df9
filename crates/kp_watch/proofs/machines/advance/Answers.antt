use Rattle.std.proofs.Common.{◌≡◌, ◌∙◌, ◌+◌, ◌<◌, ◌≤◌, ℕ, List, take, set, true, false, ◌&&◌, sym, subst, ap, arith, length, get_or}
use Rattle.std.proofs.lemmas.{Bool.and_parts, List.length-map}
use Rattle.kp_base.specs.declared.row.Row.{Row}
use Rattle.kp_bits.specs.Word.{Word}
use Rattle.kp_pipeline.specs.{Rows.bit, Rows.bits, Rows.passed, Sequential.exec}
use Rattle.kp_machine.specs.Machine.{machine_of, values_in}
use Rattle.kp_run.{specs.Columns.Taken, specs.Columns.word_taken, proofs.Prefixes.passed_before}
use Rattle.kp_sched.specs.Rows.{bit_of, rows_seen}
use Rattle.kp_seq.specs.{Running.state, Recorded.record_of}
use Rattle.kp_watch.specs.inner.Machines.{given, HaveRunFirst}
use Rattle.kp_watch.proofs.Lanes.{first_begin, first_moves, first_stays, first_end, still}
use Rattle.kp_watch.proofs.machines.advance.Goals.{then-moves, else-moves}
use Rattle.kp_watch.proofs.machines.advance.Goals as goal

pub loop-k-init : goal.loop-k-init
loop-k-init c = (c.requires.room, first_begin c.args.job.now.design.job (given c.args.columns.now) c.args.rows.now c.args.cycle c.args.machines.now c.requires.run)

pub loop-k-preserved : goal.loop-k-preserved
loop-k-preserved c =
    let job = c.args.job.now.design.job in
    let n = job.stages.value in
    let values = given c.args.columns.now in
    let rows = c.args.rows.now in
    let T = c.args.cycle in
    let there = c.requires.there in
    let k = c.loop-k.k in
    let ms = c.loop-k.machines in
    let kept = c.loop-k.invariant in
    let none : Row = record { full = 0; ue = 0; back = 0 } in
    let many : c.stages-stages.result ≡ n = c.stages-stages.ensures.stages ∙ c.requires.stages in
    let low : k < n = omega (arith, c.loop-k-test.true, many) in
    let marks = c.args.needed.now in
    let recorded : c.moves.result ≡ (get_or marks k false && bit (bits (bit_of (get_or rows T none).ue) n 0) k) =
    c.moves.ensures ∙ ap (λ (m : ℕ). get_or marks k false && bit (bits (bit_of (get_or rows T none).ue) m 0) k) many in
    elim c.if-moves.branch [
      | then-moves w ↦
          let d = w.index-machines-from.result in
          let m = get_or ms w.from.result d in
          let new = w.step_with.new.self in
          let at : c.if-moves.machines ≡ set ms k new = w.machines-is ∙ ap (λ i. set ms i new) w.from.ensures in
          let both = and_parts (get_or marks k false) (bit (bits (bit_of (get_or rows T none).ue) n 0) k) (sym recorded ∙ w.if-moves.true) in
          let stepped : state new ≡ exec (machine_of m.job) (state m) (values w.passed.result) =
          w.step_with.ensures.state ∙ ap (λ (row : List Word). exec (machine_of m.job) (state m) (values_in row)) w.take.ensures in
          let noted : new.last ≡ record_of m.job (state m) (values w.passed.result) =
          w.step_with.ensures.recorded ∙ ap (λ (row : List Word). record_of m.job (state m) (values_in row)) w.take.ensures in
          let before : T ≤ length rows = omega (arith, there) in
          let count : w.passed.result ≡ passed (rows_seen n rows) k T =
          w.passed.ensures.seen (take T rows) c.requires.seen
          ∙ ap (λ (i : ℕ). passed (rows_seen i (take T rows)) k (length (take T rows))) c.requires.stages
          ∙ passed_before n rows k T before in (
            ap (λ (l : List Word). length l) (w.room-is ∙ w.take.ensures) ∙ length-map c.args.columns.now (λ (x : Taken). word_taken x w.passed.result),
            subst (λ l. HaveRunFirst job values (rows_seen n rows) T (k + 1) l) (sym at)
                (first_moves job values rows T k w.passed.result ms m new d none kept.1 low there both.1 count (ap (λ i. get_or ms i d) w.from.ensures)
                w.step_with.ensures.job stepped noted),
          )
      | else-moves w ↦ (
        ap (λ (l : List Word). length l) w.room-is ∙ kept.0,
        subst (λ l. HaveRunFirst job values (rows_seen n rows) T (k + 1) l) (sym w.machines-is)
            (first_stays job values rows T k ms kept.1 (still job values rows T marks k none c.requires.needed low there (sym recorded ∙ w.if-moves.false))),
      )
    ]

pub returns-clause-run : goal.returns-clause-run
returns-clause-run c =
    let job = c.args.job.now.design.job in
    let n = job.stages.value in
    let many : c.stages-stages.result ≡ n = c.stages-stages.ensures.stages ∙ c.requires.stages in
    let all : c.loop-k.k ≡ n = omega (arith, c.loop-k-test.false, c.loop-k.auto.k-end, many) in
    first_end job (given c.args.columns.now) c.args.rows.now c.args.cycle c.loop-k.machines
    (subst (λ k. HaveRunFirst job (given c.args.columns.now) (rows_seen n c.args.rows.now) c.args.cycle k c.loop-k.machines) all c.loop-k.invariant.1)
