use Rattle.std.proofs.{Common.◌∙◌, Common.ℕ, Common.◌+◌, Common.◌-◌, Common.refl, Common.ap, Common.sym, Common.arith, lemmas.Result.err_from_is_err_and}
use Rattle.kp_base.proofs.Bytes.{written_none, written_piece, written_part, written_rest}
use Rattle.kp_ast.specs.declared.tree.Job.{Job}
use Rattle.kp_sched.specs.Rows.{bit_of}
use Rattle.kp_timing.proofs.Steps.{left_is, all_left, next_left, end_left, at_most_one, at_most_one_more}
use Rattle.kp_timing.proofs.timing_text.write_cycles.Goals as goal

pub loop-cycle-init : goal.loop-cycle-init
loop-cycle-init g c =
    let some = c.stages-n.ensures.some in
    record {
      job = refl;
      ran = c.requires.opened.cycles;
      retired = omega arith;
      waited = omega arith;
      text = left_is _ _ _ _ _ (all_left c.args.timeline.now c.args.count (omega (arith, c.stages-n.ensures.stages, some)) c.requires.opened) (written_none _ _);
      later = omega arith;
    }

pub cycle-row-requires : goal.cycle-row-requires
cycle-row-requires g c = let ran = c.loop-cycle.invariant.ran in let top = c.from-cycle-end.ensures in omega (arith, ran, top)

pub returns-in_err-write_line-clause-text : goal.returns-in_err-write_line-clause-text
returns-in_err-write_line-clause-text g c =
    let kept = c.loop-cycle.invariant in
    let top = c.from-cycle-end.ensures in
    let exit = err_from_is_err_and c.from_residual.result c.from_residual.ensures.1 in
    let next =
    next_left c.args.timeline.now.job c.loop-cycle.timeline c.cycle-row.new.self c.cycle-row.result c.held-hold.result c.word.result c.args.count c.loop-cycle.cycle c.stages-n.result c.waits.result
    c.loop-cycle.totals.retired c.loop-cycle.totals.waited _ _ kept.job (omega (arith, top)) (c.stages-n.ensures.stages ∙ sym (ap (λ (j : Job). j.stages.value) kept.job)) c.stages-n.ensures.some
    (c.word.ensures ∙ ap (λ (f : ℕ → ℕ). f c.loop-cycle.cycle) c.requires.stalls) c.cycle-row.ensures c.held-hold.ensures c.waits.ensures refl refl in
    rw exit.1 (written_part _ _ _ _ _ _ (left_is _ _ _ _ _ next kept.text) c.in_err-write_line.ensures.text)

pub loop-cycle-preserved : goal.loop-cycle-preserved
loop-cycle-preserved g c =
    let kept = c.loop-cycle.invariant in
    let top = c.from-cycle-end.ensures in
    let more = c.after-totals.ensures in
    let next =
    next_left c.args.timeline.now.job c.loop-cycle.timeline c.cycle-row.new.self c.cycle-row.result c.held-hold.result c.word.result c.args.count c.loop-cycle.cycle c.stages-n.result c.waits.result
    c.loop-cycle.totals.retired c.loop-cycle.totals.waited _ _ kept.job (omega (arith, top)) (c.stages-n.ensures.stages ∙ sym (ap (λ (j : Job). j.stages.value) kept.job)) c.stages-n.ensures.some
    (c.word.ensures ∙ ap (λ (f : ℕ → ℕ). f c.loop-cycle.cycle) c.requires.stalls) c.cycle-row.ensures c.held-hold.ensures c.waits.ensures more.retired more.waited in
    let one = at_most_one (bit_of c.cycle-row.result.ue (c.stages-n.result - 1)) in
    let other = at_most_one_more (bit_of c.cycle-row.result.ue 0) in
    record {
      job = c.cycle-row.ensures.job ∙ kept.job;
      ran = c.cycle-row.ensures.cycles ∙ ap (λ (n : ℕ). n + 1) kept.ran;
      retired = omega (arith, kept.retired, more.retired, one);
      waited = omega (arith, kept.waited, more.waited, other);
      text = written_piece _ _ _ _ _ _ (left_is _ _ _ _ _ next kept.text) c.in_ok-write_line.ensures.text;
      later = omega arith;
    }

pub returns-clause-text : goal.returns-clause-text
returns-clause-text g c =
    let kept = c.loop-cycle.invariant in
    let top = c.from-cycle-end.ensures in
    let past = c.loop-cycle-test.false in
    written_rest _ _ _ _ _ c.write_totals.result (left_is _ _ _ _ _ (end_left c.loop-cycle.timeline.job c.loop-cycle.timeline.start c.args.count c.loop-cycle.cycle _ _ _ (omega (arith, top, past))) kept.text) c.write_totals.ensures.text
