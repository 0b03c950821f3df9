use Rattle.std.proofs.{Common.arith, lemmas.Result.err_from_is_err_and}
use Rattle.kp_base.proofs.Bytes.{written_piece, written_part}
use Rattle.kp_seq.specs.Running.{state}
use Rattle.kp_report.{specs.States.no_counts, proofs.Lines.left_is, proofs.Lines.state_next, proofs.Lines.past, proofs.Lines.at_most_one}
use Rattle.kp_report.proofs.states.write_state.Goals as goal

pub returns-in_err-write_target-clause-text : goal.returns-in_err-write_target-clause-text
returns-in_err-write_target-clause-text g c =
    let next = state_next c.args.decls.now c.loop-decl.decl-index c.decl-item.result c.loop-decl-test.true c.decl-item.is c.loop-decl.t no_counts (state c.args.machine.now) in
    let exit = err_from_is_err_and c.from_residual.result c.from_residual.ensures.1 in
    rw exit.1 (written_part _ _ _ _ _ _ (left_is _ _ _ _ _ next c.loop-decl.invariant.text) c.in_err-write_target.ensures.text)

pub loop-decl-preserved : goal.loop-decl-preserved
loop-decl-preserved g c =
    let next = state_next c.args.decls.now c.loop-decl.decl-index c.decl-item.result c.loop-decl-test.true c.decl-item.is c.loop-decl.t no_counts (state c.args.machine.now) in
    let counted = past c.args.decls.now c.loop-decl.decl-index c.decl-item.result c.loop-decl-test.true c.decl-item.is c.loop-decl.t c.loop-decl.invariant.counted in
    let one = at_most_one c.decl-item.result in
    rw c.targets_in-t.ensures (record {
      text = written_piece _ _ _ _ _ _ (left_is _ _ _ _ _ next c.loop-decl.invariant.text) c.in_ok-write_target.ensures.text;
      later = omega arith;
      counted = counted;
      few = omega arith;
    })
