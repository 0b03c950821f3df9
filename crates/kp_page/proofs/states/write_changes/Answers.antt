use Rattle.std.proofs.{Common.arith, Common.ap, lemmas.Result.err_from_is_err_and}
use Rattle.kp_base.proofs.Bytes.{written_piece, written_part}
use Rattle.kp_machine.specs.Slots.{targets_of}
use Rattle.kp_report.proofs.Lines.{left_is, past, at_most_one, stands}
use Rattle.kp_page.{specs.inner.Seen.seen, specs.inner.Seen.seen_before, proofs.Lines.state_next}
use Rattle.kp_page.proofs.states.write_changes.Goals as goal

pub write_target-requires-clause-stands : goal.write_target-requires-clause-stands
write_target-requires-clause-stands g c =
    stands c.args.decls.now c.loop-decl.decl-index c.decl-item.result c.loop-decl-test.true c.decl-item.is c.args.job.now.design.job c.loop-decl.t
    (ap targets_of c.requires.decls) c.requires.small c.loop-decl.invariant.counted

pub returns-in_err-write_target-clause-text : goal.returns-in_err-write_target-clause-text
returns-in_err-write_target-clause-text g c =
    let job = c.args.job.now.design.job in
    let next = state_next c.args.decls.now c.loop-decl.decl-index c.decl-item.result c.loop-decl-test.true c.decl-item.is c.loop-decl.t (seen_before c.args.is_first job c.args.before.now) (seen job c.args.now.now) in
    let exit = err_from_is_err_and c.from_residual.result c.from_residual.ensures.1 in
    rw exit.1 (written_part _ _ _ _ _ _ (left_is _ _ _ _ _ next c.loop-decl.invariant.text) c.in_err-write_target.ensures.text)

pub loop-decl-preserved : goal.loop-decl-preserved
loop-decl-preserved g c =
    let job = c.args.job.now.design.job in
    let next = state_next c.args.decls.now c.loop-decl.decl-index c.decl-item.result c.loop-decl-test.true c.decl-item.is c.loop-decl.t (seen_before c.args.is_first job c.args.before.now) (seen job c.args.now.now) in
    let counted = past c.args.decls.now c.loop-decl.decl-index c.decl-item.result c.loop-decl-test.true c.decl-item.is c.loop-decl.t c.loop-decl.invariant.counted in
    let one = at_most_one c.decl-item.result in
    rw c.targets_in-t.ensures (record {
      text = written_piece _ _ _ _ _ _ (left_is _ _ _ _ _ next c.loop-decl.invariant.text) c.in_ok-write_target.ensures.text;
      later = omega arith;
      counted = counted;
      few = omega arith;
    })
