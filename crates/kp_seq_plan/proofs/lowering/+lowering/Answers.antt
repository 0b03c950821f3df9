use Rattle.std.proofs.{Common.subst, lemmas.List.take_all}
use Rattle.kp_seq_plan.proofs.Typing.{out, made, typed_more, joined_first, first_lacks, joined_next, joined_lacks, joined_over, joined_all, args_lack, args_missing, call_lacks, call_gives}
use Rattle.kp_seq_plan.proofs.Arms.{as_not, as_slice, as_zext, as_sext, arm_word, arm_one, arm_binary, arm_mux, arm_concat, arm_call, lost_one, lost_binary, lost_test, lost_either}
use Rattle.kp_seq_plan.specs.{Plans.meaning, inner.Parts.AreTyped}
use Rattle.kp_seq_plan.proofs.lowering.+lowering.Goals as goal

pub typed_of-returns-in-Word : goal.typed_of-returns-in-Word
typed_of-returns-in-Word t c = arm_word _ _ c.in-Word.word c.in-Word.is c.word_of.ensures

pub typed_of-returns-in_err-a-in-Not : goal.typed_of-returns-in_err-a-in-Not
typed_of-returns-in_err-a-in-Not t c = out _ _ _ _ c.from_residual.ensures.1 (lost_one _ (as_not c.in-Not.is) c.get.ensures c.in_err-a-in-Not.ensures)

pub typed_of-returns-in_ok-a-in-Not : goal.typed_of-returns-in_ok-a-in-Not
typed_of-returns-in_ok-a-in-Not t c = arm_one _ (as_not c.in-Not.is) c.get.ensures _ c.in_ok-a-in-Not.ensures c.complement.ensures

pub typed_of-returns-in_err-a-in-Binary : goal.typed_of-returns-in_err-a-in-Binary
typed_of-returns-in_err-a-in-Binary t c = out _ _ _ _ c.from_residual-in_err-a-in-Binary.ensures.1 (lost_binary _ c.get-in-Binary.ensures c.get-in-Binary-2.ensures _ c.in-Binary.is c.in_err-a-in-Binary.ensures)

pub typed_of-returns-in_ok-a-in-Binary : goal.typed_of-returns-in_ok-a-in-Binary
typed_of-returns-in_ok-a-in-Binary t c = arm_binary _ c.get-in-Binary.ensures c.get-in-Binary-2.ensures _ _ c.in-Binary.is c.in_ok-a-in-Binary.ensures c.binary.ensures

pub typed_of-returns-in_err-test-in-Mux : goal.typed_of-returns-in_err-test-in-Mux
typed_of-returns-in_err-test-in-Mux t c = out _ _ _ _ c.from_residual-in_err-test-in-Mux.ensures.1 (lost_test _ _ _ c.get-in-Mux.ensures c.in-Mux.is c.in_err-test-in-Mux.ensures)

pub typed_of-returns-in-Ok : goal.typed_of-returns-in-Ok
typed_of-returns-in-Ok t c = arm_mux _ c.get-in-Mux-2.ensures c.get-in-Mux-3.ensures c.get-in-Mux.ensures c.in-Mux.is _ c.in_ok-test-in-Mux.ensures c.in-Ok.ensures c.choice.ensures

pub typed_of-returns-in-Err : goal.typed_of-returns-in-Err
typed_of-returns-in-Err t c = lost_either _ c.get-in-Mux-2.ensures c.get-in-Mux-3.ensures c.get-in-Mux.ensures c.in-Mux.is c.in-Err.ensures

pub typed_of-returns-in-Concat : goal.typed_of-returns-in-Concat
typed_of-returns-in-Concat t c = arm_concat _ _ c.in-Concat.is c.as_slice.ensures c.joined_of.ensures

pub typed_of-returns-in_err-a-in-Slice : goal.typed_of-returns-in_err-a-in-Slice
typed_of-returns-in_err-a-in-Slice t c = out _ _ _ _ c.from_residual-in_err-a-in-Slice.ensures.1 (lost_one _ (as_slice c.in-Slice.is) c.get-in-Slice.ensures c.in_err-a-in-Slice.ensures)

pub typed_of-returns-in_ok-a-in-Slice : goal.typed_of-returns-in_ok-a-in-Slice
typed_of-returns-in_ok-a-in-Slice t c = arm_one _ (as_slice c.in-Slice.is) c.get-in-Slice.ensures _ c.in_ok-a-in-Slice.ensures c.slice.ensures

pub typed_of-returns-in_err-a-in-Zext : goal.typed_of-returns-in_err-a-in-Zext
typed_of-returns-in_err-a-in-Zext t c = out _ _ _ _ c.from_residual-in_err-a-in-Zext.ensures.1 (lost_one _ (as_zext c.in-Zext.is) c.get-in-Zext.ensures c.in_err-a-in-Zext.ensures)

pub typed_of-returns-in_ok-a-in-Zext : goal.typed_of-returns-in_ok-a-in-Zext
typed_of-returns-in_ok-a-in-Zext t c = arm_one _ (as_zext c.in-Zext.is) c.get-in-Zext.ensures _ c.in_ok-a-in-Zext.ensures c.zero_extended.ensures

pub typed_of-returns-in_err-a-in-Sext : goal.typed_of-returns-in_err-a-in-Sext
typed_of-returns-in_err-a-in-Sext t c = out _ _ _ _ c.from_residual-in_err-a-in-Sext.ensures.1 (lost_one _ (as_sext c.in-Sext.is) c.get-in-Sext.ensures c.in_err-a-in-Sext.ensures)

pub typed_of-returns-in_ok-a-in-Sext : goal.typed_of-returns-in_ok-a-in-Sext
typed_of-returns-in_ok-a-in-Sext t c = arm_one _ (as_sext c.in-Sext.is) c.get-in-Sext.ensures _ c.in_ok-a-in-Sext.ensures c.sign_extended.ensures

pub typed_of-returns-in-Call : goal.typed_of-returns-in-Call
typed_of-returns-in-Call t c = arm_call _ _ c.in-Call.is c.as_slice-in-Call.ensures c.get-in-Call.ensures c.call_of.ensures

pub args_of-returns-in_err-arg : goal.args_of-returns-in_err-arg
args_of-returns-in_err-arg t c = out _ _ _ _ c.from_residual.ensures.1 (args_lack _ c.args.plans.now c.loop-plan.plan-index c.plan-item.result c.loop-plan-test.true c.plan-item.is c.in_err-arg.ensures)

pub args_of-loop-plan-preserved : goal.args_of-loop-plan-preserved
args_of-loop-plan-preserved t c =
    rw (c.in_ok-add.ensures.codes, c.in_ok-add.ensures.widths)
    (typed_more c.args.widths.now c.args.plans.now c.loop-plan.plan-index c.plan-item.result c.loop-plan.args.codes.items c.loop-plan.args.widths.items c.in_ok-arg.arg
    c.loop-plan-test.true c.plan-item.is c.loop-plan.invariant c.in_ok-arg.ensures)

pub args_of-returns : goal.args_of-returns
args_of-returns t c =
    subst (λ ps. AreTyped c.args.widths.now ps c.loop-plan.args.codes.items c.loop-plan.args.widths.items) (take_all c.loop-plan.plan-index c.args.plans.now c.loop-plan-test.false) c.loop-plan.invariant

pub args_of-returns-in_err-add : goal.args_of-returns-in_err-add
args_of-returns-in_err-add t c = out _ _ _ _ c.from_residual-in_err-add.ensures.1 (λ q. absurd (cc q))

pub joined_of-returns-in_err-all : goal.joined_of-returns-in_err-all
joined_of-returns-in_err-all t c = out _ _ _ _ c.from_residual.ensures.1 (first_lacks _ c.in-Some.ensures.cases.0 c.in_err-all.ensures)

pub joined_of-loop-part-init : goal.joined_of-loop-part-init
joined_of-loop-part-init t c = joined_first _ c.in-Some.ensures.cases.0 c.in_ok-all.ensures

pub joined_of-returns-in-Err : goal.joined_of-returns-in-Err
joined_of-returns-in-Err t c = joined_lacks c.in-Some.rest.now c.loop-part.part-index c.loop-part.invariant c.part-item.result c.loop-part-test.true c.part-item.is c.in-Err.ensures

pub joined_of-returns-in_err-all-2 : goal.joined_of-returns-in_err-all-2
joined_of-returns-in_err-all-2 t c =
    out _ _ _ _ c.from_residual-in_err-all-2.ensures.1 (joined_over c.in-Some.rest.now c.loop-part.part-index c.loop-part.invariant c.part-item.result c.loop-part-test.true c.part-item.is c.in-Ok.ensures c.in_err-all-2.ensures)

pub joined_of-loop-part-preserved : goal.joined_of-loop-part-preserved
joined_of-loop-part-preserved t c = joined_next c.in-Some.rest.now c.loop-part.part-index c.loop-part.invariant c.part-item.result c.loop-part-test.true c.part-item.is c.in-Ok.ensures c.in_ok-all-2.ensures

pub joined_of-returns : goal.joined_of-returns
joined_of-returns t c = joined_all c.in-Some.rest.now c.loop-part.part-index c.loop-part.invariant c.loop-part-test.false

pub call_of-returns-in_err-args : goal.call_of-returns-in_err-args
call_of-returns-in_err-args t c = out _ _ _ _ c.from_residual.ensures.1 (args_missing _ _ (meaning c.args.body.now) c.in_err-args.ensures)

pub call_of-returns-in-Err : goal.call_of-returns-in-Err
call_of-returns-in-Err t c = call_lacks _ _ _ _ _ (meaning c.args.body.now) c.in_ok-args.ensures c.as_slice.ensures.value c.in-Err.ensures

pub call_of-returns-in-Ok : goal.call_of-returns-in-Ok
call_of-returns-in-Ok t c =
    made c.args.widths.now _ _ _ _ c.call.result c.of_width.result c.call.ensures c.of_width.ensures (call_gives _ _ _ _ _ _ c.in_ok-args.ensures c.as_slice.ensures.value c.in-Ok.ensures)
