use Rattle.std.proofs.Common.{arith, ap, sym, length-set, map, ◌∙◌}
use Rattle.kp_seq_plan.{specs.Codes.value_of, specs.Codes.space_of, proofs.Rooms.each_fits, proofs.Rooms.filled_more, proofs.CodeCalls.value_called}
use Rattle.kp_seq_plan.proofs.compute.+compute.Goals as goal

pub called-put_values-requires : goal.called-put_values-requires
called-put_values-requires t c =
    (omega (arith, c.decreases), (sym c.split_at_mut-values.ensures.front_len, each_fits space_of c.args.args.now _ (omega (arith, c.requires, c.split_at_mut-values.ensures.back_len))))

pub called-value-requires : goal.called-value-requires
called-value-requires t c =
    (omega (arith, c.decreases), omega (arith, c.requires, c.split_at_mut-values.ensures.back_len, c.put_values.ensures.room))

pub put_values-loop-i-preserved : goal.put_values-loop-i-preserved
put_values-loop-i-preserved t c =
    let n = length-set c.loop-i.values c.loop-i.i c.value.result in (
      filled_more (λ k. value_of k c.args.names.now) c.args.codes.now c.loop-i.values c.loop-i.i c.index-codes-i.result c.value.result c.loop-i-test.true
          (c.requires.count ∙ sym c.loop-i.invariant.1) c.index-codes-i.is c.value.ensures.value c.loop-i.invariant.0,
      n ∙ c.loop-i.invariant.1,
      c.value.ensures.room ∙ c.loop-i.invariant.2,
    )

pub of_others-returns-in-Call-clause-value : goal.of_others-returns-in-Call-clause-value
of_others-returns-in-Call-clause-value t c =
    let vs = c.args.names.now in
    c.called.ensures.value
    ∙ ap (λ cs. value_of c.get-in-Call.result.now (map (λ k. value_of k vs) cs)) c.as_slice.ensures
    ∙ ap (λ b. value_of b (map (λ k. value_of k vs) c.in-Call.args)) c.get-in-Call.ensures
    ∙ sym (value_called c.in-Call.args c.in-Call.body vs)
    ∙ ap (λ k. value_of k vs) (sym c.in-Call.is)
