use Rattle.std.proofs.Common.{◌∙◌, List, [], ◌∷◌, ◌++◌, sym, ap, arith}
use Rattle.std.proofs.lemmas.List.FromFn.{map-range_with_len_more}
use Rattle.kp_equiv.specs.declared.bit.Bit.{Bit, TheVariants.Of}
use Rattle.kp_equiv.proofs.wires.own.Goals as goal

pub loop-k-preserved : goal.loop-k-preserved
loop-k-preserved c =
    c.in_ok-push.ensures.items ∙ ap (λ (xs : List Bit). xs ++ Of c.args.number c.loop-k.k ∷ []) c.loop-k.invariant
    ∙ sym (map-range_with_len_more (Of c.args.number) 0 c.loop-k.k c.loop-k.k (omega arith))
