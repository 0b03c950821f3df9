use Rattle.std.proofs.Common.{◌∙◌, ℕ, ◌/◌, ◌^◌, ◌==◌, bit_and, List, [], ◌∷◌, ◌++◌, map, sym, ap, arith}
use Rattle.std.proofs.lemmas.{List.FromFn.map-range_with_len_more, Nat.Bits.shr_and_one}
use Rattle.std.specs.{Int.bit_at, List.range_with_len}
use Rattle.kp_equiv.specs.declared.bit.Bit.{Bit, TheVariants.Fixed}
use Rattle.kp_equiv.proofs.wires.fixed.Goals as goal

pub loop-k-preserved : goal.loop-k-preserved
loop-k-preserved c =
    let f : ℕ → Bit = λ b. Fixed (bit_at c.args.value b == 1) in
    c.in_ok-push.ensures.items ∙ ap (λ (xs : List Bit). xs ++ Fixed (bit_and (c.args.value / 2 ^ c.loop-k.k) 1 == 1) ∷ []) c.loop-k.invariant
    ∙ ap (λ (n : ℕ). map f (range_with_len 0 c.loop-k.k) ++ Fixed (n == 1) ∷ []) (shr_and_one c.args.value c.loop-k.k)
    ∙ sym (map-range_with_len_more f 0 c.loop-k.k c.loop-k.k (omega arith))
