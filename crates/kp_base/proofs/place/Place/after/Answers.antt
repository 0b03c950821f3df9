use Rattle.std.proofs.Common.{sym, ap, ◌∙◌, append_assoc, arith, ℕ, List, ◌++◌, take}
use Rattle.std.proofs.lemmas.List.{take_more, take_all}
use Rattle.kp_base.specs.Place.{place_after}
use Rattle.kp_base.proofs.place.Place.after.Goals as goal

pub loop-byte-preserved : goal.loop-byte-preserved
loop-byte-preserved c =
    let bytes = c.args.bytes.now in
    let i = c.loop-byte.byte-index in
    record {
      place = λ front start.
          c.next-place.ensures.place (front ++ take i bytes) (c.loop-byte.invariant.place front start)
          ∙ ap place_after (append_assoc front (take i bytes) _ ∙ ap (λ (text : List ℕ). front ++ text) (sym (take_more bytes i 0 c.loop-byte-test.true)));
      line = omega arith;
      column = omega arith;
    }

pub returns : goal.returns
returns c = λ front start.
    c.loop-byte.invariant.place front start
    ∙ ap (λ (text : List ℕ). place_after (front ++ text)) (take_all c.loop-byte.byte-index c.args.bytes.now c.loop-byte-test.false)
