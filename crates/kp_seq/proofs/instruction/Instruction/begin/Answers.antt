use Rattle.std.proofs.Common.{◌≡◌, ◌∙◌, ◌++◌, ℕ, List, None, Bool, false, length, take, drop, replicate, sym, ap}
use Rattle.std.proofs.lemmas.List.{length-replicate}
use Rattle.std.specs.Vec.{with_items}
use Rattle.kp_region.specs.Words.{replaced}
use Rattle.kp_seq.{specs.inner.Resolved.begun_at, specs.inner.Flight.where_set}
use Rattle.kp_seq.proofs.Flight.{where_length, where_none, refill_same, outputs_are}
use Rattle.kp_seq.proofs.instruction.Instruction.begin.Goals as goal

pub returns : goal.returns
returns c =
    let u = c.self.inside in
    let ps = u.pipes.words in
    let bs = u.is_set.items in
    let ws = u.results.words in
    let zero : ℕ = 0 in
    let zeros : c.fill.new.self ≡ replicate (length ps) zero = c.fill.ensures.after (λ y e. e) ∙ ap (λ (xs : List ℕ). replicate (length xs) zero) c.all_mut.ensures.value in
    let none : c.fill-2.new.self ≡ replicate (length bs) false = c.fill-2.ensures.after (λ y e. e) ∙ ap (λ (xs : List Bool). replicate (length xs) false) c.as_mut_slice.ensures.value in
    let pipes : (replaced u.pipes c.fill.new.self).words ≡ replicate (length ps) zero = refill_same ps c.fill.new.self (ap length zeros ∙ length-replicate (length ps) zero) ∙ zeros in
    let marks : (with_items u.is_set c.fill-2.new.self).items ≡ replicate (length bs) false =
    ap (λ (n : ℕ). take n (c.fill-2.new.self ++ drop (length c.fill-2.new.self) bs)) u.is_set.ok.0 ∙ refill_same bs c.fill-2.new.self (ap length none ∙ length-replicate (length bs) false) ∙ none in
    outputs_are u.names.words _ _ _ _ pipes
    (ap (λ (m : List Bool). where_set m ws) marks ∙ where_none (length bs) ws ∙ ap (λ (n : ℕ). replicate n None) (sym (where_length bs ws)))
    ∙ ap begun_at c.self.view_is
