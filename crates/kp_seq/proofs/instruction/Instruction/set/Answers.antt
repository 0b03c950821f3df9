use Rattle.std.proofs.Common.{◌≡◌, ◌∙◌, ◌<◌, ℕ, List, None, Some, true, false, length, get_or, set, refl, sym, ap, arith}
use Rattle.std.proofs.lemmas.List.{get_or_default, length-set}
use Rattle.kp_pipeline.specs.Sequential.{first_value}
use Rattle.kp_seq.specs.inner.{Resolved.Raw, Resolved.set_first, Flight.where_set}
use Rattle.kp_seq.proofs.Flight.{where_first, where_kept, where_past, refill_same, outputs_are}
use Rattle.kp_seq.proofs.instruction.Instruction.set.Goals.{then-target-len-via-then-target-len, then-target-len-via-else-target-len+then-index}
use Rattle.kp_seq.proofs.instruction.Instruction.set.Goals as goal

pub returns-then-target-len : goal.returns-then-target-len
returns-then-target-len c =
    let u = c.self.inside in
    let bs = u.is_set.items in
    let ws = u.results.words in
    let t = c.args.target in
    let v = c.args.value in
    let kept : where_set bs ws ≡ set (where_set bs ws) t (first_value (get_or (where_set bs ws) t None) (Some v)) =
    elim c.then-target-len.branch [
      | then-target-len-via-then-target-len w ↦ where_past bs ws t v (omega (arith, w.if-target-len.true, c.len.ensures, u.is_set.ok.0))
      | then-target-len-via-else-target-len+then-index w ↦
          let l : t < length bs = omega (arith, w.if-target-len.false, c.len.ensures, u.is_set.ok.0) in
          where_kept bs ws t v (sym (w.index.ensures ∙ get_or_default bs t _ false l) ∙ w.if-index.true)
    ] in
    sym c.self.view_is ∙ outputs_are u.names.words u.pipes.words u.pipes.words _ _ refl kept ∙ ap (λ (r : Raw). set_first r t v) c.self.view_is

pub returns : goal.returns
returns c =
    let u = c.self.inside in
    let bs = u.is_set.items in
    let ws = u.results.words in
    let t = c.args.target in
    let v = c.args.value in
    let l : t < length bs = omega (arith, c.if-target-len.false, c.len.ensures, u.is_set.ok.0) in
    let off : get_or bs t false ≡ false = sym (c.index.ensures ∙ get_or_default bs t _ false l) ∙ c.if-index.false in
    let put : c.put_at.new.words ≡ set ws t v = c.put_at.ensures ∙ ap (λ (xs : List ℕ). set xs t v) c.all_mut.ensures.value in
    let new = refill_same ws c.put_at.new.words (ap length put ∙ length-set ws t v) ∙ put in
    outputs_are u.names.words u.pipes.words u.pipes.words _ _ refl (ap (where_set (set bs t true)) new ∙ where_first bs ws t v (omega (arith, l, c.self.invariant)) off)
    ∙ ap (λ (r : Raw). set_first r t v) c.self.view_is
