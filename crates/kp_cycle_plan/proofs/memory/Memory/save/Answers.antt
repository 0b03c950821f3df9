use Rattle.std.proofs.Common.{◌≡◌, ℕ, List, true, map, Some, set, sym, subst, ap, ◌∙◌, arith}
use Rattle.kp_region.{specs.Words.Words, specs.Words.span_words, proofs.Spans.other_way}
use Rattle.kp_cycle_plan.specs.{inner.Spans.first_span, inner.Spans.front, inner.Spans.IsLast, inner.Spans.held, Storage.Stored, Storage.state_of}
use Rattle.kp_cycle_plan.proofs.Storing.{slot_there, slot_size, slot_inside, slot_beside, laid_marked, view_marked}
use Rattle.kp_cycle_plan.proofs.Copies.{copied_last, copied_past}
use Rattle.kp_cycle_plan.proofs.memory.Memory.save.Goals as goal

pub copy-requires-clause-same_length : goal.copy-requires-clause-same_length
copy-requires-clause-same_length c =
    let m = c.self.inside in
    let r = front m.region m.nodes in
    let g = first_span m.reg_count in
    let values : List ℕ = span_words m.region m.nodes in
    let h = c.self.invariant.0 in
    let there = slot_there values r g m.files.items m.whole m.slots.items h c.args.slot _ c.self.view_is c.requires in
    sym (slot_size values r g m.files.items m.whole m.slots.items h c.args.slot _ there c.index-copy.ensures)

pub copy-requires-clause-from_within : goal.copy-requires-clause-from_within
copy-requires-clause-from_within c =
    let whole = c.self.invariant.0.beside.within 0 (omega arith) in
    omega (arith, whole, c.self.invariant.1)

pub copy-requires-clause-to_within : goal.copy-requires-clause-to_within
copy-requires-clause-to_within c =
    let m = c.self.inside in
    let r = front m.region m.nodes in
    let g = first_span m.reg_count in
    let values : List ℕ = span_words m.region m.nodes in
    let h = c.self.invariant.0 in
    let there = slot_there values r g m.files.items m.whole m.slots.items h c.args.slot _ c.self.view_is c.requires in
    let slot = slot_inside values r g m.files.items m.whole m.slots.items h c.args.slot _ there c.index-copy.ensures in
    omega (arith, slot, c.self.invariant.1)

pub copy-requires-clause-disjoint : goal.copy-requires-clause-disjoint
copy-requires-clause-disjoint c =
    let m = c.self.inside in
    let r = front m.region m.nodes in
    let g = first_span m.reg_count in
    let values : List ℕ = span_words m.region m.nodes in
    let h = c.self.invariant.0 in
    let there = slot_there values r g m.files.items m.whole m.slots.items h c.args.slot _ c.self.view_is c.requires in
    other_way _ _ (slot_beside values r g m.files.items m.whole m.slots.items h c.args.slot _ there c.index-copy.ensures)

pub invariant_of-self : goal.invariant_of-self
invariant_of-self c =
    let m = c.self.inside in
    let r = front m.region m.nodes in
    let g = first_span m.reg_count in
    let values : List ℕ = span_words m.region m.nodes in
    let h = c.self.invariant.0 in
    let last = c.self.invariant.1 in
    let there = slot_there values r g m.files.items m.whole m.slots.items h c.args.slot _ c.self.view_is c.requires in
    let slot = slot_inside values r g m.files.items m.whole m.slots.items h c.args.slot _ there c.index-copy.ensures in
    let size = slot_size values r g m.files.items m.whole m.slots.items h c.args.slot _ there c.index-copy.ensures in
    let P : Words → Type 0 = λ x. IsLast m.nodes x in (
      laid_marked values r g m.files.items m.whole m.slots.items h c.args.slot _ there c.index-copy.ensures (front c.copy.new.self m.nodes) (ap (λ (x : Words). front x m.nodes) c.copy.ensures.copied) c.index_mut.result.now c.index_mut.ensures.value,
      subst P (sym c.copy.ensures.copied) (copied_last m.region m.nodes last m.whole c.index-copy.result.now.span (sym size) (h.beside.within 0 (omega arith)) slot),
    )

pub returns : goal.returns
returns c =
    let m = c.self.inside in
    let r = front m.region m.nodes in
    let g = first_span m.reg_count in
    let values : List ℕ = span_words m.region m.nodes in
    let h = c.self.invariant.0 in
    let last = c.self.invariant.1 in
    let there = slot_there values r g m.files.items m.whole m.slots.items h c.args.slot _ c.self.view_is c.requires in
    let new : Words = c.copy.new.self in
    let y = c.index_mut.result.now in
    let slot = slot_inside values r g m.files.items m.whole m.slots.items h c.args.slot _ there c.index-copy.ensures in
    let size = slot_size values r g m.files.items m.whole m.slots.items h c.args.slot _ there c.index-copy.ensures in
    let nodes : span_words new m.nodes ≡ values = ap (λ (x : Words). span_words x m.nodes) c.copy.ensures.copied
    ∙ copied_past m.region m.nodes last m.whole c.index-copy.result.now.span (sym size) (h.beside.within 0 (omega arith)) slot in
    ap (λ (v : List ℕ). record { nodes = v; regs = span_words new g; files = map (span_words new) m.files.items; slots = map (held new g m.files.items) (set m.slots.items c.args.slot (record y { is_saved = true })) }) nodes
    ∙ view_marked values r g m.files.items m.whole m.slots.items h c.args.slot _ there c.index-copy.ensures (front new m.nodes) (ap (λ (x : Words). front x m.nodes) c.copy.ensures.copied) y c.index_mut.ensures.value
    ∙ ap (λ (s : Stored). record s { slots = set s.slots c.args.slot (Some (state_of s)) }) c.self.view_is
