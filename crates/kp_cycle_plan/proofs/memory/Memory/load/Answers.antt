use Rattle.std.proofs.Common.{ℕ, List, None, get_or, sym, subst, ap, ◌∙◌, arith}
use Rattle.kp_region.specs.Words.{Words, span_words}
use Rattle.kp_cycle_plan.specs.{inner.Spans.first_span, inner.Spans.front, inner.Spans.IsLast, Storage.Stored}
use Rattle.kp_cycle_plan.proofs.Storing.{slot_found, slot_size, slot_inside, slot_beside, laid_copied, state_copied, slots_kept}
use Rattle.kp_cycle_plan.proofs.Copies.{copied_last, copied_past}
use Rattle.kp_cycle_plan.proofs.memory.Memory.load.Goals as goal

pub copy-requires-clause-same_length : goal.copy-requires-clause-same_length
copy-requires-clause-same_length c =
    let m = c.self.inside in
    let r = front m.region m.nodes in
    let g = first_span m.reg_count in
    let values : List ℕ = span_words m.region m.nodes in
    let h = c.self.invariant.0 in
    let found = slot_found values r g m.files.items m.whole m.slots.items h c.args.slot _ c.self.view_is c.requires in
    slot_size values r g m.files.items m.whole m.slots.items h c.args.slot _ found.0 c.index-copy.ensures

pub copy-requires-clause-from_within : goal.copy-requires-clause-from_within
copy-requires-clause-from_within c =
    let m = c.self.inside in
    let r = front m.region m.nodes in
    let g = first_span m.reg_count in
    let values : List ℕ = span_words m.region m.nodes in
    let h = c.self.invariant.0 in
    let found = slot_found values r g m.files.items m.whole m.slots.items h c.args.slot _ c.self.view_is c.requires in
    let slot = slot_inside values r g m.files.items m.whole m.slots.items h c.args.slot _ found.0 c.index-copy.ensures in
    omega (arith, slot, c.self.invariant.1)

pub copy-requires-clause-to_within : goal.copy-requires-clause-to_within
copy-requires-clause-to_within c =
    let whole = c.self.invariant.0.beside.within 0 (omega arith) in
    omega (arith, whole, c.self.invariant.1)

pub copy-requires-clause-disjoint : goal.copy-requires-clause-disjoint
copy-requires-clause-disjoint c =
    let m = c.self.inside in
    let r = front m.region m.nodes in
    let g = first_span m.reg_count in
    let values : List ℕ = span_words m.region m.nodes in
    let h = c.self.invariant.0 in
    let found = slot_found values r g m.files.items m.whole m.slots.items h c.args.slot _ c.self.view_is c.requires in
    slot_beside values r g m.files.items m.whole m.slots.items h c.args.slot _ found.0 c.index-copy.ensures

pub invariant_of-self : goal.invariant_of-self
invariant_of-self c =
    let m = c.self.inside in
    let r = front m.region m.nodes in
    let g = first_span m.reg_count in
    let values : List ℕ = span_words m.region m.nodes in
    let h = c.self.invariant.0 in
    let last = c.self.invariant.1 in
    let found = slot_found values r g m.files.items m.whole m.slots.items h c.args.slot _ c.self.view_is c.requires in
    let slot = slot_inside values r g m.files.items m.whole m.slots.items h c.args.slot _ found.0 c.index-copy.ensures in
    let size = slot_size values r g m.files.items m.whole m.slots.items h c.args.slot _ found.0 c.index-copy.ensures in
    let P : Words → Type 0 = λ x. IsLast m.nodes x in (
      laid_copied values r g m.files.items m.whole m.slots.items h c.args.slot _ found.0 c.index-copy.ensures (front c.copy.new.self m.nodes) (ap (λ (x : Words). front x m.nodes) c.copy.ensures.copied),
      subst P (sym c.copy.ensures.copied) (copied_last m.region m.nodes last c.index-copy.result.now.span m.whole size slot (h.beside.within 0 (omega arith))),
    )

pub returns-clause-state : goal.returns-clause-state
returns-clause-state c =
    let m = c.self.inside in
    let r = front m.region m.nodes in
    let g = first_span m.reg_count in
    let values : List ℕ = span_words m.region m.nodes in
    let h = c.self.invariant.0 in
    let found = slot_found values r g m.files.items m.whole m.slots.items h c.args.slot _ c.self.view_is c.requires in
    ap (λ (s : Stored). get_or s.slots c.args.slot None) (sym c.self.view_is)
    ∙ state_copied values r g m.files.items m.whole m.slots.items h c.args.slot _ found.0 c.index-copy.ensures (front c.copy.new.self m.nodes) (ap (λ (x : Words). front x m.nodes) c.copy.ensures.copied) found.1

pub returns-clause-nodes : goal.returns-clause-nodes
returns-clause-nodes c =
    let m = c.self.inside in
    let r = front m.region m.nodes in
    let g = first_span m.reg_count in
    let values : List ℕ = span_words m.region m.nodes in
    let h = c.self.invariant.0 in
    let found = slot_found values r g m.files.items m.whole m.slots.items h c.args.slot _ c.self.view_is c.requires in
    let slot = slot_inside values r g m.files.items m.whole m.slots.items h c.args.slot _ found.0 c.index-copy.ensures in
    let size = slot_size values r g m.files.items m.whole m.slots.items h c.args.slot _ found.0 c.index-copy.ensures in
    ap (λ (x : Words). span_words x m.nodes) c.copy.ensures.copied
    ∙ copied_past m.region m.nodes c.self.invariant.1 c.index-copy.result.now.span m.whole size slot (h.beside.within 0 (omega arith))
    ∙ ap (λ (s : Stored). s.nodes) c.self.view_is

pub returns-clause-slots : goal.returns-clause-slots
returns-clause-slots c =
    let m = c.self.inside in
    let r = front m.region m.nodes in
    let g = first_span m.reg_count in
    let values : List ℕ = span_words m.region m.nodes in
    let h = c.self.invariant.0 in
    let found = slot_found values r g m.files.items m.whole m.slots.items h c.args.slot _ c.self.view_is c.requires in
    slots_kept values r g m.files.items m.whole m.slots.items h c.args.slot _ found.0 c.index-copy.ensures (front c.copy.new.self m.nodes) (ap (λ (x : Words). front x m.nodes) c.copy.ensures.copied)
    ∙ ap (λ (s : Stored). s.slots) c.self.view_is
