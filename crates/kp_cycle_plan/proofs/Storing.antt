-- A memory after a copy between the complete state and a slot, by what its spans hold.
use Rattle.std.proofs.Common.{◌≡◌, ◌<◌, ℕ, List, Some, None, true, length, get_or, map, set, sym, subst, ap, ◌∙◌, arith}
use Rattle.std.{proofs.lemmas.List.get_or_default, proofs.lemmas.List.length-map, specs.Prelude.IsSome}
use Rattle.kp_region.specs.{declared.span.Span.Span, Words.Words, Words.IsWithin, Words.IsDisjoint, Words.span_words, Words.copied}
use Rattle.kp_cycle_plan.specs.{declared.slots.Slot.Slot, inner.Spans.Laid, inner.Spans.no_slot, inner.Spans.state_in, inner.Spans.held}
use Rattle.kp_cycle_plan.specs.Storage.{Stored, state_of}
use Rattle.kp_cycle_plan.proofs.Copies.{is_marked, slot_within, beside_whole, laid_saved, state_saved, slots_saved, laid_loaded, held_loaded, slots_loaded}

module _ (values : List ℕ) (r : Words) (g : Span) (fs : List Span) (w : Span) (slots : List Slot) where
  abbrev pub view : Stored
  view = record { nodes = values; regs = span_words r g; files = map (span_words r) fs; slots = map (held r g fs) slots }

  module _ (h : Laid r g fs w slots) (j : ℕ) where
    -- the slot is there
    module _ (v : Stored) (view_is : view ≡ v) where
      pub slot_there : j < length v.slots → j < length slots
      slot_there few = omega (arith, few, ap (λ (s : Stored). length s.slots) view_is, length-map slots (held r g fs))

      pub slot_found : IsSome (get_or v.slots j None) → (j < length slots) × ((get_or slots j no_slot).is_saved ≡ true)
      slot_found some = is_marked r g fs w slots h j (subst (λ (s : Stored). IsSome (get_or s.slots j None)) (sym view_is) some)

    -- as it was read
    module _ (x : Slot) (there : j < length slots) (read : x ≡ get_or slots j x) where
      slot_is : x ≡ get_or slots j no_slot
      slot_is = read ∙ get_or_default slots j x no_slot there

      pub slot_size : x.span.len ≡ w.len
      slot_size = ap (λ (s : Slot). s.span.len) slot_is ∙ h.sizes j there

      pub slot_inside : IsWithin x.span r
      slot_inside = subst (λ (s : Slot). IsWithin s.span r) (sym slot_is) (slot_within r g fs w slots h j there)

      pub slot_beside : IsDisjoint x.span w
      slot_beside = subst (λ (s : Slot). IsDisjoint s.span w) (sym slot_is) (beside_whole r g fs w slots h j there)

      -- the complete state is copied into it, and then it is marked
      module _ (new : Words) (copy : new ≡ copied r w x.span) (y : Slot) (again : y ≡ get_or slots j y) where
        by_first : (P : Words → Slot → Type 0) → P (copied r w (get_or slots j no_slot).span) (get_or slots j no_slot) → P new y
        by_first P p =
            subst (λ a. P a y) (sym (copy ∙ ap (λ (s : Slot). copied r w s.span) slot_is))
            (subst (P (copied r w (get_or slots j no_slot).span)) (sym (again ∙ get_or_default slots j y no_slot there)) p)

        pub laid_marked : Laid new g fs w (set slots j (record y { is_saved = true }))
        laid_marked = by_first (λ a s. Laid a g fs w (set slots j (record s { is_saved = true }))) (laid_saved r g fs w slots h j there)

        pub view_marked : record { nodes = values; regs = span_words new g; files = map (span_words new) fs; slots = map (held new g fs) (set slots j (record y { is_saved = true })) }
            ≡ record view { slots = set view.slots j (Some (state_of view)) }
        view_marked =
            let state = state_saved r g fs w slots h j there in
            let all = slots_saved r g fs w slots h j there in
            by_first (λ a s. record { nodes = values; regs = span_words a g; files = map (span_words a) fs; slots = map (held a g fs) (set slots j (record s { is_saved = true })) }
            ≡ record view { slots = set view.slots j (Some (state_of view)) })
            (λ i. record { nodes = values; regs = (state i).regs; files = (state i).files; slots = all i })

      -- it is copied into the complete state
      module _ (new : Words) (copy : new ≡ copied r x.span w) where
        loaded : new ≡ copied r (get_or slots j no_slot).span w
        loaded = copy ∙ ap (λ (s : Slot). copied r s.span w) slot_is

        pub laid_copied : Laid new g fs w slots
        laid_copied = subst (λ a. Laid a g fs w slots) (sym loaded) (laid_loaded r g fs w slots h j there)

        pub state_copied : (get_or slots j no_slot).is_saved ≡ true → get_or view.slots j None ≡ Some (state_in new.words g fs)
        state_copied on = held_loaded r g fs w slots h j there on ∙ ap (λ (a : Words). Some (state_in a.words g fs)) (sym loaded)

        pub slots_kept : map (held new g fs) slots ≡ view.slots
        slots_kept = ap (λ (a : Words). map (held a g fs) slots) loaded ∙ slots_loaded r g fs w slots h j there
