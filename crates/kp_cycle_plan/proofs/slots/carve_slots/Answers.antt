use Rattle.std.proofs.Common.{◌≡◌, ◌+◌, ◌*◌, ◌^◌, ◌<◌, ◌≤◌, ℕ, List, [], ◌∷◌, ◌++◌, length, get_or, map, false, Bool, Result, subst, sym, ap, ◌∙◌, arith, append_assoc, ⊎_elim}
use Rattle.std.proofs.Math.Nat.{mul-le-mul_right}
use Rattle.std.proofs.lemmas.{List.map-append, List.replicate_more, List.get_or_append_left, List.length-append, List.get_or_at, Bool.cases_lt}
use Rattle.std.specs.Prelude.{IfOk, OnOk}
use Rattle.kp_region.specs.{declared.span.Span.Span, declared.region.Full.Full, Words.Words, Words.IsSound, Words.next_span, Words.carved, Spans.Apart}
use Rattle.kp_cycle_plan.specs.{declared.slots.Slot.Slot, inner.Spans.no_slot}
use Rattle.kp_region.proofs.Spans.{apart_carved, length_carved, ok_unless}
use Rattle.kp_cycle_plan.proofs.slots.carve_slots.Goals as goal

-- the capacity suffices for one more
room_more : (used size i count words : ℕ) → i < count → used + count * size ≤ words → used + i * size + size ≤ words
room_more used size i count words h room =
    let more : (i + 1) * size ≤ count * size = mul-le-mul_right size (let l : i + 1 ≤ count = omega arith in l) in
    omega (arith, more, room)

sizes_more : (slots : List Slot) (x : Slot) (i size : ℕ) → length slots ≡ i → x.span.len ≡ size → ((k : ℕ) → k < i → (get_or slots k no_slot).span.len ≡ size)
    → (k : ℕ) → k < i + 1 → (get_or (slots ++ x ∷ []) k no_slot).span.len ≡ size
sizes_more slots x i size many is below k l = ⊎_elim
    (λ (h : k < i). ap (λ (s : Slot). s.span.len) (get_or_append_left slots (x ∷ []) no_slot k (omega arith)) ∙ below k h)
    (λ (h : i ≤ k). let z : k ≡ length slots = omega arith in
    ap (λ (s : Slot). s.span.len) (get_or_at slots x [] no_slot k (sym z)) ∙ is)
    (cases_lt k i)

pub unwrap-span-requires : goal.unwrap-span-requires
unwrap-span-requires c =
    let inv = c.loop.invariant in
    let fit = room_more c.args.region.now.used c.args.size c.loop.counter c.args.count (length c.args.region.now.words) c.loop-test.true c.requires.room in
    ok_unless c.carve.result (λ e. absurd (let f : length c.loop.region.words < c.loop.region.used + c.args.size = c.carve.ensures.full.0 e in omega (arith, f, fit, inv.used, inv.words)))

pub loop-preserved : goal.loop-preserved
loop-preserved c =
    let inv = c.loop.invariant in
    let r = c.loop.region in
    let old = c.args.region.now in
    let size = c.args.size in
    let s = c.unwrap-span.result in
    let a = c.carve.ensures in
    let fit = room_more old.used size c.loop.counter c.args.count (length old.words) c.loop-test.true c.requires.room in
    let is : s ≡ next_span r size = (let P : Result Span Full → Type 0 = λ o. IfOk o (λ t. t ≡ next_span r size) in subst P c.unwrap-span.ensures a.span) in
    let new : c.carve.new.self ≡ carved r size = (let P : Result Span Full → Type 0 = λ o. OnOk o (c.carve.new.self ≡ carved r size) in subst P c.unwrap-span.ensures a.carved) in
    let few : r.used + size < 2 ^ 32 = omega (arith, fit, inv.used, c.requires.few) in
    let room : r.used + size ≤ length r.words = omega (arith, fit, inv.used, inv.words) in
    let items = c.loop.slots.items in
    let x : Slot = record { span = s; is_saved = false } in
    let span : Slot → Span = λ t. t.span in
    let mark : Slot → Bool = λ t. t.is_saved in
    let grown : c.push.new.self.items ≡ items ++ x ∷ [] = c.in_ok-push.ensures.items in
    let more : (c.loop.counter + 1) * size ≡ c.loop.counter * size + size = omega arith in
    let many : length (items ++ x ∷ []) ≡ length items + 1 = length-append items (x ∷ []) in
    record {
      count = ap (λ (l : List Slot). length l) grown ∙ (let e : length (items ++ x ∷ []) ≡ c.loop.counter + 1 = omega (arith, many, inv.count) in e);
      sizes = rw grown (sizes_more items x c.loop.counter size inv.count (ap (λ (t : Span). t.len) is) inv.sizes);
      unsaved = ap (map mark) grown ∙ map-append mark items (x ∷ []) ∙ ap (λ (l : List Bool). l ++ false ∷ []) inv.unsaved ∙ replicate_more c.loop.counter false;
      apart = λ spans h.
          let before : List Span = map span items in
          let one = apart_carved r (spans ++ before) size (inv.apart spans h) (subst IsSound new a.sound) few in
          let lists : (spans ++ before) ++ next_span r size ∷ [] ≡ spans ++ map span c.push.new.self.items =
          append_assoc spans before (next_span r size ∷ []) ∙ ap (λ (t : Span). spans ++ (before ++ t ∷ [])) (sym is)
          ∙ ap (λ (l : List Span). spans ++ l) (sym (map-append span items (x ∷ [])) ∙ ap (map span) (sym grown)) in
          let P : List Span → Type 0 = λ l. Apart (carved r size) l in
          let Q : Words → Type 0 = λ w. Apart w (spans ++ map span c.push.new.self.items) in
          subst Q (sym new) (subst P lists one);
      used = ap (λ (w : Words). w.used) new ∙ (let e : r.used + size ≡ old.used + (c.loop.counter + 1) * size = omega (arith, inv.used, more) in e);
      words = ap (λ (w : Words). length w.words) new ∙ length_carved r size room ∙ inv.words;
    }
