-- Copies of the complete state are disjoint from it.
use Rattle.std.proofs.Common.{◌≡◌, ◌≢◌, ℕ, ◌+◌, ◌-◌, ◌<◌, ◌≤◌, Bool, true, false, cond, List, [], ◌∷◌, ◌++◌, length, get_or, set, map, take, drop, replicate, zero, suc, refl, sym, subst, ap, ◌∙◌, arith, ⊎_elim, inl, inr, Option, None, Some}
use Rattle.std.proofs.lemmas.List.{get_or-set_other, length-set, map-set, length-map, get_or-replicate, get_or_past, length-replicate, take-take, ext_get_or}
use Rattle.std.proofs.lemmas.{Bool.cases_lt, Bool.cases_eq, Bool.cond-true, Bool.cond-false, Slice.between_is, Grind.get_or-set_at}
use Rattle.std.{proofs.Math.ListN.get_or-map, proofs.Math.Seq.map-set_same, specs.Prelude.IsSome}
use Rattle.kp_region.specs.{declared.span.Span.Span, Words.Words, Words.IsWithin, Words.IsDisjoint, Words.span_words, Words.written, Words.copied, Spans.Apart, Spans.no_span}
use Rattle.kp_region.proofs.Spans.{copy_stays, copy_lands, length_copied, span_stays, other_way, pieces_apart, apart_still, apart_grown}
use Rattle.kp_cycle_plan.specs.declared.slots.Slot.{Slot}
use Rattle.kp_cycle_plan.specs.inner.Spans.{IsInside, IsLast, Laid, front, no_slot, part, state_in, held}
use Rattle.kp_cycle_plan.specs.Storage.{Stored, Fits, StateFits, SlotsFit, IsStateOf, state_of}
use Rattle.kp_cycle_plan.proofs.Spans.{stored_in}
use Rattle.kp_net.specs.Netlist.{Net, State}

-- lists whose elements two functions take to the same
map_alike : {X Y : Type 0} (f h : X → Y) (xs : List X) (d : X) → ((k : ℕ) → k < length xs → f (get_or xs k d) ≡ h (get_or xs k d)) → map f xs ≡ map h xs
map_alike f h [] d e = refl
map_alike f h (x ∷ xs) d e =
    let first : f x ≡ h x = e 0 (omega arith) in
    let rest : map f xs ≡ map h xs = map_alike f h xs d (λ k l. e (suc k) (omega arith)) in
    λ i. first i ∷ rest i

-- lists that differ at one index alone, where both get the same element
same_but : {X : Type 0} (xs ys : List X) (j : ℕ) (x d : X) → length xs ≡ length ys → ((k : ℕ) → k < length xs → k ≢ j → get_or xs k d ≡ get_or ys k d) → set xs j x ≡ set ys j x
same_but xs ys j x d e other =
    ext_get_or d (set xs j x) (set ys j x) (length-set xs j x ∙ e ∙ sym (length-set ys j x))
    (λ k m. let l : k < length xs = omega (arith, m, length-set xs j x) in
    ⊎_elim
    (λ (z : k ≡ j). get_or-set_at xs j k x d z (omega arith) ∙ sym (get_or-set_at ys j k x d z (omega arith)))
    (λ (no : k ≢ j). get_or-set_other xs j k x d no ∙ other k l no ∙ sym (get_or-set_other ys j k x d no))
    (cases_eq k j))

-- a span within one that is disjoint from a third is disjoint from it too
within_disjoint : (u t s : Span) → IsInside u t → IsDisjoint t s → IsDisjoint u s
within_disjoint u t s inside apart = ⊎_elim (λ below. inl (omega arith)) (λ above. inr (omega arith)) apart

saved_there : (slots : List (Option State)) (k : ℕ) → IsSome (get_or slots k None) → k < length slots
saved_there slots k some = ⊎_elim
    (λ (l : k < length slots). l)
    (λ (l : length slots ≤ k). let off : false ≡ true = subst (λ o. IsSome o) (get_or_past slots k None l) some in cc)
    (cases_lt k (length slots))

marked_saved : (b : Bool) (x : State) → IsSome (cond b (Some x) None) → b ≡ true
marked_saved true x some = refl
marked_saved false x some = some

-- the last span of a region remains so
pub written_last : (r : Words) (n s : Span) (i v : ℕ) → IsLast n r → IsLast n (written r s i v)
written_last r n s i v last = (last.0, last.1 ∙ sym (length-set r.words (s.start + i) v))

-- and when one span before it is copied to another
module _ (r : Words) (n : Span) (last : IsLast n r) (from to : Span) (same : from.len ≡ to.len) (from_before : IsWithin from (front r n)) (to_before : IsWithin to (front r n)) where
  pub copied_last : IsLast n (copied r from to)
  copied_last = (last.0, last.1 ∙ sym (length_copied r from to (omega (arith, last)) (omega (arith, last)) (omega (arith, last)) same))

  pub copied_past : span_words (copied r from to) n ≡ span_words r n
  copied_past = copy_stays r from to (omega (arith, last)) (omega (arith, last)) (omega (arith, last)) same n (inr to_before)

module _ (r : Words) (g : Span) (fs : List Span) (w : Span) (slots : List Slot) (h : Laid r g fs w slots) where
  -- the complete state, by the words of its span
  whole_state : (ws : List ℕ) → state_in (part ws w) g fs ≡ state_in ws g fs
  whole_state ws =
      let z : w.start + w.len - w.start ≡ w.len = omega arith in
      let front : part ws w ≡ take w.len ws = λ i. take (z i) (drop (h.first i) ws) in
      let one : (k : ℕ) → k < length (g ∷ fs) → part (part ws w) (get_or (g ∷ fs) k no_span) ≡ part ws (get_or (g ∷ fs) k no_span) =
      λ k l.
      let s : Span = get_or (g ∷ fs) k no_span in
      let in_whole = h.inside k l in
      let last : s.start + s.len ≤ w.len = omega (arith, in_whole, h.first) in
      ap (λ xs. part xs s) front ∙ between_is (take w.len ws) s.start (s.start + s.len) ∙ ap (drop s.start) (take-take (s.start + s.len) w.len ws last) ∙ sym (between_is ws s.start (s.start + s.len)) in
      let regs : part (part ws w) g ≡ part ws g = one 0 (omega arith) in
      let files : map (part (part ws w)) fs ≡ map (part ws) fs = map_alike (part (part ws w)) (part ws) fs no_span (λ k l. one (suc k) (omega arith)) in
      λ i. record { regs = regs i; files = files i }

  -- slot k
  module _ (k : ℕ) (there : k < length slots) where
    in_spans : get_or (map (λ (s : Slot). s.span) slots) k no_span ≡ (get_or slots k no_slot).span
    in_spans = get_or-map (λ (s : Slot). s.span) slots k no_slot

    many : suc k < length (w ∷ map (λ (s : Slot). s.span) slots)
    many = omega (arith, length-map slots (λ (s : Slot). s.span))

    pub slot_within : IsWithin (get_or slots k no_slot).span r
    slot_within = subst (λ s. IsWithin s r) in_spans (h.beside.within (suc k) many)

    pub beside_whole : IsDisjoint (get_or slots k no_slot).span w
    beside_whole = subst (λ s. IsDisjoint s w) in_spans (other_way w (get_or (map (λ (x : Slot). x.span) slots) k no_span) (h.beside.apart 0 (suc k) (omega arith) many))

  slots_beside : (j k : ℕ) → j < length slots → k < length slots → j ≢ k → IsDisjoint (get_or slots j no_slot).span (get_or slots k no_slot).span
  slots_beside j k lj lk apart =
      subst (λ s. IsDisjoint (get_or slots j no_slot).span s) (in_spans k lk) (subst (λ s. IsDisjoint s (get_or (map (λ (x : Slot). x.span) slots) k no_span)) (in_spans j lj)
      (pieces_apart r (w ∷ map (λ (s : Slot). s.span) slots) (suc j) (suc k) h.beside (many j lj) (many k lk) (λ z. apart (omega arith))))

  -- a slot that holds a state is there, and was saved
  pub is_marked : (j : ℕ) → IsSome (get_or (map (held r g fs) slots) j None) → (j < length slots) × ((get_or slots j no_slot).is_saved ≡ true)
  is_marked j some =
      let x : Slot = get_or slots j no_slot in
      let there : j < length slots = omega (arith, saved_there (map (held r g fs) slots) j some, length-map slots (held r g fs)) in
      (there, marked_saved x.is_saved (state_in (span_words r x.span) g fs) (subst (λ o. IsSome o) (get_or-map (held r g fs) slots j no_slot) some))

  -- all slots before and after a change that keeps them
  slots_stay : (new : Words) → ((k : ℕ) → k < length slots → span_words new (get_or slots k no_slot).span ≡ span_words r (get_or slots k no_slot).span) → map (held new g fs) slots ≡ map (held r g fs) slots
  slots_stay new keeps = map_alike (held new g fs) (held r g fs) slots no_slot (λ k l i. cond (get_or slots k no_slot).is_saved (Some (state_in (keeps k l i) g fs)) None)

  laid_still : (new : Words) → new.used ≡ r.used → length new.words ≡ length r.words → Laid new g fs w slots
  laid_still new used many = record {
    apart = apart_still r new (g ∷ fs) h.apart used many;
    first = h.first;
    inside = h.inside;
    beside = apart_still r new (w ∷ map (λ s. s.span) slots) h.beside used many;
    sizes = h.sizes;
  }

  -- a write to a register or a file
  pub laid_written : (s : Span) (i v : ℕ) → Laid (written r s i v) g fs w slots
  laid_written s i v = laid_still (written r s i v) refl (length-set r.words (s.start + i) v)

  pub part_written : (k i v : ℕ) → k < length (g ∷ fs) → i < (get_or (g ∷ fs) k no_span).len
      → map (held (written r (get_or (g ∷ fs) k no_span) i v) g fs) slots ≡ map (held r g fs) slots
  part_written k i v l m =
      let s : Span = get_or (g ∷ fs) k no_span in
      slots_stay (written r s i v)
      (λ j there. let t : Span = (get_or slots j no_slot).span in span_stays r t s i v (other_way s t (within_disjoint s w t (h.inside k l) (other_way t w (beside_whole j there)))) m)

  -- a write to words past those that are used
  module _ (ws : List ℕ) (same : take r.used ws ≡ take r.used r.words) where
    abbrev later : Words
    later = record r { words = ws }

    span_kept : (s : Span) → IsWithin s r → span_words later s ≡ span_words r s
    span_kept s in_used =
        let end : ℕ = s.start + s.len in
        let first : take end ws ≡ take end r.words = sym (take-take end r.used ws in_used) ∙ ap (take end) same ∙ take-take end r.used r.words in_used in
        between_is ws s.start end ∙ ap (drop s.start) first ∙ sym (between_is r.words s.start end)

    pub laid_past : length ws ≡ length r.words → Laid later g fs w slots
    laid_past many = laid_still later refl many

    pub view_past : (values : List ℕ) → stored_in values g fs (map (held later g fs) slots) later ≡ stored_in values g fs (map (held r g fs) slots) r
    view_past values =
        let regs : span_words later g ≡ span_words r g = span_kept g (h.apart.within 0 (omega arith)) in
        let files : map (span_words later) fs ≡ map (span_words r) fs = map_alike (span_words later) (span_words r) fs no_span (λ k l. span_kept (get_or fs k no_span) (h.apart.within (suc k) (omega arith))) in
        let states : map (held later g fs) slots ≡ map (held r g fs) slots = slots_stay later (λ k l. span_kept (get_or slots k no_slot).span (slot_within k l)) in
        λ i. record { nodes = values; regs = regs i; files = files i; slots = states i }

  -- the complete state copied into slot j
  module _ (j : ℕ) (there : j < length slots) where
    abbrev target : Slot
    target = get_or slots j no_slot

    abbrev saved : Words
    saved = copied r w target.span

    abbrev marked : List Slot
    marked = set slots j (record target { is_saved = true })

    whole_within : IsWithin w r
    whole_within = h.beside.within 0 (omega arith)

    same_size : w.len ≡ target.span.len
    same_size = sym (h.sizes j there)

    saved_stays : (s : Span) → IsDisjoint s target.span → span_words saved s ≡ span_words r s
    saved_stays = copy_stays r w target.span h.apart.sound whole_within (slot_within j there) same_size

    still : Laid saved g fs w slots
    still = laid_still saved refl (length_copied r w target.span h.apart.sound whole_within (slot_within j there) same_size)

    pub laid_saved : Laid saved g fs w marked
    laid_saved = record {
      apart = still.apart;
      first = still.first;
      inside = still.inside;
      beside = subst (λ ss. Apart saved (w ∷ ss)) (sym (map-set_same (λ (s : Slot). s.span) slots j (record target { is_saved = true }) no_slot refl)) still.beside;
      sizes = λ k l.
          let len : Slot → ℕ = λ s. s.span.len in
          sym (get_or-map len marked k no_slot) ∙ ap (λ (ns : List ℕ). get_or ns k 0) (map-set_same len slots j (record target { is_saved = true }) no_slot refl)
          ∙ get_or-map len slots k no_slot ∙ h.sizes k (omega (arith, l, length-set slots j (record target { is_saved = true })));
    }

    pub state_saved : state_in saved.words g fs ≡ state_in r.words g fs
    state_saved = sym (whole_state saved.words) ∙ ap (λ ws. state_in ws g fs) (saved_stays w (other_way target.span w (beside_whole j there))) ∙ whole_state r.words

    pub slots_saved : map (held saved g fs) marked ≡ set (map (held r g fs) slots) j (Some (state_in r.words g fs))
    slots_saved =
        map-set (held saved g fs) slots j (record target { is_saved = true })
        ∙ ap (λ (ws : List ℕ). set (map (held saved g fs) slots) j (Some (state_in ws g fs))) (copy_lands r w target.span h.apart.sound whole_within (slot_within j there) same_size)
        ∙ ap (λ (st : State). set (map (held saved g fs) slots) j (Some st)) (whole_state r.words)
        ∙ same_but (map (held saved g fs) slots) (map (held r g fs) slots) j (Some (state_in r.words g fs)) None (length-map slots (held saved g fs) ∙ sym (length-map slots (held r g fs)))
        (λ k m no.
        let l : k < length slots = omega (arith, m, length-map slots (held saved g fs)) in
        get_or-map (held saved g fs) slots k no_slot
        ∙ (λ i. cond (get_or slots k no_slot).is_saved (Some (state_in (saved_stays (get_or slots k no_slot).span (slots_beside k j l there no) i) g fs)) None)
        ∙ sym (get_or-map (held r g fs) slots k no_slot))

    -- and slot j copied into the complete state
    abbrev loaded : Words
    loaded = copied r target.span w

    pub laid_loaded : Laid loaded g fs w slots
    laid_loaded = laid_still loaded refl (length_copied r target.span w h.apart.sound (slot_within j there) whole_within (h.sizes j there))

    pub slots_loaded : map (held loaded g fs) slots ≡ map (held r g fs) slots
    slots_loaded = slots_stay loaded (λ k l. copy_stays r target.span w h.apart.sound (slot_within j there) whole_within (h.sizes j there) (get_or slots k no_slot).span (beside_whole k l))

    pub held_loaded : target.is_saved ≡ true → get_or (map (held r g fs) slots) j None ≡ Some (state_in loaded.words g fs)
    held_loaded on =
        get_or-map (held r g fs) slots j no_slot
        ∙ cond-true target.is_saved (Some (state_in (span_words r target.span) g fs)) None on
        ∙ ap (λ (ws : List ℕ). Some (state_in ws g fs)) (sym (copy_lands r target.span w h.apart.sound (slot_within j there) whole_within (h.sizes j there)))
        ∙ ap (λ (st : State). Some st) (whole_state loaded.words)

-- spans that were carved one after another from the start of a region, followed by slots
pub laid_out : (r new : Words) (g : Span) (fs : List Span) (w : Span) (slots : List Slot) (count : ℕ) → Apart r (g ∷ fs)
    → ((k : ℕ) → k < length (g ∷ fs) → g.start ≤ (get_or (g ∷ fs) k no_span).start) → g.start ≡ 0 → w.start ≡ g.start → r.used ≡ w.start + w.len
    → ((spans : List Span) → Apart r spans → Apart new (spans ++ map (λ s. s.span) slots)) → r.used ≤ new.used → length slots ≡ count
    → ((k : ℕ) → k < count → (get_or slots k no_slot).span.len ≡ w.len) → Laid new g fs w slots
laid_out r new g fs w slots count h starts at_start begin end later grown many sizes =
    let one : Apart r (w ∷ []) = record {
      sound = h.sound;
      few = h.few;
      within = λ k l. let z : 0 ≡ k = omega arith in subst (λ n. IsWithin (get_or (w ∷ []) n no_span) r) z (omega arith);
      apart = λ j k x l. absurd (omega arith);
    } in
    let all : Apart new (w ∷ map (λ s. s.span) slots) = later (w ∷ []) one in
    record {
      apart = apart_grown r new (g ∷ fs) (w ∷ map (λ s. s.span) slots) h all grown;
      first = begin ∙ at_start;
      inside = λ k l. let first = starts k l in let past = h.within k (omega arith) in (omega (arith, first, begin), omega (arith, past, end));
      beside = all;
      sizes = λ k l. sizes k (omega (arith, many));
    }

-- what a slot holds that was not saved
abbrev nothing : Option State
nothing = None

-- slots that were not saved hold nothing
pub unsaved : (r : Words) (g : Span) (fs : List Span) (slots : List Slot) (count : ℕ) → length slots ≡ count → map (λ s. s.is_saved) slots ≡ replicate count false
    → map (held r g fs) slots ≡ replicate count nothing
unsaved r g fs slots count many off =
    ext_get_or nothing (map (held r g fs) slots) (replicate count nothing)
    (length-map slots (held r g fs) ∙ many ∙ sym (length-replicate count nothing))
    (λ k l. let l' : k < count = omega (arith, l, length-map slots (held r g fs)) in
    let x : Slot = get_or slots k no_slot in
    let no : x.is_saved ≡ false = sym (get_or-map (λ (s : Slot). s.is_saved) slots k no_slot) ∙ ap (λ (bs : List Bool). get_or bs k false) off ∙ get_or-replicate count k false false l' in
    get_or-map (held r g fs) slots k no_slot
    ∙ cond-false x.is_saved (Some (state_in (span_words r x.span) g fs)) None no
    ∙ sym (get_or-replicate count k nothing nothing l'))

-- no slot was saved yet
none_replicated : (n k : ℕ) → get_or (replicate n nothing) k nothing ≡ nothing
none_replicated zero k = refl
none_replicated (suc n) zero = refl
none_replicated (suc n) (suc k) = none_replicated n k

pub none_saved : (net : Net) (slots : List (Option State)) (n : ℕ) → slots ≡ replicate n None → SlotsFit net slots
none_saved net slots n is k st at = absurd (let e : get_or slots k None ≡ None = ap (λ (l : List (Option State)). get_or l k None) is ∙ none_replicated n k in cc)

-- the slots once a state was saved in one of them
pub slots_saved_fit : (net : Net) (slots : List (Option State)) (k : ℕ) (st : State) → k < length slots → SlotsFit net slots → IsStateOf net st → SlotsFit net (set slots k (Some st))
slots_saved_fit net slots k st there fit is j t at =
    ⊎_elim
    (λ (z : j ≡ k). let e : Some st ≡ Some t = sym (get_or-set_at slots k j (Some st) None z there) ∙ at in
    let same : st ≡ t = cc in
    subst (IsStateOf net) same is)
    (λ (no : j ≢ k). fit j t (sym (get_or-set_other slots k j (Some st) None no) ∙ at))
    (cases_eq j k)

-- what a memory holds of registers and files is a state of its netlist, and the other way round
pub is_state : (net : Net) (m : Stored) → Fits net m → StateFits net (state_of m) → IsStateOf net (state_of m)
is_state net m h fit = record { regs = h.regs; files = h.files; words = h.words; fit = fit }

pub fits_loaded : (net : Net) (m new : Stored) → Fits net m → IsStateOf net (state_of new) → new.nodes ≡ m.nodes → Fits net new
fits_loaded net m new h is nodes =
    record { right = h.right; nodes = ap (λ (l : List ℕ). length l) nodes ∙ h.nodes; regs = is.regs; files = is.files; words = is.words }

pub fits_slots : (net : Net) (m : Stored) (slots : List (Option State)) → Fits net m → Fits net (record m { slots = slots })
fits_slots net m slots h = record { right = h.right; nodes = h.nodes; regs = h.regs; files = h.files; words = h.words }
