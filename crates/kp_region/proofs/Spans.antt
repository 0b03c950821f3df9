-- Reading, writing and copying words in disjoint spans.
use Rattle.std.proofs.Common.{◌≡◌, ◌≢◌, ℕ, ◌+◌, ◌-◌, ◌^◌, ◌<◌, ◌≤◌, List, [], ◌∷◌, ◌++◌, length, get_or, set, map, take, drop, replicate, Ok, Err, suc, refl, sym, subst, ap, ◌∙◌, arith, ⊎_elim, inl, inr, length-append, length-drop}
use Rattle.std.proofs.lemmas.List.{get_or-set_other, length-set, get_or-map, drop-set-add, drop-set-lt, take-set-le, get_or_append_left, length-take-le, length-replicate, length-map, take_at, drop_at, drop-take, drop-drop, take-append-le, take_all, ext_get_or}
use Rattle.std.proofs.lemmas.{Bool.cases_lt, Bool.cases_eq, Slice.between_is, List.Edits.length-between, Grind.get_or-set_at}
use Rattle.std.proofs.Math.Seq.{take-set-lt, take-append-add, get_or-append_right}
use Rattle.std.specs.{List.refill, List.length_refill, Prelude.Result, Prelude.IsOk, Prelude.IsErr, Prelude.IfOk, Prelude.OnOk}
use Rattle.kp_region.specs.declared.{span.Span.Span, region.Full.Full}
use Rattle.kp_region.specs.Words.{Words, IsSound, IsWithin, IsDisjoint, span_words, next_span, carved, written, filled, copied, overwritten}
use Rattle.kp_region.{specs.Spans.Apart, specs.Spans.no_span, proofs.Laid.laid_below, proofs.Laid.laid_above}

-- a span holds as many words as its length says
pub span_length : (r : Words) (s : Span) → IsSound r → IsWithin s r → length (span_words r s) ≡ s.len
span_length r s sound within = omega (arith, length-between r.words s.start (s.start + s.len) (omega (arith, sound, within)))

-- a write into a span is a write into what it holds, and leaves what spans hold that share no word with it
pub span_lands : (r : Words) (s : Span) (i v : ℕ) → i < s.len → span_words (written r s i v) s ≡ set (span_words r s) i v
span_lands r s i v h = ap (take (s.start + s.len - s.start)) (drop-set-add s.start r.words i v) ∙ take-set-lt (s.start + s.len - s.start) (drop s.start r.words) i v (omega arith)

pub span_stays : (r : Words) (s t : Span) (i v : ℕ) → IsDisjoint s t → i < t.len → span_words (written r t i v) s ≡ span_words r s
span_stays r s t i v apart h =
    ⊎_elim
    (λ below. between_is (set r.words (t.start + i) v) s.start (s.start + s.len) ∙ ap (drop s.start) (take-set-le (s.start + s.len) r.words (t.start + i) v (omega arith)) ∙ sym (between_is r.words s.start (s.start + s.len)))
    (λ above. ap (take (s.start + s.len - s.start)) (drop-set-lt s.start r.words (t.start + i) v (omega arith)))
    apart

pub other_way : (s t : Span) → IsDisjoint s t → IsDisjoint t s
other_way s t apart = ⊎_elim (λ below. inr below) (λ above. inl above) apart

-- two of the spans
pub pieces_apart : (r : Words) (spans : List Span) (j k : ℕ) → Apart r spans → j < length spans → k < length spans → j ≢ k → IsDisjoint (get_or spans j no_span) (get_or spans k no_span)
pieces_apart r spans j k h lj lk apart =
    ⊎_elim (λ (x : j < k). h.apart j k x lk) (λ (x : k ≤ j). other_way (get_or spans k no_span) (get_or spans j no_span) (h.apart k j (omega arith) lj)) (cases_lt j k)

-- a write into one of the spans is a write into what that one holds
pub write_one : (r : Words) (spans : List Span) (k i v : ℕ) → Apart r spans → k < length spans → i < (get_or spans k no_span).len
    → map (span_words (written r (get_or spans k no_span) i v)) spans ≡ set (map (span_words r) spans) k (set (span_words r (get_or spans k no_span)) i v)
write_one r spans k i v h l m =
    let t : Span = get_or spans k no_span in
    let new : Words = written r t i v in
    let old : List (List ℕ) = map (span_words r) spans in
    let ws : List ℕ = set (span_words r t) i v in
    ext_get_or [] (map (span_words new) spans) (set old k ws) (length-map spans (span_words new) ∙ sym (length-map spans (span_words r)) ∙ sym (length-set old k ws))
    (λ j n. let there : j < length spans = omega (arith, n, length-map spans (span_words new)) in
    get_or-map (span_words new) spans j no_span [] there
    ∙ ⊎_elim
    (λ (z : j ≡ k). ap (λ x. span_words new (get_or spans x no_span)) z ∙ span_lands r t i v m ∙ sym (get_or-set_at old k j ws [] z (omega (arith, length-map spans (span_words r)))))
    (λ (no : j ≢ k). span_stays r (get_or spans j no_span) t i v (pieces_apart r spans j k h there l no) m ∙ sym (get_or-map (span_words r) spans j no_span [] there) ∙ sym (get_or-set_other old k j ws [] no))
    (cases_eq j k))

-- spans stay side by side when the words of a region change
pub apart_still : (r new : Words) (spans : List Span) → Apart r spans → new.used ≡ r.used → length new.words ≡ length r.words → Apart new spans
apart_still r new spans h used many =
    record { sound = omega (arith, h.sound); few = omega (arith, h.few); within = λ k l. let w = h.within k l in omega (arith, w); apart = h.apart }

-- and with the span that is carved next
pub apart_carved : (r : Words) (spans : List Span) (n : ℕ) → Apart r spans → IsSound (carved r n) → r.used + n < 2 ^ 32 → Apart (carved r n) (spans ++ next_span r n ∷ [])
apart_carved r spans n h sound few =
    let s : Span = next_span r n in
    let more : length (spans ++ s ∷ []) ≡ length spans + 1 = length-append spans (s ∷ []) in
    let last : (k : ℕ) → length spans ≤ k → k < length spans + 1 → get_or (spans ++ s ∷ []) k no_span ≡ s =
    λ k a b. let z : k - length spans ≡ 0 = omega arith in get_or-append_right spans (s ∷ []) k no_span a ∙ ap (λ x. get_or (s ∷ []) x no_span) z in
    record {
      sound = sound;
      few = few;
      within = λ k l. ⊎_elim
          (λ (x : k < length spans). let w = h.within k x in rw (get_or_append_left spans (s ∷ []) no_span k x) (omega (arith, w)))
          (λ (x : length spans ≤ k). rw (last k x (omega (arith, more))) (omega arith))
          (cases_lt k (length spans));
      apart = λ j k x l. ⊎_elim
          (λ (y : k < length spans). rw (get_or_append_left spans (s ∷ []) no_span k y, get_or_append_left spans (s ∷ []) no_span j (omega arith)) (h.apart j k x y))
          (λ (y : length spans ≤ k). let jl : j < length spans = omega (arith, more) in
          rw (last k y (omega (arith, more)), get_or_append_left spans (s ∷ []) no_span j jl) (inl (h.within j jl)))
          (cases_lt k (length spans));
    }

-- disjoint spans remain so when more of a region is used
pub apart_grown : (r new : Words) (spans more : List Span) → Apart r spans → Apart new more → r.used ≤ new.used → Apart new spans
apart_grown r new spans more h later grown =
    record { sound = later.sound; few = later.few; within = λ k l. let w = h.within k l in omega (arith, w, grown); apart = h.apart }

-- carving leaves the number of words
pub length_carved : (r : Words) (n : ℕ) → r.used + n ≤ length r.words → length (carved r n).words ≡ length r.words
length_carved r n h =
    let zero : ℕ = 0 in
    let zeros : List ℕ = replicate n zero in
    let rest : List ℕ = drop (r.used + length zeros) r.words in
    omega (arith, length-append (take r.used r.words) (zeros ++ rest), length-append zeros rest, length-replicate n zero, length-take-le r.used r.words (omega (arith, h)), length-drop (r.used + length zeros) r.words)

-- all words of a span are written
module _ (r : Words) (to : Span) (ws : List ℕ) (sound : IsSound r) (within : IsWithin to r) (same : length ws ≡ to.len) where
  room : to.start ≤ length r.words
  room = omega arith

  pub length_filled : length (filled r to ws).words ≡ length r.words
  length_filled =
      let rest : List ℕ = drop (to.start + length ws) r.words in
      omega (arith, length-append (take to.start r.words) (ws ++ rest), length-append ws rest, length-take-le to.start r.words room, length-drop (to.start + length ws) r.words)

  -- what is disjoint from it stays, and it holds them
  pub fill_stays : (s : Span) → IsDisjoint s to → span_words (filled r to ws) s ≡ span_words r s
  fill_stays s apart =
      ⊎_elim
      (λ below. laid_below r.words ws to.start room s.start (s.start + s.len) below)
      (λ above. laid_above r.words ws to.start room s.start (s.start + s.len) (omega (arith, same)))
      apart

  pub fill_lands : span_words (filled r to ws) to ≡ ws
  fill_lands =
      let rest : List ℕ = drop (to.start + length ws) r.words in
      ap (take (to.start + to.len - to.start)) (drop_at (take to.start r.words) (ws ++ rest) to.start (length-take-le to.start r.words room))
      ∙ take_at ws rest (to.start + to.len - to.start) (omega (arith, same))

-- spans that hold the same
pub spans_kept : (r new : Words) (spans : List Span) → ((k : ℕ) → k < length spans → span_words new (get_or spans k no_span) ≡ span_words r (get_or spans k no_span))
    → map (span_words new) spans ≡ map (span_words r) spans
spans_kept r new [] e = refl
spans_kept r new (s ∷ spans) e =
    let first : span_words new s ≡ span_words r s = e 0 (omega arith) in
    let rest : map (span_words new) spans ≡ map (span_words r) spans = spans_kept r new spans (λ k l. e (suc k) (omega arith)) in
    λ i. first i ∷ rest i

-- a copy of a span over another of its length
module _ (r : Words) (from to : Span) (sound : IsSound r) (from_within : IsWithin from r) (to_within : IsWithin to r) (same : from.len ≡ to.len) where
  size : length (span_words r from) ≡ to.len
  size = span_length r from sound from_within ∙ same

  pub length_copied : length (copied r from to).words ≡ length r.words
  length_copied = length_filled r to (span_words r from) sound to_within size

  pub copy_stays : (s : Span) → IsDisjoint s to → span_words (copied r from to) s ≡ span_words r s
  copy_stays = fill_stays r to (span_words r from) sound to_within size

  pub copy_lands : span_words (copied r from to) to ≡ span_words r from
  copy_lands = fill_lands r to (span_words r from) sound to_within size

  -- where the target is the first part of a span, the rest of that one stays
  pub copy_starts : (s : Span) → to.start ≡ s.start → to.len ≤ s.len → span_words (copied r from to) s ≡ span_words r from ++ drop to.len (span_words r s)
  copy_starts s first fits =
      let mid : List ℕ = span_words r from in
      let rest : List ℕ = drop (to.start + length mid) r.words in
      let more : ℕ = s.len - to.len in
      let many : s.start + s.len - s.start ≡ length mid + more = omega (arith, size, same, fits) in
      let past : to.start + length mid ≡ s.start + to.len = omega (arith, size, same, first) in
      let end : s.start + s.len - s.start ≡ to.len + more = omega (arith, fits) in
      ap (take (s.start + s.len - s.start)) (drop_at (take to.start r.words) (mid ++ rest) s.start (length-take-le to.start r.words (omega arith) ∙ first))
      ∙ ap (λ (n : ℕ). take n (mid ++ rest)) many
      ∙ take-append-add mid rest more
      ∙ ap (λ (xs : List ℕ). mid ++ take more xs) (ap (λ (n : ℕ). drop n r.words) past ∙ sym (drop-drop to.len s.start r.words))
      ∙ ap (λ (xs : List ℕ). mid ++ xs) (sym (drop-take to.len more (drop s.start r.words)) ∙ ap (λ (n : ℕ). drop to.len (take n (drop s.start r.words))) (sym end))

-- the span that is carved next holds zeros
pub carved_zeros : (r : Words) (n : ℕ) → IsSound r → span_words (carved r n) (next_span r n) ≡ replicate n 0
carved_zeros r n sound =
    let zero : ℕ = 0 in
    let zeros : List ℕ = replicate n zero in
    let rest : List ℕ = drop (r.used + length zeros) r.words in
    ap (take (r.used + n - r.used)) (drop_at (take r.used r.words) (zeros ++ rest) r.used (length-take-le r.used r.words sound))
    ∙ take_at zeros rest (r.used + n - r.used) (omega (arith, length-replicate n zero))

-- the last span of a region, after its words were lent
module _ (r : Words) (s : Span) (last : s.start + s.len ≡ length r.words) (ws : List ℕ) where
  abbrev over : List ℕ
  over = ws ++ drop (length ws) (drop s.start r.words)

  first_length : length (take s.start r.words) ≡ s.start
  first_length = length-take-le s.start r.words (omega arith)

  over_length : s.len ≤ length over
  over_length = omega (arith, length-append ws (drop (length ws) (drop s.start r.words)), length-drop (length ws) (drop s.start r.words), length-drop s.start r.words)

  pub lent_length : length (overwritten r s ws).words ≡ length r.words
  lent_length = sym (length_refill (length r.words) r.words (take s.start r.words ++ over) refl)

  lent_is : (overwritten r s ws).words ≡ take s.start r.words ++ take s.len over
  lent_is =
      let all : List ℕ = take s.start r.words ++ over in
      take-append-le (length r.words) all (drop (length all) r.words) (omega (arith, length-append (take s.start r.words) over, first_length, over_length))
      ∙ ap (λ (n : ℕ). take n all) (sym last ∙ ap (λ (n : ℕ). n + s.len) (sym first_length))
      ∙ take-append-add (take s.start r.words) over s.len

  -- the words before it stay
  pub lent_front : take s.start (overwritten r s ws).words ≡ take s.start r.words
  lent_front =
      ap (take s.start) lent_is ∙ take-append-le s.start (take s.start r.words) (take s.len over) (omega (arith, first_length))
      ∙ take_all s.start (take s.start r.words) (omega (arith, first_length))

  -- and it holds what was left there
  pub lent_lands : span_words (overwritten r s ws) s ≡ refill (length (span_words r s)) (span_words r s) ws
  lent_lands =
      let n : s.start + s.len - s.start ≡ s.len = omega arith in
      let whole : span_words r s ≡ drop s.start r.words = take_all (s.start + s.len - s.start) (drop s.start r.words) (omega (arith, length-drop s.start r.words)) in
      let many : length (span_words r s) ≡ s.len = ap (λ (xs : List ℕ). length xs) whole ∙ (let e : length (drop s.start r.words) ≡ s.len = omega (arith, length-drop s.start r.words) in e) in
      ap (λ (xs : List ℕ). take (s.start + s.len - s.start) (drop s.start xs)) lent_is
      ∙ ap (take (s.start + s.len - s.start)) (drop_at (take s.start r.words) (take s.len over) s.start first_length)
      ∙ take_all (s.start + s.len - s.start) (take s.len over) (omega (arith, n, length-take-le s.len over over_length))
      ∙ ap (λ (m : ℕ). take m over) (sym many)
      ∙ ap (λ (xs : List ℕ). take (length (span_words r s)) (ws ++ drop (length ws) xs)) (sym whole)

-- a call that doesn't fail
pub ok_unless : {T E : Type 0} (r : Result T E) → (IsErr r → ⊥) → IsOk r
ok_unless (Ok x) f = refl
ok_unless (Err e) f = absurd (f refl)

-- what a call of `carve` returned
pub span_is : (r : Words) (n : ℕ) (o : Result Span Full) (s : Span) → o ≡ Ok s → IfOk o (λ t. t ≡ next_span r n) → s ≡ next_span r n
span_is r n o s e h = let P : Result Span Full → Type 0 = λ x. IfOk x (λ t. t ≡ next_span r n) in subst P e h

pub region_is : (r new : Words) (n : ℕ) (o : Result Span Full) (s : Span) → o ≡ Ok s → OnOk o (new ≡ carved r n) → new ≡ carved r n
region_is r new n o s e h = let P : Result Span Full → Type 0 = λ x. OnOk x (new ≡ carved r n) in subst P e h
