-- The steps of the loops over words and over stages.
use Rattle.std.proofs.Common.{◌≡◌, ◌≢◌, ◌∙◌, inl, inr, ℕ, zero, suc, ◌+◌, ◌-◌, ◌<◌, ◌≤◌, List, [], ◌∷◌, length, take, drop, get_or, set, None, Bool, true, false, refl, ap, sym, subst, arith}
use Rattle.std.proofs.lemmas.Bool.{cases_lt, cases_eq, lt-leb, le-leb, ne_eqb}
use Rattle.std.proofs.lemmas.List.{drop_more, nil_from_length, get_or-set_same, get_or-set_other, get_or-take, length-take-le}
use Rattle.std.proofs.Math.Bool.{or-false, or-true, or_assoc}
use Rattle.std.specs.Prelude.{◌&&◌, ◌||◌, ◌==◌, ◌^◌, nat_le, unwrap_or, if◌then◌else◌, option_map, slice_get}
use Rattle.std.specs.List.{All}
use Rattle.kp_ast.specs.declared.tree.{Lit.Lit, Image.Image}
use Rattle.kp_stage.specs.Start.{laid_over, words_from, bits_below}
use Rattle.kp_image.specs.{inner.Laid.laid_from, Cycles.is_in, Spans.span_stalls, Spans.some_stalls, Spans.IsSpan, declared.stalls.Span.Span}

abbrev value : Lit → ℕ
value l = l.literal.value

abbrev chosen : Bool → List Lit → ℕ → ℕ → ℕ
chosen b ls k v = unwrap_or (if b then option_map value (slice_get ls k) else None) v

-- a value is written to the first of the words, and the others to those after it
laid_below : (l : Lit) (rest : List Lit) (f x v : ℕ) → x < f → laid_from (l ∷ rest) f x v ≡ laid_from rest (f + 1) x v
laid_below l rest f x v h =
    let here : nat_le f x ≡ false = lt-leb f x h in
    let more : nat_le (f + 1) x ≡ false = lt-leb (f + 1) x (omega arith) in
    ap (λ (b : Bool). chosen b (l ∷ rest) (x - f) v) here ∙ sym (ap (λ (b : Bool). chosen b rest (x - (f + 1)) v) more)

laid_here : (l : Lit) (rest : List Lit) (f v : ℕ) → laid_from (l ∷ rest) f f v ≡ laid_from rest (f + 1) f (value l)
laid_here l rest f v =
    let here : nat_le f f ≡ true = le-leb f f (omega arith) in
    let more : nat_le (f + 1) f ≡ false = lt-leb (f + 1) f (omega arith) in
    let none : f - f ≡ 0 = omega arith in
    ap (λ (b : Bool). chosen b (l ∷ rest) (f - f) v) here ∙ ap (λ (k : ℕ). chosen true (l ∷ rest) k v) none
    ∙ sym (ap (λ (b : Bool). chosen b rest (f - (f + 1)) (value l)) more)

laid_above : (l : Lit) (rest : List Lit) (f x v : ℕ) → f < x → laid_from (l ∷ rest) f x v ≡ laid_from rest (f + 1) x v
laid_above l rest f x v h =
    let here : nat_le f x ≡ true = le-leb f x (omega arith) in
    let more : nat_le (f + 1) x ≡ true = le-leb (f + 1) x (omega arith) in
    let next : x - f ≡ suc (x - (f + 1)) = omega arith in
    ap (λ (b : Bool). chosen b (l ∷ rest) (x - f) v) here ∙ ap (λ (k : ℕ). chosen true (l ∷ rest) k v) next
    ∙ sym (ap (λ (b : Bool). chosen b rest (x - (f + 1)) v) more)

laid_next : (l : Lit) (rest : List Lit) (f x : ℕ) (words : List ℕ) → f < length words
    → laid_from (l ∷ rest) f x (get_or words x 0) ≡ laid_from rest (f + 1) x (get_or (set words f (value l)) x 0)
laid_next l rest f x words h = elim (cases_lt x f) [
  | inl low ↦ laid_below l rest f x (get_or words x 0) low ∙ ap (laid_from rest (f + 1) x) (sym (get_or-set_other words f x (value l) 0 (omega arith)))
  | inr high ↦ elim (cases_eq x f) [
    | inl same ↦ subst (λ (y : ℕ). laid_from (l ∷ rest) f y (get_or words y 0) ≡ laid_from rest (f + 1) y (get_or (set words f (value l)) y 0)) (sym same)
        (laid_here l rest f (get_or words f 0) ∙ ap (laid_from rest (f + 1) f) (sym (get_or-set_same words f (value l) 0 h)))
    | inr other ↦ laid_above l rest f x (get_or words x 0) (omega arith) ∙ ap (laid_from rest (f + 1) x) (sym (get_or-set_other words f x (value l) 0 other))
  ]
]

-- one more value of a list is given to its word
pub laid_turn : (values : List Lit) (i first x : ℕ) (words : List ℕ) (d : Lit) → i < length values → first + i < length words
    → laid_from (drop i values) (first + i) x (get_or words x 0) ≡ laid_from (drop (i + 1) values) (first + (i + 1)) x (get_or (set words (first + i) (value (get_or values i d))) x 0)
laid_turn values i first x words d h within =
    let next : (first + i) + 1 ≡ first + (i + 1) = omega arith in
    ap (λ (ls : List Lit). laid_from ls (first + i) x (get_or words x 0)) (drop_more values i d h)
    ∙ laid_next (get_or values i d) (drop (i + 1) values) (first + i) x words within
    ∙ ap (λ (f : ℕ). laid_from (drop (i + 1) values) f x (get_or (set words (first + i) (value (get_or values i d))) x 0)) next

-- words that are right at each address are the right ones
words_same : (es : List Image) (name : List ℕ) (ws : List ℕ) (a n : ℕ) → length ws ≡ n → ((k : ℕ) → k < n → get_or ws k 0 ≡ laid_over es name (a + k) 0) → ws ≡ words_from es name a n
words_same es name ws a zero e right = nil_from_length ws e
words_same es name [] a (suc n) e right = absurd (omega arith)
words_same es name (w ∷ ws) a (suc n) e right =
    let start : a + 0 ≡ a = omega arith in
    let here : w ≡ laid_over es name a 0 = right 0 (omega arith) ∙ ap (λ (k : ℕ). laid_over es name k 0) start in
    let more = words_same es name ws (a + 1) n (omega arith) (λ k h.
    let step : a + suc k ≡ (a + 1) + k = omega arith in
    right (suc k) (omega arith) ∙ ap (λ (m : ℕ). laid_over es name m 0) step) in
    ap (λ (v : ℕ). v ∷ ws) here ∙ ap (λ (vs : List ℕ). laid_over es name a 0 ∷ vs) more

pub words_from_start : (es : List Image) (name : List ℕ) (ws : List ℕ) (n : ℕ) → length ws ≡ n → ((k : ℕ) → k < n → get_or ws k 0 ≡ laid_over es name k 0) → ws ≡ words_from es name 0 n
words_from_start es name ws n e right =
    words_same es name ws 0 n e (λ k h. let same : k ≡ 0 + k = omega arith in right k h ∙ ap (λ (m : ℕ). laid_over es name m 0) same)

-- an entry at its own stage, and at another
abbrev holds_at : Bool → Span → ℕ → Bool
holds_at b s cycle = b && is_in s.cycles cycle

other_stage : (s : Span) (k cycle : ℕ) → k ≢ s.stage → span_stalls s k cycle ≡ false
other_stage s k cycle other =
    let differ : (s.stage == k) ≡ false = ne_eqb s.stage k (λ e. other (sym e)) in
    ap (λ (b : Bool). holds_at b s cycle) differ

at_span : (spans : List Span) (i : ℕ) (d : Span) (k cycle : ℕ) → i < length spans → some_stalls (drop i spans) k cycle ≡ (span_stalls (get_or spans i d) k cycle || some_stalls (drop (i + 1) spans) k cycle)
at_span spans i d k cycle h = ap (λ (ss : List Span). some_stalls ss k cycle) (drop_more spans i d h)

held_at : (stalled : List Bool) (s : Span) (k cycle : ℕ) → s.stage < length stalled → span_stalls s s.stage cycle ≡ true
    → get_or (set stalled s.stage true) k false ≡ (get_or stalled k false || span_stalls s k cycle)
held_at stalled s k cycle h holds = elim (cases_eq k s.stage) [
  | inl same ↦ subst (λ (j : ℕ). get_or (set stalled s.stage true) j false ≡ (get_or stalled j false || span_stalls s j cycle)) (sym same)
      (get_or-set_same stalled s.stage true false h ∙ sym (ap (λ (b : Bool). get_or stalled s.stage false || b) holds ∙ or-true (get_or stalled s.stage false)))
  | inr other ↦ get_or-set_other stalled s.stage k true false other
      ∙ sym (ap (λ (b : Bool). get_or stalled k false || b) (other_stage s k cycle other) ∙ or-false (get_or stalled k false))
]

missed_at : (s : Span) (k cycle : ℕ) → span_stalls s s.stage cycle ≡ false → span_stalls s k cycle ≡ false
missed_at s k cycle fails = elim (cases_eq k s.stage) [
  | inl same ↦ subst (λ (j : ℕ). span_stalls s j cycle ≡ false) (sym same) fails
  | inr other ↦ other_stage s k cycle other
]

module _ (spans : List Span) (i : ℕ) (d : Span) (h : i < length spans) (stalled : List Bool) (k cycle : ℕ) where
  abbrev s : Span
  s = get_or spans i d

  -- the stage of an entry that stalls is marked
  pub held_turn : All IsSpan spans → length stalled ≡ 12 → span_stalls (get_or spans i d) (get_or spans i d).stage cycle ≡ true
      → (get_or (set stalled (get_or spans i d).stage true) k false || some_stalls (drop (i + 1) spans) k cycle) ≡ (get_or stalled k false || some_stalls (drop i spans) k cycle)
  held_turn all len holds =
      let low = (all i d h).0 in
      let within : s.stage < length stalled = omega arith in
      ap (λ (b : Bool). b || some_stalls (drop (i + 1) spans) k cycle) (held_at stalled s k cycle within holds)
      ∙ or_assoc (get_or stalled k false) (span_stalls s k cycle) (some_stalls (drop (i + 1) spans) k cycle)
      ∙ ap (λ (b : Bool). get_or stalled k false || b) (sym (at_span spans i d k cycle h))

  -- and that of one that doesn't stays as it is
  pub missed_turn : span_stalls (get_or spans i d) (get_or spans i d).stage cycle ≡ false
      → (get_or stalled k false || some_stalls (drop (i + 1) spans) k cycle) ≡ (get_or stalled k false || some_stalls (drop i spans) k cycle)
  missed_turn fails =
      ap (λ (b : Bool). get_or stalled k false || b)
      (sym (at_span spans i d k cycle h ∙ ap (λ (b : Bool). b || some_stalls (drop (i + 1) spans) k cycle) (missed_at s k cycle fails)))

-- a number of bits depends on the tests of these bits alone
pub bits_same : (n : ℕ) (f g : ℕ → Bool) → ((k : ℕ) → k < n → f k ≡ g k) → bits_below n f ≡ bits_below n g
bits_same zero f g same = refl
bits_same (suc n) f g same =
    ap (λ (m : ℕ). m + (if f n then 2 ^ n else 0)) (bits_same n f g (λ k h. same k (omega arith)))
    ∙ ap (λ (b : Bool). bits_below n g + (if b then 2 ^ n else 0)) (same n (omega arith))

-- the word of the stages that are marked, the first n of 12
pub word_same : (xs : List Bool) (test : ℕ → Bool) (m n : ℕ) → m ≡ n → n ≤ 12 → length xs ≡ 12 → ((k : ℕ) → k < 12 → get_or xs k false ≡ test k) → bits_below (length (take m xs)) (λ k. get_or (take m xs) k false) ≡ bits_below n test
word_same xs test m n e low len right =
    let count : length (take m xs) ≡ n = length-take-le m xs (omega arith) ∙ e in
    ap (λ (z : ℕ). bits_below z (λ k. get_or (take m xs) k false)) count
    ∙ bits_same n (λ k. get_or (take m xs) k false) test (λ k h. get_or-take m xs k false (omega arith) ∙ right k (omega arith))
