-- Columns of labels, one after the other.
use Rattle.std.proofs.Common.{◌≡◌, ◌∙◌, ℕ, zero, suc, ◌+◌, ◌-◌, ◌<◌, ◌≤◌, List, [], ◌∷◌, ◌++◌, Option, Some, None, length, map, take, drop, get_or, All, refl, sym, ap, append_assoc, append-nil, length-append, arith}
use Rattle.std.proofs.lemmas.List.Elements.{All-cons, All-head, All-nil, All-tail}
use Rattle.std.proofs.lemmas.{List.drop_all, List.drop_more, List.length-map, List.length-replicate, List.map-append, List.take_more}
use Rattle.std.proofs.Math.Seq.{drop-append_seam, take-append_seam}
use Rattle.std.specs.Prelude.{codes, slice_range}
use Rattle.kp_bits.specs.Word.{Word}
use Rattle.kp_bits.specs.Spelling.{decimal_digits, hex_digits, quarters, spelling}
use Rattle.kp_ast.specs.declared.tree.Job.{Job}
use Rattle.kp_pipeline.specs.Machine.{State}
use Rattle.kp_diagram_labels.specs.{Texts.column_text, Texts.no_words, Texts.value_text, Texts.values_text, Texts.wide, Texts.word_in, Texts.words_in, declared.label.Label.Label}

-- one value more, and all of them
module _ (job : Job) (text : List ℕ) where
  pub values_more : (labels : List Label) (values : List (Option Word)) (i : ℕ) (l : Label) (v : Option Word) (w : ℕ) (old new all : List ℕ) → i < length labels → i < length values
      → l ≡ get_or labels i l → v ≡ get_or values i v → w ≡ wide job text l → new ≡ old ++ column_text w (value_text v)
      → old ++ values_text job text (drop i labels) (drop i values) ≡ all → new ++ values_text job text (drop (i + 1) labels) (drop (i + 1) values) ≡ all
  values_more labels values i l v w old new all inside there at has is added kept =
      let column = column_text (wide job text (get_or labels i l)) (value_text (get_or values i v)) in
      let rest = values_text job text (drop (i + 1) labels) (drop (i + 1) values) in
      let size : w ≡ wide job text (get_or labels i l) = is ∙ ap (wide job text) at in
      ap (λ (t : List ℕ). t ++ rest) added
      ∙ (λ k. (old ++ column_text (size k) (value_text (has k))) ++ rest)
      ∙ append_assoc old column rest
      ∙ sym (λ k. old ++ values_text job text (drop_more labels i l inside k) (drop_more values i v there k))
      ∙ kept

  pub values_all : (labels : List Label) (values : List (Option Word)) (i : ℕ) (out all : List ℕ) → length labels ≤ i → out ++ values_text job text (drop i labels) (drop i values) ≡ all → out ≡ all
  values_all labels values i out all past kept =
      sym (append-nil out) ∙ sym (ap (λ (ls : List Label). out ++ values_text job text ls (drop i values)) (drop_all i labels past)) ∙ kept

-- as many as labels
pub none_many : (labels : List Label) → length (no_words labels) ≡ length labels
none_many labels = let none : Option Word = None in length-replicate (length labels) none

pub words_many : (job : Job) (s : State) (q : ℕ → ℕ) (labels : List Label) → length (words_in job s q labels) ≡ length labels
words_many job s q labels = length-map labels (λ (l : Label). Some (word_in job s q l.shown))

digits_many : (n v : ℕ) → length (hex_digits n v) ≡ n
digits_many zero v = refl
digits_many (suc n) v = ap (λ (k : ℕ). suc k) (digits_many n v)

pub digits_short : (w : Word) → quarters w.width ≤ length (spelling w)
digits_short w =
    let digits = hex_digits (quarters w.width) w.value in
    let many : length digits ≡ quarters w.width = digits_many (quarters w.width) w.value in
    let long = length-append (decimal_digits w.width) (codes "'h" ++ digits) in
    let more = length-append (codes "'h") digits in
    omega (arith, many, long, more)

-- the digits of a word that is spelled
pub digits_cut : (w : Word) (out rest : List ℕ) (start end : ℕ) → out ≡ spelling w ++ rest → end ≡ length (spelling w) → start ≡ end - quarters w.width
    → slice_range out start end ≡ hex_digits (quarters w.width) w.value
digits_cut w out rest start end is all from =
    let n = quarters w.width in
    let front = decimal_digits w.width ++ codes "'h" in
    let digits = hex_digits n w.value in
    let many : length digits ≡ n = digits_many n w.value in
    let split : spelling w ≡ front ++ digits = sym (append_assoc (decimal_digits w.width) (codes "'h") digits) in
    let long : length (spelling w) ≡ length front + length digits = ap (λ (l : List ℕ). length l) split ∙ length-append front digits in
    let at : start ≡ length front = omega (arith, long, many, all, from) in
    let size : end - start ≡ length digits = omega (arith, long, many, all, from) in
    ap (λ (l : List ℕ). slice_range l start end) (is ∙ ap (λ (l : List ℕ). l ++ rest) split ∙ append_assoc front digits rest)
    ∙ ap (λ (k : ℕ). take (end - start) (drop k (front ++ (digits ++ rest)))) at
    ∙ ap (take (end - start)) (drop-append_seam front (digits ++ rest))
    ∙ ap (λ (k : ℕ). take k (digits ++ rest)) size
    ∙ take-append_seam digits rest

-- LINES, by their entries
module _ {X Y Z : Type 0} (entry : X → Y) where
  pub each_entry : (f : Y → Z) (xs : List X) → map (λ x. f (entry x)) xs ≡ map f (map entry xs)
  each_entry f [] = refl
  each_entry f (x ∷ xs) = ap (λ (zs : List Z). f (entry x) ∷ zs) (each_entry f xs)

pub all_entries : {X Y : Type 0} (entry : X → Y) (P : Y → Type 0) (xs : List X) → All P (map entry xs) → All (λ x. P (entry x)) xs
all_entries entry P [] all = All-nil (λ x. P (entry x))
all_entries entry P (x ∷ xs) all = All-cons (λ x. P (entry x)) x xs (All-head P (entry x) (map entry xs) all) (all_entries entry P xs (All-tail P (entry x) (map entry xs) all))

-- one line more
pub entries_more : {X Y : Type 0} (entry : X → Y) (items new : List X) (l : X) (entries : List Y) (i : ℕ) (x : Y) → i < length entries → x ≡ get_or entries i x → entry l ≡ x
    → new ≡ items ++ l ∷ [] → map entry items ≡ take i entries → map entry new ≡ take (i + 1) entries
entries_more {X} {Y} entry items new l entries i x b at is pushed kept =
    ap (map entry) pushed ∙ map-append entry items (l ∷ [])
    ∙ ap (λ (ys : List Y). ys ++ entry l ∷ []) kept ∙ ap (λ (y : Y). take i entries ++ y ∷ []) (is ∙ at) ∙ sym (take_more entries i x b)
