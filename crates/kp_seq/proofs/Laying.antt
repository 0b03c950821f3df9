-- The words of a start state are laid out, target by target.
use Rattle.std.proofs.Common.{◌≡◌, ◌∙◌, ℕ, ◌+◌, ◌<◌, List, [], ◌∷◌, ◌++◌, length, map, get_or, drop, refl, subst, ap, append_assoc, arith, length-drop}
use Rattle.std.proofs.lemmas.{List.drop_more, List.Sums.sum_by-cons}
use Rattle.std.specs.List.{sum_by}
use Rattle.kp_region.specs.{declared.span.Span.Span, Words.Words, Words.span_words, Spans.Apart}
use Rattle.kp_bits.specs.Word.{Word}
use Rattle.kp_ast.specs.declared.tree.{Decl.Decl, Lit.Lit, Named.Named, Num.Num}
use Rattle.kp_ast.specs.declared.tree.Decl.TheVariants as decls
use Rattle.kp_stage.specs.Start.{AreRegs, AreFiles}
use Rattle.kp_seq.specs.inner.Ready.{words_of_start}

-- these targets have spans; these declarations, values and words are left, and there is room for them
abbrev pub AreLaid : List (List ℕ) → ℕ → List Decl → List Word → List (List ℕ) → Words → List Span → Type 0
AreLaid all size ds regs files r spans =
    (map (span_words r) spans ++ words_of_start ds regs files ≡ all)
    × AreRegs ds regs
    × AreFiles ds files
    × Apart r spans
    × (r.used + length regs + sum_by length files ≡ size)
    × (length r.words ≡ size)

-- one more target has a span, with these words
pub record IsLaid (r : Words) (spans : List Span) (ws : List ℕ) (new : Words) (more : List Span) : Type 0 where
  pub apart : Apart new more
  pub words : map (span_words new) more ≡ map (span_words r) spans ++ ws ∷ []
  pub used : new.used ≡ r.used + length ws
  pub size : length new.words ≡ length r.words

module _ (all : List (List ℕ)) (size : ℕ) (n : Named) (w : Num) (ds : List Decl) (r new : Words) (spans more : List Span) where
  value_left : (v : Lit) (regs : List Word) → AreRegs (decls.Reg n w v ∷ ds) regs → 0 < length regs
  value_left v [] h = absurd h
  value_left v (x ∷ regs) h = omega arith

  words_left : (a : Num) (files : List (List ℕ)) → AreFiles (decls.File n w a ∷ ds) files → 0 < length files
  words_left a [] h = absurd h
  words_left a (f ∷ files) h = omega arith

  -- a register
  reg_next : (v : Lit) (x : Word) (regs : List Word) (files : List (List ℕ)) → AreLaid all size (decls.Reg n w v ∷ ds) (x ∷ regs) files r spans → IsLaid r spans (x.value ∷ []) new more
      → AreLaid all size ds regs files new more
  reg_next v x regs files h m = (
    ap (λ (l : List (List ℕ)). l ++ words_of_start ds regs files) m.words ∙ append_assoc (map (span_words r) spans) ((x.value ∷ []) ∷ []) (words_of_start ds regs files) ∙ h.0,
    h.1.2,
    h.2,
    m.apart,
    omega (arith, m.used, h.4),
    m.size ∙ h.5,
  )

  pub reg_laid : (v : Lit) (p x : ℕ) (d : Word) (regs : List Word) (files : List (List ℕ)) → AreLaid all size (decls.Reg n w v ∷ ds) (drop p regs) files r spans
      → x ≡ (get_or regs p d).value → IsLaid r spans (x ∷ []) new more → AreLaid all size ds (drop (p + 1) regs) files new more
  reg_laid v p x d regs files h is m =
      let l : p < length regs = omega (arith, value_left v (drop p regs) h.1, length-drop p regs) in
      let P : List Word → Type 0 = λ rest. AreLaid all size (decls.Reg n w v ∷ ds) rest files r spans in
      reg_next v (get_or regs p d) (drop (p + 1) regs) files (subst P (drop_more regs p d l) h) (let Q : ℕ → Type 0 = λ y. IsLaid r spans (y ∷ []) new more in subst Q is m)

  -- a file
  file_next : (a : Num) (f : List ℕ) (regs : List Word) (files : List (List ℕ)) → AreLaid all size (decls.File n w a ∷ ds) regs (f ∷ files) r spans → IsLaid r spans f new more
      → AreLaid all size ds regs files new more
  file_next a f regs files h m = (
    ap (λ (l : List (List ℕ)). l ++ words_of_start ds regs files) m.words ∙ append_assoc (map (span_words r) spans) (f ∷ []) (words_of_start ds regs files) ∙ h.0,
    h.1,
    h.2.2,
    m.apart,
    omega (arith, m.used, h.4, sum_by-cons length f files),
    m.size ∙ h.5,
  )

  pub file_laid : (a : Num) (p : ℕ) (f d : List ℕ) (regs : List Word) (files : List (List ℕ)) → AreLaid all size (decls.File n w a ∷ ds) regs (drop p files) r spans
      → f ≡ get_or files p d → IsLaid r spans f new more → AreLaid all size ds regs (drop (p + 1) files) new more
  file_laid a p f d regs files h is m =
      let l : p < length files = omega (arith, words_left a (drop p files) h.2, length-drop p files) in
      let P : List (List ℕ) → Type 0 = λ rest. AreLaid all size (decls.File n w a ∷ ds) regs rest r spans in
      file_next a (get_or files p d) regs (drop (p + 1) files) (subst P (drop_more files p d l) h) (let Q : List ℕ → Type 0 = λ y. IsLaid r spans y new more in subst Q is m)

-- another declaration has no words
pub other_laid : (all : List (List ℕ)) (size : ℕ) (x : Decl) (ds : List Decl) (regs : List Word) (files : List (List ℕ)) (r : Words) (spans : List Span)
    → ((n : Named) (w : Num) (v : Lit) → x ≡ decls.Reg n w v → ⊥) → ((n : Named) (w a : Num) → x ≡ decls.File n w a → ⊥)
    → AreLaid all size (x ∷ ds) regs files r spans → AreLaid all size ds regs files r spans
other_laid all size (decls.Reg n w v) ds regs files r spans other another h = absurd (other n w v refl)
other_laid all size (decls.File n w a) ds regs files r spans other another h = absurd (another n w a refl)
other_laid all size _ ds regs files r spans other another h = h
