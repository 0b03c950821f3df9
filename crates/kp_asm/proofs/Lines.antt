-- The first line of what is left.
use Rattle.std.proofs.Common.{◌≡◌, ◌∙◌, ℕ, suc, ◌+◌, ◌≤◌, ◌<◌, List, [], ◌∷◌, length, take, drop, Bool, true, false, cond, refl, ap, sym, arith}
use Rattle.std.specs.Prelude.{Result, Ok, Err}
use Rattle.kp_base.specs.Check.{bind}
use Rattle.kp_asm.specs.{Faults.ProgramFinding, Faults.Reads, declared.fault.Misread.Misread}
use Rattle.kp_asm.specs.declared.fault.Misread.TheVariants as misread
use Rattle.kp_asm.specs.inner.Listing.{line_length}
use Rattle.kp_asm.specs.Program.{Listing, is_line_end, lines_of, prepend, line_read, lines_read}
use Rattle.kp_asm.specs.declared.token.Token.{Token}

-- the first line, and the lines after it
abbrev parts : ℕ → List Token → List (List Token)
parts n tokens = take n tokens ∷ lines_of (drop n tokens)

pub within : (tokens : List Token) → line_length tokens ≤ length tokens
within [] = omega arith
within (t ∷ ts) = go (is_line_end t.kind) (within ts)
  where
    go : (b : Bool) → line_length ts ≤ length ts → cond b 1 (line_length ts + 1) ≤ suc (length ts)
    go true h = omega arith
    go false h = omega arith

pub positive : (tokens : List Token) → 0 < length tokens → 0 < line_length tokens
positive [] h = absurd (omega arith)
positive (t ∷ ts) h = go (is_line_end t.kind)
  where
    go : (b : Bool) → 0 < cond b 1 (line_length ts + 1)
    go true = omega arith
    go false = omega arith

shift : (t : Token) (n : ℕ) (ts : List Token) → take n ts ∷ lines_of (drop n ts) ≡ lines_of ts → prepend t (lines_of ts) ≡ parts (n + 1) (t ∷ ts)
shift t n ts h = let e : n + 1 ≡ suc n = omega arith in rw e (ap (prepend t) (sym h))

-- the lines are the first line and those after it
pub split : (tokens : List Token) → 0 < length tokens → lines_of tokens ≡ parts (line_length tokens) tokens
split [] h = absurd (omega arith)
split (t ∷ []) h = go (is_line_end t.kind)
  where
    go : (b : Bool) → cond b ((t ∷ []) ∷ []) ((t ∷ []) ∷ []) ≡ parts (cond b 1 (0 + 1)) (t ∷ [])
    go true = refl
    go false = refl
split (t ∷ u ∷ ts) h = go (is_line_end t.kind) (split (u ∷ ts) (omega arith))
  where
    go : (b : Bool) → lines_of (u ∷ ts) ≡ parts (line_length (u ∷ ts)) (u ∷ ts)
        → cond b ((t ∷ []) ∷ lines_of (u ∷ ts)) (prepend t (lines_of (u ∷ ts))) ≡ parts (cond b 1 (line_length (u ∷ ts) + 1)) (t ∷ u ∷ ts)
    go true e = refl
    go false e = shift t (line_length (u ∷ ts)) (u ∷ ts) (sym e)

module _ (text : List ℕ) (p : Listing) (tokens line after : List Token) (n : ℕ) (some : 0 < length tokens) (is : n ≡ line_length tokens) (front : line ≡ take n tokens) (back : after ≡ drop n tokens) where
  -- all lines from here are the first one and those after it
  first_line : lines_read text p (lines_of tokens) ≡ bind (line_read text p line) (λ next. lines_read text next (lines_of after))
  first_line =
      ap (lines_read text p) (split tokens some ∙ ap (λ k. parts k tokens) (sym is))
      ∙ ap (λ l. bind (line_read text p l) (λ next. lines_read text next (lines_of (drop n tokens)))) (sym front)
      ∙ ap (λ l. bind (line_read text p line) (λ next. lines_read text next (lines_of l))) (sym back)

  -- a line that violates no rule
  pub line_ok : (next : Listing) → line_read text p line ≡ Ok next → lines_read text next (lines_of after) ≡ lines_read text p (lines_of tokens)
  line_ok next e = sym (first_line ∙ ap (λ r. bind r (λ q. lines_read text q (lines_of after))) e)

  -- a line that violates one
  pub line_err : {T U : Type 0} (value : T → Listing) (other : U → Listing) (e : Misread) (whole : Result Listing ProgramFinding) → lines_read text p (lines_of tokens) ≡ whole
      → Reads {T = T} (Err e) (line_read text p line) value → Reads {T = U} (Err e) whole other
  line_err value other (misread.Found finding) whole same gives = sym same ∙ first_line ∙ ap (λ r. bind r (λ q. lines_read text q (lines_of after))) gives
  line_err value other misread.NoMemory whole same gives = tt
