-- The layout and the comments of a job are layout and comments of Verilog.
use Rattle.std.proofs.Common.{◌≡◌, ◌∙◌, ℕ, zero, suc, ◌+◌, ◌<◌, ◌==◌, ◌&&◌, Bool, true, false, not, cond, List, [], ◌∷◌, ◌++◌, length, drop, refl, sym, ap, subst, arith}
use Rattle.std.proofs.lemmas.Bool.{eqb-true, and_parts, or_left}
use Rattle.kp_base.specs.Characters.{run_length}
use Rattle.kp_lex.specs.Text.{is_layout, gap_length}
use Rattle.kp_vlog.specs.Tokens.{Token, is_in_line, front, skips, Lexes, past}
use Rattle.kp_vlog.proofs.Tests.{when_true}
use Rattle.kp_vlog.specs.Tokens as verilog
use Rattle.kp_tool.proofs.Heads.{LastIs}

comment_at : (b c : ℕ) (rest : List ℕ) → b ≡ 47 → c ≡ 47 → front (b ∷ c ∷ rest) ≡ skips (run_length is_in_line (c ∷ rest) + 1)
comment_at b c rest p q =
    subst (λ (x : ℕ). front (x ∷ c ∷ rest) ≡ skips (run_length is_in_line (c ∷ rest) + 1)) (sym p)
    (subst (λ (y : ℕ). front (47 ∷ y ∷ rest) ≡ skips (run_length is_in_line (y ∷ rest) + 1)) (sym q) refl)

layout_at : (b : ℕ) (rest : List ℕ) → is_layout b ≡ true → front (b ∷ rest) ≡ skips 1
layout_at b rest l = when_true (verilog.is_layout b) (skips 1) _ (or_left (is_layout b) (b == 12) l)

-- after a line feed, the gap goes on outside of a comment
line_gap : (b : ℕ) (rest : List ℕ) → b ≡ 10 → gap_length false (b ∷ rest) ≡ gap_length false rest + 1
line_gap b [] is = subst (λ (x : ℕ). gap_length false (x ∷ []) ≡ 1) (sym is) refl
line_gap b (c ∷ cs) is = subst (λ (x : ℕ). gap_length false (x ∷ c ∷ cs) ≡ gap_length false (c ∷ cs) + 1) (sym is) refl

-- a comment ends before a line feed, and the gap goes on with it
record LineEnd (more : List ℕ) (b : ℕ) (rest : List ℕ) : Type 0 where
  size : ℕ
  first : ℕ
  later : List ℕ
  run : run_length is_in_line (b ∷ (rest ++ more)) ≡ size
  left : drop size (b ∷ (rest ++ more)) ≡ first ∷ (later ++ more)
  ends : LastIs first later
  many : size + length (first ∷ later) ≡ length (b ∷ rest)
  full : gap_length false (first ∷ later) ≡ length (first ∷ later)

module _ (more : List ℕ) where
  line_here : (b : ℕ) (rest : List ℕ) → LastIs b rest → b ≡ 10 → gap_length false rest ≡ length rest → LineEnd more b rest
  line_here b rest e is full = record {
    size = 0;
    first = b;
    later = rest;
    run = subst (λ (x : ℕ). run_length is_in_line (x ∷ (rest ++ more)) ≡ 0) (sym is) refl;
    left = refl;
    ends = e;
    many = (let sum : 0 + length (b ∷ rest) ≡ length (b ∷ rest) = omega arith in sum);
    full = (let one = line_gap b rest is in omega (arith, one, full));
  }

  line_later : (b c : ℕ) (cs : List ℕ) → (b == 10) ≡ false → LineEnd more c cs → LineEnd more b (c ∷ cs)
  line_later b c cs other line = record {
    size = suc line.size;
    first = line.first;
    later = line.later;
    run = (
        let k = line.run in
        let one : run_length is_in_line (c ∷ (cs ++ more)) + 1 ≡ suc line.size = omega (arith, k) in
        ap (λ (t : Bool). cond (not t) (run_length is_in_line (c ∷ (cs ++ more)) + 1) 0) other ∙ one
        );
    left = line.left;
    ends = line.ends;
    many = (let m = line.many in omega (arith, m));
    full = line.full;
  }

  line_end : (b : ℕ) (rest : List ℕ) → LastIs b rest → gap_length true (b ∷ rest) ≡ length (b ∷ rest) → LineEnd more b rest
  line_end b [] e full = line_here b [] e e refl
  line_end b (c ∷ cs) e full = by (b == 10) refl full (line_end c cs e)
    where
      by : (t : Bool) → (b == 10) ≡ t → gap_length (not t) (c ∷ cs) + 1 ≡ suc (length (c ∷ cs))
          → (gap_length true (c ∷ cs) ≡ length (c ∷ cs) → LineEnd more c cs) → LineEnd more b (c ∷ cs)
      by true is all rest = line_here b (c ∷ cs) e (eqb-true b 10 is) (omega (arith, all))
      by false is all rest = line_later b c cs is (rest (omega (arith, all)))

  -- gaps of fewer than n bytes are skipped
  abbrev Skipped : ℕ → Type 0
  Skipped n =
      (b : ℕ) (rest : List ℕ) → length (b ∷ rest) < n → LastIs b rest → gap_length false (b ∷ rest) ≡ length (b ∷ rest)
      → (at : ℕ) (ts : List Token) → Lexes (at + length (b ∷ rest)) more ts → Lexes at (b ∷ (rest ++ more)) ts

  skip_next : (n : ℕ) → Skipped n → Skipped (suc n)
  skip_next n next b [] small e full at ts lexes =
      let same : at + length (b ∷ []) ≡ at + 1 = omega arith in
      past 1 (layout_at b more (subst (λ (x : ℕ). is_layout x ≡ true) (sym e) refl)) (subst (λ (k : ℕ). Lexes k more ts) same lexes)
  skip_next n next b (c ∷ cs) small e full at ts lexes = by (b == 47 && c == 47) refl (is_layout b) refl full
    where
      comment : (b ≡ 47) × (c ≡ 47) → gap_length true (c ∷ cs) ≡ length (c ∷ cs) → Lexes at (b ∷ c ∷ (cs ++ more)) ts
      comment is all =
          let line : LineEnd more c cs = line_end c cs e all in
          let many = line.many in
          let run = line.run in
          let one : run_length is_in_line (c ∷ (cs ++ more)) + 1 ≡ suc line.size = omega (arith, run) in
          let place : at + length (b ∷ c ∷ cs) ≡ (at + suc line.size) + length (line.first ∷ line.later) = omega (arith, many) in
          past (suc line.size) (comment_at b c (cs ++ more) is.0 is.1 ∙ ap skips one)
          (subst (λ (x : List ℕ). Lexes (at + suc line.size) x ts) (sym line.left)
          (next line.first line.later (omega (arith, small, many)) line.ends line.full (at + suc line.size) ts (subst (λ (k : ℕ). Lexes k more ts) place lexes)))

      layout : is_layout b ≡ true → gap_length false (c ∷ cs) ≡ length (c ∷ cs) → Lexes at (b ∷ c ∷ (cs ++ more)) ts
      layout is all =
          let same : at + length (b ∷ c ∷ cs) ≡ (at + 1) + length (c ∷ cs) = omega arith in
          past 1 (layout_at b (c ∷ (cs ++ more)) is) (next c cs (omega (arith, small)) e all (at + 1) ts (subst (λ (k : ℕ). Lexes k more ts) same lexes))

      by : (x : Bool) → (b == 47 && c == 47) ≡ x → (y : Bool) → is_layout b ≡ y
          → cond x (gap_length true (c ∷ cs) + 1) (cond y (gap_length false (c ∷ cs) + 1) 0) ≡ suc (length (c ∷ cs)) → Lexes at (b ∷ c ∷ (cs ++ more)) ts
      by true is y l all = (let both = and_parts (b == 47) (c == 47) is in comment (eqb-true b 47 both.0, eqb-true c 47 both.1) (omega (arith, all)))
      by false is true l all = layout l (omega (arith, all))
      by false is false l all = absurd (omega (arith, all))

  pub skip_gap : (n : ℕ) → Skipped n
  skip_gap zero b rest small e full at ts lexes = absurd (omega (arith, small))
  skip_gap (suc n) b rest small e full at ts lexes = skip_next n (skip_gap n) b rest small e full at ts lexes
