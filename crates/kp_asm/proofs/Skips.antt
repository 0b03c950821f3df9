-- Skipping what starts at the front of the bytes that are left.
use Rattle.std.proofs.Common.{◌≡◌, ◌∙◌, ℕ, zero, suc, ◌+◌, ◌-◌, ◌≤◌, List, [], ◌∷◌, ◌++◌, length, take, drop, get_or, refl, ap, sym, arith, Result}
use Rattle.std.proofs.lemmas.List.{take_all}
use Rattle.kp_asm.specs.{Faults.ProgramFinding, Tokens.tokens_from, Tokens.after_front, Tokens.front_of, Tokens.token_at, declared.front.Front.Front, declared.token.Token.Token}
use Rattle.kp_asm.specs.declared.token.TokenKind.{TokenKind}
use Rattle.kp_asm.specs.declared.front.Front.TheVariants as fronts

pub skip : (text : List ℕ) (tokens : List Token) (start inside : ℕ) (rest : List ℕ) → inside ≤ length rest
    → tokens_from text tokens start inside rest ≡ tokens_from text tokens (start + inside) 0 (drop inside rest)
skip text tokens start zero [] h = let e : start + 0 ≡ start = omega arith in rw e refl
skip text tokens start zero (b ∷ rest) h = let e : start + 0 ≡ start = omega arith in rw e refl
skip text tokens start (suc n) [] h = absurd (omega arith)
skip text tokens start (suc n) (b ∷ rest) h =
    let e : start + suc n ≡ start + 1 + n = omega arith in
    rw e (skip text tokens (start + 1) n rest (omega arith))

module _ (text : List ℕ) (tokens : List Token) (start : ℕ) where
  abbrev go_on : List ℕ → Front → Result (List Token) ProgramFinding
  go_on after front = after_front text tokens start front (λ more inside. tokens_from text more (start + 1) inside after)

  past : (more : List Token) (inside : ℕ) (after left : List ℕ) → inside ≤ length after → left ≡ drop inside after
      → tokens_from text more (start + 1) inside after ≡ tokens_from text more (start + (inside + 1)) 0 left
  past more inside after left h e =
      let s : start + (inside + 1) ≡ start + 1 + inside = omega arith in
      rw (e, s) (skip text more (start + 1) inside after h)

  -- the bytes after the first, as a pattern names them
  abbrev behind : List ℕ → List ℕ
  behind rest = take (length rest - 1) (drop 1 rest)

  behind_is : (b : ℕ) (after : List ℕ) → behind (b ∷ after) ≡ after
  behind_is b after = take_all (length (b ∷ after) - 1) after (omega arith)

  -- layout or a comment
  pub gap_turn : (rest left : List ℕ) (more : ℕ) → 1 ≤ length rest → fronts.Gap more ≡ front_of (get_or rest 0 0) (behind rest) → more ≤ length (behind rest) → left ≡ drop more (behind rest)
      → tokens_from text tokens (start + (more + 1)) 0 left ≡ tokens_from text tokens start 0 rest
  gap_turn [] left more h e w l = absurd (omega arith)
  gap_turn (b ∷ after) left more h e w l =
      let same = behind_is b after in
      sym (ap (go_on after) (ap (front_of b) (sym same) ∙ sym e) ∙ past tokens more after left (omega (arith, ap length same)) (l ∙ ap (drop more) same))

  -- a token
  pub token_turn : (rest left : List ℕ) (kind : TokenKind) (more : ℕ) → 1 ≤ length rest → fronts.Token kind more ≡ front_of (get_or rest 0 0) (behind rest) → more ≤ length (behind rest) → left ≡ drop more (behind rest)
      → tokens_from text (tokens ++ token_at start kind (more + 1) ∷ []) (start + (more + 1)) 0 left ≡ tokens_from text tokens start 0 rest
  token_turn [] left kind more h e w l = absurd (omega arith)
  token_turn (b ∷ after) left kind more h e w l =
      let same = behind_is b after in
      sym (ap (go_on after) (ap (front_of b) (sym same) ∙ sym e)
      ∙ past (tokens ++ token_at start kind (more + 1) ∷ []) more after left (omega (arith, ap length same)) (l ∙ ap (drop more) same))
