-- A name is an identifier.
use Rattle.std.proofs.Common.{ℕ, zero, suc, ◌+◌, ◌≤◌, ◌≡◌, List, [], ◌∷◌, length, drop, take, length-take-le, Bool, true, false, cond, nat_lt, Option, Some, None, Result, Ok, Err, All, IfSome, refl, sym, ap, ◌∙◌, subst, arith}
use Rattle.std.proofs.lemmas.{Bool.ltb-false, Bool.or_left, List.Elements.All-nil, List.Elements.All-cons}
use Rattle.std.specs.Prelude.{slice_get}
use Rattle.kp_base.specs.Characters.{is_digit, is_letter, is_word, run_length}
use Rattle.kp_bits.specs.{Literals.number_of, Literals.literal_of, declared.literal.Literal.Literal, declared.literal.LiteralFault.LiteralFault}
use Rattle.kp_lex.specs.Text.{gap_length, is_in_run, run_of, keyword_or_name, identifier, literal_or_broken, number_or_literal, number_run, mark_or_broken, mark_or_shorter, mark, token_of, StandsIn, IsIdentifier}
use Rattle.kp_lex.specs.declared.{front.Front.Front, token.Keyword.Keyword, token.Mark.Mark, token.TokenKind.TokenKind, token.Token.Token}
use Rattle.kp_lex.specs.Words.{keyword_of, single_mark, double_mark}
use Rattle.kp_lex.proofs.Fits.{run_within, run_fits}
use Rattle.kp_lex.specs.declared.front.Front.TheVariants as fronts
use Rattle.kp_lex.specs.declared.front.TokenFault.TheVariants as faults
use Rattle.kp_lex.specs.declared.token.TokenKind.TheVariants as kinds

pass_step : (test : ℕ → Bool) (byte : ℕ) (rest : List ℕ) (b : Bool) (n : ℕ) → test byte ≡ b
    → All (λ c. test c ≡ true) (take n rest) → All (λ c. test c ≡ true) (take (cond b (n + 1) 0) (byte ∷ rest))
pass_step test byte rest true n e h = let s : n + 1 ≡ suc n = omega arith in rw s (All-cons (λ c. test c ≡ true) byte (take n rest) e h)
pass_step test byte rest false n e h = All-nil (λ c. test c ≡ true)

run_passes : (test : ℕ → Bool) (text : List ℕ) → All (λ c. test c ≡ true) (run_of test text)
run_passes test [] = All-nil (λ c. test c ≡ true)
run_passes test (byte ∷ rest) = pass_step test byte rest (test byte) (run_length test rest) refl (run_passes test rest)

-- if there is a name, this holds
abbrev OfName : (ℕ → Type 0) → Front → Type 0
OfName P f = (len : ℕ) → f ≡ fronts.Token kinds.Ident len → P len

name_word : (P : ℕ → Type 0) (run : List ℕ) → (length run ≤ 64 → keyword_of run ≡ None → P (length run)) → OfName P (identifier run)
name_word P run h = go (nat_lt 64 (length run)) refl (keyword_of run) refl
  where
    go : (a : Bool) → nat_lt 64 (length run) ≡ a → (o : Option Keyword) → keyword_of run ≡ o → OfName P (cond a (fronts.Broken (faults.LongName (length run))) (fronts.Token (keyword_or_name o) (length run)))
    go true e o k len f = cc
    go false e (Some word) k len f = cc
    go false e None k len f = let same : length run ≡ len = cc in subst P same (h (ltb-false 64 (length run) e) k)

name_literal : (P : ℕ → Type 0) (n : ℕ) (r : Result Literal LiteralFault) → OfName P (literal_or_broken n r)
name_literal P n (Ok literal) len f = cc
name_literal P n (Err fault) len f = cc

name_number : (P : ℕ → Type 0) (run : List ℕ) (o : Option ℕ) → OfName P (number_or_literal run o)
name_number P run (Some n) len f = cc
name_number P run None len f = name_literal P (length run) (literal_of run) len f

name_single : (P : ℕ → Type 0) (first : ℕ) (o : Option Mark) → OfName P (mark_or_broken first o)
name_single P first (Some m) len f = cc
name_single P first None len f = cc

name_double : (P : ℕ → Type 0) (first : ℕ) (o : Option Mark) → OfName P (mark_or_shorter first o)
name_double P first (Some m) len f = cc
name_double P first None len f = name_single P first (single_mark first) len f

name_mark : (P : ℕ → Type 0) (first : ℕ) (rest : List ℕ) → OfName P (mark first rest)
name_mark P first [] = name_single P first (single_mark first)
name_mark P first (second ∷ rest) = name_double P first (double_mark first second)

name_one : (P : ℕ → Type 0) (a d : Bool) (x y z : Front) → (a ≡ true → OfName P x) → OfName P y → OfName P z → OfName P (cond a x (cond d y z))
name_one P true d x y z f g h = f refl
name_one P false true x y z f g h = g
name_one P false false x y z f g h = h

first_of_run : (n : ℕ) (byte : ℕ) (rest : List ℕ) → is_letter byte ≡ true → IfSome (slice_get (take n (byte ∷ rest)) 0) (λ c. is_letter c ≡ true)
first_of_run zero byte rest h = tt
first_of_run (suc n) byte rest h = h

name_token : (text : List ℕ) → OfName (λ len. IsIdentifier (take len text)) (token_of text)
name_token [] = λ len f. cc
name_token (first ∷ rest) =
    name_one (λ len. IsIdentifier (take len (first ∷ rest))) (is_letter first) (is_digit first) (identifier (run_of is_word (first ∷ rest))) (number_run (run_of is_in_run (first ∷ rest))) (mark first rest)
    (λ letter. name_word (λ len. IsIdentifier (take len (first ∷ rest))) (run_of is_word (first ∷ rest)) (λ short other.
    let n = run_length is_word (first ∷ rest) in
    let same : length (run_of is_word (first ∷ rest)) ≡ n = length-take-le n (first ∷ rest) (run_within is_word (first ∷ rest)) in
    let low = (run_fits is_word first rest (or_left (is_letter first) (is_digit first) letter)).0 in
    subst (λ (len : ℕ). IsIdentifier (take len (first ∷ rest))) (sym same) (record {
      not_empty = low;
      within = short;
      spelled = run_passes is_word (first ∷ rest);
      initial = first_of_run n first rest letter;
      other = other;
    })))
    (name_number (λ len. IsIdentifier (take len (first ∷ rest))) (run_of is_in_run (first ∷ rest)) (number_of (run_of is_in_run (first ∷ rest))))
    (name_mark (λ len. IsIdentifier (take len (first ∷ rest))) first rest)

name_front : (P : ℕ → Type 0) (a : Bool) (n : ℕ) (next : Front) → OfName P next → OfName P (cond a (fronts.Gap n) next)
name_front P true n next h len f = cc
name_front P false n next h len f = h len f

pub name_is_identifier : (text : List ℕ) (t : Token) → StandsIn text t → t.kind ≡ kinds.Ident → IsIdentifier (take t.len (drop t.start text))
name_is_identifier text t stands e =
    let rest = drop t.start text in
    name_front (λ len. IsIdentifier (take len rest)) (nat_lt 0 (gap_length false rest)) (gap_length false rest) (token_of rest) (name_token rest) t.len
    (stands.front ∙ ap (λ (kind : TokenKind). fronts.Token kind t.len) e)
