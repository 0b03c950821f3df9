-- Letters with numbers are names, and determine the number.
use Rattle.std.proofs.Common.{◌≡◌, ℕ, ◌<◌, ◌≤◌, ◌^◌, List, [], ◌∷◌, length, Bool, true, false, ◌&&◌, ◌||◌, refl, arith}
use Rattle.std.proofs.lemmas.{Bool.le-leb, Bool.leb-true, List.Elements.All-nil, List.Elements.All-cons, Str.Parse.tells_digits}
use Rattle.std.proofs.lemmas.Fmt.{decimal_is_IsNumeral, length-decimal-le}
use Rattle.std.specs.{Prelude.All, Prelude.IsTrue, Prelude.decimal, Prelude.nat_le, List.list_all, Str.Parse.AllDigits}
use Rattle.kp_ast.specs.Name.{IsName}
use Rattle.kp_base.specs.Characters.{is_word, is_letter}
use Rattle.kp_gen.specs.{Generated.numbered, inner.Spelling.is_spelled}

second : (a x y : Bool) → x ≡ true → y ≡ true → (a || (x && y)) ≡ true
second true x y p q = refl
second false x y p q = rw (p, q) refl

digit_name : (c : ℕ) → 48 ≤ c → c ≤ 57 → IsTrue (is_word c)
digit_name c h k = second (is_letter c) (nat_le 48 c) (nat_le c 57) (le-leb 48 c h) (le-leb c 57 k)

digit_names : (ds : List ℕ) → AllDigits 10 ds → All (λ b. IsTrue (is_word b)) ds
digit_names [] h = All-nil (λ b. IsTrue (is_word b))
digit_names (c ∷ ds) h =
    let p = tells_digits.parts c ds h in
    All-cons (λ b. IsTrue (is_word b)) c ds (digit_name c p.0.0 p.0.1) (digit_names ds p.1)

pub numbered_is_name : (letter i : ℕ) → IsTrue (is_word letter) → i < 2 ^ 64 → IsName (numbered letter i)
numbered_is_name letter i h k =
    let few : length (decimal i) ≤ 20 = length-decimal-le 20 i (omega arith) (omega arith) k in
    record {
      not_empty = omega arith;
      within = omega arith;
      spelled = All-cons (λ b. IsTrue (is_word b)) letter (decimal i) h (digit_names (decimal i) (decimal_is_IsNumeral i k).0.1);
    }

and_left : (a b : Bool) → (a && b) ≡ true → a ≡ true
and_left true b e = refl
and_left false b e = cc

and_right : (a b : Bool) → (a && b) ≡ true → b ≡ true
and_right true b e = e
and_right false b e = cc

all_bytes : (bytes : List ℕ) → list_all is_word bytes ≡ true → All (λ b. IsTrue (is_word b)) bytes
all_bytes [] e = All-nil (λ b. IsTrue (is_word b))
all_bytes (c ∷ bytes) e =
    All-cons (λ b. IsTrue (is_word b)) c bytes (and_left (is_word c) (list_all is_word bytes) e) (all_bytes bytes (and_right (is_word c) (list_all is_word bytes) e))

-- the test accepts only names
pub spelled_is_name : (bytes : List ℕ) → IsTrue (is_spelled bytes) → IsName bytes
spelled_is_name bytes h =
    let few = and_right (list_all is_word bytes) (nat_le 1 (length bytes) && nat_le (length bytes) 64) h in
    record {
      not_empty = leb-true 1 (length bytes) (and_left (nat_le 1 (length bytes)) (nat_le (length bytes) 64) few);
      within = leb-true (length bytes) 64 (and_right (nat_le 1 (length bytes)) (nat_le (length bytes) 64) few);
      spelled = all_bytes bytes (and_left (list_all is_word bytes) (nat_le 1 (length bytes) && nat_le (length bytes) 64) h);
    }
