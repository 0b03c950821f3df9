-- Looking up a name in a concatenation of two lists of values.
use Rattle.std.proofs.Common.{◌≡◌, ◌∙◌, ℕ, List, [], ◌∷◌, ◌++◌, Option, Some, None, Bool, true, false, cond, refl, ap, sym}
use Rattle.std.specs.Cmp.Lexicographic.{bytes_decides}
use Rattle.kp_bits.specs.Word.{Word}
use Rattle.kp_ast.specs.Expressions.{Values, is_same_name, look_up}
use Rattle.kp_machine.proofs.Cases.{by_test}

-- a value, or else another
abbrev pub or_else : Option Word → Option Word → Option Word
or_else None o = o
or_else (Some x) o = Some x

found_in_front : (b : Bool) (x : Word) (o p : Option Word) → cond b (Some x) (or_else o p) ≡ or_else (cond b (Some x) o) p
found_in_front true x o p = refl
found_in_front false x o p = refl

-- a name is looked up in one list, and then in the other
pub look_up-append : (v w : Values) (n : List ℕ) → look_up (v ++ w) n ≡ or_else (look_up v n) (look_up w n)
look_up-append [] w n = refl
look_up-append (x ∷ v) w n =
    ap (cond (is_same_name n x.0) (Some x.1)) (look_up-append v w n) ∙ found_in_front (is_same_name n x.0) x.1 (look_up v n) (look_up w n)

pub or_none : (o : Option Word) → or_else o None ≡ o
or_none None = refl
or_none (Some w) = refl

-- a new name at the end
pub look_up_end : (names : Values) (n q : List ℕ) (w : Word) → look_up names n ≡ None → look_up (names ++ (n, w) ∷ []) q ≡ cond (is_same_name q n) (Some w) (look_up names q)
look_up_end names n q w none = look_up-append names ((n, w) ∷ []) q ∙ by_test (is_same_name q n)
    (λ y.
    let gone : look_up names q ≡ None = ap (look_up names) ((bytes_decides q n).0 y) ∙ none in
    ap (λ o. or_else o (cond (is_same_name q n) (Some w) None)) gone
    ∙ ap (λ b. cond b (Some w) None) y
    ∙ sym (ap (λ b. cond b (Some w) (look_up names q)) y))
    (λ y.
    ap (λ b. or_else (look_up names q) (cond b (Some w) None)) y
    ∙ or_none (look_up names q)
    ∙ sym (ap (λ b. cond b (Some w) (look_up names q)) y))
