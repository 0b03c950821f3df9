-- Look-ups among numbered names.
use Rattle.std.proofs.Common.{◌≡◌, ◌∙◌, ℕ, zero, suc, ◌<◌, ◌≤◌, ◌^◌, ◌+◌, List, [], ◌∷◌, ◌++◌, Option, Some, None, Bool, true, false, cond, refl, ap, sym, arith}
use Rattle.std.proofs.lemmas.{Bool.eqb-true, Bool.eqb-false, Bool.false_from_ne_true, Fmt.decimal_is_IsNumeral}
use Rattle.std.specs.{Prelude.decimal, Prelude.◌==◌, Cmp.Lexicographic.bytes_decides, Str.Parse.digits_value}
use Rattle.kp_ast.specs.Expressions.{is_same_name}
use Rattle.kp_width.specs.Names.{Sense, Names, look_up}
use Rattle.kp_gen.specs.Generated.{numbered}

pub either : {G : Type 0} (b : Bool) → (b ≡ true → G) → (b ≡ false → G) → G
either true here there = here refl
either false here there = there refl

below : (j k : ℕ) → j ≤ k → (j ≡ k → ⊥) → j + 1 ≤ k
below j k h other = omega (arith, other)

pub same_true : (a : List ℕ) → is_same_name a a ≡ true
same_true a = (bytes_decides a a).1 refl

abbrev pub drop_one : List ℕ → List ℕ
drop_one [] = []
drop_one (c ∷ cs) = cs

decimal_determines : (i j : ℕ) → i < 2 ^ 64 → j < 2 ^ 64 → decimal i ≡ decimal j → i ≡ j
decimal_determines i j h k e = sym (decimal_is_IsNumeral i h).1 ∙ ap (digits_value 10) e ∙ (decimal_is_IsNumeral j k).1

-- names with the same letter and different numbers are different
pub other_number : (letter i j : ℕ) → i < 2 ^ 64 → j < 2 ^ 64 → (i ≡ j → ⊥) → is_same_name (numbered letter i) (numbered letter j) ≡ false
other_number letter i j h k other =
    false_from_ne_true (is_same_name (numbered letter i) (numbered letter j))
    (λ e. other (decimal_determines i j h k (ap (drop_one) ((bytes_decides (numbered letter i) (numbered letter j)).0 e))))

pub look_here : (name n : List ℕ) (m : Sense) (names : Names) → is_same_name name n ≡ true → look_up ((n, m) ∷ names) name ≡ Some m
look_here name n m names e = rw e refl

pub look_past : (name n : List ℕ) (m : Sense) (names : Names) → is_same_name name n ≡ false → look_up ((n, m) ∷ names) name ≡ look_up names name
look_past name n m names e = rw e refl

chosen : (b : Bool) (x : Sense) (o p : Option Sense) (m : Sense) → (o ≡ Some m → p ≡ Some m) → cond b (Some x) o ≡ Some m → cond b (Some x) p ≡ Some m
chosen true x o p m more e = e
chosen false x o p m more e = more e

passed_by : (b : Bool) (x : Sense) (o p q : Option Sense) → (o ≡ None → p ≡ q) → cond b (Some x) o ≡ None → cond b (Some x) p ≡ q
passed_by true x o p q more e = cc
passed_by false x o p q more e = more e

-- in the concatenation of two lists
pub look_first : (xs ys : Names) (name : List ℕ) (m : Sense) → look_up xs name ≡ Some m → look_up (xs ++ ys) name ≡ Some m
look_first [] ys name m e = cc
look_first (x ∷ xs) ys name m e = chosen (is_same_name name x.0) x.1 (look_up xs name) (look_up (xs ++ ys) name) m (look_first xs ys name m) e

pub look_second : (xs ys : Names) (name : List ℕ) → look_up xs name ≡ None → look_up (xs ++ ys) name ≡ look_up ys name
look_second [] ys name e = refl
look_second (x ∷ xs) ys name e = passed_by (is_same_name name x.0) x.1 (look_up xs name) (look_up (xs ++ ys) name) (look_up ys name) (look_second xs ys name) e

-- the given number of numbered names, from a number on
module _ (letter : ℕ) (sense_at : ℕ → Sense) where
  abbrev pub spread : ℕ → ℕ → Names
  spread j zero = []
  spread j (suc n) = (numbered letter j, sense_at j) ∷ spread (j + 1) n

  pub spread_there : (j n k : ℕ) → j ≤ k → k < j + n → k < 2 ^ 64 → look_up (spread j n) (numbered letter k) ≡ Some (sense_at k)
  spread_there j zero k h l w = absurd (omega arith)
  spread_there j (suc n) k h l w =
      either (j == k)
      (λ e. let p : j ≡ k = eqb-true j k e in
      look_here (numbered letter k) (numbered letter j) (sense_at j) (spread (j + 1) n) (((bytes_decides (numbered letter k) (numbered letter j)).1 (ap (numbered letter) (sym p))))
      ∙ ap (λ x. Some (sense_at x)) p)
      (λ e. let other : j ≡ k → ⊥ = eqb-false j k e in
      look_past (numbered letter k) (numbered letter j) (sense_at j) (spread (j + 1) n) (other_number letter k j w (omega arith) (λ p. other (sym p)))
      ∙ spread_there (j + 1) n k (below j k h other) (omega arith) w)

  pub spread_none : (name : List ℕ) (j n : ℕ) → ((k : ℕ) → j ≤ k → k < j + n → is_same_name name (numbered letter k) ≡ false) → look_up (spread j n) name ≡ None
  spread_none name j zero none = refl
  spread_none name j (suc n) none = look_past name (numbered letter j) (sense_at j) (spread (j + 1) n) (none j (omega arith) (omega arith)) ∙ spread_none name (j + 1) n (λ k h l. none k (omega arith) (omega arith))
