-- Stage 1 of the descriptions, where the fields of the instruction IR are names, and so are the values a and b of the two registers.
use Rattle.std.proofs.Common.{◌≡◌, ℕ, Bool, true, false, cond, eqb, List, [], ◌∷◌, ◌++◌, Some, refl, if◌then◌else◌}
use Rattle.std.specs.Prelude.{codes}
use Rattle.kp_bits.specs.Word.{Word, word}
use Rattle.kp_ast.specs.Expressions.{Values, is_same_name}
use Rattle.kp_pipeline.specs.{Machine.Tree, Machine.Ask, Sequential.StageOutcome, Sequential.run}
use Rattle.kp_plain.specs.Plain.{Term, Terms, lit, var, inv, bin, mux, cat, cut, zx, sx, app, none, more, Act, read, bind, put}
use Rattle.kp_plain.specs.Meaning.{Meaning}
use Rattle.kp_isa_rv.specs.Isa.{bits}

-- the fields of an instruction that decide what it does, and whether it is a load
pub record Fields : Type 0 where
  pub op : ℕ
  pub is_load : Bool
  pub f3 : ℕ
  pub b30 : ℕ
  pub rd : ℕ
  pub rs1 : ℕ
  pub rs2 : ℕ

abbrev pub fields : ℕ → Fields
fields i = record {
  op = bits i 6 0;
  is_load = eqb (bits i 6 0) 3;
  f3 = bits i 14 12;
  b30 = bits i 30 30;
  rd = bits i 11 7;
  rs1 = bits i 19 15;
  rs2 = bits i 24 20;
}

-- The name of bits hi to lo of IR, which no name in a text is.
abbrev bits_name : ℕ → ℕ → List ℕ
bits_name hi lo = hi ∷ lo ∷ []

abbrev pub names : Fields → Values
names f =
    (bits_name 6 0, word 7 f.op) ∷ (codes "load", word 1 (cond f.is_load 1 0)) ∷ (bits_name 14 12, word 3 f.f3) ∷ (bits_name 30 30, word 1 f.b30)
    ∷ (bits_name 11 7, word 5 f.rd) ∷ (bits_name 19 15, word 5 f.rs1) ∷ (bits_name 24 20, word 5 f.rs2) ∷ []

-- A term with names for the bits of IR.
abbrev mutual
  pub named : Term → Term
  named (lit p w v) = lit p w v
  named (var p n) = var p n
  named (inv p a) = inv p (named a)
  named (bin p op a b) = bin p op (named a) (named b)
  named (mux p t a b) = mux p (named t) (named a) (named b)
  named (cat p ts) = cat p (all_named ts)
  named (cut p (var q n) hi lo) = if is_same_name n (codes "IR") then var q (bits_name hi lo) else cut p (var q n) hi lo
  named (cut p a hi lo) = cut p (named a) hi lo
  named (zx p a w) = zx p (named a) w
  named (sx p a w) = sx p (named a) w
  named (app p f ts) = app p f (all_named ts)

  all_named : Terms → Terms
  all_named none = none
  all_named (more t ts) = more (named t) (all_named ts)

-- the lets before the first read, but that of load, which the fields name
abbrev pub lets : List Act → List Act
lets (bind p n t ∷ rest) = if is_same_name n.name (codes "load") then lets rest else bind p n (named t) ∷ lets rest
lets _ = []

-- the puts
abbrev pub puts : List Act → List Act
puts [] = []
puts (put p n t ∷ rest) = put p n (named t) ∷ puts rest
puts (_ ∷ rest) = puts rest

-- the condition of the read with this name
abbrev pub condition : List ℕ → List Act → Term
condition name (read p n target address (Some t) guess ∷ rest) = if is_same_name n.name name then t else condition name rest
condition name (_ ∷ rest) = condition name rest
condition name [] = lit (record { line = 0; col = 0 }) 1 0

-- the names that lets give values
abbrev pub after_lets : Meaning → Values → List Act → Values
after_lets m known (bind p n t ∷ rest) = after_lets m (known ++ (n.name, m known t) ∷ []) rest
after_lets m known _ = known

-- The value of a register as read, 0 where it isn't, as the description chooses it.
abbrev pub chosen : ℕ → ℕ → Word
chosen n x = cond (eqb (cond (eqb n 0) 1 0) 1) (word 32 0) (word 32 x)

-- A read of register n where u is true, followed by the choice.
abbrev pub read_of : Bool → ℕ → (Word → Tree) → Tree
read_of u n rest = cond u (Ask 2 n (λ x. rest (chosen n x))) (rest (chosen n 0))

abbrev pub value_of : (ℕ → ℕ → ℕ) → Bool → ℕ → ℕ
value_of s u n = cond u (cond (eqb n 0) 0 (s 2 n)) 0

module _ (s : ℕ → ℕ → ℕ) (rest : Word → Tree) (n : ℕ) where
  abbrev runs : Tree → StageOutcome
  runs t = run (λ t a. Some (s t a)) (λ h. 0) t

  abbrev by_test : Bool → ℕ → Word
  by_test z x = cond (eqb (cond z 1 0) 1) (word 32 0) (word 32 x)

  by_cases : (u z : Bool) → runs (cond u (Ask 2 n (λ x. rest (by_test z x))) (rest (by_test z 0))) ≡ runs (rest (word 32 (cond u (cond z 0 (s 2 n)) 0)))
  by_cases true true = refl
  by_cases true false = refl
  by_cases false true = refl
  by_cases false false = refl

  pub one_read : (u : Bool) → runs (read_of u n rest) ≡ runs (rest (word 32 (value_of s u n)))
  one_read u = by_cases u (eqb n 0)
