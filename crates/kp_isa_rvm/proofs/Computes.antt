-- The stages of the description, computed: what an instruction with given fields does.
use Rattle.std.proofs.Common.{◌≡◌, ◌∙◌, ℕ, zero, suc, ◌+◌, ◌*◌, ◌/◌, ◌%◌, ◌^◌, Bool, true, false, cond, eqb, List, [], ◌∷◌, ◌++◌, Option, map, refl, ap, arith, if◌then◌else◌}
use Rattle.std.{proofs.Math.Path.fun_ext, specs.Prelude.codes, specs.Prelude.unwrap_or, specs.Prelude.slice_get, specs.Prelude.nat_lt}
use Rattle.kp_bits.specs.Word.{Word, word}
use Rattle.kp_ast.specs.declared.tree.{Named.Named, Num.Num, Decl.Decl, Image.Image}
use Rattle.kp_ast.specs.Expressions.{Values, Names, Calls, names_of, arguments_of, is_same_name}
use Rattle.kp_pipeline.specs.{Machine.Machine, Machine.Tree, Sequential.Instruction, Sequential.after_stage, Sequential.fresh_instruction, Sequential.is_written, Sequential.exec}
use Rattle.kp_machine.specs.{Machine.machine_of, Trees.entered}
use Rattle.kp_plain.specs.Plain.{Part, pipe, func, Act, decl_of, param_of}
use Rattle.kp_plain.{specs.Meaning.Meaning, specs.Meaning.val, specs.Meaning.parts_calls, specs.Meaning.means, specs.Meaning.acts, proofs.Stages.acts_in, proofs.Stages.does, proofs.Stages.tree_at, proofs.Stages.before, proofs.Stages.computed}
use Rattle.kp_isa_rv.specs.Isa.{word_at, funct7}
use Rattle.kp_isa_rv.proofs.Decoding.{Fields, fields, names, lets, puts, condition, after_lets, read_of, value_of, one_read}
use Rattle.kp_isa_rvm.specs.Rv32im.{n, k, parts, blocks, divide4_body, rv32im}
use Rattle.kp_isa_rvm.proofs.Divider.{one_bit, four_bits, bit_zero, bit_one, is_one_bit, is_four_bits}

-- the last declaration, which is the function divide4, and the calls that the others give
abbrev last : Part → List Part → Part
last p [] = p
last p (q ∷ ps) = last q ps

abbrev before_last : List Part → Part → List Part
before_last [] p = []
before_last (q ∷ ps) p = p ∷ before_last ps q

abbrev divider : Part
divider = last (pipe (n 0 0 "") (k 0 0 0)) parts

abbrev all_before : List Part → List Part
all_before [] = []
all_before (p ∷ ps) = before_last ps p

abbrev earlier : Calls
earlier = parts_calls (all_before parts)

-- Four bits of a quotient are computed at once: in a call of divide4 the steps of the division are not computed.
abbrev four_of : Names → Word
four_of names = word 64 (four_bits (names (codes "s")).value (names (codes "d")).value)

abbrev quick_part : Calls → Part → Calls
quick_part calls (func n params w body) name args =
    if is_same_name n.name name then four_of (names_of (arguments_of (map param_of params) args)) else calls name args
quick_part calls _ name args = calls name args

abbrev quick_calls : Calls
quick_calls = quick_part earlier divider

abbrev params_of : Part → List (Named × Num)
params_of (func n params w body) = params
params_of _ = []

-- one bit
chosen : (t : Bool) (x y : ℕ) → cond (eqb (cond t 1 0) 1) (word 64 x) (word 64 y) ≡ word 64 (cond t x y)
chosen true x y = refl
chosen false x y = refl

no_high : (w d : ℕ) → 0 * 2 ^ w + d ≡ d
no_high w d = omega arith

one_is : (s d : Word) → earlier (codes "divide1") (s ∷ d ∷ []) ≡ word 64 (one_bit s.value d.value)
one_is s d =
    ap (λ (n : ℕ). cond (eqb (cond (nat_lt (s.value / 2 ^ 31 % 2 ^ 33) n) 1 0) 1) (word 64 (bit_zero s.value)) (word 64 (bit_one s.value d.value))) (no_high d.width d.value)
    ∙ chosen (nat_lt (s.value / 2 ^ 31 % 2 ^ 33) d.value) (bit_zero s.value) (bit_one s.value d.value)
    ∙ ap (word 64) (is_one_bit s.value d.value)

-- four bits
abbrev again : Word → Word → Word
again d x = earlier (codes "divide1") (x ∷ d ∷ [])

four_times : (s d : Word) → again d (again d (again d (again d s))) ≡ word 64 (four_bits s.value d.value)
four_times s d =
    ap (λ (x : Word). again d (again d (again d x))) (one_is s d)
    ∙ ap (λ (x : Word). again d (again d x)) (one_is (word 64 (one_bit s.value d.value)) d)
    ∙ ap (again d) (one_is (word 64 (one_bit (one_bit s.value d.value) d.value)) d)
    ∙ one_is (word 64 (one_bit (one_bit (one_bit s.value d.value) d.value) d.value)) d
    ∙ ap (word 64) (is_four_bits s.value d.value)

four_is : (names : Names) → val (record { names = names; calls = earlier }) divide4_body ≡ four_of names
four_is names = four_times (names (codes "s")) (names (codes "d"))

abbrev quick : Meaning
quick values t = val (record { names = names_of values; calls = quick_calls }) t

same_call : (name : List ℕ) (args : List Word) → parts_calls parts name args ≡ quick_calls name args
same_call name args =
    ap (λ (x : Word). cond (is_same_name (codes "divide4") name) x (earlier name args)) (four_is (names_of (arguments_of (map param_of (params_of divider)) args)))

quick_is : means parts ≡ quick
quick_is =
    fun_ext (λ values. fun_ext (λ t.
    ap (λ (c : Calls). val (record { names = names_of values; calls = c }) t) (fun_ext (λ name. fun_ext (λ args. same_call name args)))))

abbrev ds : List Decl
ds = map decl_of parts

abbrev statements : List Act
statements = acts_in (slice_get blocks 1)

-- the names of stage 1, with bits 31 to 25 of the instruction
abbrev all_names : Fields → ℕ → Values
all_names f g = (31 ∷ 25 ∷ [], word 7 g) ∷ names f

module _ (q : ℕ → ℕ) where
  -- the tree of stage k
  abbrev tree_on : ℕ → (ℕ → ℕ) → Tree
  tree_on k pipes = acts quick ds (entered ds q pipes) (acts_in (slice_get blocks k))

  -- whether an instruction with these fields has the read of a name
  abbrev uses : List ℕ → Fields → ℕ → Bool
  uses name f g = eqb (quick (after_lets quick (all_names f g) (lets statements)) (condition name statements)).value 1

  -- stage 1 of an instruction with these fields, where a and b have these values, and with the reads
  abbrev decoded : Fields → ℕ → (ℕ → ℕ) → Word → Word → Tree
  decoded f g pipes a b =
      let d = entered ds q pipes in
      acts quick ds (record { names = all_names f g ++ (codes "a", a) ∷ (codes "b", b) ∷ d.names; puts = d.puts; sets = d.sets; aims = d.aims })
      (lets statements ++ puts statements)

  abbrev reading : Fields → ℕ → (ℕ → ℕ) → Tree
  reading f g pipes = read_of (uses (codes "xa") f g) f.rs1 (λ a. read_of (uses (codes "xb") f g) f.rs2 (λ b. decoded f g pipes a b))

  module _ (s : ℕ → ℕ → ℕ) where
    abbrev on_stage : ℕ → Instruction → Instruction
    on_stage k c = does s c (tree_on k c.pipes)

    -- the instruction before stage k
    abbrev at : ℕ → Instruction
    at zero = fresh_instruction
    at (suc k) = on_stage k (at k)

    same_at : (k : ℕ) → before parts blocks s q k ≡ at k
    same_at zero = refl
    same_at (suc k) =
        ap (λ (c : Instruction). does s c (tree_at parts blocks s q k c.pipes)) (same_at k)
        ∙ ap (λ (m : Meaning). does s (at k) (acts m ds (entered ds q (at k).pipes) (acts_in (slice_get blocks k)))) quick_is

    -- the instruction after stage 0, with these fields after stage 1, and after k more stages
    abbrev fetched : Instruction
    fetched = at 1

    abbrev with_operands : Fields → ℕ → Instruction
    with_operands f g =
        does s fetched (decoded f g fetched.pipes (word 32 (value_of s (uses (codes "xa") f g) f.rs1)) (word 32 (value_of s (uses (codes "xb") f g) f.rs2)))

    abbrev later : ℕ → Instruction → Instruction
    later zero c = c
    later (suc k) c = on_stage (k + 2) (later k c)

    abbrev executed : Fields → ℕ → Instruction
    executed f g = later 10 (with_operands f g)

    decodes : (f : Fields) (g : ℕ) → does s fetched (reading f g fetched.pipes) ≡ with_operands f g
    decodes f g =
        let x : ℕ = value_of s (uses (codes "xa") f g) f.rs1 in
        ap (after_stage fetched)
        (one_read s (λ a. read_of (uses (codes "xb") f g) f.rs2 (λ b. decoded f g fetched.pipes a b)) f.rs1 (uses (codes "xa") f g)
        ∙ one_read s (λ b. decoded f g fetched.pipes (word 32 x) b) f.rs2 (uses (codes "xb") f g))

    abbrev i : ℕ
    i = s 1 (word_at (s 0 0))

    is_reading : tree_on 1 fetched.pipes ≡ reading (fields i) (funct7 i) fetched.pipes
    is_reading = refl

    is_executed : at 12 ≡ executed (fields i) (funct7 i)
    is_executed = ap (later 10) (ap (does s fetched) is_reading ∙ decodes (fields i) (funct7 i))

    module _ (image : Option (List Image)) where
      abbrev m : Machine
      m = machine_of (rv32im image)

      -- the state after an instruction with these fields
      abbrev pub after : Fields → ℕ → ℕ → ℕ → ℕ
      after f g t a = cond (is_written m (executed f g) t a) (unwrap_or ((executed f g).results t) 0) (s t a)

      pub exec_is : (t a : ℕ) → exec m s q t a ≡ after (fields i) (funct7 i) t a
      unfolding machine_of
      exec_is t a =
          ap (λ (c : Instruction). cond (is_written m c t a) (unwrap_or (c.results t) 0) (s t a))
          (computed parts blocks s q (rv32im image).name (rv32im image).stages image 12 ∙ same_at 12 ∙ is_executed)
