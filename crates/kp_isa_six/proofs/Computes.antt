-- The stages of the description, computed: what an instruction with given fields does.
use Rattle.std.proofs.Common.{◌≡◌, ◌∙◌, ℕ, cond, List, [], ◌∷◌, ◌++◌, Option, Some, None, map, refl, ap}
use Rattle.std.{specs.Prelude.codes, specs.Prelude.unwrap_or}
use Rattle.kp_bits.specs.{Word.word, declared.operator.BinOp.TheVariants.Or, declared.operator.BinOp.TheVariants.Eq, declared.operator.BinOp.TheVariants.Lt}
use Rattle.kp_ast.specs.{declared.tree.Decl.Decl, declared.tree.Image.Image, Expressions.Values}
use Rattle.kp_pipeline.specs.{Machine.Machine, Machine.Tree}
use Rattle.kp_pipeline.specs.Sequential.{Instruction, run, after_stage, fresh_instruction, before_stage, is_written, exec}
use Rattle.kp_machine.specs.{Machine.machine_of, Machine.stage_tree, Trees.Progress, Trees.entered}
use Rattle.kp_plain.{specs.Meaning.means, specs.Meaning.acts, proofs.Means.tree_acts}
use Rattle.kp_plain.specs.Plain.{p, lit, bin, mux, zx, Act, read, bind, put, decl_of}
use Rattle.kp_isa_six.specs.{Six.n, Six.k, Six.v, Six.parts, Six.stage0, Six.stage1, Six.stage2, Six.stage3, Six.six, Isa.Fields, Isa.fields}

abbrev pub ds : List Decl
ds = map decl_of parts

-- stage 1, where the fields of IR are names
abbrev on_fields : List Act
on_fields =
    bind (p 32 3) (n 32 7 "op") (v 32 14 "7:5")
    ∷ bind (p 33 3) (n 33 7 "ad") (v 33 14 "4:0")
    ∷ read (p 34 3) (n 34 8 "m") (n 34 12 "DM") (Some (v 34 15 "ad")) (Some (bin (p 34 37) Or (bin (p 34 28) Eq (v 34 25 "op") (lit (p 34 31) 3 1)) (bin (p 34 43) Eq (v 34 40 "op") (lit (p 34 46) 3 2)))) None
    ∷ put (p 35 3) (n 35 7 "OP") (v 35 12 "op")
    ∷ put (p 36 3) (n 36 7 "AD") (v 36 12 "ad")
    ∷ put (p 37 3) (n 37 7 "V") (mux (p 37 22) (bin (p 37 14) Eq (v 37 11 "op") (lit (p 37 17) 3 0)) (zx (p 37 24) (v 37 29 "ad") (k 37 33 8)) (v 37 38 "m"))
    ∷ put (p 38 3) (n 38 7 "W") (bin (p 38 14) Lt (v 38 11 "op") (lit (p 38 16) 3 3))
    ∷ put (p 39 3) (n 39 7 "S") (bin (p 39 14) Eq (v 39 11 "op") (lit (p 39 17) 3 3))
    ∷ []

abbrev with_fields : Fields → Progress → Progress
with_fields f d =
    record { names = (codes "7:5", word 3 f.op) ∷ (codes "4:0", word 5 f.ad) ∷ d.names; puts = d.puts; sets = d.sets; aims = d.aims }

module _ (q : ℕ → ℕ) where
  abbrev tree_on : List Act → (ℕ → ℕ) → Tree
  tree_on stage pipes = acts (means parts) ds (entered ds q pipes) stage

  abbrev tree1 : Fields → (ℕ → ℕ) → Tree
  tree1 f pipes = acts (means parts) ds (with_fields f (entered ds q pipes)) on_fields

  same1 : (pipes : ℕ → ℕ) → tree_on stage1 pipes ≡ tree1 (fields (pipes 0)) pipes
  same1 pipes = refl

  module _ (s : ℕ → ℕ → ℕ) where
    abbrev does : Instruction → Tree → Instruction
    does c t = after_stage c (run (λ t a. Some (s t a)) (λ h. 0) t)

    abbrev on_stage : List Act → Instruction → Instruction
    on_stage stage c = does c (tree_on stage c.pipes)

    -- the instruction after stage 0, and with these fields after all stages
    abbrev fetched : Instruction
    fetched = on_stage stage0 fresh_instruction

    abbrev pub executed : Fields → Instruction
    executed f = on_stage stage3 (on_stage stage2 (does fetched (tree1 f fetched.pipes)))

    module _ (image : Option (List Image)) where
      abbrev m : Machine
      m = machine_of (six image)

      abbrev body : ℕ → Instruction → Instruction
      body k c = does c (stage_tree (six image) k q c.pipes)

      computes0 : (c : Instruction) → body 0 c ≡ on_stage stage0 c
      unfolding stage_tree
      computes0 c = ap (does c) (tree_acts parts (entered ds q c.pipes) stage0)

      computes1 : (c : Instruction) → body 1 c ≡ on_stage stage1 c
      unfolding stage_tree
      computes1 c = ap (does c) (tree_acts parts (entered ds q c.pipes) stage1)

      computes2 : (c : Instruction) → body 2 c ≡ on_stage stage2 c
      unfolding stage_tree
      computes2 c = ap (does c) (tree_acts parts (entered ds q c.pipes) stage2)

      computes3 : (c : Instruction) → body 3 c ≡ on_stage stage3 c
      unfolding stage_tree
      computes3 c = ap (does c) (tree_acts parts (entered ds q c.pipes) stage3)

      stages : before_stage m s q 4 ≡ body 3 (body 2 (body 1 (body 0 fresh_instruction)))
      unfolding before_stage machine_of
      stages = refl

      -- all stages
      pub is_executed : before_stage m s q 4 ≡ executed (fields (s 2 (s 0 0)))
      is_executed =
          stages
          ∙ ap (λ (c : Instruction). body 3 (body 2 (body 1 c))) (computes0 fresh_instruction)
          ∙ ap (λ (c : Instruction). body 3 (body 2 c)) (computes1 fetched)
          ∙ ap (λ (c : Instruction). body 3 c) (computes2 (on_stage stage1 fetched))
          ∙ computes3 (on_stage stage2 (on_stage stage1 fetched))

      -- the state after an instruction with these fields
      abbrev pub after : Fields → ℕ → ℕ → ℕ
      after f t a = cond (is_written m (executed f) t a) (unwrap_or ((executed f).results t) 0) (s t a)

      pub exec_is : (t a : ℕ) → exec m s q t a ≡ after (fields (s 2 (s 0 0))) t a
      unfolding machine_of
      exec_is t a = ap (λ (c : Instruction). cond (is_written m c t a) (unwrap_or (c.results t) 0) (s t a)) is_executed
