-- An instruction of the sequential machine, stage by stage, is computed.
use Rattle.std.proofs.Common.{◌≡◌, ◌∙◌, ℕ, zero, suc, List, [], Option, Some, None, map, refl, ap}
use Rattle.std.{proofs.lemmas.Option.slice_get-map, specs.Prelude.slice_get, specs.Option.option_map}
use Rattle.kp_ast.specs.declared.tree.{Named.Named, Num.Num, Stmt.Stmt, Block.Block, Image.Image, Job.Job}
use Rattle.kp_pipeline.specs.{Machine.Tree, Sequential.Instruction, Sequential.run, Sequential.after_stage, Sequential.fresh_instruction, Sequential.before_stage}
use Rattle.kp_stage.specs.Facts.{stmts_in}
use Rattle.kp_machine.specs.{Machine.machine_of, Machine.stage_tree, Trees.entered, Trees.tree_of}
use Rattle.kp_plain.specs.{Plain.Part, Plain.Act, Plain.stmt_of, Plain.decl_of, Plain.block_of, Plain.job_of, Meaning.means, Meaning.acts}
use Rattle.kp_plain.proofs.Means.{tree_acts}

-- the statements of a block
abbrev pub acts_in : Option (Num × List Act) → List Act
acts_in None = []
acts_in (Some b) = b.1

-- What the instruction is after a stage with this tree, where its reads see the state s.
abbrev pub does : (ℕ → ℕ → ℕ) → Instruction → Tree → Instruction
does s c t = after_stage c (run (λ t a. Some (s t a)) (λ h. 0) t)

module _ (parts : List Part) (blocks : List (Num × List Act)) (s : ℕ → ℕ → ℕ) (q : ℕ → ℕ) where
  -- the tree of stage k
  abbrev pub tree_at : ℕ → (ℕ → ℕ) → Tree
  tree_at k pipes = acts (means parts) (map decl_of parts) (entered (map decl_of parts) q pipes) (acts_in (slice_get blocks k))

  -- the instruction before stage k
  abbrev pub before : ℕ → Instruction
  before zero = fresh_instruction
  before (suc k) = does s (before k) (tree_at k (before k).pipes)

  module _ (name : Named) (count : Num) (image : Option (List Image)) where
    abbrev job : Job
    job = job_of name count parts blocks image

    same_stmts : (b : Option (Num × List Act)) → stmts_in (option_map block_of b) ≡ map stmt_of (acts_in b)
    same_stmts None = refl
    same_stmts (Some b) = refl

    abbrev tree_of_stmts : (ℕ → ℕ) → List Stmt → Tree
    tree_of_stmts pipes ss = tree_of (map decl_of parts) (entered (map decl_of parts) q pipes) ss

    same_tree : (k : ℕ) (pipes : ℕ → ℕ) → stage_tree job k q pipes ≡ tree_at k pipes
    unfolding stage_tree
    same_tree k pipes =
        ap (λ (b : Option Block). tree_of_stmts pipes (stmts_in b)) (slice_get-map block_of blocks k)
        ∙ ap (tree_of_stmts pipes) (same_stmts (slice_get blocks k))
        ∙ tree_acts parts (entered (map decl_of parts) q pipes) (acts_in (slice_get blocks k))

    pub computed : (k : ℕ) → before_stage (machine_of job) s q k ≡ before k
    unfolding before_stage machine_of
    computed zero = refl
    computed (suc k) =
        ap (λ (c : Instruction). does s c (stage_tree job k q c.pipes)) (computed k) ∙ ap (does s (before k)) (same_tree k (before k).pipes)
