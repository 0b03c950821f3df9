-- WHEN A SET TAKES PLACE.
use Rattle.std.specs.Prelude.{◌≡◌, ℕ, suc, ◌+◌, true, List, length, take, slice_get, Some, None}
use Rattle.kp_ast.specs.declared.tree.{ResultDecl.ResultDecl, Job.Job}
use Rattle.kp_pipeline.specs.Sequential.{Instruction, after_stage, before_stage, exec, is_written, run}
use Rattle.kp_stage.specs.Facts.{stmts_in}
use Rattle.kp_machine.specs.{Machine.address_in, Machine.machine_of, Machine.result_for, Slots.pipes_of, Trees.entered, Trees.tree_of}
use Rattle.kp_lint.specs.{Lints.is_among, Sets.in_vain, Sets.sets_from}
use Rattle.kp_pipeline.specs.Machine.{State}

-- The instruction of the sequential machine on the state s with the sample values q, before statement j of stage k: after the stages below k, and
-- then the first j statements of stage k.
abbrev pub instruction_at : Job → State → (ℕ → ℕ) → ℕ → ℕ → Instruction
instruction_at job s q k j =
    let c = before_stage (machine_of job) s q k in
    after_stage c (run (λ t a. Some (s t a)) (λ h. 0) (tree_of job.decls (entered job.decls q c.pipes) (take j (stmts_in (slice_get job.blocks k)))))

-- Its results are those before the stage, where no statement has come yet, and those before the next stage, where all have.
abbrev pub IsBetweenStages : Job → Type 0
IsBetweenStages job =
    (s : State) (q : ℕ → ℕ) (k t : ℕ)
    → ((instruction_at job s q k 0).results t ≡ (before_stage (machine_of job) s q k).results t)
    × ((instruction_at job s q k (length (stmts_in (slice_get job.blocks k)))).results t ≡ (before_stage (machine_of job) s q (suc k)).results t)

-- Statement j of stage k sets the result of target t in this instruction: it is unset before the statement and set after it.
abbrev pub Sets : Job → State → (ℕ → ℕ) → (stage statement target : ℕ) → Type 0
Sets job s q k j t =
    ((instruction_at job s q k j).results t ≡ None)
    × ((v : ℕ) × ((instruction_at job s q k (j + 1)).results t ≡ Some v))

-- THE CLAIM that a set never takes place: the statement sets no result, in no instruction on any state and with any samples.
abbrev pub NeverSets : Job → ℕ → ℕ → Type 0
NeverSets job k j = (s : State) (q : ℕ → ℕ) (t : ℕ) → Sets job s q k j t → ⊥

-- Each set in vain is one: where W3 is reported, the set never takes place.
abbrev pub AreInVain : Job → Type 0
AreInVain job = (result : List ℕ) (k j : ℕ) → is_among k j (in_vain (sets_from result 0 job.blocks)) ≡ true → NeverSets job k j

-- THE CLAIM that a result may be unset: an instruction that doesn't set the result r of target t, which has no enable, writes 0 at its address.
abbrev pub WritesZero : Job → State → (ℕ → ℕ) → ℕ → ResultDecl → Type 0
WritesZero job s q t r =
    let m = machine_of job in
    let c = before_stage m s q m.stages in
    let a = address_in (pipes_of job.decls) c.pipes (Some r) in
    (is_written m c t a ≡ true) × (exec m s q t a ≡ 0)

abbrev pub UnsetIsZero : Job → Type 0
UnsetIsZero job =
    (s : State) (q : ℕ → ℕ) (t : ℕ) (r : ResultDecl) → result_for job t ≡ Some r → r.enable ≡ None
    → ((k j : ℕ) → Sets job s q k j t → ⊥) → WritesZero job s q t r
