-- WHAT IS REQUIRED OF A RUN that starts with the values s of registers and files.
use Rattle.std.specs.Prelude.{◌≡◌, ℕ, ◌≤◌, List, length}
use Rattle.kp_ast.specs.declared.tree.Job.{Job}
use Rattle.kp_pipeline.specs.{Pipeline.Inputs, Rows.Row, Rows.Trace, Rows.taken, Sequential.seq}
use Rattle.kp_machine.specs.{Machine.machine_of, Words.HasWord}
use Rattle.kp_sched.specs.Runs.{passes}
use Rattle.kp_pipeline.specs.Machine.{State}

-- The required value of target t at address a after T cycles of such a run with these inputs and rows: its value in
-- the sequential machine that starts with s, after as many instructions as have passed its write stage.
unfoldable pub value_from : Job → State → List Inputs → List Row → (cycles : ℕ) → State
value_from job s ins rows T t a = seq (machine_of job) s (taken (machine_of job) ins rows) (passes job rows T t) t a

-- LEGAL: after any number of cycles each register, and each word of a file, has that value.
abbrev pub IsLegalFrom : Job → State → List Inputs → Trace → Type 0
IsLegalFrom job s ins trace =
    (T t a : ℕ) → T ≤ length trace.rows → HasWord job t a → trace.visible T t a ≡ value_from job s ins trace.rows T t a
