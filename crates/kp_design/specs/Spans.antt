-- WHICH STAGES STORE a pipe, a result and a guess: those in which its value may matter.
use Rattle.std.specs.Prelude.{ℕ, ◌+◌, max, List, [], ◌∷◌, Option, Some, None, Bool, false, ◌&&◌, ◌||◌, nat_lt, nat_le, is_some, if◌then◌else◌}
use Rattle.std.specs.List.{list_any}
use Rattle.kp_ast.specs.{Expressions.is_same_name, declared.tree.Named.Named, declared.tree.Stmt.Stmt, declared.tree.Block.Block, declared.tree.Decl.Decl}
use Rattle.kp_ast.specs.declared.tree.{ResultDecl.ResultDecl, Job.Job}
use Rattle.kp_ast.specs.declared.tree.Decl.TheVariants as decls
use Rattle.kp_stage.specs.Uses.{puts, sets, uses, exprs_in}
use Rattle.kp_machine.specs.Machine.{result_for, write_stage_of}
use Rattle.kp_design.specs.declared.guess.GuessSlot.{GuessSlot}
use Rattle.kp_design.specs.Numbers.{pipe_at}

-- the stage after the put of a pipe, among the blocks from number k on, and 0 if there is none
abbrev pub has_put : List ℕ → List Stmt → Bool
has_put name ss = list_any (λ (s : Stmt). puts name s.kind) ss

abbrev pub put_after : List ℕ → ℕ → List Block → ℕ
put_after name k [] = 0
put_after name k (b ∷ bs) = if has_put name b.stmts then k + 1 else put_after name (k + 1) bs

-- the stage after the first that sets a result, and past all stages if there is none
abbrev pub has_set : List ℕ → List Stmt → Bool
has_set name ss = list_any (λ (s : Stmt). sets name s.kind) ss

abbrev pub set_after : List ℕ → ℕ → List Block → ℕ
set_after name k [] = k
set_after name k (b ∷ bs) = if has_set name b.stmts then k + 1 else set_after name (k + 1) bs

-- the last stage that uses a name in an expression, among the blocks from number k on, and `last` if none does
abbrev pub uses_name : List ℕ → List Stmt → Bool
uses_name name ss = list_any (λ (s : Stmt). list_any (uses name) (exprs_in s.kind)) ss

abbrev pub last_use_in : List ℕ → (last stage : ℕ) → List Block → ℕ
last_use_in name last k [] = last
last_use_in name last k (b ∷ bs) = last_use_in name (if uses_name name b.stmts then k else last) (k + 1) bs

-- an address or an enable pipe is used up to the write stage of its result
abbrev pub is_called : List ℕ → Option Named → Bool
is_called name None = false
is_called name (Some n) = is_same_name name n.name

abbrev pub last_write : List ℕ → ℕ → List Decl → ℕ
last_write name last [] = last
last_write name last (decls.Target r ∷ ds) = last_write name (if is_called name r.address || is_called name r.enable then max last r.stage.value else last) ds
last_write name last (_ ∷ ds) = last_write name last ds

abbrev pub last_use : Job → List ℕ → ℕ
last_use job name = last_write name (last_use_in name 0 0 job.blocks) job.decls

-- A guess can be pending in the stages after its own and before the write stage of its register.
abbrev pub is_carried : GuessSlot → ℕ → Bool
is_carried g k = nat_lt g.stage k && nat_lt k g.write

-- A result is kept up to its write stage.
abbrev pub is_kept : Job → ℕ → ℕ → Bool
is_kept job t k = is_some (result_for job t) && nat_le k (write_stage_of (result_for job t))

-- A stage stores a pipe from the stage after its put to the last that uses it.
abbrev pub piped_at : Job → List ℕ → ℕ → Bool
piped_at job name k = nat_le (put_after name 0 job.blocks) k && nat_le k (last_use job name)

-- It matters up to there.
abbrev pub is_alive : Job → ℕ → ℕ → Bool
is_alive job x k = nat_le k (last_use job (pipe_at job x).name)

abbrev pub is_piped : Job → ℕ → ℕ → Bool
is_piped job x k = piped_at job (pipe_at job x).name k

-- A stage stores a result from the stage after the first that sets it to the write stage.
abbrev pub set_by : Job → Option ResultDecl → ℕ
set_by job None = 0
set_by job (Some r) = set_after r.name.name 0 job.blocks

abbrev pub is_stored : Job → ℕ → ℕ → Bool
is_stored job t k = nat_le (set_by job (result_for job t)) k && is_kept job t k
