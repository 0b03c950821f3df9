-- The facts of a job that the rules of stages look up: where a pipe is put, where a result is set, at which stage a target is written.
use Rattle.std.specs.Prelude.{ℕ, ◌+◌, List, [], ◌∷◌, Option, Some, None, if◌then◌else◌, is_some, map, min, max, slice_get}
use Rattle.kp_base.specs.First.{first}
use Rattle.kp_ast.specs.{Expressions.is_same_name, declared.tree.Decl.Decl, declared.tree.Stmt.Stmt, declared.tree.StmtKind.StmtKind, declared.tree.Block.Block}
use Rattle.kp_ast.specs.declared.tree.Job.{Job}
use Rattle.kp_ast.specs.declared.tree.Decl.TheVariants as decls
use Rattle.kp_ast.specs.declared.tree.StmtKind.TheVariants as stmts

-- a statement: its stage, and its number in the block
pub record At : Type 0 where
  pub stage : ℕ
  pub index : ℕ

pub record Facts : Type 0 where
  -- the number of stages
  pub stages : ℕ
  -- the first statement that puts a pipe
  pub put : List ℕ → Option At
  -- the first statement that aims a hint
  pub aim : List ℕ → Option At
  -- the number in its block of the first statement of a stage that sets a result
  pub set_in : ℕ → List ℕ → Option ℕ
  -- the number of the declaration of a hint
  pub hint : List ℕ → Option ℕ
  -- the number of the first declaration of a result of a target
  pub result : List ℕ → Option ℕ
  -- the stage of a sample
  pub sample : List ℕ → Option ℕ
  -- the write stage of a result
  pub stage : List ℕ → Option ℕ
  -- the write stage of a target; if it has several results, the lowest
  pub written : List ℕ → Option ℕ
  -- the largest write stage of a guessed register, or 0 if nothing is guessed
  pub top : ℕ

-- this value, if the names are equal
abbrev pub where_same : {X : Type 0} → List ℕ → List ℕ → X → Option X
where_same a b x = if is_same_name a b then Some x else None

-- a put and an aim
abbrev pub put_at : List ℕ → (stage statement : ℕ) → StmtKind → Option At
put_at name k j (stmts.Put n e) = where_same name n.name (record { stage = k; index = j })
put_at name k j _ = None

abbrev pub puts_in : List ℕ → (stage first : ℕ) → List Stmt → List (Option At)
puts_in name k j [] = []
puts_in name k j (s ∷ ss) = put_at name k j s.kind ∷ puts_in name k (j + 1) ss

abbrev pub puts_of : List ℕ → ℕ → List Block → List (Option At)
puts_of name k [] = []
puts_of name k (b ∷ bs) = first (puts_in name k 0 b.stmts) ∷ puts_of name (k + 1) bs

abbrev pub aim_at : List ℕ → (stage statement : ℕ) → StmtKind → Option At
aim_at name k j (stmts.Aim n e) = where_same name n.name (record { stage = k; index = j })
aim_at name k j _ = None

abbrev pub aims_in : List ℕ → (stage first : ℕ) → List Stmt → List (Option At)
aims_in name k j [] = []
aims_in name k j (s ∷ ss) = aim_at name k j s.kind ∷ aims_in name k (j + 1) ss

abbrev pub aims_of : List ℕ → ℕ → List Block → List (Option At)
aims_of name k [] = []
aims_of name k (b ∷ bs) = first (aims_in name k 0 b.stmts) ∷ aims_of name (k + 1) bs

-- the sets of one stage
abbrev pub set_at : List ℕ → ℕ → StmtKind → Option ℕ
set_at name j (stmts.Set n e when) = where_same name n.name j
set_at name j _ = None

abbrev pub sets_in : List ℕ → ℕ → List Stmt → List (Option ℕ)
sets_in name j [] = []
sets_in name j (s ∷ ss) = set_at name j s.kind ∷ sets_in name (j + 1) ss

abbrev pub stmts_in : Option Block → List Stmt
stmts_in None = []
stmts_in (Some b) = b.stmts

abbrev pub first_set : List Block → ℕ → List ℕ → Option ℕ
first_set blocks k name = first (sets_in name 0 (stmts_in (slice_get blocks k)))

-- hints, results and samples
abbrev pub hint_at : List ℕ → ℕ → Decl → Option ℕ
hint_at name i (decls.Hint n width start) = where_same name n.name i
hint_at name i _ = None

abbrev pub hints_of : List ℕ → ℕ → List Decl → List (Option ℕ)
hints_of name i [] = []
hints_of name i (d ∷ ds) = hint_at name i d ∷ hints_of name (i + 1) ds

abbrev pub result_at : List ℕ → ℕ → Decl → Option ℕ
result_at name i (decls.Target r) = where_same name r.target.name i
result_at name i _ = None

abbrev pub results_of : List ℕ → ℕ → List Decl → List (Option ℕ)
results_of name i [] = []
results_of name i (d ∷ ds) = result_at name i d ∷ results_of name (i + 1) ds

abbrev pub stage_at : List ℕ → Decl → Option ℕ
stage_at name (decls.Target r) = where_same name r.name.name r.stage.value
stage_at name _ = None

abbrev pub sample_at : List ℕ → Decl → Option ℕ
sample_at name (decls.Sample n width stage) = where_same name n.name stage.value
sample_at name _ = None

abbrev pub write_at : List ℕ → Decl → Option ℕ
write_at name (decls.Target r) = where_same name r.target.name r.stage.value
write_at name _ = None

-- the minimum of two optional numbers
abbrev pub less : Option ℕ → Option ℕ → Option ℕ
less None b = b
less (Some a) None = Some a
less (Some a) (Some b) = Some (min a b)

abbrev pub least : List (Option ℕ) → Option ℕ
least [] = None
least (o ∷ os) = less o (least os)

abbrev pub written_of : List Decl → List ℕ → Option ℕ
written_of ds name = least (map (write_at name) ds)

abbrev pub or_zero : Option ℕ → ℕ
or_zero None = 0
or_zero (Some n) = n

-- the write stage of the target of a guess, or 0
abbrev pub guessed : (List ℕ → Option ℕ) → StmtKind → ℕ
guessed written (stmts.Read r) = if is_some r.guess then or_zero (written r.target.name) else 0
guessed written _ = 0

abbrev pub largest_in : (List ℕ → Option ℕ) → ℕ → List Stmt → ℕ
largest_in written top [] = top
largest_in written top (s ∷ ss) = largest_in written (max top (guessed written s.kind)) ss

abbrev pub largest : (List ℕ → Option ℕ) → ℕ → List Block → ℕ
largest written top [] = top
largest written top (b ∷ bs) = largest written (largest_in written top b.stmts) bs

-- the facts of a job
abbrev pub facts_of : Job → Facts
facts_of job = record {
  stages = job.stages.value;
  put = λ name. first (puts_of name 0 job.blocks);
  aim = λ name. first (aims_of name 0 job.blocks);
  set_in = first_set job.blocks;
  hint = λ name. first (hints_of name 0 job.decls);
  result = λ name. first (results_of name 0 job.decls);
  sample = λ name. first (map (sample_at name) job.decls);
  stage = λ name. first (map (stage_at name) job.decls);
  written = written_of job.decls;
  top = largest (written_of job.decls) 0 job.blocks;
}
