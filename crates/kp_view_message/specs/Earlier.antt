-- What a violation of a rule of stages conflicts with: an earlier statement, or a declaration.
use Rattle.std.specs.Prelude.{ℕ, List, [], ◌∷◌, ◌==◌, ◌&&◌, Option, Some, None, Bool, false, if◌then◌else◌, slice_get}
use Rattle.kp_ast.specs.{Expressions.is_same_name, declared.tree.Decl.Decl, declared.tree.Stmt.Stmt}
use Rattle.kp_ast.specs.declared.tree.{StmtKind.StmtKind, Block.Block, Job.Job}
use Rattle.kp_base.specs.declared.place.Place.{Place}
use Rattle.std.specs.List.{list_any}
use Rattle.kp_ast.specs.declared.tree.Decl.TheVariants as decls
use Rattle.kp_ast.specs.declared.tree.StmtKind.TheVariants as stmts
use Rattle.kp_stage.specs.{Uses.statement_at, declared.fault.StageFault.StageFault}
use Rattle.kp_stage.specs.declared.fault.StageFault.TheVariants as stage

-- the name of the result with this number, where a target has a second result
abbrev pub name_of_result : Option Decl → List ℕ
name_of_result (Some (decls.Target r)) = r.name.name
name_of_result _ = []

abbrev pub first_result : Job → StageFault → List ℕ
first_result job (stage.SecondResult number) = name_of_result (slice_get job.decls number)
first_result job _ = []

-- the line of a statement, and of a result
abbrev pub statement_line : Option Stmt → ℕ
statement_line None = 0
statement_line (Some s) = s.at.line

abbrev pub result_line : Option Decl → ℕ
result_line (Some (decls.Target r)) = r.name.at.line
result_line _ = 0

-- the line of a declaration, if the fault of a name is about it: of the result that writes a target in this stage, of the result, of the sample
abbrev pub declared_line : List ℕ → StageFault → Decl → Option ℕ
declared_line name (stage.ReadLate write _) (decls.Target r) = if is_same_name r.target.name name && r.stage.value == write then Some r.name.at.line else None
declared_line name (stage.SetLate _ _) (decls.Target r) = if is_same_name r.name.name name then Some r.name.at.line else None
declared_line name (stage.SampleElsewhere _ _) (decls.Sample n width at) = if is_same_name n.name name then Some n.at.line else None
declared_line name _ _ = None

-- the line of the first such declaration
abbrev pub line_or : Option ℕ → (other : ℕ) → ℕ
line_or None other = other
line_or (Some line) other = line

abbrev pub line_in : List ℕ → StageFault → List Decl → ℕ
line_in name fault [] = 0
line_in name fault (d ∷ ds) = line_or (declared_line name fault d) (line_in name fault ds)

-- the line of a statement in the block that has a set at this place
abbrev pub is_set_at : Place → StmtKind → Bool
is_set_at at (stmts.Set n e when) = n.at.line == at.line && n.at.col == at.col
is_set_at at _ = false

abbrev pub sets_at : Place → Stmt → Bool
sets_at at s = is_set_at at s.kind

abbrev pub line_beside : Place → ℕ → List Block → ℕ
line_beside at j [] = 0
line_beside at j (b ∷ bs) = if list_any (sets_at at) b.stmts then statement_line (slice_get b.stmts j) else line_beside at j bs

-- THE LINE that the message on a fault of this name at this place prints, or 0
abbrev pub earlier_line : Job → List ℕ → Place → StageFault → ℕ
earlier_line job name at (stage.PutAgain k j) = statement_line (statement_at job k j)
earlier_line job name at (stage.AimedAgain k j) = statement_line (statement_at job k j)
earlier_line job name at (stage.SetAgain j) = line_beside at j job.blocks
earlier_line job name at (stage.UsedEarly k j _) = statement_line (statement_at job k j)
earlier_line job name at (stage.SecondResult number) = result_line (slice_get job.decls number)
earlier_line job name at fault = line_in name fault job.decls
