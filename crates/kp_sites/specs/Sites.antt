-- The tables of a job: the stages of its reads, and by which result and when each target is written.
use Rattle.std.specs.Prelude.{ℕ, zero, suc, ◌+◌, ◌==◌, List, [], ◌∷◌, ◌++◌, Option, Some, None, false, if◌then◌else◌, length, is_some}
use Rattle.kp_ast.specs.declared.tree.{Decl.Decl, Stmt.Stmt, StmtKind.StmtKind, Block.Block, Job.Job}
use Rattle.kp_ast.specs.declared.tree.Decl.TheVariants as decls
use Rattle.kp_ast.specs.declared.tree.StmtKind.TheVariants as stmts
use Rattle.kp_machine.specs.{Slots.Slot, Slots.targets_of, Slots.number_of, Machine.machine_of}
use Rattle.kp_sites.specs.declared.sites.{Site.Site, Writer.Writer}

-- the number of stages, the reads in text order, and how each target is written
pub record Sited : Type 0 where
  pub stages : ℕ
  pub reads : List Site
  pub writers : List (Option Writer)

-- the site of a read that doesn't exist
abbrev pub no_site : Site
no_site = record { stage = 0; target = 0; guessed = false }

-- the reads of stage k
abbrev pub site_of : List Slot → ℕ → StmtKind → List Site
site_of targets k (stmts.Read r) = record { stage = k; target = number_of targets r.target.name; guessed = is_some r.guess } ∷ []
site_of targets k _ = []

abbrev pub sites_in : List Slot → ℕ → List Stmt → List Site
sites_in targets k [] = []
sites_in targets k (s ∷ ss) = site_of targets k s.kind ++ sites_in targets k ss

abbrev pub sites_from : List Slot → ℕ → List Block → List Site
sites_from targets k [] = []
sites_from targets k (b ∷ bs) = sites_in targets k b.stmts ++ sites_from targets (k + 1) bs

-- the number of the first result of a target, among those of these declarations
abbrev pub result_number : List Slot → List Decl → ℕ → ℕ → Option ℕ
result_number targets [] i t = None
result_number targets (decls.Target r ∷ ds) i t = if number_of targets r.target.name == t then Some i else result_number targets ds (i + 1) t
result_number targets (_ ∷ ds) i t = result_number targets ds i t

-- how target t is written, if it is: by which result, in which stage, and from which stage on it is known whether and where
abbrev pub writer_by : Job → ℕ → Option ℕ → Option Writer
writer_by job t None = None
writer_by job t (Some i) = Some (record { result = i; write = (machine_of job).write_stage t; known = (machine_of job).known_from t })

abbrev pub writer_at : Job → ℕ → Option Writer
writer_at job t = writer_by job t (result_number (targets_of job.decls) job.decls 0 t)

-- of the targets before number t
abbrev pub writers_to : Job → ℕ → List (Option Writer)
writers_to job zero = []
writers_to job (suc t) = writers_to job t ++ writer_at job t ∷ []

-- THE TABLES of a job.
abbrev pub sited : Job → Sited
sited job = record {
  stages = job.stages.value;
  reads = sites_from (targets_of job.decls) 0 job.blocks;
  writers = writers_to job (length (targets_of job.decls));
}
