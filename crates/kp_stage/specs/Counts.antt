-- E29: how many registers, files, pipes, results, hints, functions, samples, reads and guesses a machine has.
use Rattle.std.specs.Prelude.{ℕ, ◌≤◌, ◌+◌, List, [], ◌∷◌, Option, Some, None, Bool, if◌then◌else◌, ◌&&◌, nat_le, sum_by}
use Rattle.kp_base.specs.{Check.Check, Check.ok, Check.wants, Check.◌>>=◌, declared.finding.Finding.Finding, declared.place.Place.Place}
use Rattle.kp_ast.specs.declared.tree.{Expr.Expr, Decl.Decl, Stmt.Stmt, StmtKind.StmtKind, Block.Block, Job.Job}
use Rattle.kp_ast.specs.declared.tree.Decl.TheVariants as decls
use Rattle.kp_ast.specs.declared.tree.StmtKind.TheVariants as stmts
use Rattle.kp_width.specs.Declarations.{functions_in, name_of}
use Rattle.kp_stage.specs.{declared.counts.Counts.Counts, declared.counts.Summary.Summary, declared.fault.Counted.Counted, declared.fault.StageFault.StageFault, Sizes.size_of_job}
use Rattle.kp_stage.specs.declared.fault.Counted.TheVariants as counted
use Rattle.kp_stage.specs.declared.fault.StageFault.TheVariants as faults

-- each is 1 or 0: whether the declaration is of this kind
abbrev pub regs_in : Decl → ℕ
regs_in (decls.Reg n width start) = 1
regs_in _ = 0

abbrev pub files_in : Decl → ℕ
files_in (decls.File n width address) = 1
files_in _ = 0

abbrev pub pipes_in : Decl → ℕ
pipes_in (decls.Pipe n width) = 1
pipes_in _ = 0

abbrev pub results_in : Decl → ℕ
results_in (decls.Target r) = 1
results_in _ = 0

abbrev pub hints_in : Decl → ℕ
hints_in (decls.Hint n width start) = 1
hints_in _ = 0

abbrev pub samples_in : Decl → ℕ
samples_in (decls.Sample n width stage) = 1
samples_in _ = 0

abbrev pub one_if_some : Option Expr → ℕ
one_if_some None = 0
one_if_some (Some e) = 1

abbrev pub reads_of : StmtKind → ℕ
reads_of (stmts.Read r) = 1
reads_of _ = 0

abbrev pub guesses_of : StmtKind → ℕ
guesses_of (stmts.Read r) = one_if_some r.guess
guesses_of _ = 0

abbrev pub reads_in : Stmt → ℕ
reads_in s = reads_of s.kind

abbrev pub guesses_in : Stmt → ℕ
guesses_in s = guesses_of s.kind

-- the limits of the counts
abbrev pub is_within : Counts → Bool
is_within c =
    nat_le c.regs 64 && nat_le c.files 16 && nat_le c.pipes 128 && nat_le c.results 64 && nat_le c.hints 16 && nat_le c.functions 64
    && nat_le c.reads 256 && nat_le c.guesses 8 && nat_le c.samples 16

abbrev pub nothing_counted : Counts
nothing_counted = record { regs = 0; files = 0; pipes = 0; results = 0; hints = 0; functions = 0; reads = 0; guesses = 0; samples = 0 }

-- the counts after one more declaration
abbrev pub with_decl : Counts → Decl → Counts
with_decl c d = record {
  regs = c.regs + regs_in d;
  files = c.files + files_in d;
  pipes = c.pipes + pipes_in d;
  results = c.results + results_in d;
  hints = c.hints + hints_in d;
  functions = c.functions + functions_in d;
  reads = c.reads;
  guesses = c.guesses;
  samples = c.samples + samples_in d;
}

-- the counts after one more statement
abbrev pub with_stmt : Counts → Stmt → Counts
with_stmt c s = record {
  regs = c.regs;
  files = c.files;
  pipes = c.pipes;
  results = c.results;
  hints = c.hints;
  functions = c.functions;
  reads = c.reads + reads_in s;
  guesses = c.guesses + guesses_in s;
  samples = c.samples;
}

-- the position of the name that a read binds
abbrev pub place_of_read : Stmt → StmtKind → Place
place_of_read s (stmts.Read r) = r.name.at
place_of_read s _ = s.at

-- what a declaration is one more of
abbrev pub counted_of : Decl → Counted
counted_of (decls.Reg n width start) = counted.Registers
counted_of (decls.File n width address) = counted.Files
counted_of (decls.Pipe n width) = counted.Pipes
counted_of (decls.Target r) = counted.Results
counted_of (decls.Hint n width start) = counted.Hints
counted_of (decls.Func f) = counted.Functions
counted_of (decls.Sample n width stage) = counted.Samples

-- which of the two a read is too many of
abbrev pub counted_at : Counts → Counted
counted_at c = if nat_le c.reads 256 then counted.Guesses else counted.Reads

abbrev pub too_many : Counted → Place → Finding StageFault
too_many counted at = record { place = at; fault = faults.TooMany counted }

-- E29 is reported at the first declared name, or the first name that a read binds, at which a count exceeds its limit
abbrev pub decls_counted : Counts → List Decl → Check (Finding StageFault) Counts
decls_counted c [] = ok c
decls_counted c (d ∷ ds) = wants (is_within (with_decl c d)) (too_many (counted_of d) (name_of d).at) (decls_counted (with_decl c d) ds)

abbrev pub stmts_counted : Counts → List Stmt → Check (Finding StageFault) Counts
stmts_counted c [] = ok c
stmts_counted c (s ∷ ss) = wants (is_within (with_stmt c s)) (too_many (counted_at (with_stmt c s)) (place_of_read s s.kind)) (stmts_counted (with_stmt c s) ss)

abbrev pub blocks_counted : Counts → List Block → Check (Finding StageFault) Counts
blocks_counted c [] = ok c
blocks_counted c (b ∷ bs) = stmts_counted c b.stmts >>= (λ t. blocks_counted t bs)

unfoldable pub counts_of : Job → Check (Finding StageFault) Counts
counts_of job = decls_counted nothing_counted job.decls >>= (λ c. blocks_counted c job.blocks)

-- the numbers of a job in the order of its summary
unfoldable pub summary_of : Job → Summary
summary_of job = record {
  stages = job.stages.value;
  regs = sum_by regs_in job.decls;
  files = sum_by files_in job.decls;
  pipes = sum_by pipes_in job.decls;
  results = sum_by results_in job.decls;
  hints = sum_by hints_in job.decls;
  reads = sum_by (λ b. sum_by reads_in b.stmts) job.blocks;
  guesses = sum_by (λ b. sum_by guesses_in b.stmts) job.blocks;
  size = size_of_job job;
  samples = sum_by samples_in job.decls;
}

-- the numbers of a machine are within the limits of E15, E28 and E29
pub record AreFew (s : Summary) : Type 0 where
  pub stages : s.stages ≤ 12
  pub regs : s.regs ≤ 64
  pub files : s.files ≤ 16
  pub pipes : s.pipes ≤ 128
  pub results : s.results ≤ 64
  pub hints : s.hints ≤ 16
  pub reads : s.reads ≤ 256
  pub guesses : s.guesses ≤ 8
  pub size : s.size ≤ 100000
  pub samples : s.samples ≤ 16
