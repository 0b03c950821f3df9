-- A job that violates no rule has few declarations, and so few registers.
use Rattle.std.proofs.Common.{◌≡◌, ◌∙◌, ℕ, suc, ◌+◌, ◌≤◌, List, [], ◌∷◌, Option, Some, None, length, length-append, refl, ap, arith}
use Rattle.std.{proofs.lemmas.List.Sums.sum_by-cons, specs.Prelude.sum_by}
use Rattle.kp_ast.specs.declared.tree.{Expr.Expr, ReadStmt.ReadStmt, Decl.Decl, Stmt.Stmt, StmtKind.StmtKind, Block.Block, Job.Job}
use Rattle.kp_ast.specs.declared.tree.Decl.TheVariants as decls
use Rattle.kp_ast.specs.declared.tree.StmtKind.TheVariants as stmts
use Rattle.kp_stage.specs.Counts.{regs_in, files_in, pipes_in, results_in, hints_in, samples_in, one_if_some, summary_of}
use Rattle.kp_stage.{specs.Stages.broken_of, proofs.Bounds.numbers_few}
use Rattle.kp_stage.specs.Counts as counts
use Rattle.kp_machine.specs.Slots.{targets_of, pipes_of, hints_of, samples_of}
use Rattle.kp_design.specs.Numbers.{guesses_in, guesses_from, guesses_of}
use Rattle.kp_design.specs.inner.Tables.{read_here, guess_here, guess_count}
use Rattle.kp_design.proofs.Laying.{guess_step}

-- the limits of the counts
pub record Limits (job : Job) : Type 0 where
  pub regs : sum_by regs_in job.decls ≤ 64
  pub files : sum_by files_in job.decls ≤ 16
  pub pipes : sum_by pipes_in job.decls ≤ 128
  pub results : sum_by results_in job.decls ≤ 64
  pub hints : sum_by hints_in job.decls ≤ 16
  pub samples : sum_by samples_in job.decls ≤ 16
  pub guesses : sum_by (λ (b : Block). sum_by counts.guesses_in b.stmts) job.blocks ≤ 8

pub limits : (job : Job) → broken_of job ≡ None → Limits job
unfolding summary_of
limits job e =
    let n = numbers_few job e in
    record { regs = n.regs; files = n.files; pipes = n.pipes; results = n.results; hints = n.hints; samples = n.samples; guesses = n.guesses }

-- each declaration is counted once, and a register, a file, a pipe or a hint has its slot
pub targets_counted : (ds : List Decl) → length (targets_of ds) ≡ sum_by regs_in ds + sum_by files_in ds
targets_counted [] = refl
targets_counted (decls.Reg n width start ∷ ds) = let d = decls.Reg n width start in let more = targets_counted ds in omega (arith, more, sum_by-cons regs_in d ds, sum_by-cons files_in d ds)
targets_counted (decls.File n width address ∷ ds) = let d = decls.File n width address in let more = targets_counted ds in omega (arith, more, sum_by-cons regs_in d ds, sum_by-cons files_in d ds)
targets_counted (d ∷ ds) = let more = targets_counted ds in omega (arith, more, sum_by-cons regs_in d ds, sum_by-cons files_in d ds)

pub pipes_counted : (ds : List Decl) → length (pipes_of ds) ≡ sum_by pipes_in ds
pipes_counted [] = refl
pipes_counted (decls.Pipe n width ∷ ds) = let more = pipes_counted ds in omega (arith, more, sum_by-cons pipes_in (decls.Pipe n width) ds)
pipes_counted (d ∷ ds) = let more = pipes_counted ds in omega (arith, more, sum_by-cons pipes_in d ds)

pub hints_counted : (ds : List Decl) → length (hints_of ds) ≡ sum_by hints_in ds
hints_counted [] = refl
hints_counted (decls.Hint n width start ∷ ds) = let more = hints_counted ds in omega (arith, more, sum_by-cons hints_in (decls.Hint n width start) ds)
hints_counted (d ∷ ds) = let more = hints_counted ds in omega (arith, more, sum_by-cons hints_in d ds)

pub samples_counted : (ds : List Decl) → length (samples_of ds) ≡ sum_by samples_in ds
samples_counted [] = refl
samples_counted (decls.Sample n width stage ∷ ds) = let more = samples_counted ds in omega (arith, more, sum_by-cons samples_in (decls.Sample n width stage) ds)
samples_counted (d ∷ ds) = let more = samples_counted ds in omega (arith, more, sum_by-cons samples_in d ds)

-- a guessed read has its guess
read_counted : (job : Job) (k i : ℕ) (r : ReadStmt) (o : Option Expr) → length (read_here job k i r o) ≡ one_if_some o
read_counted job k i r None = refl
read_counted job k i r (Some e) = refl

pub guess_counted : (job : Job) (k i : ℕ) (x : StmtKind) → length (guess_here job k i x) ≡ guess_count x
guess_counted job k i (stmts.Read r) = read_counted job k i r r.guess
guess_counted job k i x = refl

same_count : (x : StmtKind) → guess_count x ≡ counts.guesses_of x
same_count (stmts.Read r) = refl
same_count x = refl

stmts_counted_in : (job : Job) (k i : ℕ) (ss : List Stmt) → length (guesses_in job k i ss) ≡ sum_by counts.guesses_in ss
stmts_counted_in job k i [] = refl
stmts_counted_in job k i (s ∷ ss) =
    let step = guess_step job k i s.kind (λ j. guesses_in job k j ss) in
    let more = stmts_counted_in job k (i + guess_count s.kind) ss in
    let here = guess_counted job k i s.kind in
    let same = same_count s.kind in
    ap length step ∙ length-append (guess_here job k i s.kind) (guesses_in job k (i + guess_count s.kind) ss) ∙ omega (arith, more, here, same, sum_by-cons counts.guesses_in s ss)

blocks_counted_in : (job : Job) (k : ℕ) (bs : List Block) → length (guesses_from job k bs) ≡ sum_by (λ (b : Block). sum_by counts.guesses_in b.stmts) bs
blocks_counted_in job k [] = refl
blocks_counted_in job k (b ∷ bs) =
    let more = blocks_counted_in job (suc k) bs in
    let here = stmts_counted_in job k 0 b.stmts in
    length-append (guesses_in job k 0 b.stmts) (guesses_from job (suc k) bs) ∙ omega (arith, more, here, sum_by-cons (λ (b : Block). sum_by counts.guesses_in b.stmts) b bs)

pub guesses_counted : (job : Job) → length (guesses_of job) ≡ sum_by (λ (b : Block). sum_by counts.guesses_in b.stmts) job.blocks
unfolding guesses_of
guesses_counted job = blocks_counted_in job 0 job.blocks

-- so there are few of each
pub record IsFew (job : Job) : Type 0 where
  pub targets : length (targets_of job.decls) ≤ 80
  pub pipes : length (pipes_of job.decls) ≤ 128
  pub hints : length (hints_of job.decls) ≤ 16
  pub samples : length (samples_of job.decls) ≤ 16
  pub guesses : length (guesses_of job) ≤ 8

pub few : (job : Job) → broken_of job ≡ None → IsFew job
unfolding guesses_of
few job e =
    let l = limits job e in
    record {
      targets = omega (arith, targets_counted job.decls, l.regs, l.files);
      pipes = omega (arith, pipes_counted job.decls, l.pipes);
      hints = omega (arith, hints_counted job.decls, l.hints);
      samples = omega (arith, samples_counted job.decls, l.samples);
      guesses = omega (arith, blocks_counted_in job 0 job.blocks, l.guesses);
    }
