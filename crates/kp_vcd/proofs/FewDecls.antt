-- A job that violates no rule has few declarations.
use Rattle.std.proofs.Common.{◌≡◌, ◌+◌, ◌≤◌, List, [], ◌∷◌, None, true, length, refl, subst, arith}
use Rattle.std.{proofs.lemmas.List.Sums.sum_by-cons, specs.Prelude.sum_by, proofs.lemmas.Bool.Decides.nat_tests}
use Rattle.kp_ast.specs.declared.tree.{Decl.Decl, Job.Job}
use Rattle.kp_ast.specs.declared.tree.Decl.TheVariants as decls
use Rattle.kp_width.specs.Declarations.{functions_in}
use Rattle.kp_stage.specs.Counts.{regs_in, files_in, pipes_in, results_in, hints_in, samples_in, is_within}
use Rattle.kp_stage.{specs.Stages.broken_of, proofs.Bounds.counts_few, proofs.Kept.counts_kept, proofs.Totals.counts_total}

-- the limits of the counts of declarations
record Limits (job : Job) : Type 0 where
  regs : sum_by regs_in job.decls ≤ 64
  files : sum_by files_in job.decls ≤ 16
  pipes : sum_by pipes_in job.decls ≤ 128
  results : sum_by results_in job.decls ≤ 64
  hints : sum_by hints_in job.decls ≤ 16
  functions : sum_by functions_in job.decls ≤ 64
  samples : sum_by samples_in job.decls ≤ 16

limits : (job : Job) → broken_of job ≡ None → Limits job
limits job e =
    let w = subst (λ c. is_within c ≡ true) (counts_total job) (counts_few job (counts_kept job e)) in
    record {
      regs = grind (arith, nat_tests);
      files = grind (arith, nat_tests);
      pipes = grind (arith, nat_tests);
      results = grind (arith, nat_tests);
      hints = grind (arith, nat_tests);
      functions = grind (arith, nat_tests);
      samples = grind (arith, nat_tests);
    }

one_kind : (d : Decl) → regs_in d + files_in d + pipes_in d + results_in d + hints_in d + functions_in d + samples_in d ≡ 1
one_kind (decls.Reg n width start) = refl
one_kind _ = refl

all_counted : (ds : List Decl) → length ds ≡ sum_by regs_in ds + sum_by files_in ds + sum_by pipes_in ds + sum_by results_in ds + sum_by hints_in ds + sum_by functions_in ds + sum_by samples_in ds
all_counted [] = refl
all_counted (d ∷ ds) =
    let more = all_counted ds in
    let one = one_kind d in
    omega (arith, more, one, sum_by-cons regs_in d ds, sum_by-cons files_in d ds, sum_by-cons pipes_in d ds, sum_by-cons results_in d ds, sum_by-cons hints_in d ds, sum_by-cons functions_in d ds, sum_by-cons samples_in d ds)

pub decls_few : (job : Job) → broken_of job ≡ None → length job.decls ≤ 368
decls_few job e =
    let l = limits job e in
    omega (arith, all_counted job.decls, l.regs, l.files, l.pipes, l.results, l.hints, l.functions, l.samples)
