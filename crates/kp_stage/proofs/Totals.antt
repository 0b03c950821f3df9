-- What is counted and summed on the way is the number of each kind, and the size of the machine.
use Rattle.std.proofs.{Common.◌≡◌, Common.◌∙◌, Common.ℕ, Common.◌+◌, Common.List, Common.[], Common.◌∷◌, Common.refl, Common.ap, lemmas.List.Sums.sum_by_from}
use Rattle.std.specs.Prelude.{sum_by, fold}
use Rattle.kp_ast.specs.declared.tree.{Decl.Decl, Stmt.Stmt, Block.Block, Job.Job}
use Rattle.kp_width.specs.Declarations.{functions_in}
use Rattle.kp_stage.specs.Counts.{regs_in, files_in, pipes_in, results_in, hints_in, samples_in, reads_in, guesses_in, with_decl, with_stmt, nothing_counted, decls_counted, stmts_counted, blocks_counted, counts_of}
use Rattle.kp_stage.specs.declared.counts.Counts.{Counts}
use Rattle.kp_stage.specs.Sizes.{size_of_stmt, size_of_block, size_of_job, stmts_sized, blocks_sized, sizes_of}

-- a sum that starts with a number
abbrev sum_from : {X : Type 0} → (X → ℕ) → ℕ → List X → ℕ
sum_from f a xs = fold (λ sum x. sum + f x) a xs

stmts_total : (ds : List Decl) (t : ℕ) (ss : List Stmt) → (stmts_sized ds t ss).value ≡ sum_from (size_of_stmt ds) t ss
stmts_total ds t [] = refl
stmts_total ds t (s ∷ ss) = stmts_total ds (t + size_of_stmt ds s) ss

blocks_total : (ds : List Decl) (t : ℕ) (bs : List Block) → (blocks_sized ds t bs).value ≡ sum_from (size_of_block ds) t bs
blocks_total ds t [] = refl
blocks_total ds t (b ∷ bs) =
    blocks_total ds (stmts_sized ds t b.stmts).value bs
    ∙ ap (λ x. sum_from (size_of_block ds) x bs) (stmts_total ds t b.stmts ∙ sum_by_from (size_of_stmt ds) t b.stmts)

pub size_total : (job : Job) → (sizes_of job).value ≡ size_of_job job
unfolding sizes_of
size_total job = blocks_total job.decls 0 job.blocks

decls_total : (c : Counts) (ds : List Decl) → (decls_counted c ds).value ≡ record c {
  regs = sum_from regs_in c.regs ds;
  files = sum_from files_in c.files ds;
  pipes = sum_from pipes_in c.pipes ds;
  results = sum_from results_in c.results ds;
  hints = sum_from hints_in c.hints ds;
  functions = sum_from functions_in c.functions ds;
  samples = sum_from samples_in c.samples ds;
}
decls_total c [] = refl
decls_total c (d ∷ ds) = decls_total (with_decl c d) ds

-- the counts with other numbers of reads and guesses
abbrev with_reads : Counts → ℕ → ℕ → Counts
with_reads c reads guesses = record c { reads = reads; guesses = guesses }

reads_total : (c : Counts) (ss : List Stmt) → (stmts_counted c ss).value ≡ with_reads c (sum_from reads_in c.reads ss) (sum_from guesses_in c.guesses ss)
reads_total c [] = refl
reads_total c (s ∷ ss) = reads_total (with_stmt c s) ss

abbrev block_reads : Block → ℕ
block_reads b = sum_by reads_in b.stmts

abbrev block_guesses : Block → ℕ
block_guesses b = sum_by guesses_in b.stmts

all_reads_total : (c : Counts) (bs : List Block) → (blocks_counted c bs).value ≡ with_reads c (sum_from block_reads c.reads bs) (sum_from block_guesses c.guesses bs)
all_reads_total c [] = refl
all_reads_total c (b ∷ bs) =
    all_reads_total (stmts_counted c b.stmts).value bs
    ∙ ap (λ x. with_reads x (sum_from block_reads x.reads bs) (sum_from block_guesses x.guesses bs))
    (reads_total c b.stmts ∙ (λ i. with_reads c (sum_by_from reads_in c.reads b.stmts i) (sum_by_from guesses_in c.guesses b.stmts i)))

pub counts_total : (job : Job) → (counts_of job).value ≡ record {
  regs = sum_by regs_in job.decls;
  files = sum_by files_in job.decls;
  pipes = sum_by pipes_in job.decls;
  results = sum_by results_in job.decls;
  hints = sum_by hints_in job.decls;
  functions = sum_by functions_in job.decls;
  reads = sum_by block_reads job.blocks;
  guesses = sum_by block_guesses job.blocks;
  samples = sum_by samples_in job.decls;
}
unfolding counts_of
counts_total job =
    all_reads_total (decls_counted nothing_counted job.decls).value job.blocks
    ∙ ap (λ c. with_reads c (sum_from block_reads c.reads job.blocks) (sum_from block_guesses c.guesses job.blocks)) (decls_total nothing_counted job.decls)
