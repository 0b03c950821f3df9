-- The laws of E28 and E29: sizes and counts are within their bounds.
use Rattle.std.proofs.Common.{◌≡◌, ◌∙◌, ℕ, ◌+◌, ◌<◌, ◌≤◌, List, [], ◌∷◌, length, get_or, Option, Some, None, true, refl, ap, subst, arith, sym}
use Rattle.std.proofs.lemmas.{Bool.and_parts, Bool.leb-true, List.Sums.sum_by-cons, List.Sums.sum_by-append, List.Sums.get_or-le-sum_by}
use Rattle.std.proofs.lemmas.Option.{slice_get_within, get_or_from_slice_get}
use Rattle.std.specs.Prelude.{nat_le, slice_get, sum_by, Contains}
use Rattle.kp_ast.specs.{Size.size, declared.tree.Expr.Expr, declared.tree.Decl.Decl, declared.tree.Stmt.Stmt, declared.tree.StmtKind.StmtKind}
use Rattle.kp_ast.specs.declared.tree.{Block.Block, Job.Job}
use Rattle.kp_ast.specs.declared.tree.StmtKind.TheVariants as stmts
use Rattle.kp_width.specs.Declarations.{functions_in}
use Rattle.kp_width.proofs.{Unbroken.Unbroken, Unbroken.bind_unbroken, Unbroken.answer_unbroken, Calls.by_option}
use Rattle.kp_stage.specs.Counts.{regs_in, files_in, pipes_in, results_in, hints_in, samples_in, reads_in, guesses_in, is_within, nothing_counted, with_decl, with_stmt, decls_counted, stmts_counted, blocks_counted, counts_of, summary_of, AreFew}
use Rattle.kp_stage.specs.{declared.counts.Counts.Counts, Facts.stmts_in, Facts.facts_of}
use Rattle.kp_stage.specs.Sizes.{size_of_option, size_of_kind, size_of_stmt, size_of_block, size_of_job, stmts_sized, blocks_sized, sizes_of}
use Rattle.kp_stage.specs.{Stages.broken_of, Uses.statement_at, Uses.listed, Uses.plain_in, Uses.guessed_in, Uses.exprs_in}
use Rattle.kp_stage.proofs.{Unbroken.few_stages, Kept.rules_kept, Kept.sizes_kept, Kept.counts_kept, Totals.size_total, Totals.counts_total}

stmts_within : (ds : List Decl) (t : ℕ) (ss : List Stmt) → t ≤ 100000 → Unbroken (stmts_sized ds t ss) → (stmts_sized ds t ss).value ≤ 100000
stmts_within ds t [] h u = h
stmts_within ds t (s ∷ ss) h u =
    let n = t + size_of_stmt ds s in
    let both = answer_unbroken (nat_le n 100000) _ (stmts_sized ds n ss).asked u in
    stmts_within ds n ss (leb-true n 100000 both.0) both.1

blocks_within : (ds : List Decl) (t : ℕ) (bs : List Block) → t ≤ 100000 → Unbroken (blocks_sized ds t bs) → (blocks_sized ds t bs).value ≤ 100000
blocks_within ds t [] h u = h
blocks_within ds t (b ∷ bs) h u =
    let both = bind_unbroken (stmts_sized ds t b.stmts) (λ n. blocks_sized ds n bs) u in
    blocks_within ds (stmts_sized ds t b.stmts).value bs (stmts_within ds t b.stmts h both.0) both.1

-- the size of the machine
pub machine_within : (job : Job) → broken_of job ≡ None → size_of_job job ≤ 100000
unfolding sizes_of
machine_within job kept =
    let bound : (blocks_sized job.decls 0 job.blocks).value ≤ 100000 = blocks_within job.decls 0 job.blocks (omega arith) (sizes_kept job kept) in
    subst (λ n. n ≤ 100000) (size_total job) bound

-- a part of a sum is no more than the sum
member_le : {X : Type 0} (f : X → ℕ) (xs : List X) (x : X) (i : ℕ) → i < length xs → get_or xs i x ≡ x → f x ≤ sum_by f xs
member_le f xs x i l is = subst (λ y. f y ≤ sum_by f xs) is (get_or-le-sum_by f xs i x l)

at_le : {X : Type 0} (f : X → ℕ) (xs : List X) (i : ℕ) (x : X) → slice_get xs i ≡ Some x → f x ≤ sum_by f xs
at_le f xs i x is = member_le f xs x i (slice_get_within xs i x is) (get_or_from_slice_get xs i x x is)

stmt_le : (ds : List Decl) (bs : List Block) (k j : ℕ) (s : Stmt) → slice_get (stmts_in (slice_get bs k)) j ≡ Some s → size_of_stmt ds s ≤ sum_by (size_of_block ds) bs
stmt_le ds bs k j s is = by_option (slice_get bs k)
    (λ none. let e : None ≡ Some s = sym (ap (λ o. slice_get (stmts_in o) j) none) ∙ is in cc)
    (λ b there.
    let one : size_of_stmt ds s ≤ size_of_block ds b = at_le (size_of_stmt ds) b.stmts j s (sym (ap (λ o. slice_get (stmts_in o) j) there) ∙ is) in
    omega (arith, one, at_le (size_of_block ds) bs k b there))

-- the size of a statement is the sum of those of its expressions
listed_total : (ds : List Decl) (o : Option Expr) → sum_by (size ds) (listed o) ≡ size_of_option ds o
listed_total ds None = refl
listed_total ds (Some e) = omega arith

plain_total : (ds : List Decl) (s : StmtKind) → sum_by (size ds) (plain_in s) + sum_by (size ds) (guessed_in s) ≡ size_of_kind ds s
plain_total ds (stmts.Read r) =
    omega (arith, sum_by-append (size ds) (listed r.address) (listed r.when), listed_total ds r.address, listed_total ds r.when, listed_total ds r.guess)
plain_total ds (stmts.Set n e when) = let sum = sum_by-cons (size ds) e (listed when) in let w = listed_total ds when in omega (arith, sum, w)
plain_total ds x = omega arith

exprs_total : (ds : List Decl) (s : StmtKind) → sum_by (size ds) (exprs_in s) ≡ size_of_kind ds s
exprs_total ds s = sum_by-append (size ds) (plain_in s) (guessed_in s) ∙ plain_total ds s

-- the size of each expression
pub expression_within : (job : Job) → broken_of job ≡ None → (k j : ℕ) (s : Stmt) → statement_at job k j ≡ Some s
    → (e : Expr) → Contains (exprs_in s.kind) e → size job.decls e ≤ 100000
expression_within job kept k j s there e within =
    let whole = machine_within job kept in
    let stmt : size_of_stmt job.decls s ≤ size_of_job job = stmt_le job.decls job.blocks k j s there in
    let total = exprs_total job.decls s.kind in
    let one : size job.decls e ≤ sum_by (size job.decls) (exprs_in s.kind) = member_le (size job.decls) (exprs_in s.kind) e within.0 within.1 within.2 in
    omega (arith, whole, stmt, total, one)

-- what is counted stays within the limits
decls_few : (c : Counts) (ds : List Decl) → is_within c ≡ true → Unbroken (decls_counted c ds) → is_within (decls_counted c ds).value ≡ true
decls_few c [] h u = h
decls_few c (d ∷ ds) h u =
    let more = with_decl c d in
    let both = answer_unbroken (is_within more) _ (decls_counted more ds).asked u in
    decls_few more ds both.0 both.1

stmts_few : (c : Counts) (ss : List Stmt) → is_within c ≡ true → Unbroken (stmts_counted c ss) → is_within (stmts_counted c ss).value ≡ true
stmts_few c [] h u = h
stmts_few c (s ∷ ss) h u =
    let more = with_stmt c s in
    let both = answer_unbroken (is_within more) _ (stmts_counted more ss).asked u in
    stmts_few more ss both.0 both.1

blocks_few : (c : Counts) (bs : List Block) → is_within c ≡ true → Unbroken (blocks_counted c bs) → is_within (blocks_counted c bs).value ≡ true
blocks_few c [] h u = h
blocks_few c (b ∷ bs) h u =
    let both = bind_unbroken (stmts_counted c b.stmts) (λ t. blocks_counted t bs) u in
    blocks_few (stmts_counted c b.stmts).value bs (stmts_few c b.stmts h both.0) both.1

pub counts_few : (job : Job) → Unbroken (counts_of job) → is_within (counts_of job).value ≡ true
unfolding counts_of
counts_few job u =
    let decls = decls_counted nothing_counted job.decls in
    let both = bind_unbroken decls (λ c. blocks_counted c job.blocks) u in
    blocks_few decls.value job.blocks (decls_few nothing_counted job.decls refl both.0) both.1

-- the numbers of the machine
pub numbers_few : (job : Job) → broken_of job ≡ None → AreFew (summary_of job)
unfolding summary_of
numbers_few job kept =
    let d = job.decls in
    let regs = sum_by regs_in d in
    let files = sum_by files_in d in
    let pipes = sum_by pipes_in d in
    let results = sum_by results_in d in
    let hints = sum_by hints_in d in
    let functions = sum_by functions_in d in
    let reads = sum_by (λ b. sum_by reads_in b.stmts) job.blocks in
    let guesses = sum_by (λ b. sum_by guesses_in b.stmts) job.blocks in
    let samples = sum_by samples_in d in
    let all : is_within (record { regs = regs; files = files; pipes = pipes; results = results; hints = hints; functions = functions; reads = reads; guesses = guesses; samples = samples }) ≡ true =
    subst (λ c. is_within c ≡ true) (counts_total job) (counts_few job (counts_kept job kept)) in
    let a = and_parts _ (nat_le samples 16) all in
    let b = and_parts _ (nat_le guesses 8) a.0 in
    let c = and_parts _ (nat_le reads 256) b.0 in
    let e = and_parts _ (nat_le functions 64) c.0 in
    let f = and_parts _ (nat_le hints 16) e.0 in
    let g = and_parts _ (nat_le results 64) f.0 in
    let h = and_parts _ (nat_le pipes 128) g.0 in
    let i = and_parts (nat_le regs 64) (nat_le files 16) h.0 in
    record {
      stages = few_stages (facts_of job) job (rules_kept job kept);
      regs = leb-true regs 64 i.0;
      files = leb-true files 16 i.1;
      pipes = leb-true pipes 128 h.1;
      results = leb-true results 64 g.1;
      hints = leb-true hints 16 f.1;
      reads = leb-true reads 256 c.1;
      guesses = leb-true guesses 8 b.1;
      size = machine_within job kept;
      samples = leb-true samples 16 a.1;
    }
