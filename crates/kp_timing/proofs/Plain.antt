-- A job that E38 doesn't reject has no guess and no sample.
use Rattle.std.proofs.Common.{◌≡◌, ◌+◌, List, [], ◌∷◌, ◌++◌, length, length-append, Option, Some, None, option_map, refl, arith}
use Rattle.std.{proofs.lemmas.List.Sums.sum_by-cons, specs.Prelude.sum_by}
use Rattle.kp_base.specs.{Refusal.e_rule, declared.place.Place.Place}
use Rattle.kp_ast.specs.declared.tree.{Expr.Expr, ReadStmt.ReadStmt, Decl.Decl, Stmt.Stmt, StmtKind.StmtKind, Block.Block, Job.Job}
use Rattle.kp_ast.specs.declared.tree.Decl.TheVariants as decls
use Rattle.kp_ast.specs.declared.tree.StmtKind.TheVariants as stmts
use Rattle.kp_stage.specs.Counts.{summary_of, samples_in, one_if_some, guesses_of}
use Rattle.kp_stage.specs.Counts as counts
use Rattle.kp_timing.specs.Timed.{IsPlain}
use Rattle.kp_timing.specs.Unfit.{samples_at, guess_at, guessed_at, guesses_in, guesses_at, earlier, first_of, first_place, untimed}

-- the first of some positions exists if there is one
first_there : (a : Place) (ps : List Place) → first_of (Some a) ps ≡ None → ⊥
first_there a [] h = cc h
first_there a (p ∷ ps) h = first_there (earlier (Some a) p) ps h

none_first : (ps : List Place) → first_place ps ≡ None → length ps ≡ 0
none_first [] h = refl
none_first (p ∷ ps) h = absurd (first_there (earlier None p) ps h)

-- there are as many positions as samples and guesses
samples_many : (ds : List Decl) → length (samples_at ds) ≡ sum_by samples_in ds
samples_many [] = refl
samples_many (decls.Sample n width stage ∷ ds) = let e = sum_by-cons samples_in (decls.Sample n width stage) ds in omega (arith, e, samples_many ds)
samples_many (d ∷ ds) = let e = sum_by-cons samples_in d ds in omega (arith, e, samples_many ds)

guess_one : (r : ReadStmt) (o : Option Expr) → length (guess_at r o) ≡ one_if_some o
guess_one r None = refl
guess_one r (Some guess) = refl

guessed_one : (s : StmtKind) → length (guessed_at s) ≡ guesses_of s
guessed_one (stmts.Read r) = guess_one r r.guess
guessed_one _ = refl

guesses_in_many : (ss : List Stmt) → length (guesses_in ss) ≡ sum_by counts.guesses_in ss
guesses_in_many [] = refl
guesses_in_many (s ∷ ss) =
    let e = sum_by-cons counts.guesses_in s ss in
    let both : length (guesses_in (s ∷ ss)) ≡ length (guessed_at s.kind) + length (guesses_in ss) = length-append (guessed_at s.kind) (guesses_in ss) in
    omega (arith, both, guessed_one s.kind, guesses_in_many ss, e)

guesses_many : (bs : List Block) → length (guesses_at bs) ≡ sum_by (λ b. sum_by counts.guesses_in b.stmts) bs
guesses_many [] = refl
guesses_many (b ∷ bs) =
    let e = sum_by-cons (λ (x : Block). sum_by counts.guesses_in x.stmts) b bs in
    let both : length (guesses_at (b ∷ bs)) ≡ length (guesses_in b.stmts) + length (guesses_at bs) = length-append (guesses_in b.stmts) (guesses_at bs) in
    omega (arith, both, guesses_in_many b.stmts, guesses_many bs, e)

unmapped : (o : Option Place) → option_map (e_rule 38) o ≡ None → o ≡ None
unmapped None h = refl
unmapped (Some p) h = cc h

pub has_timeline : (job : Job) → untimed job ≡ None → IsPlain job
unfolding untimed summary_of
has_timeline job h =
    let none = none_first (samples_at job.decls ++ guesses_at job.blocks) (unmapped (first_place (samples_at job.decls ++ guesses_at job.blocks)) h) in
    let both : length (samples_at job.decls ++ guesses_at job.blocks) ≡ length (samples_at job.decls) + length (guesses_at job.blocks) = length-append (samples_at job.decls) (guesses_at job.blocks) in
    record { guesses = omega (arith, none, both, guesses_many job.blocks); samples = omega (arith, none, both, samples_many job.decls) }
