-- E38: a job with a guessed read or a sample has no timeline. The position is the first in the text.
use Rattle.std.specs.Prelude.{List, [], ◌∷◌, ◌++◌, Option, Some, None, Bool, ◌&&◌, ◌||◌, ◌==◌, nat_lt, if◌then◌else◌}
use Rattle.std.specs.Option.{option_map}
use Rattle.kp_base.specs.{Refusal.e_rule, declared.place.Place.Place, declared.refusal.Refusal.Refusal}
use Rattle.kp_ast.specs.declared.tree.{Expr.Expr, ReadStmt.ReadStmt, Decl.Decl, Stmt.Stmt, StmtKind.StmtKind, Block.Block, Job.Job}
use Rattle.kp_ast.specs.declared.tree.Decl.TheVariants as decls
use Rattle.kp_ast.specs.declared.tree.StmtKind.TheVariants as stmts

-- the declared names of samples
abbrev pub samples_at : List Decl → List Place
samples_at [] = []
samples_at (decls.Sample n width stage ∷ ds) = n.at ∷ samples_at ds
samples_at (_ ∷ ds) = samples_at ds

-- the targets' names in guessed reads
abbrev pub guess_at : ReadStmt → Option Expr → List Place
guess_at r None = []
guess_at r (Some guess) = r.target.at ∷ []

abbrev pub guessed_at : StmtKind → List Place
guessed_at (stmts.Read r) = guess_at r r.guess
guessed_at _ = []

abbrev pub guesses_in : List Stmt → List Place
guesses_in [] = []
guesses_in (s ∷ ss) = guessed_at s.kind ++ guesses_in ss

abbrev pub guesses_at : List Block → List Place
guesses_at [] = []
guesses_at (b ∷ bs) = guesses_in b.stmts ++ guesses_at bs

-- a position comes before another in the text
abbrev pub is_before : Place → Place → Bool
is_before a b = nat_lt a.line b.line || (a.line == b.line && nat_lt a.col b.col)

-- the earlier of two positions, if there are two
abbrev pub earlier : Option Place → Place → Place
earlier None b = b
earlier (Some a) b = if is_before b a then b else a

-- the earliest of some positions and of one that was found before
abbrev pub first_of : Option Place → List Place → Option Place
first_of found [] = found
first_of found (a ∷ as_) = first_of (Some (earlier found a)) as_

abbrev pub first_place : List Place → Option Place
first_place places = first_of None places

unfoldable pub untimed : Job → Option Refusal
untimed job = option_map (e_rule 38) (first_place (samples_at job.decls ++ guesses_at job.blocks))
