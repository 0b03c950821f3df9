-- What a stage does, as a tree: its reads in order, and at the end its puts, sets and aims.
--
-- The statements of the block are evaluated in text order. A name has the value that a read or a let of the stage
-- bound it to, or it is a pipe, with its value when the instruction entered the stage, or a sample, with its given
-- value. In a guess and an aim, it may be a hint too. No name is declared twice in the same scope, so it doesn't
-- matter which of these is looked up first.
use Rattle.std.specs.Prelude.{ℕ, List, [], ◌∷◌, ◌++◌, Option, Some, None, Bool, true, ◌==◌, if◌then◌else◌}
use Rattle.kp_bits.specs.Word.{Word, word}
use Rattle.kp_ast.specs.{Expressions.Values, Expressions.eval, Expressions.env_of, declared.tree.Expr.Expr, declared.tree.ReadStmt.ReadStmt}
use Rattle.kp_ast.specs.declared.tree.{ResultDecl.ResultDecl, Decl.Decl, Stmt.Stmt, StmtKind.StmtKind}
use Rattle.kp_ast.specs.declared.tree.StmtKind.TheVariants as stmts
use Rattle.kp_pipeline.specs.{Machine.Tree, Machine.Done, Machine.Ask, Machine.Guess, Sequential.first_value}
use Rattle.kp_machine.specs.Slots.{targets_of, pipes_of, hints_of, samples_of, number_of, width_of, words_of, result_named}

-- What the statements so far have done: the names that have values (the pipes, the samples, and then those of the
-- reads and lets), and what was put, set and aimed, by number. Aimed values depend on the values of the hints.
pub record Progress : Type 0 where
  pub names : Values
  pub puts : ℕ → Option ℕ
  pub sets : ℕ → Option ℕ
  pub aims : (ℕ → ℕ) → ℕ → Option ℕ

-- Nothing is done yet, and the samples and the pipes have these values.
abbrev pub entered : List Decl → (ℕ → ℕ) → (ℕ → ℕ) → Progress
entered ds samples pipes = record {
  names = words_of (pipes_of ds) pipes ++ words_of (samples_of ds) samples;
  puts = λ p. None;
  sets = λ t. None;
  aims = λ hints h. None;
}

-- The value of an expression of the stage, and that of one that may use the hints.
abbrev pub word_of : List Decl → Progress → Expr → Word
word_of ds done e = eval (env_of ds done.names) e

abbrev pub value_of : List Decl → Progress → Expr → ℕ
value_of ds done e = (word_of ds done e).value

abbrev pub value_with_hints : List Decl → Progress → Expr → (ℕ → ℕ) → ℕ
value_with_hints ds done e hints = (eval (env_of ds (done.names ++ words_of (hints_of ds) hints)) e).value

-- A condition holds if its value is 1, or if it is omitted.
abbrev pub holds : List Decl → Progress → Option Expr → Bool
holds ds done None = true
holds ds done (Some e) = value_of ds done e == 1

-- A register is read at address 0.
abbrev pub address_of : List Decl → Progress → Option Expr → ℕ
address_of ds done None = 0
address_of ds done (Some e) = value_of ds done e

-- A value under a number, and all else unchanged.
abbrev pub with_value : ℕ → ℕ → (ℕ → Option ℕ) → ℕ → Option ℕ
with_value n v known i = if i == n then Some v else known i

-- A name is bound to its value.
abbrev pub with_name : Progress → List ℕ → Word → Progress
with_name done name v = record done { names = done.names ++ (name, v) ∷ [] }

-- A pipe is put.
abbrev pub with_put : Progress → ℕ → ℕ → Progress
with_put done p v = record done { puts = with_value p v done.puts }

-- A result is set. The set is stored under the result's target, and a result that was set already is unchanged.
abbrev pub with_set : List Decl → Progress → Option ResultDecl → ℕ → Progress
with_set ds done None v = done
with_set ds done (Some r) v = record done {
  sets = λ t. first_value (done.sets t) (with_value (number_of (targets_of ds) r.target.name) v (λ u. None) t);
}

-- A hint is aimed.
abbrev pub with_aim : Progress → ℕ → ((ℕ → ℕ) → ℕ) → Progress
with_aim done h v = record done { aims = λ hints. with_value h (v hints) (done.aims hints) }

-- A read whose condition holds asks for its target; a guessed one has its guess.
abbrev pub read_of : List Decl → Progress → ReadStmt → Option Expr → (ℕ → Tree) → Tree
read_of ds done r None rest = Ask (number_of (targets_of ds) r.target.name) (address_of ds done r.address) rest
read_of ds done r (Some e) rest = Guess (number_of (targets_of ds) r.target.name) (value_with_hints ds done e) rest

-- The word that a read binds to its name.
abbrev pub word_read : List Decl → ReadStmt → ℕ → Word
word_read ds r v = word (width_of (targets_of ds) r.target.name) v

-- One statement, and then the rest. A read whose condition is false asks for nothing and yields 0. A set whose condition is false sets nothing.
abbrev pub statement_of : List Decl → Progress → StmtKind → (Progress → Tree) → Tree
statement_of ds done (stmts.Read r) rest =
    if holds ds done r.when
    then read_of ds done r r.guess (λ v. rest (with_name done r.name.name (word_read ds r v)))
    else rest (with_name done r.name.name (word_read ds r 0))
statement_of ds done (stmts.Let n e) rest = rest (with_name done n.name (word_of ds done e))
statement_of ds done (stmts.Put n e) rest = rest (with_put done (number_of (pipes_of ds) n.name) (value_of ds done e))
statement_of ds done (stmts.Set n e when) rest =
    if holds ds done when then rest (with_set ds done (result_named ds n.name) (value_of ds done e)) else rest done
statement_of ds done (stmts.Aim n e) rest = rest (with_aim done (number_of (hints_of ds) n.name) (value_with_hints ds done e))

-- The statements from one on, given the progress before them.
abbrev pub tree_of : List Decl → Progress → List Stmt → Tree
tree_of ds done [] = Done done.puts done.sets done.aims
tree_of ds done (s ∷ ss) = statement_of ds done s.kind (λ next. tree_of ds next ss)
