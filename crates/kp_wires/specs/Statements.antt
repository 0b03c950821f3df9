-- THE STATEMENTS OF A WIRE, for people: those of its stage that make its signal, each with its line, `stage 3: set G (line 105)`. That a result is set is said
-- by the `when` of its set. A stall and a wrong guess are made by no statement.
use Rattle.std.specs.Prelude.{ℕ, ◌==◌, ◌&&◌, Bool, false, if◌then◌else◌, List, [], ◌∷◌, ◌++◌, length, slice_get, codes, decimal, Option, Some, None}
use Rattle.std.specs.List.{list_any}
use Rattle.kp_ast.specs.{Expressions.is_same_name, declared.tree.Decl.Decl, declared.tree.Job.Job, declared.tree.Stmt.Stmt, declared.tree.StmtKind.StmtKind}
use Rattle.kp_ast.specs.declared.tree.Decl.TheVariants as decls
use Rattle.kp_ast.specs.declared.tree.StmtKind.TheVariants as stmts
use Rattle.kp_vlog.specs.Canon.{text_of}
use Rattle.kp_synth_stage.specs.Work.{stmts_at}
use Rattle.kp_core_ports.specs.Names.{hint_name, pipe_name, target_name}
use Rattle.kp_wires.specs.{Table.below, Texts.call, declared.wire.Signal.Signal}
use Rattle.kp_wires.specs.declared.wire.Signal.TheVariants.{Let, Read, Put, When, Set, Aim, Stall, WrongGuess}

-- ---- which statement makes a signal

-- a declaration of this result of this target
abbrev pub is_result : List ℕ → List ℕ → Decl → Bool
is_result name target (decls.Target r) = is_same_name r.name.name name && is_same_name r.target.name target
is_result name target _ = false

abbrev pub puts : List ℕ → StmtKind → Bool
puts pipe (stmts.Put n e) = is_same_name n.name pipe
puts pipe _ = false

abbrev pub sets : Job → List ℕ → StmtKind → Bool
sets job target (stmts.Set n e w) = list_any (is_result n.name target) job.decls
sets job target _ = false

abbrev pub aims : List ℕ → StmtKind → Bool
aims hint (stmts.Aim n e) = is_same_name n.name hint
aims hint _ = false

-- statement j of a stage makes the signal
abbrev pub makes : Job → Signal → ℕ → StmtKind → Bool
makes job (Let i) j s = i == j
makes job (Read i) j s = i == j
makes job (Put x) j s = puts (pipe_name job x) s
makes job (When t) j s = sets job (target_name job t) s
makes job (Set t) j s = sets job (target_name job t) s
makes job (Aim h) j s = aims (hint_name job h) s
makes job Stall j s = false
makes job WrongGuess j s = false

-- ---- the text of a statement: its first words and its line

abbrev pub verb_of : StmtKind → List ℕ
verb_of (stmts.Read r) = codes "read "
verb_of (stmts.Let n e) = codes "let "
verb_of (stmts.Put n e) = codes "put "
verb_of (stmts.Set n e w) = codes "set "
verb_of (stmts.Aim n e) = codes "aim "

abbrev pub name_of : StmtKind → List ℕ
name_of (stmts.Read r) = r.name.name
name_of (stmts.Let n e) = n.name
name_of (stmts.Put n e) = n.name
name_of (stmts.Set n e w) = n.name
name_of (stmts.Aim n e) = n.name

abbrev pub part_of : Signal → List ℕ
part_of (When t) = codes "when of "
part_of _ = []

unfoldable pub stage_head : ℕ → List ℕ
stage_head k = text_of (codes "  stage " ∷ decimal k ∷ codes ": " ∷ [])

unfoldable pub line_tail : ℕ → List ℕ
line_tail line = text_of (codes " (line " ∷ decimal line ∷ codes ")" ∷ [])

abbrev pub statement : ℕ → Signal → Stmt → List ℕ
statement k signal s = stage_head k ++ (call (part_of signal) (verb_of s.kind) (name_of s.kind) ++ line_tail s.at.line)

-- ---- the statements of stage k that make a signal, each after two blanks

abbrev pub own_statement : Job → ℕ → Signal → ℕ → Option Stmt → List ℕ
own_statement job k signal j None = []
own_statement job k signal j (Some s) = if makes job signal j s.kind then statement k signal s else []

abbrev pub made_by : Job → ℕ → Signal → List ℕ
made_by job k signal = below (λ j. own_statement job k signal j (slice_get (stmts_at job k) j)) (length (stmts_at job k))

abbrev pub statements : Job → ℕ → Signal → List ℕ
statements job k Stall = stage_head k ++ codes "stall"
statements job k WrongGuess = stage_head k ++ codes "wrong guess"
statements job k signal = made_by job k signal
