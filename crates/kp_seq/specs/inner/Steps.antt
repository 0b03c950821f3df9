-- One instruction, step by step, over lists.
use Rattle.std.specs.Prelude.{ℕ, ◌+◌, ◌^◌, List, [], ◌∷◌, Option, Some, None, Bool, true, ◌&&◌, ◌==◌, nat_lt, nat_le, if◌then◌else◌, length, get_or, set, replicate, unwrap_or, slice_index}
use Rattle.kp_bits.specs.Word.{Word, word}
use Rattle.kp_ast.specs.{Checked.Known, Checked.checked, Checked.checked_calls_of, declared.tree.Expr.Expr, declared.tree.ReadStmt.ReadStmt}
use Rattle.kp_ast.specs.declared.tree.{ResultDecl.ResultDecl, Stmt.Stmt, StmtKind.StmtKind, Block.Block}
use Rattle.kp_ast.specs.declared.tree.StmtKind.TheVariants as stmts
use Rattle.kp_pipeline.specs.Sequential.{first_value}
use Rattle.kp_machine.specs.{Slots.Slot, Slots.number_of, Slots.width_of, Slots.result_named, Words.state_in}
use Rattle.kp_seq.specs.{declared.tables.Port.Port, inner.Names.held, inner.Names.bound, inner.Tables.Laid}

-- an instruction in flight: the values of names, of pipes, and of results by their targets
pub record Under : Type 0 where
  pub names : List (Option Word)
  pub pipes : List ℕ
  pub results : List (Option ℕ)

-- the default for a missing value, which doesn't occur in an accepted job
abbrev pub zero_bit : Word
zero_bit = word 1 0

-- the values that are known in a stage
abbrev pub known_in : Laid → Under → Known
known_in t u = record { names = held t.names u.names; calls = checked_calls_of t.decls }

abbrev pub word_in : Laid → Under → Expr → Word
word_in t u e = unwrap_or (checked (known_in t u) e) zero_bit

-- a condition holds if its value is 1, or if it is omitted
abbrev pub holds : Laid → Under → Option Expr → Bool
holds t u None = true
holds t u (Some e) = (word_in t u e).value == 1

-- a register is read at address 0
abbrev pub address_in : Laid → Under → Option Expr → ℕ
address_in t u None = 0
address_in t u (Some e) = (word_in t u e).value

-- a guess is of a register
abbrev pub address_read : Laid → Under → ReadStmt → Option Expr → ℕ
address_read t u r None = address_in t u r.address
address_read t u r (Some e) = 0

-- the word of this width and this value, if it is valid
abbrev pub fitted : ℕ → ℕ → Word
fitted width value = if (nat_le 1 width && nat_le width 64) && nat_lt value (2 ^ width) then word width value else zero_bit

-- the value of a read: 0 if its condition is false
abbrev pub value_read : Laid → List (List ℕ) → Under → ReadStmt → ℕ
value_read t words u r =
    if holds t u r.when then state_in words (number_of t.targets r.target.name) (address_read t u r r.guess) else 0

abbrev pub with_name : Laid → Under → List ℕ → Word → Under
with_name t u name w = record u { names = bound t.names u.names name w }

abbrev pub with_pipe : Under → ℕ → ℕ → Under
with_pipe u p v = record u { pipes = set u.pipes p v }

-- the first value of a result counts
abbrev pub with_first : Under → ℕ → ℕ → Under
with_first u t v = record u { results = set u.results t (first_value (get_or u.results t None) (Some v)) }

abbrev pub with_result : Laid → Under → Option ResultDecl → ℕ → Under
with_result t u None v = u
with_result t u (Some r) v = with_first u (number_of t.targets r.target.name) v

-- after a statement
abbrev pub after_stmt : Laid → List (List ℕ) → Under → StmtKind → Under
after_stmt t words u (stmts.Read r) = with_name t u r.name.name (fitted (width_of t.targets r.target.name) (value_read t words u r))
after_stmt t words u (stmts.Let n e) = with_name t u n.name (word_in t u e)
after_stmt t words u (stmts.Put n e) = with_pipe u (number_of t.pipes n.name) (word_in t u e).value
after_stmt t words u (stmts.Set n e when) = if holds t u when then with_result t u (result_named t.decls n.name) (word_in t u e).value else u
after_stmt t words u (stmts.Aim n e) = u

abbrev pub after_stmts : Laid → List (List ℕ) → Under → List Stmt → Under
after_stmts t words u [] = u
after_stmts t words u (s ∷ ss) = after_stmts t words (after_stmt t words u s.kind) ss

-- the names of these entries are bound to the words of an input vector
abbrev pub with_row : Laid → Under → List Slot → List Word → Under
with_row t u [] row = u
with_row t u (s ∷ ss) [] = u
with_row t u (s ∷ ss) (w ∷ row) = with_row t (with_name t u s.name w) ss row

-- the words of the pipes from this number on, which have these values
abbrev pub pipe_words : List ℕ → ℕ → List Slot → List Word
pipe_words values i [] = []
pipe_words values i (s ∷ ss) = fitted s.width (slice_index values i) ∷ pipe_words values (i + 1) ss

-- and so are the names of these pipes
abbrev pub with_pipes : Laid → Under → ℕ → List Slot → Under
with_pipes t u i ss = with_row t u ss (pipe_words u.pipes i ss)

-- the start of a stage: only the samples and the pipes have values
abbrev pub entered : Laid → List Word → Under → Under
entered t row u = with_pipes t (with_row t (record u { names = replicate (length u.names) None }) t.samples row) 0 t.pipes

abbrev pub after_block : Laid → List (List ℕ) → List Word → Under → Block → Under
after_block t words row u b = after_stmts t words (entered t row u) b.stmts

abbrev pub after_blocks : Laid → List (List ℕ) → List Word → Under → List Block → Under
after_blocks t words row u [] = u
after_blocks t words row u (b ∷ bs) = after_blocks t words row (after_block t words row u b) bs

-- the start of an instruction: no pipe and no result has a value
abbrev pub begun : Under → Under
begun u = record { names = u.names; pipes = replicate (length u.pipes) 0; results = replicate (length u.results) None }

-- the value of the optional pipe of a port, among these values of the pipes
abbrev pub enabled_in : List ℕ → Option ℕ → Bool
enabled_in pipes None = true
enabled_in pipes (Some p) = slice_index pipes p == 1

abbrev pub is_enabled : Under → Option ℕ → Bool
is_enabled u o = enabled_in u.pipes o

abbrev pub address_among : List ℕ → Option ℕ → ℕ
address_among pipes None = 0
address_among pipes (Some p) = slice_index pipes p

abbrev pub address_by : Under → Option ℕ → ℕ
address_by u o = address_among u.pipes o

-- a target takes its result, or 0 if that has no value
abbrev pub with_word : List (List ℕ) → (target address value : ℕ) → List (List ℕ)
with_word words t a v = set words t (set (get_or words t []) a v)

abbrev pub written_by : Under → List (List ℕ) → ℕ → Option Port → List (List ℕ)
written_by u words t None = words
written_by u words t (Some p) =
    if is_enabled u p.enable then with_word words t (address_by u p.address) (unwrap_or (get_or u.results t None) 0) else words

-- the targets of these ports, numbered from t on, are written
abbrev pub written_from : Under → List (List ℕ) → ℕ → List (Option Port) → List (List ℕ)
written_from u words t [] = words
written_from u words t (p ∷ ps) = written_from u (written_by u words t p) (t + 1) ps

-- the words after one instruction with an input vector
abbrev pub executed : Laid → List Word → Under → List Block → List (List ℕ) → List (List ℕ)
executed t row u blocks words = written_from (after_blocks t words row (begun u) blocks) words 0 t.ports
