-- What sentences take from a text and from its tree.
use Rattle.std.specs.Prelude.{ℕ, Bool, false, not, ◌&&◌, ◌||◌, ◌==◌, nat_lt, if◌then◌else◌, List, [], find, Option, Some, None, option_map, Result, Ok, Err, slice_get}
use Rattle.std.specs.{List.list_any, Str.bytes_eq, Str.str_eq_ignore_ascii_case}
use Rattle.kp_base.specs.declared.place.Place.{Place}
use Rattle.kp_bits.specs.{Literals.literal_of, declared.literal.Literal.Literal, declared.literal.LiteralFault.LiteralFault}
use Rattle.kp_ast.specs.{Expressions.is_same_name, declared.tree.Decl.Decl, declared.tree.Stmt.Stmt, declared.tree.StmtKind.StmtKind}
use Rattle.kp_ast.specs.declared.tree.{Block.Block, Job.Job, Named.Named}
use Rattle.kp_ast.specs.declared.tree.Decl.TheVariants as decls
use Rattle.kp_ast.specs.declared.tree.StmtKind.TheVariants as stmts
use Rattle.kp_ast.specs.declared.widths.Scope.{Scope}
use Rattle.kp_ast.specs.declared.widths.Scope.TheVariants as scopes
use Rattle.kp_width.specs.Declarations.{name_of}
use Rattle.kp_view_excerpt.specs.Tokens.{token_at}

abbrev pub if_read : Result Literal LiteralFault → Option Literal
if_read (Ok literal) = Some literal
if_read (Err fault) = None

-- the literal at a place
abbrev pub literal_at : List ℕ → Place → Option Literal
literal_at text at = if_read (literal_of (token_at text at))

-- a declaration has an address at this place: that of a result, which is a pipe
abbrev pub is_at : Place → Option Named → Bool
is_at at None = false
is_at at (Some n) = n.at.line == at.line && n.at.col == at.col

abbrev pub addresses_at : Place → Decl → Bool
addresses_at at (decls.Target r) = is_at at r.address
addresses_at at _ = false

abbrev pub declares : List ℕ → Decl → Bool
declares name d = is_same_name (name_of d).name name

-- a `read` or a `let` of the name
abbrev pub binds : List ℕ → StmtKind → Bool
binds name (stmts.Read r) = is_same_name r.name.name name
binds name (stmts.Let n e) = is_same_name n.name name
binds name _ = false

abbrev pub binds_in : List ℕ → Block → Bool
binds_in name b = list_any (λ s. binds name s.kind) b.stmts

-- the statements of a stage
abbrev pub stmts_of : Option Block → List Stmt
stmts_of None = []
stmts_of (Some b) = b.stmts

abbrev pub stmts_in : Job → ℕ → List Stmt
stmts_in job k = stmts_of (slice_get job.blocks k)

-- the name, at a place before this one
abbrev pub is_named_before : List ℕ → Place → Named → Bool
is_named_before name at n = is_same_name n.name name && (nat_lt n.at.line at.line || (n.at.line == at.line && nat_lt n.at.col at.col))

abbrev pub binds_before : List ℕ → Place → StmtKind → Bool
binds_before name at (stmts.Read r) = is_named_before name at r.name
binds_before name at (stmts.Let n e) = is_named_before name at n
binds_before name at _ = false

abbrev pub binds_here : List ℕ → Place → Job → Scope → Bool
binds_here name at job (scopes.Stage k) = list_any (λ s. binds_before name at s.kind) (stmts_in job k)
binds_here name at job _ = false

-- Where a name that isn't in scope is declared before this place, or is bound before it in the same stage, the place is in this definition.
abbrev pub is_own : List ℕ → Place → Job → Scope → Bool
is_own name at job here = list_any (λ d. is_named_before name at (name_of d)) job.decls || binds_here name at job here

-- the first declared name that differs from a name in the case of letters alone
abbrev pub differs_in_case : List ℕ → List ℕ → Bool
differs_in_case a b = str_eq_ignore_ascii_case a b && not (bytes_eq a b)

abbrev pub other_case : List ℕ → Job → Option (List ℕ)
other_case name job = option_map (λ d. (name_of d).name) (find (λ d. differs_in_case (name_of d).name name) job.decls)

-- `put` of a value whose outermost token is this name: its place is that of this token
abbrev pub puts : List ℕ → List ℕ → StmtKind → Bool
puts text name (stmts.Put n e) = bytes_eq (token_at text e.place) name
puts text name _ = false

abbrev pub pipe_of : StmtKind → Option (List ℕ)
pipe_of (stmts.Put n e) = Some n.name
pipe_of _ = None

abbrev pub pipe_in : Option Stmt → Option (List ℕ)
pipe_in None = None
pipe_in (Some s) = pipe_of s.kind

-- the pipe into which this earlier stage puts the value of a name
abbrev pub holder : List ℕ → Job → List ℕ → (here there : ℕ) → Option (List ℕ)
holder text job name here there = if nat_lt there here then pipe_in (find (λ s. puts text name s.kind) (stmts_in job there)) else None
