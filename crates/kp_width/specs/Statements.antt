-- Statements: rules E5 to E14 on them, from left to right. All functions are declared by then.
use Rattle.std.specs.Prelude.{ℕ, ◌+◌, List, [], ◌∷◌, Option, Bool, ◌==◌, is_some, length}
use Rattle.kp_base.specs.{Check.Check, Check.ok, Check.◌>>=◌, Check.wants}
use Rattle.kp_ast.specs.declared.tree.{Named.Named, Expr.Expr, ReadStmt.ReadStmt, Decl.Decl, Stmt.Stmt, StmtKind.StmtKind, Block.Block}
use Rattle.kp_ast.specs.declared.tree.StmtKind.TheVariants as stmts
use Rattle.kp_ast.specs.declared.widths.Scope.TheVariants as scopes
use Rattle.kp_ast.specs.declared.widths.NameKind.TheVariants as kinds
use Rattle.kp_width.specs.{Faults.WidthFinding, Faults.found_at, declared.fault.Position.Position}
use Rattle.kp_width.specs.declared.fault.WidthFault.TheVariants as faults
use Rattle.kp_width.specs.declared.fault.Destination.TheVariants as to
use Rattle.kp_width.specs.Names.{sense, Checked, passed, Scoped, fresh, used, opened, declared_local}
use Rattle.kp_width.specs.Expressions.{Part, part_of, width_of, value_of, condition_of}
use Rattle.kp_width.specs.Declarations.{kept, storage_of, address_width}

-- an optional condition
abbrev pub when_of : List Decl → Scoped → Option Expr → Checked
when_of ds s when = kept when (λ e. condition_of (part_of ds (length ds) s e))

-- E14: an address has the width of the addresses of its file, the declaration of this number
abbrev pub address_of : Part → ℕ → ℕ → Checked
address_of e w file = e.width >>= (λ x. wants (x == w) (found_at e.at (faults.Address x w file)) passed)

-- a read after its name: its target, address, condition, and guess, which has the width of the target (E10). This is the width of the read too
abbrev pub read_of : List Decl → Scoped → ReadStmt → Check WidthFinding ℕ
read_of ds s r =
    storage_of s r.target (is_some r.address)
    >>= (λ t. kept r.address (λ e. address_of (part_of ds (length ds) s e) (address_width t.kind) t.from)
    >>= (λ a. when_of ds s r.when
    >>= (λ b. kept r.guess (λ e. value_of (part_of ds (length ds) s e) t.width (to.Named t.kind t.from))
    >>= (λ c. ok t.width))))

-- the name that is put, set or aimed, and its value, which has the same width (E10)
abbrev pub given : List Decl → Scoped → Position → Named → Expr → Checked
given ds s position n e = used s position n.name n.at >>= (λ m. value_of (part_of ds (length ds) s e) m.width (to.Named m.kind m.from))

abbrev pub statement_of : List Decl → Scoped → StmtKind → Check WidthFinding Scoped
statement_of ds s (stmts.Read r) =
    fresh s r.name.name r.name.at (read_of ds s r >>= (λ w. ok (declared_local s r.name.name (sense kinds.Read w 0))))
statement_of ds s (stmts.Let n e) =
    fresh s n.name n.at (width_of ds (length ds) s e >>= (λ w. ok (declared_local s n.name (sense kinds.Let w 0))))
statement_of ds s (stmts.Put n e) = given ds s Position.Pipe n e >>= (λ x. ok s)
statement_of ds s (stmts.Set n e when) = given ds s Position.Result n e >>= (λ x. when_of ds s when >>= (λ y. ok s))
statement_of ds s (stmts.Aim n e) = given ds s Position.Hint n e >>= (λ x. ok s)

abbrev pub statements_of : List Decl → Scoped → List Stmt → Check WidthFinding Scoped
statements_of ds s [] = ok s
statements_of ds s (x ∷ xs) = statement_of ds s x.kind >>= (λ t. statements_of ds t xs)

-- the blocks from this number on
abbrev pub blocks_of : List Decl → ℕ → Scoped → List Block → Check WidthFinding Scoped
blocks_of ds k s [] = ok s
blocks_of ds k s (b ∷ bs) = statements_of ds (opened s (scopes.Stage k)) b.stmts >>= (λ t. blocks_of ds (k + 1) t bs)
