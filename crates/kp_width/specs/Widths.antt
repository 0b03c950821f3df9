-- Names and widths of a job: rules E5 to E14 and E26, over declarations and then statements, in text order.
use Rattle.std.specs.Prelude.{ℕ, ◌+◌, List, [], ◌∷◌, ◌++◌, Option, Some, None, Result, Ok, Err, ◌&&◌, if◌then◌else◌}
use Rattle.std.specs.Option.{option_map}
use Rattle.kp_base.specs.{First.first, Check.Check, Check.ok, Check.◌>>=◌, Check.Answer}
use Rattle.kp_ast.specs.declared.{tree.Decl.Decl, tree.Stmt.Stmt, tree.StmtKind.StmtKind, tree.Block.Block, tree.Job.Job, widths.Entry.Entry}
use Rattle.kp_ast.specs.declared.tree.StmtKind.TheVariants as stmts
use Rattle.kp_ast.specs.declared.widths.Scope.TheVariants as scopes
use Rattle.kp_width.specs.Faults.{WidthFinding, refusal_of, is_doubtful}
use Rattle.kp_width.specs.Names.{Scoped, nothing, opened, doubted_text, doubted_local}
use Rattle.kp_width.specs.Declarations.{name_of, functions_in, declaration_of, declarations_of}
use Rattle.kp_width.specs.Statements.{statement_of, blocks_of}

-- The answers of all checks of these rules, in order; the first violation counts. If there is none, the result is one
-- entry for every declared name, in text order.
abbrev pub widths_of : Job → Check WidthFinding (List Entry)
widths_of job =
    declarations_of job.decls 0 0 nothing job.decls
    >>= (λ s. blocks_of job.decls 0 s job.blocks
    >>= (λ t. ok t.entries))

-- the first of these rules that is violated
abbrev pub width_broken : Job → Answer
width_broken job = option_map refusal_of (first (widths_of job).asked)

-- All violations. An item is a declaration or a statement. Of each item the first violation is listed; and then the
-- names and widths are checked from the next item on, where the name of the refused one is doubtful. An item whose
-- first violation is that it uses a doubtful name is not listed, since this follows from another one.

-- what is listed of an item that is found to be refused
abbrev pub listed : Scoped → WidthFinding → Option WidthFinding
listed s f = if s.doubts && is_doubtful f.fault then None else Some f

abbrev pub noted : Scoped → Result Scoped WidthFinding → Option WidthFinding
noted s (Ok t) = None
noted s (Err f) = listed s f

-- the scope of the next item: `refused` if this one violates a rule
abbrev pub next : Scoped → Result Scoped WidthFinding → Scoped
next refused (Ok t) = t
next refused (Err f) = refused

abbrev pub after_decl : List Decl → ℕ → ℕ → Scoped → Decl → Scoped
after_decl ds i k s d = next (doubted_text s (name_of d).name) (declaration_of ds i k s d).found

abbrev pub after_decls : List Decl → ℕ → ℕ → Scoped → List Decl → Scoped
after_decls ds i k s [] = s
after_decls ds i k s (d ∷ rest) = after_decls ds (i + 1) (k + functions_in d) (after_decl ds i k s d) rest

abbrev pub decl_answers : List Decl → ℕ → ℕ → Scoped → List Decl → List (Option WidthFinding)
decl_answers ds i k s [] = []
decl_answers ds i k s (d ∷ rest) = noted s (declaration_of ds i k s d).found ∷ decl_answers ds (i + 1) (k + functions_in d) (after_decl ds i k s d) rest

-- the scope after a refused statement
abbrev pub refused_stmt : Scoped → StmtKind → Scoped
refused_stmt s (stmts.Read r) = doubted_local s r.name.name
refused_stmt s (stmts.Let n e) = doubted_local s n.name
refused_stmt s _ = s

abbrev pub after_stmt : List Decl → Scoped → StmtKind → Scoped
after_stmt ds s x = next (refused_stmt s x) (statement_of ds s x).found

abbrev pub after_stmts : List Decl → Scoped → List Stmt → Scoped
after_stmts ds s [] = s
after_stmts ds s (x ∷ xs) = after_stmts ds (after_stmt ds s x.kind) xs

abbrev pub stmt_answers : List Decl → Scoped → List Stmt → List (Option WidthFinding)
stmt_answers ds s [] = []
stmt_answers ds s (x ∷ xs) = noted s (statement_of ds s x.kind).found ∷ stmt_answers ds (after_stmt ds s x.kind) xs

abbrev pub after_blocks : List Decl → ℕ → Scoped → List Block → Scoped
after_blocks ds k s [] = s
after_blocks ds k s (b ∷ bs) = after_blocks ds (k + 1) (after_stmts ds (opened s (scopes.Stage k)) b.stmts) bs

abbrev pub block_answers : List Decl → ℕ → Scoped → List Block → List (Option WidthFinding)
block_answers ds k s [] = []
block_answers ds k s (b ∷ bs) =
    stmt_answers ds (opened s (scopes.Stage k)) b.stmts ++ block_answers ds (k + 1) (after_stmts ds (opened s (scopes.Stage k)) b.stmts) bs

-- all declarations, and then all blocks
abbrev pub after_all : Scoped → List Decl → List Block → Scoped
after_all s ds bs = after_blocks ds 0 (after_decls ds 0 0 s ds) bs

abbrev pub all_answers : Scoped → List Decl → List Block → List (Option WidthFinding)
all_answers s ds bs = decl_answers ds 0 0 s ds ++ block_answers ds 0 (after_decls ds 0 0 s ds) bs

abbrev pub width_answers : Job → List (Option WidthFinding)
width_answers job = all_answers nothing job.decls job.blocks
