-- The entries have the declared names, in text order.
use Rattle.std.proofs.Common.{◌≡◌, ◌∙◌, ℕ, ◌+◌, List, [], ◌∷◌, ◌++◌, map, length, ap, sym}
use Rattle.std.{proofs.lemmas.List.map-append, proofs.lemmas.List.append_assoc, proofs.lemmas.List.append-nil, specs.List.flat_map}
use Rattle.kp_ast.specs.declared.{tree.Param.Param, tree.Decl.Decl, tree.Stmt.Stmt, tree.StmtKind.StmtKind, tree.Block.Block, tree.Job.Job, widths.Scope.Scope}
use Rattle.kp_ast.specs.declared.tree.Decl.TheVariants as decls
use Rattle.kp_ast.specs.declared.tree.StmtKind.TheVariants as stmts
use Rattle.kp_ast.specs.declared.widths.Scope.TheVariants as scopes
use Rattle.kp_ast.specs.declared.widths.NameKind.TheVariants as kinds
use Rattle.kp_width.specs.{Names.Sense, Names.sense, Names.Scoped, Names.nothing, Names.opened, Names.with_entry, Names.declared_local, Expressions.width_of}
use Rattle.kp_width.specs.Declarations.{width_or_zero, parameters_of, function_opened, declaration_of, declarations_of, functions_in}
use Rattle.kp_width.specs.Statements.{read_of, statement_of, statements_of, blocks_of}
use Rattle.kp_width.specs.{TextOrder.names_in_decl, TextOrder.names_in_stmt, TextOrder.names_in_block, TextOrder.declared_names, Widths.widths_of}

abbrev Named : Type 0
Named = List (List ℕ)

abbrev entered : Scoped → Named
entered s = map (λ e. e.name) s.entries

entered_next : (s : Scoped) (scope : Scope) (name : List ℕ) (m : Sense) → entered (with_entry s scope name m) ≡ entered s ++ name ∷ []
entered_next s scope name m = map-append (λ e. e.name) s.entries _

-- one more in front of those that follow
after_next : (known mid all : Named) (here rest : Named) → all ≡ mid ++ rest → mid ≡ known ++ here → all ≡ known ++ (here ++ rest)
after_next known mid all here rest whole next = whole ∙ ap (λ xs. xs ++ rest) next ∙ append_assoc known here rest

parameters : (i : ℕ) (s : Scoped) (ps : List Param) → entered (parameters_of i s ps).value ≡ entered s ++ map (λ p. p.name.name) ps
parameters i s [] = sym (append-nil (entered s))
parameters i s (p ∷ ps) =
    let m = sense kinds.Param p.width.value i in
    after_next (entered s) (entered (declared_local s p.name.name m)) _ (p.name.name ∷ []) (map (λ p. p.name.name) ps)
    (parameters i (declared_local s p.name.name m) ps) (entered_next s s.here p.name.name m)

declaration : (ds : List Decl) (i k : ℕ) (s : Scoped) (d : Decl) → entered (declaration_of ds i k s d).value ≡ entered s ++ names_in_decl d
declaration ds i k s (decls.Reg n width start) = entered_next s scopes.Text n.name (sense kinds.Reg width.value i)
declaration ds i k s (decls.File n width address) = entered_next s scopes.Text n.name (sense (kinds.File address.value) width.value i)
declaration ds i k s (decls.Pipe n width) = entered_next s scopes.Text n.name (sense kinds.Pipe width.value i)
declaration ds i k s (decls.Hint n width start) = entered_next s scopes.Text n.name (sense kinds.Hint width.value i)
declaration ds i k s (decls.Sample n width stage) = entered_next s scopes.Text n.name (sense kinds.Sample width.value i)
declaration ds i k s (decls.Target r) = entered_next s scopes.Text r.name.name (sense kinds.Target r.width.value i)
declaration ds i k s (decls.Func f) =
    after_next (entered s) (entered (function_opened s k f)) _ (f.name.name ∷ []) (map (λ p. p.name.name) f.params)
    (parameters i (function_opened s k f) f.params) (entered_next s scopes.Text f.name.name (sense kinds.Func (width_or_zero f.width.value) 0))

declarations : (ds : List Decl) (i k : ℕ) (s : Scoped) (rest : List Decl) → entered (declarations_of ds i k s rest).value ≡ entered s ++ flat_map names_in_decl rest
declarations ds i k s [] = sym (append-nil (entered s))
declarations ds i k s (d ∷ rest) =
    after_next (entered s) (entered (declaration_of ds i k s d).value) _ (names_in_decl d) (flat_map names_in_decl rest)
    (declarations ds (i + 1) (k + functions_in d) (declaration_of ds i k s d).value rest) (declaration ds i k s d)

statement : (ds : List Decl) (s : Scoped) (x : StmtKind) → entered (statement_of ds s x).value ≡ entered s ++ names_in_stmt x
statement ds s (stmts.Read r) = entered_next s s.here r.name.name (sense kinds.Read (read_of ds s r).value 0)
statement ds s (stmts.Let n e) = entered_next s s.here n.name (sense kinds.Let (width_of ds (length ds) s e).value 0)
statement ds s x = sym (append-nil (entered s))

statements : (ds : List Decl) (s : Scoped) (xs : List Stmt) → entered (statements_of ds s xs).value ≡ entered s ++ flat_map (λ x. names_in_stmt x.kind) xs
statements ds s [] = sym (append-nil (entered s))
statements ds s (x ∷ xs) =
    after_next (entered s) (entered (statement_of ds s x.kind).value) _ (names_in_stmt x.kind) (flat_map (λ x. names_in_stmt x.kind) xs)
    (statements ds (statement_of ds s x.kind).value xs) (statement ds s x.kind)

blocks : (ds : List Decl) (k : ℕ) (s : Scoped) (bs : List Block) → entered (blocks_of ds k s bs).value ≡ entered s ++ flat_map names_in_block bs
blocks ds k s [] = sym (append-nil (entered s))
blocks ds k s (b ∷ bs) =
    let t = (statements_of ds (opened s (scopes.Stage k)) b.stmts).value in
    after_next (entered s) (entered t) _ (names_in_block b) (flat_map names_in_block bs)
    (blocks ds (k + 1) t bs) (statements ds (opened s (scopes.Stage k)) b.stmts)

pub names_of_entries : (job : Job) → map (λ e. e.name) (widths_of job).value ≡ declared_names job
names_of_entries job =
    let s = (declarations_of job.decls 0 0 nothing job.decls).value in
    blocks job.decls 0 s job.blocks ∙ ap (λ xs. xs ++ flat_map names_in_block job.blocks) (declarations job.decls 0 0 nothing job.decls)
