-- The names that a job declares, in text order.
use Rattle.std.specs.{Prelude.ℕ, Prelude.List, Prelude.[], Prelude.◌∷◌, Prelude.◌++◌, Prelude.map, List.flat_map}
use Rattle.kp_ast.specs.declared.tree.{Decl.Decl, StmtKind.StmtKind, Block.Block, Job.Job}
use Rattle.kp_ast.specs.declared.tree.Decl.TheVariants as decls
use Rattle.kp_ast.specs.declared.tree.StmtKind.TheVariants as stmts
use Rattle.kp_width.specs.Declarations.{name_of}

-- a function's name comes before those of its parameters
abbrev pub names_in_decl : Decl → List (List ℕ)
names_in_decl (decls.Func f) = f.name.name ∷ map (λ p. p.name.name) f.params
names_in_decl d = (name_of d).name ∷ []

-- a read and a let declare a name, and no other statement does
abbrev pub names_in_stmt : StmtKind → List (List ℕ)
names_in_stmt (stmts.Read r) = r.name.name ∷ []
names_in_stmt (stmts.Let n e) = n.name ∷ []
names_in_stmt _ = []

abbrev pub names_in_block : Block → List (List ℕ)
names_in_block b = flat_map (λ x. names_in_stmt x.kind) b.stmts

abbrev pub declared_names : Job → List (List ℕ)
declared_names job = flat_map names_in_decl job.decls ++ flat_map names_in_block job.blocks
