-- The parts of a generated job: its items for each register, with the register's number and choices, and the declarations for the file.
use Rattle.std.specs.Prelude.{ℕ, ◌-◌, Some, codes}
use Rattle.kp_ast.specs.declared.tree.{Decl.Decl, Stmt.Stmt}
use Rattle.kp_ast.specs.declared.tree.Decl.TheVariants as decls
use Rattle.kp_gen.specs.declared.draws.Route.{Route}
use Rattle.kp_gen.specs.Generated as made

abbrev pub register : ℕ → Route → Decl
register i r = made.register i

abbrev pub pipe : ℕ → Route → Decl
pipe i r = made.pipe i

abbrev pub read : ℕ → Route → Stmt
read i r = made.read i

abbrev pub put : ℕ → ℕ → Route → Stmt
put m i r = made.put m i

abbrev pub file : Decl
file = decls.File (made.named (codes "F")) (made.num 16) (made.num 8)

abbrev pub pipe_AF : Decl
pipe_AF = decls.Pipe (made.named (codes "AF")) (made.num 8)

abbrev pub pipe_VF : Decl
pipe_VF = decls.Pipe (made.named (codes "VF")) (made.num 16)

abbrev pub file_result : ℕ → Decl
file_result n = made.target (codes "CF") (codes "F") (Some (made.named (codes "AF"))) (n - 1)
