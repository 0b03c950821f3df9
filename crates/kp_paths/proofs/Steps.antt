-- The steps of the loops that write the table.
use Rattle.std.proofs.Common.{◌≡◌, ◌∙◌, ℕ, suc, ◌+◌, ◌-◌, ◌<◌, List, ◌∷◌, ◌++◌, length, get_or, drop, ap, sym, arith}
use Rattle.std.proofs.lemmas.List.{drop_more}
use Rattle.kp_base.specs.Texts.{in_column}
use Rattle.kp_ast.specs.declared.tree.{Job.Job, ReadStmt.ReadStmt, Stmt.Stmt, Block.Block}
use Rattle.kp_paths.specs.{Table.cell_at, Text.cell_word, Text.cells_text, Text.column, Text.rows_from, Text.rows_in, Text.rows_of, Text.stage_head, Text.stages_text}

pub stages_next : (names : List (List ℕ)) (count j : ℕ) → j < count
    → stages_text names j (count - j) ≡ in_column (column names) (stage_head names j) ++ stages_text names (j + 1) (count - (j + 1))
stages_next names count j h = let one : count - j ≡ suc (count - (j + 1)) = omega arith in ap (λ (m : ℕ). stages_text names j m) one

pub cells_next : (job : Job) (r : ReadStmt) (width k count j : ℕ) → j < count
    → cells_text job r width k j (count - j) ≡ in_column width (cell_word (cell_at job r k j)) ++ cells_text job r width k (j + 1) (count - (j + 1))
cells_next job r width k count j h = let one : count - j ≡ suc (count - (j + 1)) = omega arith in ap (λ (m : ℕ). cells_text job r width k j m) one

pub rows_next : (names : List (List ℕ)) (job : Job) (width k : ℕ) (stmts : List Stmt) (i : ℕ) (s : Stmt) → i < length stmts → s ≡ get_or stmts i s
    → rows_in names job width k (drop i stmts) ≡ rows_of names job width k s.kind ++ rows_in names job width k (drop (i + 1) stmts)
rows_next names job width k stmts i s b is =
    ap (rows_in names job width k) (drop_more stmts i s b ∙ ap (λ (x : Stmt). x ∷ drop (i + 1) stmts) (sym is))

pub blocks_next : (names : List (List ℕ)) (job : Job) (width : ℕ) (blocks : List Block) (k : ℕ) (x : Block) → k < length blocks → x ≡ get_or blocks k x
    → rows_from names job width k (drop k blocks) ≡ rows_in names job width k x.stmts ++ rows_from names job width (k + 1) (drop (k + 1) blocks)
blocks_next names job width blocks k x b is =
    ap (rows_from names job width k) (drop_more blocks k x b ∙ ap (λ (y : Block). y ∷ drop (k + 1) blocks) (sym is))
