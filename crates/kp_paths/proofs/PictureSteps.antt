-- The steps of the loops that write the picture.
use Rattle.std.proofs.Common.{◌≡◌, ◌∙◌, ℕ, suc, ◌+◌, ◌-◌, ◌<◌, Bool, true, false, refl, cond, List, ◌∷◌, ◌++◌, length, get_or, drop, ap, sym, arith}
use Rattle.std.proofs.lemmas.{List.drop_more, List.length-append, Grind.flat_map-append}
use Rattle.kp_ast.specs.declared.tree.{Job.Job, ReadStmt.ReadStmt, Stmt.Stmt, Block.Block}
use Rattle.kp_paths.specs.{declared.cell.Cell.Cell, Table.cell_at, Arrows.arrow_of, Arrows.arrows_from, Arrows.is_shown}
use Rattle.kp_paths.specs.Picture.{arrow_text, arrows_text, column_text, columns_text, rows_from, rows_in, rows_of}
use Rattle.kp_paths.specs.Places.{middle, row_end, rows_end}

pub columns_next : (names : List (List ℕ)) (low count j : ℕ) → j < count
    → columns_text names low j (count - j) ≡ column_text names j (middle j) low ++ columns_text names low (j + 1) (count - (j + 1))
columns_next names low count j h = let one : count - j ≡ suc (count - (j + 1)) = omega arith in ap (λ (m : ℕ). columns_text names low j m) one

-- the arrows of one stage more
module _ (job : Job) (r : ReadStmt) (k count j : ℕ) (h : j < count) where
  pub more_arrows : arrows_from job r k j (count - j) ≡ arrow_of j (cell_at job r k j) ++ arrows_from job r k (j + 1) (count - (j + 1))
  more_arrows = let one : count - j ≡ suc (count - (j + 1)) = omega arith in ap (λ (m : ℕ). arrows_from job r k j m) one

  pub arrows_next : (names : List (List ℕ)) → arrows_text names k (arrows_from job r k j (count - j))
      ≡ arrows_text names k (arrow_of j (cell_at job r k j)) ++ arrows_text names k (arrows_from job r k (j + 1) (count - (j + 1)))
  arrows_next names = ap (arrows_text names k) more_arrows ∙ flat_map-append (arrow_text names k) (arrow_of j (cell_at job r k j)) (arrows_from job r k (j + 1) (count - (j + 1)))

  counted : (c : Cell) (b : Bool) → is_shown c ≡ b → length (arrow_of j c) ≡ cond b 1 0
  counted c true e = rw e refl
  counted c false e = rw e refl

  pub count_next : length (arrows_from job r k j (count - j))
      ≡ cond (is_shown (cell_at job r k j)) 1 0 + length (arrows_from job r k (j + 1) (count - (j + 1)))
  count_next =
      ap length more_arrows ∙ length-append (arrow_of j (cell_at job r k j)) (arrows_from job r k (j + 1) (count - (j + 1)))
      ∙ ap (λ (n : ℕ). n + length (arrows_from job r k (j + 1) (count - (j + 1)))) (counted (cell_at job r k j) (is_shown (cell_at job r k j)) refl)

-- one statement more, and one block more
module _ (job : Job) (k top : ℕ) (stmts : List Stmt) (i : ℕ) (s : Stmt) (b : i < length stmts) (is : s ≡ get_or stmts i s) where
  one_stmt : drop i stmts ≡ s ∷ drop (i + 1) stmts
  one_stmt = drop_more stmts i s b ∙ ap (λ (x : Stmt). x ∷ drop (i + 1) stmts) (sym is)

  pub rows_next : (names : List (List ℕ)) → rows_in names job k top (drop i stmts) ≡ rows_of names job k top s.kind ++ rows_in names job k (row_end job k top s.kind) (drop (i + 1) stmts)
  rows_next names = ap (rows_in names job k top) one_stmt

  pub ends_next : rows_end job k top (drop i stmts) ≡ rows_end job k (row_end job k top s.kind) (drop (i + 1) stmts)
  ends_next = ap (rows_end job k top) one_stmt

module _ (job : Job) (top : ℕ) (blocks : List Block) (k : ℕ) (x : Block) (b : k < length blocks) (is : x ≡ get_or blocks k x) where
  one_block : drop k blocks ≡ x ∷ drop (k + 1) blocks
  one_block = drop_more blocks k x b ∙ ap (λ (y : Block). y ∷ drop (k + 1) blocks) (sym is)

  pub blocks_next : (names : List (List ℕ)) → rows_from names job k top (drop k blocks) ≡ rows_in names job k top x.stmts ++ rows_from names job (k + 1) (rows_end job k top x.stmts) (drop (k + 1) blocks)
  blocks_next names = ap (rows_from names job k top) one_block
