-- THE LABELS of the reads of a job, in text order.
use Rattle.std.specs.Prelude.{ℕ, List, [], ◌∷◌, ◌++◌, Bool, false, is_some, get_or}
use Rattle.kp_ast.specs.declared.tree.{ReadStmt.ReadStmt, Stmt.Stmt, StmtKind.StmtKind, Block.Block}
use Rattle.kp_ast.specs.declared.tree.StmtKind.TheVariants as stmts

-- the name of the target, whether it is a file, and the line of the read
pub record Labelled : Type 0 where
  pub name : List ℕ
  pub file : Bool
  pub line : ℕ

abbrev pub no_label : Labelled
no_label = record { name = []; file = false; line = 0 }

abbrev pub label_of : ReadStmt → Labelled
label_of r = record { name = r.target.name; file = is_some r.address; line = r.name.at.line }

abbrev pub label_in : StmtKind → List Labelled
label_in (stmts.Read r) = label_of r ∷ []
label_in _ = []

abbrev pub labels_in : List Stmt → List Labelled
labels_in [] = []
labels_in (s ∷ ss) = label_in s.kind ++ labels_in ss

abbrev pub labels_from : List Block → List Labelled
labels_from [] = []
labels_from (b ∷ bs) = labels_in b.stmts ++ labels_from bs

-- the label of read number i
abbrev pub label_at : List Labelled → ℕ → Labelled
label_at labels i = get_or labels i no_label
