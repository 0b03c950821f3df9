-- THE SETS of a result in text order, and those of them that are in vain.
use Rattle.std.specs.Prelude.{ℕ, ◌+◌, List, [], ◌∷◌, ◌++◌, Option, Some, None, is_none, if◌then◌else◌}
use Rattle.kp_base.specs.declared.place.Place.{Place}
use Rattle.kp_ast.specs.{Expressions.is_same_name, declared.tree.Stmt.Stmt, declared.tree.StmtKind.StmtKind, declared.tree.Block.Block}
use Rattle.kp_ast.specs.declared.tree.StmtKind.TheVariants as stmts
use Rattle.kp_lint.specs.declared.sets.PlacedSet.{PlacedSet}

-- statement j of stage k, where it sets the result of this name
abbrev pub set_here : List ℕ → (stage statement : ℕ) → Place → StmtKind → List PlacedSet
set_here result k j at (stmts.Set n e when) =
    if is_same_name n.name result then record { stage = k; index = j; place = at; sure = is_none when } ∷ [] else []
set_here result k j at _ = []

-- the sets in these statements of stage k, from number j on
abbrev pub sets_in : List ℕ → (stage first : ℕ) → List Stmt → List PlacedSet
sets_in result k j [] = []
sets_in result k j (s ∷ ss) = set_here result k j s.at s.kind ++ sets_in result k (j + 1) ss

-- and in these blocks, from stage k on
abbrev pub sets_from : List ℕ → ℕ → List Block → List PlacedSet
sets_from result k [] = []
sets_from result k (b ∷ bs) = sets_in result k 0 b.stmts ++ sets_from result (k + 1) bs

-- the first set without a condition
abbrev pub first_sure : List PlacedSet → Option PlacedSet
first_sure [] = None
first_sure (s ∷ ss) = if s.sure then Some s else first_sure ss

-- IN VAIN are the sets after it.
abbrev pub in_vain : List PlacedSet → List PlacedSet
in_vain [] = []
in_vain (s ∷ ss) = if s.sure then ss else in_vain ss
