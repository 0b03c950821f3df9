use Rattle.std.proofs.Common.{◌≡◌, ℕ, Bool, true, false, cond, List, [], ◌∷◌, drop, refl, sym, ap}
use Rattle.kp_ast.specs.declared.tree.Block.{Block}
use Rattle.kp_design.specs.Spans.{uses_name, last_use_in}
use Rattle.kp_design.proofs.uses.last_use_in.Goals as goal

either_way : (b : Bool) (n : ℕ) → cond b n n ≡ n
either_way true n = refl
either_way false n = refl

-- the first stage is the default
from_one : (name : List ℕ) (blocks : List Block) → last_use_in name 0 1 (drop 1 blocks) ≡ last_use_in name 0 0 blocks
from_one name [] = refl
from_one name (b ∷ bs) = ap (λ (n : ℕ). last_use_in name n 1 bs) (sym (either_way (uses_name name b.stmts) 0))

pub loop-k-init : goal.loop-k-init
loop-k-init c = from_one c.args.name.now c.args.blocks.now
