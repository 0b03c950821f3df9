-- The step of the loop that writes the names of the stages.
use Rattle.std.proofs.Common.{◌≡◌, ℕ, suc, ◌+◌, ◌-◌, ◌<◌, List, ◌++◌, ap, subst, arith}
use Rattle.std.specs.Prelude.{codes, Option}
use Rattle.kp_base.specs.inner.Bytes.{WrittenUpTo}
use Rattle.kp_diagram_text.specs.Text.{stage_name}
use Rattle.kp_page.specs.Page.{stage_lines}

-- the text that is left is the same
pub left_is : (whole rest same : List ℕ) (a b : Option (List ℕ)) → rest ≡ same → WrittenUpTo whole rest a b → WrittenUpTo whole same a b
left_is whole rest same a b e written = subst (λ (text : List ℕ). WrittenUpTo whole text a b) e written

-- one name more
pub lines_next : (names : List (List ℕ)) (n k : ℕ) → k < n
    → stage_lines names k (n - k) ≡ (stage_name names k ++ codes "\n") ++ stage_lines names (k + 1) (n - (k + 1))
lines_next names n k h = let one : n - k ≡ suc (n - (k + 1)) = omega (arith, h) in ap (stage_lines names k) one
