-- The line that reports a verdict.
use Rattle.std.proofs.Common.{◌≡◌, ◌∙◌, ℕ, ◌++◌, List, length, codes, decimal, sym, ap, subst}
use Rattle.kp_net.specs.Netlist.{Net}
use Rattle.kp_equiv.specs.{Agreement.roots, Agreement.root, Agreement.AllAgree, Verdicts.IsVerdict, declared.verdict.Verdict.Verdict}
use Rattle.kp_equiv.specs.{declared.verdict.Verdict.TheVariants.Same, declared.verdict.Verdict.TheVariants.Differs, Texts.root_name, Texts.verdict_line}

-- the line of a verdict
pub same_reported : (a b : Net) (v : Verdict) (n : ℕ) → v ≡ Same → IsVerdict a b v → ((other : Net) → AllAgree a other → n ≡ length (roots a other))
    → codes "same roots " ++ decimal n ++ codes "\n" ≡ verdict_line a b v
unfolding verdict_line
same_reported a b v n e h count =
    ap (λ (k : ℕ). codes "same roots " ++ decimal k ++ codes "\n") (count b (subst (IsVerdict a b) e h))
    ∙ sym (ap (verdict_line a b) e)

pub difference_reported : (a b : Net) (v : Verdict) (n : ℕ) (name : List ℕ) → v ≡ Differs n → name ≡ root_name (root a b n)
    → codes "not shown equal " ++ name ++ codes "\n" ≡ verdict_line a b v
unfolding verdict_line
difference_reported a b v n name e m = ap (λ (x : List ℕ). codes "not shown equal " ++ x ++ codes "\n") m ∙ sym (ap (verdict_line a b) e)
