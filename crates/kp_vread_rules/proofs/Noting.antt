-- Findings that are noted, part by part.
use Rattle.std.proofs.Common.{◌≡◌, ◌∙◌, ℕ, List, [], ◌∷◌, ◌++◌, length, take, true, Option, ap, refl, sym}
use Rattle.std.specs.Prelude.{nat_le, option_map}
use Rattle.kp_base.{specs.Findings.Collected, specs.Findings.with_answer, specs.Findings.with_answers, specs.declared.finding.Finding.Finding, specs.Findings.findings, proofs.Collecting.first_of_all, proofs.Collecting.full_stays}
use Rattle.kp_vread_rules.specs.{Faults.in_text, Faults.placed, declared.fault.ModuleFault.ModuleFault, declared.fault.Found.Found}

-- what is noted of two parts, one after the other
pub joined : (text : List ℕ) (n : Collected (Finding ModuleFault)) (xs ys : List (Option Found)) → with_answers n (in_text text (xs ++ ys)) ≡ with_answers (with_answers n (in_text text xs)) (in_text text ys)
joined text n [] ys = refl
joined text n (x ∷ xs) ys = joined text (with_answers n (in_text text (x ∷ []))) xs ys

-- where there are enough
pub full : (n : Collected (Finding ModuleFault)) (xs : List (Option (Finding ModuleFault))) → nat_le n.most (length n.found) ≡ true → n ≡ with_answers n xs
full n xs e = sym (full_stays n xs e)

-- what is found of a list of answers, from nothing on
pub all_found : (text : List ℕ) (most : ℕ) (start n : Collected (Finding ModuleFault)) (xs ys : List (Option Found)) → start ≡ record { most = most; found = [] }
    → n ≡ with_answers start (in_text text xs) → xs ≡ ys → n.found ≡ take most (findings (in_text text ys))
all_found text most start n xs ys s e same =
    ap (λ (k : Collected (Finding ModuleFault)). k.found) (e ∙ ap (λ k. with_answers k (in_text text xs)) s ∙ ap (λ zs. with_answers (record { most = most; found = [] }) (in_text text zs)) same)
    ∙ first_of_all most (in_text text ys)

-- the ports, and then the rest of a header
pub header_noted : (text : List ℕ) (n0 n1 n2 n3 : Collected (Finding ModuleFault)) (w p : Option Found) (placed_w : Option (Finding ModuleFault)) (xs ys zs : List (Option Found))
    → n1 ≡ with_answer n0 placed_w → placed_w ≡ option_map (placed text) w → w ≡ p → n2 ≡ with_answers n1 (in_text text xs) → xs ≡ zs → n3 ≡ with_answers n2 (in_text text ys)
    → n3 ≡ with_answers n0 (in_text text (p ∷ (zs ++ ys)))
header_noted text n0 n1 n2 n3 w p placed_w xs ys zs e1 f1 g1 e2 f2 e3 =
    e3
    ∙ ap (λ k. with_answers k (in_text text ys)) (e2 ∙ ap (λ k. with_answers k (in_text text xs)) (e1 ∙ ap (with_answer n0) (f1 ∙ ap (option_map (placed text)) g1))
    ∙ ap (λ zs. with_answers (with_answer n0 (option_map (placed text) p)) (in_text text zs)) f2)
    ∙ sym (joined text (with_answer n0 (option_map (placed text) p)) zs ys)

-- five parts, one after the other
pub parts_noted : (text : List ℕ) (n0 n1 n2 n3 n4 n5 : Collected (Finding ModuleFault)) (h i s v u : List (Option Found)) → n1 ≡ with_answers n0 (in_text text h)
    → n2 ≡ with_answers n1 (in_text text i) → n3 ≡ with_answers n2 (in_text text s) → n4 ≡ with_answers n3 (in_text text v) → n5 ≡ with_answers n4 (in_text text u)
    → n5 ≡ with_answers n0 (in_text text (h ++ (i ++ (s ++ (v ++ u)))))
parts_noted text n0 n1 n2 n3 n4 n5 h i s v u e1 e2 e3 e4 e5 =
    let after_s = e3 ∙ more s (e2 ∙ more i e1) in
    e5 ∙ more u (e4 ∙ more v after_s)
    ∙ sym (joined text n0 h (i ++ (s ++ (v ++ u))) ∙ joined text (with_answers n0 (in_text text h)) i (s ++ (v ++ u))
    ∙ joined text (with_answers (with_answers n0 (in_text text h)) (in_text text i)) s (v ++ u)
    ∙ joined text (with_answers (with_answers (with_answers n0 (in_text text h)) (in_text text i)) (in_text text s)) v u)
  where
    more : {n m : Collected (Finding ModuleFault)} (xs : List (Option Found)) → n ≡ m → with_answers n (in_text text xs) ≡ with_answers m (in_text text xs)
    more xs e = ap (λ k. with_answers k (in_text text xs)) e
