use Rattle.std.proofs.Common.{◌≡◌, ◌≢◌, ◌∙◌, ℕ, ◌/◌, ◌%◌, ◌==◌, List, [], ◌++◌, ap, append_assoc, cond, decimal, ltb, sym, ne_eqb}
use Rattle.std.{specs.Prelude.codes, proofs.lemmas.Bool.cond-false}
use Rattle.kp_diagram_text.{specs.Text.hundredths, specs.Text.rate, specs.Text.rate_text, proofs.InOrder.wrote_as}
use Rattle.kp_diagram_text.proofs.summary.write_rate_line.Goals as goal

split : (a b c : List ℕ) → codes ", " ++ (a ++ (b ++ (c ++ codes " cycles per instruction\n"))) ≡ (codes ", " ++ (((a ++ b) ++ c) ++ codes " cycles per instruction")) ++ codes "\n"
split a b c = simp append_assoc

rate_line_is : (count retired h : ℕ) (p : List ℕ) → retired ≢ 0 → h ≡ hundredths count retired → p ≡ cond (ltb (h % 100) 10) (codes ".0") (codes ".")
    → codes ", " ++ (decimal (h / 100) ++ (p ++ (decimal (h % 100) ++ codes " cycles per instruction\n"))) ≡ rate_text count retired ++ codes "\n"
unfolding rate
rate_line_is count retired h p some is point =
    let of = hundredths count retired in
    ap (λ (t : List ℕ). codes ", " ++ (decimal (h / 100) ++ (t ++ (decimal (h % 100) ++ codes " cycles per instruction\n")))) point
    ∙ ap (λ (k : ℕ). codes ", " ++ (decimal (k / 100) ++ (cond (ltb (k % 100) 10) (codes ".0") (codes ".") ++ (decimal (k % 100) ++ codes " cycles per instruction\n")))) is
    ∙ split (decimal (of / 100)) (cond (ltb (of % 100) 10) (codes ".0") (codes ".")) (decimal (of % 100))
    ∙ ap (λ (t : List ℕ). t ++ codes "\n") (sym (cond-false (retired == 0) [] (codes ", " ++ (rate count retired ++ codes " cycles per instruction")) (ne_eqb retired 0 some)))

pub returns : goal.returns
returns g c = wrote_as _ _ _ _ _ _ _ _ (rate_line_is c.args.count c.args.retired _ _ c.if-retired-eq0.false c.rounded-hundredths.ensures c.point.ensures) c.write_parts.ensures
