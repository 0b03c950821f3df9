use Rattle.std.proofs.Common.{◌≡◌, ◌≢◌, ◌∙◌, ℕ, ◌==◌, List, [], ◌++◌, ap, decimal, sym, ne_eqb}
use Rattle.std.{specs.Prelude.codes, proofs.lemmas.Bool.cond-false}
use Rattle.kp_diagram_text.{specs.Text.counted, specs.Text.in_column, specs.Text.lost_line, specs.Text.lost_words, proofs.InOrder.wrote_as}
use Rattle.kp_diagram_text.proofs.summary.write_lost.Goals as goal

lost_is : (count : ℕ) (words cause : List ℕ) → count ≢ 0 → words ≡ counted count (codes " cycle  lost to ") (codes " cycles lost to ")
    → in_column 5 (decimal count) ++ (words ++ (cause ++ codes "\n")) ≡ lost_line count cause
unfolding lost_words
lost_is count words cause some is =
    ap (λ (w : List ℕ). in_column 5 (decimal count) ++ (w ++ (cause ++ codes "\n"))) is
    ∙ sym (cond-false (count == 0) [] (in_column 5 (decimal count) ++ lost_words count cause) (ne_eqb count 0 some))

pub returns : goal.returns
returns g c = wrote_as _ _ _ _ _ _ _ _ (lost_is c.args.count _ c.args.cause.now c.if-count-eq0.false c.counted.ensures) c.write_parts.ensures
