use Rattle.std.proofs.Common.{◌≡◌, ◌∙◌, sym, ap, ℕ, ◌+◌, ◌-◌, true, false, get_or, drop, length, arith, rules}
use Rattle.std.{proofs.lemmas.List.drop_all, specs.Prelude.◌==◌}
use Rattle.kp_view_excerpt.{specs.Lines.after_lines, proofs.Lines.lines_next, proofs.Lines.lines_end}
use Rattle.kp_view_excerpt.proofs.place.start_of_line.Goals.{then-byte-eq10+else-at-number, else-byte-eq10}
use Rattle.kp_view_excerpt.proofs.place.start_of_line.Goals as goal

pub loop-i-preserved : goal.loop-i-preserved
loop-i-preserved c =
    let text = c.args.text.now in
    let i = c.loop-i.i in
    let before = c.loop-i.invariant.before in
    elim c.if-byte-eq10.branch [
      | then-byte-eq10+else-at-number w ↦
          let breaks : (get_or text i 0 == 10) ≡ true = search rules in
          let later : c.if-byte-eq10.at ≡ c.loop-i.at + 1 = omega arith in
          record {
            first = omega arith;
            before = omega arith;
            rest = ap (λ (at : ℕ). after_lines (c.args.number - at) (drop (i + 1) text)) later
                ∙ sym (lines_next c.args.number c.loop-i.at text i true c.loop-i-test.true before breaks) ∙ c.loop-i.invariant.rest;
          }
      | else-byte-eq10 w ↦
          let goes_on : (get_or text i 0 == 10) ≡ false = search rules in
          record {
            first = omega arith;
            before = omega arith;
            rest = ap (λ (at : ℕ). after_lines (c.args.number - at) (drop (i + 1) text)) w.at-is
                ∙ sym (lines_next c.args.number c.loop-i.at text i false c.loop-i-test.true before goes_on) ∙ c.loop-i.invariant.rest;
          }
    ]

pub returns-clause-rest : goal.returns-clause-rest
returns-clause-rest c =
    let text = c.args.text.now in
    drop_all (length text) text (omega arith) ∙ sym (lines_end (c.args.number - c.loop-i.at) text c.loop-i.i (omega arith)) ∙ c.loop-i.invariant.rest
