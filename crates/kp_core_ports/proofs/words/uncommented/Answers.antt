use Rattle.std.proofs.Common.{◌≡◌, ◌<◌, ◌≤◌, ℕ, List, ap, sym, ◌∙◌, arith, ⊎_elim}
use Rattle.std.{proofs.lemmas.Bool.cases_lt, specs.Prelude.slice_range}
use Rattle.kp_core_ports.{specs.Ports.begins_comment, proofs.Comments.cut, proofs.Comments.whole_line}
use Rattle.kp_core_ports.proofs.words.uncommented.Goals as goal

pub loop-i-preserved : goal.loop-i-preserved
loop-i-preserved c = λ k x y. ⊎_elim
    (λ (l : k < c.loop-i.i). c.loop-i.invariant k x l)
    (λ (l : c.loop-i.i ≤ k). let z : k ≡ c.loop-i.i = omega (arith, l, y) in
    ap (λ (n : ℕ). begins_comment (slice_range c.args.text.now n c.args.line.end)) z ∙ sym c.if-begins_comment.ensures)
    (cases_lt k c.loop-i.i)

pub returns-then-begins_comment-clause-piece : goal.returns-then-begins_comment-clause-piece
returns-then-begins_comment-clause-piece c =
    let text = c.args.text.now in
    let at = c.args.line.at in
    let i = c.loop-i.i in
    ap (λ (bytes : List ℕ). record { at = at; bytes = bytes })
    (sym (cut text c.args.line.end at i c.loop-i.auto.i c.loop-i-test.true c.requires.1 c.loop-i.invariant (sym c.if-begins_comment.ensures)))

pub returns-clause-piece : goal.returns-clause-piece
returns-clause-piece c =
    let text = c.args.text.now in
    let at = c.args.line.at in
    let e = c.args.line.end in
    let end : e ≤ c.loop-i.i = c.loop-i-test.false in
    ap (λ (bytes : List ℕ). record { at = at; bytes = bytes })
    (sym (whole_line text e at c.requires.0 c.requires.1 (λ k x y. c.loop-i.invariant k x (omega (arith, y, end)))))
