use Rattle.std.proofs.Common.{◌∙◌, sym, ap, arith}
use Rattle.kp_base.specs.declared.run.Run.{Run}
use Rattle.kp_until.specs.Expected.{begins_comment}
use Rattle.kp_until.proofs.Comments.{cut, whole}
use Rattle.kp_until.proofs.lines.uncommented.Goals as goal

pub returns-then-begins_comment-clause-tokens : goal.returns-then-begins_comment-clause-tokens
returns-then-begins_comment-clause-tokens c =
    let d : Run = record { at = 0; end = 0 } in
    cut c.args.text.now c.args.words.now d _ c.loop-k.k c.loop-k-test.true (λ j h. c.loop-k.invariant j d h)
    (ap begins_comment (sym c.bytes_of.ensures) ∙ sym c.if-begins_comment.ensures)

pub returns-clause-tokens : goal.returns-clause-tokens
returns-clause-tokens c =
    let d : Run = record { at = 0; end = 0 } in
    whole c.args.text.now c.args.words.now d (λ j h. c.loop-k.invariant j d (omega (arith, h, c.loop-k-test.false)))
