use Rattle.std.proofs.Common.{◌∙◌, ap, sym, subst}
use Rattle.kp_net.specs.Widths.{wide, BinaryOk}
use Rattle.kp_bits.specs.Operators.{result_width}
use Rattle.kp_build.proofs.Fitting.{shown, operands_ok}
use Rattle.kp_build.proofs.operation.operated.Goals as goal

pub binary-requires-clause-widths : goal.binary-requires-clause-widths
binary-requires-clause-widths c =
    let ns = c.args.pool.now.nodes in
    let r = c.requires in
    let w = c.result_width-width.ensures ∙ ap (result_width c.args.op) c.width.ensures.width in
    subst (λ k. BinaryOk c.args.op k (wide ns c.args.a.0) (wide ns c.args.b.0)) (sym w) (operands_ok ns c.args.op c.args.a.0 c.args.b.0 r.left r.right r.fit)

pub returns-clause-shows : goal.returns-clause-shows
returns-clause-shows c = shown _ _ _ _ c.requires.fit c.binary.ensures.word
