use Rattle.std.proofs.Common.{◌+◌, ◌≤◌, length, sym, ◌∙◌, arith}
use Rattle.kp_seq.proofs.Carrying.{carried_all}
use Rattle.kp_seq.proofs.instruction.Instruction.bring_pipes.Goals as goal

pub returns-then-has_run : goal.returns-then-has_run
returns-then-has_run c =
    let f = c.in-Some.first in
    let on = c.if-has_run.true in
    let inside : f + length c.args.places.now ≤ length c.args.self.now.names = omega (arith, c.len.ensures, c.has_run.ensures.names on) in
    carried_all c.args.self.now c.bring_run.new.self f c.args.places.now c.in-Some.ensures (sym c.len.ensures ∙ c.has_run.ensures.pipes on) inside c.bring_run.ensures
