use Rattle.std.proofs.Common.{arith}
use Rattle.kp_equiv.proofs.Inputs.{none_same, one_more, ports_equal, ports_unequal, lengths_differ}
use Rattle.kp_equiv.proofs.alike.are_same_ports.Goals as goal

pub returns-then-xs-ys : goal.returns-then-xs-ys
returns-then-xs-ys c = lengths_differ c.args.xs.now c.args.ys.now c.if-xs-ys.true

pub loop-i-init : goal.loop-i-init
loop-i-init c = none_same c.args.xs.now c.args.ys.now c.if-xs-ys.false

pub bounds-ys-i : goal.bounds-ys-i
bounds-ys-i c = let count = c.loop-i.invariant.count in omega (arith, c.loop-i-test.true)

pub returns-then-not-is_same_port : goal.returns-then-not-is_same_port
returns-then-not-is_same_port c =
    let count = c.loop-i.invariant.count in
    ports_unequal c.args.xs.now c.args.ys.now c.loop-i.i c.index-xs-i.result c.index-ys-i.result c.is_same_port.result
    (omega (arith, c.loop-i-test.true)) (omega (arith, c.loop-i-test.true)) c.index-xs-i.is c.index-ys-i.is c.is_same_port.ensures c.if-not-is_same_port.true

pub loop-i-preserved : goal.loop-i-preserved
loop-i-preserved c =
    one_more c.args.xs.now c.args.ys.now c.loop-i.i c.index-xs-i.result c.index-ys-i.result c.is_same_port.result
    c.loop-i.invariant c.loop-i-test.true c.index-xs-i.is c.index-ys-i.is c.is_same_port.ensures c.if-not-is_same_port.false

pub returns : goal.returns
returns c = ports_equal c.args.xs.now c.args.ys.now c.loop-i.i c.loop-i.invariant (omega (arith, c.loop-i-test.false))
