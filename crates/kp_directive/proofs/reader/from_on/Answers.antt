use Rattle.std.proofs.Common.{arith}
use Rattle.kp_directive.proofs.Ranges.{fits, rest_piece}
use Rattle.kp_directive.proofs.reader.from_on.Goals as goal

pub overflow_cast-result : goal.overflow_cast-result
overflow_cast-result c =
    let f = fits c.args.text.now c.args.run c.requires.within c.args.size c.requires.size in
    omega (arith, f)

pub overflow_add-result : goal.overflow_add-result
overflow_add-result c =
    let f = fits c.args.text.now c.args.run c.requires.within c.args.size c.requires.size in
    omega (arith, f, c.requires.within.1, c.requires.few)

pub returns-clause-piece : goal.returns-clause-piece
returns-clause-piece c = rest_piece c.args.text.now c.args.run c.requires.within c.args.size c.requires.size

pub returns-clause-within : goal.returns-clause-within
returns-clause-within c =
    let f = fits c.args.text.now c.args.run c.requires.within c.args.size c.requires.size in
    (f, c.requires.within.1)
