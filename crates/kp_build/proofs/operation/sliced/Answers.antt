use Rattle.std.proofs.Common.{arith}
use Rattle.kp_build.proofs.Fitting.{shown, bits_ok}
use Rattle.kp_build.proofs.operation.sliced.Goals as goal

pub overflow_cast-hi : goal.overflow_cast-hi
overflow_cast-hi c =
    let b = bits_ok c.args.pool.now.nodes c.args.hi c.args.lo c.args.a.0 c.requires.inside c.requires.fit in omega (arith, b.1, c.width-width.ensures.width)

pub overflow_cast-lo : goal.overflow_cast-lo
overflow_cast-lo c =
    let b = bits_ok c.args.pool.now.nodes c.args.hi c.args.lo c.args.a.0 c.requires.inside c.requires.fit in omega (arith, b.0, b.1, c.width-width.ensures.width)

pub part-requires-clause-order : goal.part-requires-clause-order
part-requires-clause-order c = (bits_ok c.args.pool.now.nodes c.args.hi c.args.lo c.args.a.0 c.requires.inside c.requires.fit).0

pub part-requires-clause-within : goal.part-requires-clause-within
part-requires-clause-within c =
    let b = bits_ok c.args.pool.now.nodes c.args.hi c.args.lo c.args.a.0 c.requires.inside c.requires.fit in omega (arith, b.1, c.width-width.ensures.width)

pub returns-clause-shows : goal.returns-clause-shows
returns-clause-shows c = shown _ _ _ _ c.requires.fit c.part.ensures.word
