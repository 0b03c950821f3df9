use Rattle.std.proofs.Common.{◌+◌, ◌/◌, length, arith}
use Rattle.kp_net.proofs.Growing.{grown_more}
use Rattle.kp_build.proofs.Rows.{row_count}
use Rattle.kp_build.proofs.concatenation.joined.Goals as goal

pub joined_by_steps-requires-clause-room : goal.joined_by_steps-requires-clause-room
joined_by_steps-requires-clause-room c =
    let n = row_count c.args.pool.now c.args.parts.now c.requires.inside c.requires.fit c.spare.ensures.right in omega (arith, c.requires.room)

pub returns-clause-grown : goal.returns-clause-grown
returns-clause-grown c =
    let n = row_count c.args.pool.now c.args.parts.now c.requires.inside c.requires.fit c.spare.ensures.right in
    grown_more c.args.pool.now c.joined_by_steps.new.pool ((length c.args.parts.now + 9) / 11) 8 c.joined_by_steps.ensures.grown (omega arith)
