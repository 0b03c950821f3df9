use Rattle.std.proofs.Common.{◌∙◌, sym}
use Rattle.kp_synth_next.proofs.Joined.{joined_is_test, widths_are, all_inside}
use Rattle.kp_synth_next.proofs.outputs.joined.Goals as goal

pub returns-clause-bits : goal.returns-clause-bits
returns-clause-bits c = λ x k j e. joined_is_test c.args.pool.now c.join.new.pool c.args.parts c.join.result x k j c.requires.wires (e ∙ sym c.requires.count) c.join.ensures.word

pub join-requires-clause-widths : goal.join-requires-clause-widths
join-requires-clause-widths c = widths_are c.args.pool.now c.args.parts c.requires.wires ∙ c.requires.count

pub join-requires-clause-inside : goal.join-requires-clause-inside
join-requires-clause-inside c = all_inside c.args.pool.now c.args.parts c.requires.wires
