use Rattle.kp_synth_registers.proofs.Cells.{word_value}
use Rattle.kp_synth_registers.proofs.registers.word_in.Goals as goal

pub returns-clause-value : goal.returns-clause-value
returns-clause-value c = λ x st i h.
    word_value c.args.layout.now c.args.pool.now c.node.new.self x st i c.node.result c.args.address c.args.target c.args.file c.width.result c.requires.target c.requires.is_file c.requires.file c.width.ensures.width c.requires.address h (c.node.ensures.value x)
