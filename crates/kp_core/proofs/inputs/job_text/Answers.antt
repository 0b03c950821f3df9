use Rattle.kp_image.proofs.Given.{starts}
use Rattle.kp_core.proofs.Outcomes.{all_registers}
use Rattle.kp_core.proofs.inputs.job_text.Goals as goal

pub synth_stages-requires-clause-suits : goal.synth_stages-requires-clause-suits
synth_stages-requires-clause-suits c = rw c.args.job.now.start (starts _ c.job-kept.ensures.sound.names c.args.job.now.unbroken)

pub core_text-requires-clause-regs : goal.core_text-requires-clause-regs
core_text-requires-clause-regs c = all_registers c.in_ok-built.built.net c.args.job.now.design.job c.args.layout.now c.in_ok-built.ensures.carries c.requires.layout

pub names_text-requires : goal.names_text-requires
names_text-requires c = record { regs = all_registers c.in_ok-built.built.net c.args.job.now.design.job c.args.layout.now c.in_ok-built.ensures.carries c.requires.layout }

pub named-requires-clause-regs : goal.named-requires-clause-regs
named-requires-clause-regs c = all_registers c.in_ok-built.built.net c.args.job.now.design.job c.args.layout.now c.in_ok-built.ensures.carries c.requires.layout

pub commented-requires-clause-regs : goal.commented-requires-clause-regs
commented-requires-clause-regs c = all_registers c.in_ok-built.built.net c.args.job.now.design.job c.args.layout.now c.in_ok-built.ensures.carries c.requires.layout
