use Rattle.std.proofs.Common.{◌≡◌, None, length, ap, subst, arith}
use Rattle.kp_ast.specs.declared.tree.Job.{Job}
use Rattle.kp_width.{specs.Widths.widths_of, proofs.Unbroken.Unbroken}
use Rattle.kp_stage.specs.Stages.{broken_of}
use Rattle.kp_machine.proofs.Widths.{job_fine}
use Rattle.kp_design.proofs.Limits.{few as is_few}
use Rattle.kp_synth.proofs.{Begins.hints_fit, Begins.regs_given, Begins.files_given, Visible.keys_count}
use Rattle.kp_synth.proofs.netlist.assembled.Goals as goal

pub sample_ports-requires : goal.sample_ports-requires
sample_ports-requires c = record { few = omega (arith, (is_few c.args.layout.now (subst (λ (j : Job). broken_of j ≡ None) c.design.ensures c.job-job.ensures.sound.stages)).samples) }

pub registers-requires-clause-starts : goal.registers-requires-clause-starts
registers-requires-clause-starts c = omega (arith, regs_given c.args.layout.now.decls c.args.start.now.regs c.requires.start.regs, ap length c.as_slice.ensures)

pub registers-requires-clause-few : goal.registers-requires-clause-few
registers-requires-clause-few c =
    let names = subst (λ (j : Job). Unbroken (widths_of j)) c.design.ensures c.job-job.ensures.sound.names in
    omega (arith, keys_count c.args.layout.now (job_fine c.args.layout.now names))

pub registers-requires-clause-fits : goal.registers-requires-clause-fits
registers-requires-clause-fits c = hints_fit c.args.layout.now (subst (λ (j : Job). Unbroken (widths_of j)) c.design.ensures c.job-job.ensures.sound.names)

pub files-requires-clause-words : goal.files-requires-clause-words
files-requires-clause-words c = omega (arith, files_given c.args.layout.now.decls c.args.start.now.files c.requires.start.files, ap length c.as_slice-3.ensures)

pub files-requires-clause-few : goal.files-requires-clause-few
files-requires-clause-few c = omega (arith, (is_few c.args.layout.now (subst (λ (j : Job). broken_of j ≡ None) c.design.ensures c.job-job.ensures.sound.stages)).targets)
