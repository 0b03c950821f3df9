-- A netlist whose registers hold the state of the pipeline has one for each key of the job.
use Rattle.std.proofs.Common.{◌≡◌, [], length, arith}
use Rattle.kp_ast.specs.declared.tree.Job.{Job}
use Rattle.kp_net.specs.Netlist.{Net}
use Rattle.kp_synth_registers.specs.Keys.{keys_of}
use Rattle.kp_synth.specs.Carrying.{Carries}

pub one_for_each_key : (net : Net) (job : Job) → Carries net job → length net.parts.regs ≡ length (keys_of job)
one_for_each_key net job carries = (carries.runs [] (λ k d l. absurd (omega (arith, l)))).keys
