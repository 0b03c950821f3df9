use Rattle.std.proofs.Common.{◌∙◌, ap}
use Rattle.kp_ast.specs.declared.tree.Job.{Job}
use Rattle.kp_core_ports.proofs.Existing.{pipe_there}
use Rattle.kp_core_ports.proofs.line.pipe_named.Goals as goal

pub pipe_port-requires-clause-exists : goal.pipe_port-requires-clause-exists
pipe_port-requires-clause-exists c =
    pipe_there c.args.layout.now c.as_slice-2.result.now c.bytes_of-3.result.now c.pipe_of-pipe.result
    (c.as_slice-2.ensures ∙ ap (λ (j : Job). j.decls) c.job.ensures) c.pipe_of-pipe.ensures
