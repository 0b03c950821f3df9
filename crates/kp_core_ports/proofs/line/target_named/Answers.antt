use Rattle.std.proofs.Common.{◌∙◌, ap}
use Rattle.kp_ast.specs.declared.tree.Job.{Job}
use Rattle.kp_core_ports.proofs.Existing.{named_exists}
use Rattle.kp_core_ports.proofs.line.target_named.Goals as goal

pub returns-clause-exists : goal.returns-clause-exists
returns-clause-exists c =
    named_exists c.args.layout.now c.args.verb c.asks_register.result c.as_slice-decls.result.now c.bytes_of-label.result.now c.target_of-target.result c.target_port.result
    c.asks_register.ensures (c.as_slice-decls.ensures ∙ ap (λ (j : Job). j.decls) c.job.ensures) c.target_of-target.ensures c.target_port.ensures.ask
