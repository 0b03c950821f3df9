use Rattle.std.proofs.Common.{[], ap, ◌∙◌}
use Rattle.kp_ast.specs.declared.tree.Job.{Job}
use Rattle.kp_seq_plan.specs.Names.{keys_of}
use Rattle.kp_seq.specs.inner.Tables.{ports_of}
use Rattle.kp_machine.specs.Slots.{targets_of, pipes_of, samples_of}
use Rattle.kp_seq.proofs.tables.Tables.lay_out.Goals as goal

pub returns-clause-tables : goal.returns-clause-tables
returns-clause-tables c =
    let e = c.as_slice-decls.ensures ∙ ap (λ (j : Job). j.decls) c.job.ensures.job in
    record {
      decls = e;
      targets = c.in_ok-targets.ensures ∙ ap targets_of e;
      pipes = c.in_ok-pipes.ensures ∙ ap pipes_of e;
      samples = c.in_ok-samples.ensures ∙ ap samples_of e;
      ports = c.in_ok-ports.ensures ∙ ap ports_of e;
      names = c.in_ok-names.ensures ∙ c.requires ∙ ap (keys_of []) c.job.ensures.sound.widths;
      declared = c.one_entry_for_each_name.ensures c.args.d.now.job;
    }
