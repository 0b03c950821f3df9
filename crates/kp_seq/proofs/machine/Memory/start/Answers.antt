use Rattle.std.{proofs.Common.ap, proofs.Common.◌∙◌, specs.Prelude.List}
use Rattle.kp_ast.specs.declared.tree.{Job.Job, Decl.Decl}
use Rattle.kp_stage.specs.declared.counts.Summary.{Summary}
use Rattle.kp_machine.specs.Slots.{targets_of, pipes_of}
use Rattle.kp_seq.specs.inner.{Notes.outlets_of, Ready.words_of_start}
use Rattle.kp_seq.proofs.machine.Memory.start.Goals as goal

pub returns-clause-words : goal.returns-clause-words
returns-clause-words c =
    let e = c.as_slice.ensures ∙ ap (λ (j : Job). j.decls) c.job.ensures.job in
    c.in_ok-words.ensures ∙ ap (λ (ds : List Decl). words_of_start ds c.args.start.now.regs c.args.start.now.files) e

pub returns-clause-notes : goal.returns-clause-notes
returns-clause-notes c =
    let job = c.args.d.now.job in
    let t = c.args.tables.now in
    record {
      outlets =
          c.in_ok-notes.ensures.outlets
          ∙ ap (λ ss. outlets_of ss t.pipes t.decls) c.requires.tables.targets
          ∙ ap (λ ss. outlets_of (targets_of job.decls) ss t.decls) c.requires.tables.pipes
          ∙ ap (outlets_of (targets_of job.decls) (pipes_of job.decls)) c.requires.tables.decls;
      reads = c.in_ok-notes.ensures.reads ∙ ap (λ (s : Summary). s.reads) c.summary.ensures;
      set_in = c.in_ok-notes.ensures.set_in;
      writes = c.in_ok-notes.ensures.writes;
      settings = c.in_ok-notes.ensures.settings;
    }
