use Rattle.std.proofs.Common.{refl, ◌≡◌, ap, ◌∙◌, subst, sym, arith}
use Rattle.kp_stage.specs.{Counts.summary_of, declared.counts.Summary.Summary}
use Rattle.kp_machine.specs.{Slots.targets_of, Words.state_in}
use Rattle.kp_seq.specs.{declared.machine.Resolved.Resolved, inner.Ready.AreTables, inner.Ready.HasRoom, inner.Resolved.Resolves, inner.Fits.FitSlots}
use Rattle.kp_seq.proofs.Start.{start_fits, start_state}
use Rattle.kp_seq.proofs.machine.SeqMachine.open.Goals as goal

pub invariant_of-result : goal.invariant_of-result
unfolding summary_of
invariant_of-result c =
    let job = c.args.d.now.job in
    let suits = c.requires.suits in
    let same : c.in_ok-shared.shared.value ≡ c.in_ok-resolved.resolved = c.in_ok-shared.ensures in
    let n = ap (λ (s : Summary). s.size) c.summary.ensures in
    record {
      names = c.in_ok-memory.ensures.sound.names;
      stages = c.in_ok-memory.ensures.sound.stages;
      tables = subst (λ (r : Resolved). AreTables job r.tables) (sym same) c.in_ok-resolved.ensures.tables;
      program = subst (λ (r : Resolved). Resolves r.tables job.blocks r.program) (sym same) c.in_ok-resolved.ensures.program;
      places = subst (λ (r : Resolved). HasRoom r.tables c.in_ok-desk.desk.under) (sym same) c.in_ok-desk.ensures.places;
      room = omega (arith, n, c.in_ok-desk.ensures.room);
      words = subst (FitSlots (targets_of job.decls)) (sym c.in_ok-memory.ensures.words)
          (start_fits job.decls c.args.start.now.regs c.args.start.now.files suits.regs suits.files);
      notes = c.in_ok-memory.ensures.notes;
    }

pub returns-clause-state : goal.returns-clause-state
returns-clause-state c =
    ap state_in c.in_ok-memory.ensures.words
    ∙ start_state c.args.d.now.job c.args.start.now _ c.in_ok-memory.ensures.sound.names c.requires.suits refl
