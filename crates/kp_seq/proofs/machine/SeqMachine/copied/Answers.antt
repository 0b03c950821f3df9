use Rattle.std.proofs.Common.{◌≡◌, ◌∙◌, ap, subst, sym, arith}
use Rattle.kp_machine.specs.Slots.{targets_of}
use Rattle.kp_seq.specs.inner.{Fits.FitSlots, Ready.AreTables, Ready.HasRoom, Ready.IsNoted, Resolved.Resolves}
use Rattle.kp_seq.specs.{declared.machine.Resolved.Resolved, inner.Notes.Noted, inner.Notes.record_by}
use Rattle.kp_seq.proofs.machine.SeqMachine.copied.Goals as goal

pub invariant_of-result : goal.invariant_of-result
invariant_of-result c =
    let m = c.self.inside in
    let i = c.self.invariant in
    let same : c.in_ok-resolved.resolved.value ≡ m.resolved.value = c.in_ok-resolved.ensures.cases in
    record {
      names = i.names;
      stages = i.stages;
      tables = subst (λ (r : Resolved). AreTables m.design.now.job r.tables) (sym same) i.tables;
      program = subst (λ (r : Resolved). Resolves r.tables m.design.now.job.blocks r.program) (sym same) i.program;
      places = subst (λ (r : Resolved). HasRoom r.tables c.in_ok-desk.desk.under) (c.as_ref.ensures ∙ sym same) c.in_ok-desk.ensures.places;
      room = omega (arith, c.in_ok-desk.ensures.room, m.room.ok.0, i.room);
      words = subst (FitSlots (targets_of m.design.now.job.decls)) (sym c.in_ok-memory.ensures.words) i.words;
      notes = subst (IsNoted m.design.now.job) (sym c.in_ok-memory.ensures.notes) i.notes;
    }

pub returns : goal.returns
returns c =
    let m = c.self.inside in
    ap (λ words. record { job = m.design.now.job; words = words; last = record_by c.in_ok-memory.memory.notes }) c.in_ok-memory.ensures.words
    ∙ ap (λ (n : Noted). record { job = m.design.now.job; words = m.words; last = record_by n }) c.in_ok-memory.ensures.notes
    ∙ c.self.view_is
