use Rattle.std.proofs.Common.{◌≡◌, drop, length}
use Rattle.kp_seq.specs.inner.Resolved.{after_stages, note_stages}
use Rattle.kp_seq.proofs.instruction.run_stages.Given as goal

abbrev pub invariant-loop-k : goal.invariant-loop-k
invariant-loop-k l = record {
  under : after_stages l.program l.words l.row l.under (drop l.k l.program.stages) ≡ after_stages l.program l.words l.row l.initial.under l.program.stages;
  room : length l.room ≡ length l.initial.room;
  notes : note_stages l.program l.words l.row l.k l.under l.notes (drop l.k l.program.stages) ≡ note_stages l.program l.words l.row 0 l.initial.under l.initial.notes l.program.stages;
}
