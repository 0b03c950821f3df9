use Rattle.std.proofs.Common.{◌≡◌, drop, length}
use Rattle.kp_seq.specs.inner.Resolved.{after_steps, note_steps}
use Rattle.kp_seq.proofs.instruction.run_steps.Given as goal

abbrev pub invariant-loop-step : goal.invariant-loop-step
invariant-loop-step l = record {
  under : after_steps l.words l.under (drop l.step-index l.steps) ≡ after_steps l.words l.initial.under l.steps;
  room : length l.room ≡ length l.initial.room;
  notes : note_steps l.words l.under l.notes (drop l.step-index l.steps) ≡ note_steps l.words l.initial.under l.initial.notes l.steps;
}
