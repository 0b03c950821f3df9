-- The lemmas that are the laws.
use Rattle.kp_pipeline.proofs.{Legality.legal, Progress.never-squashed, Timeline.same-rows}
use Rattle.kp_machine.proofs.{Accepting.accepted, Guessless.guessless, Sampleless.same_run, Showing.shown, Showing.stays}

pub ruleset laws = (legal, never-squashed, same-rows, accepted, guessless, same_run, shown, stays)
