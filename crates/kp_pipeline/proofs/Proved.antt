-- The lemmas that are the laws.
use Rattle.kp_pipeline.proofs.{Legality.legal, Progress.never-squashed, Timeline.same-rows}
use Rattle.kp_pipeline.proofs.Counts.{counts-chain, counts-passed, pending-stand_before, counts-more, passed-more, counts-bound, passed-bound}
use Rattle.kp_pipeline.proofs.Nearest.{greatest-back, back-none, nearest-forwarded, no_hit-own, truth-select}
use Rattle.kp_pipeline.proofs.{Taken.taken-of_run, Runs.rows-right, Runs.waits-only, Sampled.rows-taking}

pub ruleset laws = (legal, never-squashed, same-rows, counts-chain, counts-passed, pending-stand_before, taken-of_run, counts-more, passed-more, counts-bound, passed-bound)

pub ruleset nearest = (greatest-back, back-none, nearest-forwarded, no_hit-own, truth-select)

pub ruleset waiting = (rows-right, waits-only, rows-taking)
