use Rattle.kp_pipeline.specs.{Examples.quiets, Rows.taken, SpeculativeExamples.right3, SpeculativeExamples.right3_rows}
use Rattle.kp_pipeline.proofs.SpeculativeRuns.{right3-none}
use Rattle.kp_pipeline.proofs.speculation_examples.right3_never_waits.Goals as goal

pub returns-clause-guesses : goal.returns-clause-guesses
returns-clause-guesses c = right3-none (taken right3 (quiets 4) right3_rows)
