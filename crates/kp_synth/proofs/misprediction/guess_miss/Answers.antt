use Rattle.std.proofs.Common.{◌-◌, ◌*◌, arith}
use Rattle.kp_synth_registers.proofs.Growth.{grown_added, added_then, added_more}
use Rattle.kp_synth.proofs.Wrong.{guess_wrong}
use Rattle.kp_synth.proofs.misprediction.guess_miss.Goals as goal

pub returns-clause-value : goal.returns-clause-value
returns-clause-value c =
    guess_wrong c.args.layout.now c.args.k c.args.g c.args.slot c.args.pool.now c.truth_of.new.pool c.mismatch.new.pool (20 * c.args.layout.now.stages.value - 11) c.args.sources.now c.source_at-source.result.now c.args.full c.kept-pending.result
    c.in_ok-truth.truth.ok c.in_ok-truth.truth.value c.kept-guess.result c.mismatch.result _ c.in_ok-truth.ensures.added.kept c.requires.carried c.requires.fits c.source_at-source.ensures c.requires.sees
    c.requires.full c.requires.is_test c.kept-pending.ensures.wire c.kept-pending.ensures.value c.kept-guess.ensures.wire c.kept-guess.ensures.value c.in_ok-truth.ensures.value c.mismatch.ensures.value

pub returns-clause-added : goal.returns-clause-added
returns-clause-added c =
    added_more _ _ _ _ _ (added_then _ _ _ _ _ _ c.in_ok-truth.ensures.added (grown_added _ _ _ _ c.mismatch.ensures.grown)) (omega (arith, c.requires.stage))
