use Rattle.std.proofs.Common.{◌≡◌, ◌∙◌, ◌-◌, ◌*◌, sym, ap, subst, false, ◌&&◌, arith}
use Rattle.kp_design.specs.{declared.guess.GuessSlot.GuessSlot, Numbers.guess_at, Spans.is_carried}
use Rattle.kp_synth.{specs.inner.Whole.is_wrong, specs.inner.Whole.GuessesOk, specs.inner.Whole.GuessOk, proofs.Wrong.one_miss, proofs.Wrong.not_carried}
use Rattle.kp_synth_registers.{specs.Holding.guess_passes, proofs.Growth.grown_added, proofs.Growth.added_then, proofs.Growth.added_more}
use Rattle.kp_synth.proofs.misprediction.with_guess.Goals as goal

pub guess_miss-requires-clause-fits : goal.guess_miss-requires-clause-fits
unfolding GuessesOk
guess_miss-requires-clause-fits c = subst (λ (s : GuessSlot). GuessOk c.args.layout.now s) (sym c.guess-slot.ensures.slot) (c.requires.fits c.args.g c.requires.guess)

pub returns-then-not-can_be_pending-clause-misses : goal.returns-then-not-can_be_pending-clause-misses
returns-then-not-can_be_pending-clause-misses c =
    let e : is_carried (guess_at c.args.layout.now c.args.g) c.args.k ≡ false = ap (λ (s : GuessSlot). is_carried s c.args.k) (sym c.guess-slot.ensures.slot) ∙ sym c.can_be_pending.ensures ∙ c.if-not-can_be_pending.true in
    not_carried c.args.layout.now c.args.pool.now c.args.k c.args.g c.args.miss c.requires.guess e c.requires.misses

pub returns-clause-misses : goal.returns-clause-misses
returns-clause-misses c =
    one_miss c.args.layout.now c.args.pool.now c.guess_miss.new.pool c.either.new.pool (20 * c.args.layout.now.stages.value - 1) c.args.k c.args.g c.args.miss c.in_ok-wrong.wrong c.either.result c.in_ok-wrong.ensures.added.kept c.requires.guess
    c.requires.wire c.requires.misses
    (λ x st i h. c.in_ok-wrong.ensures.value x st i h
    ∙ ap (λ (s : GuessSlot). (st.stage c.args.k).full && guess_passes c.args.layout.now x c.args.k (is_wrong c.args.layout.now st i c.args.k) c.args.g s) c.guess-slot.ensures.slot)
    c.either.ensures.value

pub returns-clause-added : goal.returns-clause-added
returns-clause-added c =
    added_more _ _ _ _ _ (added_then _ _ _ _ _ _ c.in_ok-wrong.ensures.added (grown_added _ _ _ _ c.either.ensures.grown)) (omega (arith, c.requires.stage))
