use Rattle.kp_synth_registers.specs.Meaning.{IsTest}
use Rattle.kp_synth_next.proofs.guess_registers.next_guess.Goals as goal

pub returns-clause-is_pending : goal.returns-clause-is_pending
unfolding IsTest
returns-clause-is_pending c = λ x st i h.
    let u = c.requires.updates x st i h in
    let a = c.guess_leaving-came.ensures.is_pending x in
    let b = c.kept_guess-own.ensures.is_pending x in
    let f = c.pick.ensures.value x in
    let k = c.choose.ensures.grown.kept.tests x c.pick.result.0 c.pick.ensures.wire.inside in
    cc (u, a, b, f, k)

pub returns-clause-is_value : goal.returns-clause-is_value
unfolding IsTest
returns-clause-is_value c = λ x st i h.
    let u = c.requires.updates x st i h in
    let k = c.pick.ensures.grown.kept in
    let u1 = k.tests x c.args.update.0 c.requires.update.inside in
    let a = c.guess_leaving-came.ensures.is_value x in
    let a1 = k.same x c.guess_leaving-came.result.value.0 c.guess_leaving-came.ensures.value.inside in
    let b = c.kept_guess-own.ensures.is_value x in
    let b1 = k.same x c.kept_guess-own.result.value.0 c.kept_guess-own.ensures.value.inside in
    let f = c.choose.ensures.value x in
    cc (u, u1, a, a1, b, b1, f)
