use Rattle.std.proofs.Common.{◌∙◌, ◌<◌, length, length-set, ap, arith, subst, sym}
use Rattle.std.proofs.lemmas.List.Elements.{All-get_or}
use Rattle.kp_cycle.specs.Steps.{Running}
use Rattle.kp_synth.specs.Carrying.{Carries}
use Rattle.kp_implements.specs.Shows.{Shows}
use Rattle.kp_stalls.specs.declared.cause.Line.{Line}
use Rattle.kp_stalls_run.specs.{Runs.line_with, inner.Replays.no_line, inner.Replays.run_at}
use Rattle.kp_stalls_run.proofs.Values.{fill_done, fill_end, fill_rest, own_net, same_there}
use Rattle.kp_stalls_run.proofs.guesses.fill.Goals as goal

pub filled-requires-clause-shows : goal.filled-requires-clause-shows
filled-requires-clause-shows c = subst (λ (s : Running). Shows s.net c.args.job.now.design.job) (sym c.loop-i.invariant.at) c.requires.shows

pub filled-requires-clause-carries : goal.filled-requires-clause-carries
filled-requires-clause-carries c = subst (λ (s : Running). Carries s.net c.args.job.now.design.job) (sym c.loop-i.invariant.at) c.requires.carries

pub filled-requires-clause-at : goal.filled-requires-clause-at
filled-requires-clause-at c = own_net c.args.job.now.design.job c.args.sim.now.net c.loop-i.cycle c.loop-i.sim c.loop-i.invariant.at

pub filled-requires-clause-stage : goal.filled-requires-clause-stage
filled-requires-clause-stage c =
    let kept = c.loop-i.invariant in
    let count = kept.count in
    let low : c.loop-i.i < length c.loop-i.lines = (let t = c.loop-i-test.true in omega (arith, t, count)) in
    let below = All-get_or (λ (l : Line). l.stage < c.args.job.now.design.job.stages.value) c.args.lines.now c.loop-i.i no_line (omega (arith, low, count)) c.requires.below in
    subst (λ (l : Line). l.stage < c.args.job.now.design.job.stages.value)
    (sym (kept.rest c.loop-i.i (omega arith)) ∙ same_there c.loop-i.lines c.loop-i.i no_line c.index-lines-i.result low c.index-lines-i.is) below

pub loop-i-preserved : goal.loop-i-preserved
loop-i-preserved c =
    let job = c.args.job.now.design.job in
    let kept = c.loop-i.invariant in
    let count = kept.count in
    let low : c.loop-i.i < length c.loop-i.lines = (let t = c.loop-i-test.true in omega (arith, t, count)) in
    let inside : c.loop-i.i < length c.args.lines.now = omega (arith, low, count) in
    let same = sym (same_there c.loop-i.lines c.loop-i.i no_line c.index-lines-i.result low c.index-lines-i.is) ∙ kept.rest c.loop-i.i (omega arith) in
    record {
      at = c.filled.ensures.at ∙ ap (λ (s : Running). run_at job s.net c.filled.new.cycle) kept.at;
      room = c.filled.ensures.room ∙ kept.room;
      count = length-set _ _ _ ∙ kept.count;
      done = fill_done (line_with job) c.args.lines.now c.loop-i.lines c.loop-i.i kept.count inside kept.done kept.rest c.filled.result (c.filled.ensures.line ∙ ap (line_with job) same);
      rest = fill_rest (line_with job) c.args.lines.now c.loop-i.lines c.loop-i.i kept.count inside kept.done kept.rest c.filled.result;
    }

pub returns : goal.returns
returns c =
    let kept = c.loop-i.invariant in
    let count = kept.count in
    fill_end (line_with c.args.job.now.design.job) c.args.lines.now c.loop-i.lines c.loop-i.i count (omega (arith, c.loop-i-test.false, count)) kept.done
