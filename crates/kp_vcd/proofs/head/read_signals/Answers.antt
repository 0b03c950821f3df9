use Rattle.std.proofs.Common.{◌∙◌, List, sym, ap, arith, true, false, length}
use Rattle.kp_vcd.specs.{declared.dump.Signal.Signal, Reading.declaration, Reading.first_time, Reading.at, Reading.named, inner.Meeting.gives_from}
use Rattle.kp_vcd.proofs.Meeting.{stops, more_wanted, more_on}
use Rattle.kp_vcd.proofs.head.read_signals.Goals as goal

pub returns-in_err-read_more-clause-meets : goal.returns-in_err-read_more-clause-meets
returns-in_err-read_more-clause-meets c name =
    stops _ _ _ _ _ c.from_residual.ensures.1 (c.loop-signals.invariant.same name)
    (c.in_err-read_more.ensures.takes _ _ (more_wanted (record (named name) { signals = c.loop-signals.signals.items })))

pub returns-in_err-signal-clause-meets : goal.returns-in_err-signal-clause-meets
returns-in_err-signal-clause-meets c name =
    stops _ _ _ _ _ c.from_residual-in_err-signal.ensures.1
    (c.loop-signals.invariant.same name
    ∙ more_on (record (named name) { signals = c.loop-signals.signals.items }) c.loop-signals.words c.read_more.new.words c.in_ok-read_more.field-0 true c.if-branch.true
    (c.in_ok-read_more.ensures.takes _ _ (more_wanted (record (named name) { signals = c.loop-signals.signals.items }))))
    (c.in_err-signal.ensures.meets (record (named name) { signals = c.loop-signals.signals.items }) (ap length (sym c.as_slice.ensures.value)))

pub loop-signals-preserved : goal.loop-signals-preserved
loop-signals-preserved c = record {
  few = let i = c.loop-signals.invariant.few in let a = c.in_ok-read_more.ensures.fewer in let b = c.in_ok-signal.ensures.fewer in let l = c.in_ok-push.ensures.len in omega (arith, i, a, b, l);
  same = λ name. c.loop-signals.invariant.same name
      ∙ more_on (record (named name) { signals = c.loop-signals.signals.items }) c.loop-signals.words c.read_more.new.words c.in_ok-read_more.field-0 true c.if-branch.true
      (c.in_ok-read_more.ensures.takes _ _ (more_wanted (record (named name) { signals = c.loop-signals.signals.items })))
      ∙ c.in_ok-signal.ensures.meets (record (named name) { signals = c.loop-signals.signals.items }) (ap length (sym c.as_slice.ensures.value))
      ∙ ap (λ (ss : List Signal). gives_from (at declaration (record (named name) { signals = ss })) c.read_signal.new.words) (sym c.in_ok-push.ensures.items);
}

pub returns-in_err-expect-clause-meets : goal.returns-in_err-expect-clause-meets
returns-in_err-expect-clause-meets c name =
    stops _ _ _ _ _ c.from_residual-in_err-expect.ensures.1
    (c.loop-signals.invariant.same name
    ∙ more_on (record (named name) { signals = c.loop-signals.signals.items }) c.loop-signals.words c.read_more.new.words c.in_ok-read_more.field-0 false c.if-branch.false
    (c.in_ok-read_more.ensures.takes _ _ (more_wanted (record (named name) { signals = c.loop-signals.signals.items }))))
    (c.in_err-expect.ensures.meets first_time (record (named name) { signals = c.loop-signals.signals.items }))

pub returns-clause-meets : goal.returns-clause-meets
returns-clause-meets c name =
    c.loop-signals.invariant.same name
    ∙ more_on (record (named name) { signals = c.loop-signals.signals.items }) c.loop-signals.words c.read_more.new.words c.in_ok-read_more.field-0 false c.if-branch.false
    (c.in_ok-read_more.ensures.takes _ _ (more_wanted (record (named name) { signals = c.loop-signals.signals.items })))
    ∙ c.in_ok-expect.ensures.meets first_time (record (named name) { signals = c.loop-signals.signals.items })
