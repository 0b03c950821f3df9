use Rattle.std.proofs.{Common.arith, Common.map, lemmas.List.get_or_default, lemmas.List.Elements.All-push}
use Rattle.kp_diagram_text.{specs.Labelled.IsEntry, specs.Labelled.fetch_at, proofs.Labelling.flight_more}
use Rattle.kp_diagram_text.proofs.entries.add_flight.Goals as goal

pub loop-placed-preserved : goal.loop-placed-preserved
loop-placed-preserved c =
    let chart = c.args._chart.now in
    let i = c.loop-placed.placed-index in
    let kept = c.loop-placed.invariant in
    record {
      entries = flight_more chart c.loop-placed.entries.items c.push.new.self.items (map (fetch_at chart) c.args.entries.now.items) c.args.flight.now i _
          c.loop-placed-test.true (get_or_default c.args.flight.now i _ _ c.loop-placed-test.true) c.in_ok-push.ensures.items kept.entries;
      within = rw c.in_ok-push.ensures.items (All-push (IsEntry chart) c.loop-placed.entries.items _ kept.within
          (record { cycle = omega (arith, c.requires.some); stage = c.requires.placed i _ c.loop-placed-test.true }));
    }
