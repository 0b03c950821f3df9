use Rattle.std.proofs.Common.{◌∙◌, ◌++◌, List, append-nil, ap, arith, get_or, map, refl, sym}
use Rattle.kp_diagram.specs.Diagram.{Fetch}
use Rattle.kp_diagram_text.{specs.Labelled.fetch_at, proofs.Labelling.entering_more, proofs.Labelling.later_end}
use Rattle.kp_diagram_text.proofs.entries.add_entering.Goals as goal

pub loop-cycle-init : goal.loop-cycle-init
loop-cycle-init c = record { entries = refl; within = c.requires.within }

pub add_entry-requires-clause-within : goal.add_entry-requires-clause-within
add_entry-requires-clause-within c = c.loop-cycle.invariant.within

pub loop-cycle-preserved : goal.loop-cycle-preserved
loop-cycle-preserved c =
    let chart = c.args.chart.now in
    record {
      entries = entering_more chart (λ T. get_or c.args.numbers.now T 0) c.loop-cycle.cycle _ _ c.loop-cycle-test.true refl
          (map (fetch_at chart) c.loop-cycle.entries.items) (map (fetch_at chart) c.add_entry.new.entries.items) _ c.loop-cycle.enters _ _ c.fetches_next-enters.ensures refl
          c.in_ok-add_entry.ensures.entries c.loop-cycle.invariant.entries;
      within = c.in_ok-add_entry.ensures.within;
    }

pub returns-clause-entries : goal.returns-clause-entries
returns-clause-entries c =
    let chart = c.args.chart.now in
    let all = map (fetch_at chart) c.loop-cycle.entries.items in
    sym (append-nil all)
    ∙ ap (λ (fs : List Fetch). all ++ fs) (sym (later_end chart (λ T. get_or c.args.numbers.now T 0) c.loop-cycle.cycle c.loop-cycle.enters (omega arith)))
    ∙ c.loop-cycle.invariant.entries

pub returns-clause-within : goal.returns-clause-within
returns-clause-within c = c.loop-cycle.invariant.within
