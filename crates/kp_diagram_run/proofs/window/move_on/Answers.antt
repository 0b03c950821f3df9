use Rattle.std.proofs.Common.{◌≡◌, ◌∙◌, ℕ, ◌<◌, ◌++◌, [], List, Option, ap, arith, get_or, length, map, sym, take}
use Rattle.std.proofs.lemmas.List.{get_or_default}
use Rattle.kp_sched.specs.Rows.{row_seen}
use Rattle.kp_diagram.specs.Flights.{Placed, kept as with_place, moved}
use Rattle.kp_diagram_text.specs.Windows.{placed_seen}
use Rattle.kp_diagram_run.{specs.inner.Walks.no_placed, proofs.Moving.one-moved}
use Rattle.kp_diagram_run.proofs.window.move_on.Goals as goal

pub loop-i-preserved : goal.loop-i-preserved
loop-i-preserved c =
    let old = c.args.flight.now in
    let items = c.loop-i.flight.items in
    let i = c.loop-i.i in
    let x = c.index-placed.result.now in
    let s = c.args.stages in
    let r = row_seen s c.args.row in
    let kept = c.loop-i.invariant in
    let put = c.keep-kept.ensures in
    let place = c.next_place-place.ensures in
    let inside : i < length old.items = omega (arith, c.loop-i-test.true, c.loop-i.auto.i-end, c.len-i-end.ensures, old.ok.0) in
    let here : x ≡ get_or old.items i no_placed = c.index-placed.ensures ∙ get_or_default items i x no_placed (omega (arith, inside, kept.many)) ∙ kept.rest i (omega arith) in
    record {
      few = omega (arith, put.few, kept.few);
      many = put.many ∙ kept.many;
      front = put.front
          ∙ ap (λ (ps : List Placed). ps ++ with_place x.number c.next_place-place.result []) kept.front
          ∙ ap (λ (there : Option ℕ). moved s r (map placed_seen (take i old.items)) ++ with_place x.number there []) place.place
          ∙ sym (one-moved s r old.items i x inside here);
      within = put.within s place.within kept.within;
      rest = λ j b. put.rest j (omega (arith, kept.few, b)) ∙ kept.rest j (omega (arith, b));
    }
