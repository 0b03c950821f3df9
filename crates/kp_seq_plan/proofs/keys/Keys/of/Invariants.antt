use Rattle.std.proofs.Common.{◌≡◌, [], drop}
use Rattle.kp_seq_plan.specs.{Names.keys_of, inner.Keys.HasPlaces}
use Rattle.kp_seq_plan.proofs.keys.Keys.of.Given as goal

abbrev pub invariant-loop-entry : goal.invariant-loop-entry
invariant-loop-entry l = record {
  places : HasPlaces l.places.entries l.names.items;
  names : keys_of l.names.items (drop l.entry-index l.widths.entries) ≡ keys_of [] l.widths.entries;
}
