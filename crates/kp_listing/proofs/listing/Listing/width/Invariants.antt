use Rattle.std.proofs.Common.{◌≡◌, drop, map}
use Rattle.std.specs.Prelude.{max}
use Rattle.kp_listing.specs.{Listings.widest, Seen.entry_seen}
use Rattle.kp_listing.proofs.listing.Listing.width.Given as goal

abbrev pub invariant-loop-entry : goal.invariant-loop-entry
invariant-loop-entry l = max l.width (widest (map entry_seen (drop l.entry-index l.entries))) ≡ widest (map entry_seen l.entries)
