use Rattle.std.proofs.Common.{◌≡◌, drop, map}
use Rattle.kp_listing.specs.{Listings.text_at, Seen.entry_seen}
use Rattle.kp_listing.proofs.listing.Listing.text_at.Given as goal

abbrev pub invariant-loop-entry : goal.invariant-loop-entry
invariant-loop-entry l = text_at l.address (map entry_seen (drop l.entry-index l.entries)) ≡ text_at l.address (map entry_seen l.entries)
