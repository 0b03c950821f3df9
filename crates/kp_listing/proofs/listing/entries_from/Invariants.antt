use Rattle.std.proofs.Common.{◌≡◌, ◌++◌, drop, map}
use Rattle.kp_base.specs.Lines.{piece_of}
use Rattle.kp_listing.specs.{Listings.entries_from, Seen.entry_seen}
use Rattle.kp_listing.proofs.listing.entries_from.Given as goal

abbrev pub invariant-loop-line : goal.invariant-loop-line
invariant-loop-line l =
    map entry_seen l.entries.items ++ entries_from (map (piece_of l.text) (drop l.line-index l.lines)) ≡ entries_from (map (piece_of l.text) l.lines)
