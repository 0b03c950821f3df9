-- A listing of the program, as its entries.
use Rattle.std.specs.Prelude.{List, map}
use Rattle.kp_listing.specs.Listings.{Entry}
use Rattle.kp_listing.specs.declared.listing.Entry as code_entry
use Rattle.kp_listing.specs.declared.listing.Listing as code_listing

abbrev pub entry_seen : code_entry.Entry → Entry
entry_seen e = record { address = e.address; text = e.text.items }

abbrev pub listing_seen : code_listing.Listing → List Entry
listing_seen l = map entry_seen l.entries.items
