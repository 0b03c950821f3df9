-- An address and a text of the program.
use Rattle.kp_listing.specs.Listings.{Entry}
use Rattle.kp_listing.specs.declared.line.Numbered as code

abbrev pub numbered_seen : code.Numbered → Entry
numbered_seen n = record { address = n.address; text = n.text.now }
