use Rattle.std.proofs.Common.{◌≡◌, [], drop, map}
use Rattle.kp_base.specs.Lines.{piece_of}
use Rattle.kp_listing.specs.Listings.{words_joined}
use Rattle.kp_listing.proofs.text.words_joined.Given as goal

abbrev pub invariant-loop-word : goal.invariant-loop-word
invariant-loop-word l =
    words_joined l.shown.items (map (piece_of l.text) (drop l.word-index l.words)) ≡ words_joined [] (map (piece_of l.text) l.words)
