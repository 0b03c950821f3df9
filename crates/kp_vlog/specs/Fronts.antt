-- The front of a text as the code computes it.
use Rattle.std.specs.Prelude.{ℕ, ◌<◌, ◌≤◌, ◌≡◌, List, take}
use Rattle.kp_vlog.specs.{declared.front.Front.Front, Outcome.word_of}
use Rattle.kp_vlog.specs.declared.front.Front.TheVariants as fronts
use Rattle.kp_vlog.specs.Tokens as tokens

-- its meaning for the text: if it is a token, the value of the token comes from its bytes
abbrev pub seen : List ℕ → Front → tokens.Front
seen text fronts.End = tokens.finish
seen text (fronts.Skip n) = tokens.skips n
seen text (fronts.Token k n) = tokens.takes (word_of (take n text) k) n
seen text (fronts.Broken fault) = tokens.broken

-- it is no longer than a text of this length, and it is the end only of the empty text
abbrev pub Fits : ℕ → Front → Type 0
Fits len fronts.End = len ≡ 0
Fits len (fronts.Skip n) = (0 < n) × (n ≤ len)
Fits len (fronts.Token kind n) = (0 < n) × (n ≤ len)
Fits len (fronts.Broken fault) = Unit {0}
