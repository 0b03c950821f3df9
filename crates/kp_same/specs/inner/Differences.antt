-- The first part of sinks that differs.
use Rattle.std.specs.Prelude.{◌≡◌, ◌≢◌, ℕ, ◌<◌, true, List, length, get_or, Option, None, is_some}
use Rattle.kp_same.specs.declared.{sinks.Sink.Sink, difference.Difference.Difference, difference.Part.Part}
use Rattle.kp_same.specs.declared.difference.Part.TheVariants as parts

abbrev pub Differs : Part → Option Sink → Option Sink → Type 0
Differs parts.Result a b = is_some a ≢ is_some b
Differs _ a b = (is_some a ≡ true) × (is_some b ≡ true)

pub record IsFirst (d : Difference) (left right : List (Option Sink)) : Type 0 where
  pub there : d.target < length left
  pub before : (u : ℕ) → u < d.target → get_or left u None ≡ get_or right u None
  pub part : Differs d.part (get_or left d.target None) (get_or right d.target None)
