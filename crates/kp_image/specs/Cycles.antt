-- Cycles from one to another, in steps, as they are stored.
use Rattle.std.specs.Prelude.{ℕ, Bool}
use Rattle.kp_stage.specs.Start.{is_among}
use Rattle.kp_image.specs.declared.cycles.Cycles.{Cycles}

-- a cycle is one of these
abbrev pub is_in : Cycles → ℕ → Bool
is_in c cycle = is_among c.first c.last c.step cycle
