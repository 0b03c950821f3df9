-- The report of a run: names of the stages, the labels of the reads, the lines, and for each read how many of them wait for it.
use Rattle.std.specs.Prelude.{◌≡◌, ℕ, ◌<◌, List, length, get_or}
use Rattle.kp_stalls.specs.declared.cause.Line.{Line}
use Rattle.kp_stalls_text.specs.{Labels.Labelled, Text.count_of, Text.is_wait_for}

pub record Reported : Type 0 where
  pub names : List (List ℕ)
  pub labels : List Labelled
  pub lines : List Line
  pub waits : List ℕ

pub record AreWaits (reads : ℕ) (lines : List Line) (counted : List ℕ) : Type 0 where
  pub count : length counted ≡ reads
  pub waits : (i : ℕ) → i < reads → get_or counted i 0 ≡ count_of (is_wait_for i) lines
