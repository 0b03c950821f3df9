-- How many lines there are of each cause.
use Rattle.std.specs.Prelude.{◌+◌, List, cond}
use Rattle.kp_stalls.specs.declared.cause.{Cause.Cause, Line.Line}
use Rattle.kp_stalls_text.specs.{declared.sums.Tally.Tally, Text.count_of, Text.is_ahead, Text.is_held, Text.is_later, Text.is_squash, Text.is_value}

abbrev pub tally_of : List Line → Tally
tally_of lines = record {
  values = count_of is_value lines;
  aheads = count_of is_ahead lines;
  helds = count_of is_held lines;
  laters = count_of is_later lines;
  squashes = count_of is_squash lines;
}

abbrev pub one_more : Cause → Tally → Tally
one_more cause t = record {
  values = t.values + cond (is_value cause) 1 0;
  aheads = t.aheads + cond (is_ahead cause) 1 0;
  helds = t.helds + cond (is_held cause) 1 0;
  laters = t.laters + cond (is_later cause) 1 0;
  squashes = t.squashes + cond (is_squash cause) 1 0;
}
