use Rattle.std.proofs.Common.{◌≡◌, drop, map}
use Rattle.std.specs.List.{All}
use Rattle.kp_until.specs.Untils.{IsUntil}
use Rattle.kp_runner.specs.{Words.text_of, Reading.untils_from, Reading.untils_read}
use Rattle.kp_runner.proofs.reading.untils_of.Given as goal

abbrev pub invariant-loop-k : goal.invariant-loop-k
invariant-loop-k l = record {
  rest : untils_from l.layout l.untils.items (map text_of (drop l.k l.words)) ≡ untils_read l.layout (map text_of l.words);
  fit : All (IsUntil l.layout) l.untils.items;
}
