use Rattle.std.proofs.Common.{◌≡◌, [], drop, map}
use Rattle.std.specs.List.{All}
use Rattle.kp_base.specs.Lines.{piece_of}
use Rattle.kp_until.specs.Parts.{IsPart}
use Rattle.kp_runner.specs.Reading.{parts_from}
use Rattle.kp_runner.proofs.reading.parts_in.Given as goal

abbrev pub invariant-loop-k : goal.invariant-loop-k
invariant-loop-k l = record {
  rest : parts_from l.layout l.parts.items (map (piece_of l.text) (drop l.k l.words)) ≡ parts_from l.layout [] (map (piece_of l.text) l.words);
  fit : All (IsPart l.layout) l.parts.items;
}
