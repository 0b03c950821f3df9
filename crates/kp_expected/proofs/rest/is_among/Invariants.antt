use Rattle.std.proofs.Common.{◌≡◌, map, drop}
use Rattle.kp_grammar.specs.Tables.{among}
use Rattle.kp_expected.proofs.rest.is_among.Given as goal

abbrev pub invariant-loop-each : goal.invariant-loop-each
invariant-loop-each g l =
    among (g.C.Class.number l.class) (map g.C.Class.number (drop l.each-index l.classes)) ≡ among (g.C.Class.number l.class) (map g.C.Class.number l.classes)
