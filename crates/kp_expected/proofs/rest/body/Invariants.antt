use Rattle.std.proofs.Common.{◌≡◌, None, drop}
use Rattle.kp_expected.proofs.{Rows.choose_or, Rows.seen, Rows.seen_one}
use Rattle.kp_expected.proofs.rest.body.Given as goal

abbrev pub invariant-loop-one : goal.invariant-loop-one
invariant-loop-one g l =
    choose_or g.P.Part.tables (seen_one g.C.Class.number g.P.Part.name l.chosen) (g.C.Class.number l.class) (seen g.C.Class.number g.P.Part.name (drop l.one-index l.all))
    ≡ choose_or g.P.Part.tables None (g.C.Class.number l.class) (seen g.C.Class.number g.P.Part.name l.all)
