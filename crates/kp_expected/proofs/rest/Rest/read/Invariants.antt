use Rattle.std.proofs.Common.{[], ◌∷◌}
use Rattle.kp_expected.specs.{Plain.stack, inner.Steps.Goes, Readable.work}
use Rattle.kp_expected.proofs.rest.Rest.read.Given as goal

abbrev pub invariant-parts : goal.invariant-parts
invariant-parts g l =
    Goes g.C.Class.number g.P.Part.rules g.P.Part.tables (stack g.C.Class.number g.P.Part.name l.fn.self.symbols.items) (l.class ∷ []) (stack g.C.Class.number g.P.Part.name l.self.symbols.items) (l.class ∷ [])

abbrev pub decreases-parts : goal.decreases-parts
decreases-parts g l = work g.P.Part.tables g.P.Part.ranks (stack g.C.Class.number g.P.Part.name l.self.symbols.items)
