use Rattle.std.proofs.Common.{sym}
use Rattle.kp_expected.specs.declared.class.Symbol.TheVariants as symbols
use Rattle.kp_expected.proofs.{Machine.goes_self, Machine.decided, Machine.expanded_to, Machine.smaller, Rows.popped, Rows.pushed}
use Rattle.kp_expected.proofs.rest.Rest.read.Goals as goal

pub parts-init : goal.parts-init
parts-init g c = goes_self g.C.Class.number g.P.Part.rules g.P.Part.tables _ _

pub returns-in-Token : goal.returns-in-Token
returns-in-Token g c =
    decided g.C.Class.number g.P.Part.rules g.P.Part.tables (g.C.Class.number c.in-Token.wanted) c.is.result c.parts.invariant
    (popped g.C.Class.number g.P.Part.name c.parts.self.symbols.items c.pop.new.self.items c.in-Some.symbol (symbols.Token c.in-Token.wanted) c.in-Some.ensures.items c.in-Token.is) c.is.ensures

pub parts-smaller : goal.parts-smaller
parts-smaller g c =
    smaller g.C.Class.number g.P.Part.rules g.P.Part.tables g.P.Part.ranks c.requires (g.P.Part.name c.in-Inner.part) (g.C.Class.number c.args.class) _ _ _ _
    (popped g.C.Class.number g.P.Part.name c.parts.self.symbols.items c.pop.new.self.items c.in-Some.symbol (symbols.Inner c.in-Inner.part) c.in-Some.ensures.items c.in-Inner.is) (sym c.in-Some-body.ensures)
    (pushed g.C.Class.number g.P.Part.name c.push.new.self.symbols.items c.pop.new.self.items c.in-Some-body.body.now c.in_ok-push-in-Some-body.ensures)

pub parts-preserved : goal.parts-preserved
parts-preserved g c =
    expanded_to g.C.Class.number g.P.Part.rules g.P.Part.tables g.P.Part.ranks c.requires c.parts.invariant
    (popped g.C.Class.number g.P.Part.name c.parts.self.symbols.items c.pop.new.self.items c.in-Some.symbol (symbols.Inner c.in-Inner.part) c.in-Some.ensures.items c.in-Inner.is) (sym c.in-Some-body.ensures)
    (pushed g.C.Class.number g.P.Part.name c.push.new.self.symbols.items c.pop.new.self.items c.in-Some-body.body.now c.in_ok-push-in-Some-body.ensures)
