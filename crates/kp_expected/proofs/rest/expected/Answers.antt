use Rattle.std.proofs.Common.{◌≡◌, ◌∙◌, true, rules, arith}
use Rattle.std.specs.Prelude.{◌↔◌}
use Rattle.std.proofs.lemmas.List.{length-set}
use Rattle.kp_expected.specs.{Plain.plain, Plain.stack, GoesOn.GoesOn, Starts.starts}
use Rattle.kp_expected.proofs.Rows.{answered, answer_more, answer_all}
use Rattle.kp_expected.proofs.rest.expected.Goals as goal

pub loop-i-preserved : goal.loop-i-preserved
loop-i-preserved g c =
    let item = c.index-classes-i.result in
    let now = answered c.in_ok-rest.rest c.can_follow.result (GoesOn (plain g.C.Class.number g.P.Part.rules) (g.P.Part.name c.args.start) tt c.args.front.now item)
    (λ r. starts g.P.Part.tables (stack g.C.Class.number g.P.Part.name r.symbols.items) (g.C.Class.number item)) c.can_follow.ensures (c.in_ok-rest.ensures item) in (
      length-set c.loop-i.answers c.loop-i.i c.can_follow.result ∙ c.loop-i.invariant.0,
      answer_more (λ b x. (b ≡ true) ↔ GoesOn (plain g.C.Class.number g.P.Part.rules) (g.P.Part.name c.args.start) tt c.args.front.now x) c.loop-i.answers c.args.classes.now c.loop-i.i c.can_follow.result item
          c.loop-i.invariant.0 c.loop-i-test.true (search rules) now c.loop-i.invariant.1,
    )

pub returns-clause-exact : goal.returns-clause-exact
returns-clause-exact g c =
    answer_all (λ b x. (b ≡ true) ↔ GoesOn (plain g.C.Class.number g.P.Part.rules) (g.P.Part.name c.args.start) tt c.args.front.now x) c.loop-i.answers c.args.classes.now c.loop-i.i
    (omega (arith, c.loop-i-test.false)) c.loop-i.invariant.1
