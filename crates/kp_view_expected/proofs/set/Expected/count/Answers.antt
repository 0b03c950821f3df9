use Rattle.std.proofs.Common.{sym, ◌∙◌, ap, length, false, arith, rules}
use Rattle.kp_view_expected.proofs.Listing.{count_none, count_some, listed_from, none_from}
use Rattle.kp_view_expected.proofs.set.Expected.count.Goals.{then-is_some, else-is_some}
use Rattle.kp_view_expected.proofs.set.Expected.count.Goals as goal

pub loop-i-preserved : goal.loop-i-preserved
loop-i-preserved c =
    let step = ap length (listed_from c.args.self.now c.args.group c.all-class-items.result.now c.loop-i.i _ false c.of.result c.all-class-items.ensures c.loop-i-test.true (search rules) c.of.ensures) in
    elim c.if-is_some.branch [
      | then-is_some w ↦
          let more = step ∙ count_some c.of.result _ (sym c.is_some.ensures ∙ w.if-is_some.true) in
          (omega (arith, w.count-is, c.loop-i.invariant.0), omega (arith, w.count-is, more, c.loop-i.invariant.1))
      | else-is_some w ↦
          let same = step ∙ count_none c.of.result _ (sym c.is_some.ensures ∙ w.if-is_some.false) in
          (omega (arith, w.count-is, c.loop-i.invariant.0), omega (arith, w.count-is, same, c.loop-i.invariant.1))
    ]

pub returns : goal.returns
returns c =
    let none = ap length (none_from c.args.self.now c.args.group c.all-class-items.result.now c.loop-i.i c.all-class-items.ensures c.loop-i-test.false) in
    omega (arith, none, c.loop-i.invariant.1)
