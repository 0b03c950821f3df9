use Rattle.std.proofs.Common.{◌∙◌, ◌+◌, Bool, List, ◌++◌, sym, ap, true, false, append-nil, drop, length, arith, rules}
use Rattle.std.{proofs.Output.has_written_append, proofs.Output.has_written_of_eq, proofs.Output.has_written_to_eq, specs.declared.option.Option.Option}
use Rattle.kp_view_expected.specs.{declared.display.Group.Group, declared.display.Thing.Thing, GoesOn.all_classes}
use Rattle.kp_view_expected.specs.Texts.{before_these, expected_text, joined, thing_text, things, things_of}
use Rattle.kp_view_expected.proofs.Listing.{listed_from, none_from, one_fewer, written_more}
use Rattle.kp_view_expected.proofs.display.ExpectedDisplay.fmt.Goals.{in-Some+in_ok-write, in_default}
use Rattle.kp_view_expected.proofs.display.ExpectedDisplay.fmt.Goals as goal

pub loop-i-preserved : goal.loop-i-preserved
loop-i-preserved g c =
    let next = things c.group-group.result (drop (c.loop-i.i + 1) all_classes) (drop (c.loop-i.i + 1) c.args.self.now.listed) in
    let step = listed_from c.args.self.now c.group-group.result c.all-class-items.result.now c.loop-i.i _ false c.of.result c.all-class-items.ensures c.loop-i-test.true (search rules) c.of.ensures in
    elim c.match-of.branch [
      | in-Some+in_ok-write w ↦
          let here = step ∙ ap (λ (o : Option Thing). before_these o next) w.in-Some.is in
          let fewer = one_fewer c.loop-i.left _ next w.in-Some.thing here c.loop-i.invariant.0 in (
            omega (arith, w.left-is, w.saturating_sub-left.ensures, fewer),
            λ plain.
                let so_far = c.loop-i.invariant.1 plain in (
                  so_far.0 ++ (w.separator-before.result.now ++ thing_text w.in-Some.thing),
                  has_written_to_eq _ _ _ _ _ w.f-is (has_written_append _ _ _ _ _ _ so_far.1 (search rules)),
                  ap (λ (b : Bool). (so_far.0 ++ (w.separator-before.result.now ++ thing_text w.in-Some.thing)) ++ joined b next) w.first-is
                      ∙ written_more c.loop-i.first c.loop-i.left _ next w.in-Some.thing so_far.0 w.separator-before.result.now _ here c.loop-i.invariant.0 w.separator-before.ensures so_far.2,
                ),
          )
      | in_default w ↦
          let same = step ∙ ap (λ (o : Option Thing). before_these o next) w.in_default.is in (
            w.left-is ∙ c.loop-i.invariant.0 ∙ ap length same,
            λ plain.
                let so_far = c.loop-i.invariant.1 plain in (
                  so_far.0,
                  has_written_to_eq _ _ _ _ _ w.f-is so_far.1,
                  ap (λ (b : Bool). so_far.0 ++ joined b next) w.first-is ∙ ap (λ (ts : List Thing). so_far.0 ++ joined c.loop-i.first ts) (sym same) ∙ so_far.2,
                ),
          )
    ]

pub returns-clause-writes : goal.returns-clause-writes
unfolding expected_text
returns-clause-writes g c = λ plain ok.
    let so_far = c.loop-i.invariant.1 plain in
    let none = none_from c.args.self.now c.group-group.result c.all-class-items.result.now c.loop-i.i c.all-class-items.ensures c.loop-i-test.false in
    has_written_of_eq _ _ _ _ _
    (sym (ap (λ (ts : List Thing). so_far.0 ++ joined c.loop-i.first ts) none ∙ append-nil so_far.0)
    ∙ so_far.2
    ∙ ap (λ (o : Option Group). joined true (things_of c.args.self.now o)) c.group-group.ensures)
    so_far.1
