use Rattle.std.proofs.{Common.◌∙◌, Common.ap, Common.arith, Common.◌<◌, Common.length, Common.map, Common.true, Common.false, lemmas.List.length-map}
use Rattle.std.proofs.lemmas.Result.{err_from_is_err_and}
use Rattle.kp_vcd.proofs.Meeting.{fails, given_ended, given_wrong, given_right, tested}
use Rattle.kp_vcd.proofs.head.expect.Goals as goal

pub returns-in_err-word-clause-meets : goal.returns-in_err-word-clause-meets
returns-in_err-word-clause-meets c n d =
    let p = err_from_is_err_and c.from_residual.result c.from_residual.ensures.1 in
    let h = c.in_err-word.ensures.none in
    let l = length-map c.args.given.now (λ g. g.now) in
    let more : c.loop-wanted.wanted-index < length (map (λ g. g.now) c.args.given.now) = omega (arith, l) in
    rw (p.1, p.2) (fails _ _ 1 c.loop-wanted.words.end h.1
    (c.loop-wanted.invariant.same n d ∙ given_ended (map (λ g. g.now) c.args.given.now) c.loop-wanted.wanted-index n d c.loop-wanted.words more h.0))

pub returns-then-ne-clause-meets : goal.returns-then-ne-clause-meets
returns-then-ne-clause-meets c n d =
    let l = length-map c.args.given.now (λ g. g.now) in
    let more : c.loop-wanted.wanted-index < length (map (λ g. g.now) c.args.given.now) = omega (arith, l) in
    fails _ _ 1 c.in_ok-word.word.place c.breaks.ensures
    (c.loop-wanted.invariant.same n d
    ∙ given_wrong (map (λ g. g.now) c.args.given.now) c.loop-wanted.wanted-index n d c.loop-wanted.words more c.need.new.self c.in_ok-word.word c.in_ok-word.ensures.word c.in_ok-word.ensures.end
    (tested c.args.given.now (λ g. g.now) c.loop-wanted.wanted-index _ c.bytes.result.now c.in_ok-word.word.bytes c.ne.result true c.loop-wanted-test.true c.bytes.ensures c.ne.ensures c.if-ne.true))

pub loop-wanted-preserved : goal.loop-wanted-preserved
loop-wanted-preserved c =
    let l = length-map c.args.given.now (λ g. g.now) in
    let more : c.loop-wanted.wanted-index < length (map (λ g. g.now) c.args.given.now) = omega (arith, l) in
    record {
      fewer = let h = ap length c.in_ok-word.ensures.word in let f = c.loop-wanted.invariant.fewer in omega (arith, h, f);
      same = λ n d. c.loop-wanted.invariant.same n d
          ∙ given_right (map (λ g. g.now) c.args.given.now) c.loop-wanted.wanted-index n d c.loop-wanted.words more c.need.new.self c.in_ok-word.word c.in_ok-word.ensures.word c.in_ok-word.ensures.end
          (tested c.args.given.now (λ g. g.now) c.loop-wanted.wanted-index _ c.bytes.result.now c.in_ok-word.word.bytes c.ne.result false c.loop-wanted-test.true c.bytes.ensures c.ne.ensures c.if-ne.false);
    }
