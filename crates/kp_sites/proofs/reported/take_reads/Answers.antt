use Rattle.std.proofs.{Common.◌∙◌, Common.None, Common.arith, lemmas.List.ext_get_or}
use Rattle.kp_sites.proofs.reported.take_reads.Goals as goal

pub returns : goal.returns
returns c =
    let same = c.loop-i.invariant.count in
    let past = c.loop-i-test.false in
    ext_get_or None c.loop-i.reads c.args.machine.now.last.reads (same ∙ c.requires.same) (λ k l. c.loop-i.invariant.taken k (omega arith))
