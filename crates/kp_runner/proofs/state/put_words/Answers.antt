use Rattle.kp_machine.specs.Words.{target}
use Rattle.kp_seq.specs.Running.{state}
use Rattle.kp_runner.{specs.inner.Keeping.keep_of, proofs.Lines.kept_more}
use Rattle.kp_runner.proofs.state.put_words.Goals as goal

pub loop-k-preserved : goal.loop-k-preserved
loop-k-preserved c =
    let a = c.args in
    kept_more (target a.layout.now a.t) (keep_of a.keep (state a.first.now a.t) (state a.last.now a.t)) (state a.last.now a.t) a.from c.loop-k.k a.out.now.items
    c.loop-k.out.items c.put_kept.new.out.items c.loop-k.invariant c.in_ok-put_kept.ensures
