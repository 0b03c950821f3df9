use Rattle.std.proofs.Common.{refl, sym, subst}
use Rattle.kp_until_run.{specs.Ending.retired_in, specs.inner.Pasts.IsHistory, proofs.Pasts.word_then}
use Rattle.kp_until_run.proofs.hunt.word_at.Goals as goal

pub returns : goal.returns
returns c =
    let a = c.args in
    let job = a._job.now.design.job in
    let h = c.index-histories-t.result in
    let is = subst (IsHistory job a._limit a._cycle a.t) (sym c.index-histories-t.is) (c.requires.histories.each a.t h c.requires.there.target) in
    word_then job a._limit a._cycle a.t h c.requires.near is (retired_in job a._cycle) a.count refl c.requires.few c.requires.many a.a c.word_after.result c.word_after.ensures.before c.word_after.ensures.all
