use Rattle.std.proofs.Common.{◌≡◌, ℕ, arith, length-append}
use Rattle.kp_bits.specs.Word.{Word}
use Rattle.kp_until_run.proofs.Opening.{more_items}
use Rattle.kp_until_run.proofs.contents.words_of.Goals as goal

pub loop-a-preserved : goal.loop-a-preserved
loop-a-preserved c =
    let inv = c.loop-a.invariant in
    rw c.in_ok-push.ensures.items (record {
      count = simp length-append (omega (arith, inv.count));
      before = λ f b d rem close less low.
          more_items (λ (u : ℕ) (w : Word). w ≡ f c.args.count u) c.loop-a.words.items c.word_after.result c.loop-a.a inv.count (λ u e l. inv.before f u e rem close less l)
          (c.word_after.ensures.before f _ rem close less) b d low;
      all = λ f b d rem past low.
          more_items (λ (u : ℕ) (w : Word). w ≡ f c.args.history.now.count u) c.loop-a.words.items c.word_after.result c.loop-a.a inv.count (λ u e l. inv.all f u e rem past l)
          (c.word_after.ensures.all f _ rem past) b d low;
    })

pub returns-clause-before : goal.returns-clause-before
returns-clause-before c = λ f a d rem close less low. c.loop-a.invariant.before f a d rem close less (omega (arith, low, c.loop-a-test.false, c.words-a-end.ensures))

pub returns-clause-all : goal.returns-clause-all
returns-clause-all c = λ f a d rem past low. c.loop-a.invariant.all f a d rem past (omega (arith, low, c.loop-a-test.false, c.words-a-end.ensures))
