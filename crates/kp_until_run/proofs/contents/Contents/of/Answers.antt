use Rattle.std.proofs.Common.{◌≡◌, ◌∙◌, ◌^◌, ◌<◌, ℕ, length, length-append, get_or, ap, sym, subst, arith}
use Rattle.kp_bits.specs.Word.{Word}
use Rattle.kp_machine.specs.{Slots.targets_of, Words.target}
use Rattle.kp_run.{specs.Places.words_at, proofs.Placing.as_many, proofs.Placing.place_at}
use Rattle.kp_until_run.specs.inner.{Pasts.IsHistory, Pasts.words_after}
use Rattle.kp_until_run.specs.declared.contents.Words.{Words}
use Rattle.kp_until_run.proofs.{Opening.more_items, Pasts.words_there, Words.fits, Words.same_state, Words.words_then}
use Rattle.kp_until_run.proofs.contents.Contents.of.Goals as goal

pub index-place-requires : goal.index-place-requires
index-place-requires c =
    let past = c.requires.past in
    let many = as_many c.args.job.now.design.job c.args._net.now c.args.past.now.places.items past.places in
    omega (arith, c.loop-t-test.true, c.len-t-end.ensures, past.histories.count, many)

pub words_of-requires : goal.words_of-requires
words_of-requires c =
    let job = c.args.job.now.design.job in
    let past = c.requires.past in
    let t = c.loop-t.t in
    let low : t < length (targets_of job.decls) = omega (arith, c.loop-t-test.true, c.len-t-end.ensures, past.histories.count) in
    let placed = c.index-place.ensures ∙ place_at job c.args._net.now c.args.past.now.places.items t _ past.places low in
    let size : words_at c.index-place.result.now ≡ 2 ^ (target job t).address = ap words_at placed ∙ words_there c.args._net.now (target job t) in
    let is = subst (IsHistory job c.args._limit c.args._cycle t) (sym c.index.ensures) (past.histories.each t c.index.result.now low) in
    is.words.size_is ∙ sym size

pub loop-t-preserved : goal.loop-t-preserved
loop-t-preserved c =
    let job = c.args.job.now.design.job in
    let limit = c.args._limit in
    let count = c.args.count in
    let past = c.requires.past in
    let inv = c.loop-t.invariant in
    let t = c.loop-t.t in
    let low : t < length (targets_of job.decls) = omega (arith, c.loop-t-test.true, c.len-t-end.ensures, past.histories.count) in
    let placed = c.index-place.ensures ∙ place_at job c.args._net.now c.args.past.now.places.items t _ past.places low in
    let size : words_at c.index-place.result.now ≡ 2 ^ (target job t).address = ap words_at placed ∙ words_there c.args._net.now (target job t) in
    let h = c.index.result.now in
    let is = subst (IsHistory job limit c.args._cycle t) (sym c.index.ensures) (past.histories.each t h low) in
    let new = c.in_ok-words.ensures in
    let words = c.in_ok-words.words in
    rw c.in_ok-push.ensures.items (record {
      count = simp length-append (omega (arith, inv.count));
      sizes = more_items (λ (u : ℕ) (w : Words). length w.words.items ≡ 2 ^ (target job u).address) c.loop-t.targets.items words t inv.count inv.sizes (new.count ∙ size);
      each = λ u a d e l low2.
          more_items (λ (v : ℕ) (w : Words). (b : ℕ) (x : Word) → b < 2 ^ (target job v).address → get_or w.words.items b x ≡ words_after job limit v count b)
          c.loop-t.targets.items words t inv.count (λ v d2 l2 b x l3. inv.each v b d2 x l2 l3)
          (words_then job limit c.args._cycle t h c.requires.near is count (words_at c.index-place.result.now) c.requires.few c.requires.many size words.words.items new.before new.all)
          u d l a e low2;
    })

pub invariant_of-result : goal.invariant_of-result
invariant_of-result c =
    let inv = c.loop-t.invariant in
    let all : c.loop-t.t ≡ length (targets_of c.args.job.now.design.job.decls) = omega (arith, c.loop-t-test.false, c.loop-t.auto.t-end, c.len-t-end.ensures, c.requires.past.histories.count) in
    fits c.args.job.now.design.job c.args._limit c.args.count c.loop-t.targets.items (inv.count ∙ all)
    (λ u d h. inv.sizes u d (omega (arith, h, all))) (λ u a d e h low. inv.each u a d e (omega (arith, h, all)) low)

pub returns-clause-state : goal.returns-clause-state
returns-clause-state c =
    let inv = c.loop-t.invariant in
    let all : c.loop-t.t ≡ length (targets_of c.args.job.now.design.job.decls) = omega (arith, c.loop-t-test.false, c.loop-t.auto.t-end, c.len-t-end.ensures, c.requires.past.histories.count) in
    same_state c.args.job.now.design.job c.args._limit c.args.count c.loop-t.targets.items (inv.count ∙ all)
    (λ u d h. inv.sizes u d (omega (arith, h, all))) (λ u a d e h low. inv.each u a d e (omega (arith, h, all)) low)
