use Rattle.std.proofs.Common.{◌≡◌, ℕ, suc, ◌+◌, ◌*◌, ◌<◌, List, length, get_or, slice_set, Some, subst, arith}
use Rattle.std.{specs.Prelude.slice_get, proofs.lemmas.Option.slice_get-get_or}
use Rattle.kp_net.{specs.Growth.Grown, proofs.Growing.grown_then, proofs.Growing.grown_more}
use Rattle.kp_synth_registers.proofs.Growth.{test_kept, ready_kept}
use Rattle.kp_synth_stage.{specs.declared.row.Source.Source, proofs.Binding.kept_same}
use Rattle.kp_synth.specs.inner.Whole.{AllNearer}
use Rattle.kp_synth.proofs.Rising.{FewFrom, SameFrom, few_begun, few_ended, same_begun, none_nearer, ok_set, few_set, same_set, nearer_set, set_means_kept}
use Rattle.kp_synth.proofs.bypass_entries.add_rows.Goals as goal

pub loop-t-init : goal.loop-t-init
loop-t-init c = record {
  ok = c.requires.sources;
  few = few_begun c.args.layout.now c.args.k c.args.sources.now c.requires.few;
  same = same_begun c.args.sources.now;
  done = none_nearer c.args.layout.now c.args.k c.args.pool.now c.args.sources.now;
  grown = record { kept = kept_same c.args.pool.now; plain = λ i l m. absurd (omega (arith, l, m)) };
}

pub add_row-requires-clause-source : goal.add_row-requires-clause-source
add_row-requires-clause-source c = c.loop-t.invariant.ok.each c.loop-t.t _ (slice_get-get_or c.loop-t.sources c.loop-t.t c.index-sources-t.result (omega arith))

pub add_row-requires-clause-few : goal.add_row-requires-clause-few
unfolding FewFrom
add_row-requires-clause-few c =
    let x = (c.loop-t.invariant.few c.loop-t.t _ (slice_get-get_or c.loop-t.sources c.loop-t.t c.index-sources-t.result (omega arith))).1 (omega arith) in
    omega (arith, x, c.requires.later)

pub add_row-requires-clause-set_means : goal.add_row-requires-clause-set_means
add_row-requires-clause-set_means c =
    let e = c.loop-t.invariant.ok.count in
    let l : c.loop-t.t < length c.loop-t.sources = omega arith in
    set_means_kept c.args.layout.now c.args.k c.loop-t.t c.args.pool.now c.loop-t.pool (20 * c.loop-t.t) c.args.sets.now c.loop-t.invariant.grown.kept (omega (arith, l, e)) c.requires.sets

pub add_row-requires-clause-full_is_test : goal.add_row-requires-clause-full_is_test
add_row-requires-clause-full_is_test c = test_kept c.args.layout.now c.args.pool.now c.loop-t.pool (20 * c.loop-t.t) 1 c.args.full _ c.loop-t.invariant.grown.kept c.requires.full c.requires.full_is_test

pub add_row-requires-clause-halt_is_test : goal.add_row-requires-clause-halt_is_test
add_row-requires-clause-halt_is_test c = test_kept c.args.layout.now c.args.pool.now c.loop-t.pool (20 * c.loop-t.t) 1 c.args.halt _ c.loop-t.invariant.grown.kept c.requires.halt c.requires.halt_is_test

pub loop-t-preserved : goal.loop-t-preserved
loop-t-preserved c =
    let job = c.args.layout.now in
    let k : ℕ = c.args.k in
    let t : ℕ = c.loop-t.t in
    let v = c.loop-t.invariant in
    let p = c.args.pool.now in
    let q = c.loop-t.pool in
    let r = c.add_row.new.pool in
    let os : List Source = c.args.sources.now in
    let ss : List Source = c.loop-t.sources in
    let s : Source = get_or ss t c.index-sources-t.result in
    let s' : Source = c.add_row.new.source in
    let at : slice_get ss t ≡ Some s = slice_get-get_or ss t c.index-sources-t.result (omega arith) in
    let a : Grown q r 20 = c.in_ok-add_row.ensures.grown in
    let z : suc t ≡ t + 1 = omega arith in
    record {
      ok = ok_set job k t p q r (20 * t) 20 v.grown.kept a.kept os ss s s' at c.requires.sources v.ok v.same c.in_ok-add_row.ensures.source;
      few = subst (λ n. FewFrom job k n (slice_set ss t s')) z (few_set job k t p q r (20 * t) 20 v.grown.kept a.kept os ss s s' at c.requires.sources v.ok v.same c.in_ok-add_row.ensures.source v.few c.in_ok-add_row.ensures.few);
      same = subst (λ n. SameFrom n os (slice_set ss t s')) z (same_set job k t p q r (20 * t) 20 v.grown.kept a.kept os ss s s' at c.requires.sources v.ok v.same c.in_ok-add_row.ensures.source);
      done = subst (λ n. AllNearer job k n p os r (slice_set ss t s')) z (nearer_set job k t p q r (20 * t) 20 v.grown.kept a.kept os ss s s' at c.requires.sources v.ok v.same c.in_ok-add_row.ensures.source v.done c.in_ok-add_row.ensures.nearer);
      grown = grown_more p r (20 * t + 20) (20 * (t + 1)) (grown_then p q r (20 * t) 20 v.grown a) (omega arith);
    }

pub returns-clause-few : goal.returns-clause-few
returns-clause-few c = few_ended c.args.layout.now c.args.k c.loop-t.t c.loop-t.sources c.loop-t.invariant.few

pub add_row-requires-clause-ready : goal.add_row-requires-clause-ready
add_row-requires-clause-ready c = ready_kept c.args.layout.now c.args.pool.now c.loop-t.pool (20 * c.loop-t.t) c.args.reads.now c.loop-t.invariant.grown.kept c.requires.ready
