use Rattle.std.proofs.Common.{◌≡◌, ◌+◌, ◌<◌, ℕ, suc, List, Some, take, length, refl, sym, subst, arith}
use Rattle.std.{proofs.lemmas.Option.slice_get_read, specs.Prelude.slice_get}
use Rattle.kp_ast.specs.declared.tree.Stmt.{Stmt}
use Rattle.kp_synth_registers.{specs.Meaning.Added, proofs.Growth.added_then}
use Rattle.kp_synth_stage.specs.{Work.stmts_at, Work.cost_of, Work.costs_of, inner.Standing.WorkOk, inner.Standing.AllGo}
use Rattle.kp_synth_stage.proofs.{Binding.kept_same, Nearest.sources_kept, Going.all_none, Going.all_more, Going.costs_more}
use Rattle.kp_synth_stage.proofs.block.run_stmts.Goals as goal

pub loop-j-init : goal.loop-j-init
loop-j-init c = record {
  work = c.requires.work;
  goes = all_none c.args.d.now.job c.args.k c.args.pool.now c.args.work.now c.args.sources.now;
  added = record { kept = kept_same c.args.pool.now; fits = λ h. h };
}

pub step-requires-clause-at : goal.step-requires-clause-at
step-requires-clause-at c =
    let l : c.loop-j.j < length c.stmts_of-stmts.result.now = omega arith in
    subst (λ (xs : List Stmt). slice_get xs c.loop-j.j ≡ Some c.index-stmts-j.result) c.stmts_of-stmts.ensures
    (slice_get_read c.stmts_of-stmts.result.now (length c.stmts_of-stmts.result.now) c.loop-j.j c.index-stmts-j.result refl l c.index-stmts-j.is)

pub step-requires-clause-sources : goal.step-requires-clause-sources
step-requires-clause-sources c =
    sources_kept c.args.d.now.job c.args.pool.now c.loop-j.pool (costs_of c.args.d.now.job (take c.loop-j.j (stmts_at c.args.d.now.job c.args.k))) c.args.sources.now c.loop-j.invariant.added.kept c.requires.sources

pub loop-j-preserved : goal.loop-j-preserved
loop-j-preserved c =
    let job = c.args.d.now.job in
    let j : ℕ = c.loop-j.j in
    let v = c.loop-j.invariant in
    let xs : List Stmt = stmts_at job c.args.k in
    let x : Stmt = c.index-stmts-j.result in
    let l : j < length c.stmts_of-stmts.result.now = omega arith in
    let at : slice_get xs j ≡ Some x = subst (λ (ys : List Stmt). slice_get ys j ≡ Some x) c.stmts_of-stmts.ensures
    (slice_get_read c.stmts_of-stmts.result.now (length c.stmts_of-stmts.result.now) j x refl l c.index-stmts-j.is) in
    let z : suc j ≡ j + 1 = omega arith in
    record {
      work = subst (λ n. WorkOk job c.args.k n c.step.new.pool c.step.new.work) z c.in_ok-step.ensures.work;
      goes = subst (λ n. AllGo job c.args.k c.args.pool.now c.args.work.now c.args.sources.now c.step.new.pool c.step.new.work n) z
          (all_more job c.args.k c.args.pool.now c.loop-j.pool c.step.new.pool (costs_of job (take j xs)) c.args.work.now c.loop-j.work c.step.new.work c.args.sources.now j x
          v.added.kept c.requires.sources at v.goes c.in_ok-step.ensures.goes);
      added = subst (λ n. Added job c.args.pool.now c.step.new.pool (costs_of job (take n xs))) z
          (subst (λ n. Added job c.args.pool.now c.step.new.pool n) (sym (costs_more job xs j x at))
          (added_then job c.args.pool.now c.loop-j.pool c.step.new.pool (costs_of job (take j xs)) (cost_of job x.kind) v.added c.in_ok-step.ensures.added));
    }
