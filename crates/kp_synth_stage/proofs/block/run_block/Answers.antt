use Rattle.std.proofs.Common.{◌+◌, ℕ, List, subst, arith}
use Rattle.kp_design.specs.declared.guess.GuessSlot.{GuessSlot}
use Rattle.kp_synth_registers.proofs.Growth.{grown_added, added_then, added_more}
use Rattle.kp_synth_stage.{specs.Work.stmts_at, specs.Work.Fits, specs.Work.costs_of, proofs.Nearest.sources_kept, proofs.Going.slots_end, proofs.Going.does, proofs.Going.knows}
use Rattle.kp_synth_stage.proofs.block.run_block.Goals as goal

pub run_stmts-requires-clause-sources : goal.run_stmts-requires-clause-sources
run_stmts-requires-clause-sources c = sources_kept c.args.d.now.job c.args.pool.now c.enter.new.pool 1 c.args.sources.now c.in_ok-work.ensures.grown.kept c.requires.sources

pub returns-clause-fits : goal.returns-clause-fits
returns-clause-fits c =
    subst (λ (gs : List GuessSlot). Fits c.args.d.now.job c.run_stmts.new.pool gs c.run_stmts.new.work) (slots_end c.args.d.now.job c.args.k) c.in_ok-run_stmts.ensures.work.fits

pub returns-clause-does : goal.returns-clause-does
returns-clause-does c =
    does c.args.d.now.job c.args.k c.args.pool.now c.enter.new.pool c.run_stmts.new.pool 1 c.args.pipes.now c.args.samples.now c.args.hints.now c.in_ok-work.work c.run_stmts.new.work c.args.sources.now
    c.in_ok-work.ensures.grown.kept c.requires.sources c.in_ok-work.ensures.enters c.in_ok-run_stmts.ensures.goes

pub returns-clause-inside : goal.returns-clause-inside
returns-clause-inside c = c.in_ok-run_stmts.ensures.work.env.inside

pub returns-clause-knows : goal.returns-clause-knows
returns-clause-knows c =
    knows c.args.d.now.job c.args.k c.args.pool.now c.enter.new.pool c.run_stmts.new.pool 1 c.args.pipes.now c.args.samples.now c.args.hints.now c.in_ok-work.work c.run_stmts.new.work c.args.sources.now
    c.in_ok-work.ensures.grown.kept c.requires.sources c.in_ok-work.ensures.enters c.in_ok-run_stmts.ensures.goes

pub returns-clause-added : goal.returns-clause-added
returns-clause-added c =
    let job = c.args.d.now.job in
    let n : ℕ = costs_of job (stmts_at job c.args.k) in
    added_more job c.args.pool.now c.run_stmts.new.pool (1 + n) (n + 1)
    (added_then job c.args.pool.now c.enter.new.pool c.run_stmts.new.pool 1 n (grown_added job c.args.pool.now c.enter.new.pool 1 c.in_ok-work.ensures.grown) c.in_ok-run_stmts.ensures.added) (omega arith)
