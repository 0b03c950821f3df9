use Rattle.std.proofs.Common.{◌+◌, ℕ, arith}
use Rattle.kp_synth_registers.proofs.Growth.{test_kept, grown_added, added_then, added_more}
use Rattle.kp_synth_stage.{specs.Work.stmts_at, specs.Work.costs_of, proofs.Binding.fits_kept}
use Rattle.kp_synth.proofs.{Naming.named_by, Stalling.computes, Stalling.stalls}
use Rattle.kp_synth.proofs.stage.run_stage.Goals as goal

pub returns-clause-fits : goal.returns-clause-fits
returns-clause-fits c = fits_kept _ _ _ _ _ _ c.stall_of-stall.ensures.grown.kept c.in_ok-work.ensures.fits

pub returns-clause-computes : goal.returns-clause-computes
returns-clause-computes c =
    computes c.args.d.now.job c.args.k c.args.pool.now c.run_block.new.pool c.stall_of-stall.new.pool 3 c.stall_of-stall.ensures.grown.kept c.args.sources.now c.args.pipes.now c.args.samples.now c.args.hints.now c.in_ok-work.work
    c.in_ok-work.ensures.fits c.requires.sees c.requires.pipes_in c.requires.samples_in c.requires.hints_in c.in_ok-work.ensures.does

pub returns-clause-stall : goal.returns-clause-stall
returns-clause-stall c =
    let job = c.args.d.now.job in
    let g = c.in_ok-work.ensures.added.kept in
    let n : ℕ = costs_of job (stmts_at job c.args.k) + 1 in
    stalls job c.args.k c.args.pool.now c.run_block.new.pool c.stall_of-stall.new.pool 3 c.stall_of-stall.ensures.grown.kept c.args.sources.now c.args.pipes.now c.args.samples.now c.args.hints.now c.in_ok-work.work
    c.in_ok-work.ensures.fits c.requires.sees c.requires.pipes_in c.requires.samples_in c.requires.hints_in c.in_ok-work.ensures.does c.args.full c.args.ext c.args.higher c.stall_of-stall.result
    (test_kept job c.args.pool.now c.run_block.new.pool n 1 c.args.full _ g c.requires.full_wire c.requires.full)
    (test_kept job c.args.pool.now c.run_block.new.pool n 1 c.args.ext _ g c.requires.ext_wire c.requires.ext)
    (test_kept job c.args.pool.now c.run_block.new.pool n 1 c.args.higher _ g c.requires.higher_wire c.requires.higher)
    c.stall_of-stall.ensures.value

pub returns-clause-added : goal.returns-clause-added
returns-clause-added c =
    added_more c.args.d.now.job _ _ _ _ (added_then _ _ _ _ _ _ c.in_ok-work.ensures.added (grown_added _ _ _ _ c.stall_of-stall.ensures.grown)) (omega arith)

pub returns-clause-names : goal.returns-clause-names
returns-clause-names c =
    named_by c.args.d.now.job c.args.k c.args.pool.now c.run_block.new.pool c.stall_of-stall.new.pool 3 c.stall_of-stall.ensures.grown.kept c.args.sources.now c.args.pipes.now c.args.samples.now c.args.hints.now
    c.in_ok-work.work.env c.requires.sees c.requires.pipes_in c.requires.samples_in c.requires.hints_in c.in_ok-work.ensures.inside c.in_ok-work.ensures.knows
