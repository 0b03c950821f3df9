use Rattle.std.proofs.Common.{◌≡◌, sym, subst}
use Rattle.kp_ast.specs.declared.tree.Job.{Job}
use Rattle.kp_image.proofs.Given.{starts}
use Rattle.kp_sched.specs.Rows.{rows_seen}
use Rattle.kp_run.specs.Boards.{due_behind}
use Rattle.kp_report.{specs.Runs.run_text, specs.Runs.sim_text, proofs.Sims.run_is_sim}
use Rattle.kp_tool.proofs.IfOks.{if_ok_both}
use Rattle.kp_tool.proofs.sim.simulated.Goals as goal

pub synth-requires-clause-suits : goal.synth-requires-clause-suits
synth-requires-clause-suits c = rw c.args.job.now.start (starts _ c.job-kept.ensures.sound.names c.args.job.now.unbroken)

pub board_shown-requires : goal.board_shown-requires
board_shown-requires c = c.in_ok-net.ensures.shows

pub returns : goal.returns
returns c =
    let job = c.args.job.now.design.job in
    let net = c.in_ok-net.net in
    if_ok_both c.board_shown.result _ _ _
    (λ b same has.
    subst (λ (j : Job). run_text j (rows_seen j.stages.value b.cycles.rows.items) (due_behind j b.cycles.rows.items) ≡ sim_text c.args.count job) (sym same)
    (run_is_sim job c.args.count b.cycles.rows.items
    (c.a_run_shows_the_pipeline.ensures.rows net c.args.count b.cycles.rows.items b.cycles.monitor c.in_ok-net.ensures.shows has)))
    c.board_shown.ensures.job c.board_shown.ensures.rows
