use Rattle.kp_diagram_run.proofs.Shown.{shows-run}
use Rattle.kp_diagram_run.proofs.laws.a_figure_shows_the_run.Goals as goal

pub returns : goal.returns
returns c = shows-run c.args.job.now.design.job c.a_design_is_accepted.ensures
