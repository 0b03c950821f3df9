use Rattle.std.proofs.Common.{◌≡◌, subst}
use Rattle.kp_ast.specs.declared.tree.StmtKind.{StmtKind}
use Rattle.kp_synth_stage.{specs.inner.Standing.StmtRight, proofs.Scoping.is_right, proofs.block.step.Goals.After-job-job}
use Rattle.kp_synth_stage.proofs.block.step.Goals as goal

right : (c : After-job-job) (x : StmtKind) → c.args.stmt.now.kind ≡ x → StmtRight c.args.d.now.job c.args.k c.args.j x
right c x is = subst (StmtRight c.args.d.now.job c.args.k c.args.j) is
    (is_right c.args.d.now.job c.args.k c.args.j c.args.stmt.now c.job-job.ensures.sound.names c.job-job.ensures.sound.stages c.requires.at)

pub read-requires-clause-right : goal.read-requires-clause-right
read-requires-clause-right c = right (goal.at.read-requires-clause-right c).After-job-job _ c.in-Read.is

pub let_name-requires-clause-right : goal.let_name-requires-clause-right
let_name-requires-clause-right c = right (goal.at.let_name-requires-clause-right c).After-job-job _ c.in-Let.is

pub put-requires-clause-right : goal.put-requires-clause-right
put-requires-clause-right c = right (goal.at.put-requires-clause-right c).After-job-job _ c.in-Put.is

pub set-requires-clause-right : goal.set-requires-clause-right
set-requires-clause-right c = right (goal.at.set-requires-clause-right c).After-job-job _ c.in-Set.is

pub aim-requires-clause-right : goal.aim-requires-clause-right
aim-requires-clause-right c = right (goal.at.aim-requires-clause-right c).After-job-job _ c.in-Aim.is
