use Rattle.std.proofs.Common.{suc, ◌*◌, sym, subst, arith}
use Rattle.kp_ast.specs.Size.{size}
use Rattle.kp_ast.specs.declared.tree.StmtKind.TheVariants as stmts
use Rattle.kp_build.specs.Names.{Scope}
use Rattle.kp_synth_registers.proofs.Growth.{grown_added, added_more}
use Rattle.kp_synth_stage.{specs.inner.Standing.WorkOk, specs.inner.Standing.GoesBy, specs.Work.cost_of, proofs.Steps.let_right, proofs.Steps.let_step}
use Rattle.kp_synth_stage.proofs.statement.let_name.Goals as goal

pub value-requires-clause-right : goal.value-requires-clause-right
value-requires-clause-right c = (let_right c.args.d.now.job c.args.k c.args.j c.args.name.now c.args.e.now c.requires.right).1

pub returns : goal.returns
returns c =
    let job = c.args.d.now.job in
    let node = c.in_ok-node in
    let step = let_step job c.args.k c.args.j c.args.pool.now c.value.new.pool _ node.ensures.grown.kept c.args.work.now c.requires.work
    c.job-job.ensures.sound.names c.spare-spare.ensures.right c.args.name.now c.args.e.now node.node c.requires.right node.ensures.wire node.ensures.gives in
    let bound = sym c.in_ok-bind.ensures.bound in
    record {
      work = subst (λ (e : Scope). WorkOk job c.args.k (suc c.args.j) c.value.new.pool (record c.args.work.now { env = e })) bound step.0;
      goes = λ ss. subst (λ (e : Scope). GoesBy job c.args.k c.args.j (stmts.Let c.args.name.now c.args.e.now) c.args.pool.now c.args.work.now ss c.value.new.pool (record c.args.work.now { env = e })) bound (step.1 ss);
      added = added_more job c.args.pool.now c.value.new.pool (8 * size job.decls c.args.e.now) (cost_of job (stmts.Let c.args.name.now c.args.e.now)) (grown_added job _ _ _ node.ensures.grown) (omega arith);
    }
