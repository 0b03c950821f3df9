use Rattle.std.proofs.Common.{◌*◌, ◌≡◌, ◌∙◌, ap, arith}
use Rattle.kp_ast.specs.Size.{size}
use Rattle.kp_ast.specs.declared.tree.StmtKind.TheVariants as stmts
use Rattle.kp_machine.specs.Slots.{pipes_of, number_of}
use Rattle.kp_synth_registers.proofs.Growth.{grown_added, added_more}
use Rattle.kp_synth_stage.{specs.Work.cost_of, proofs.Steps.put_right, proofs.Steps.put_step, proofs.statement.put.Goals.After-number_of-x}
use Rattle.kp_synth_stage.proofs.statement.put.Goals as goal

pub value-requires-clause-right : goal.value-requires-clause-right
value-requires-clause-right c = (put_right c.args.d.now.job c.job-job.ensures.sound.names c.args.k c.args.j c.args.name.now c.args.e.now c.requires.right).right

number : (c : After-number_of-x) → c.number_of-x.result ≡ number_of (pipes_of c.args.d.now.job.decls) c.args.name.now.name
number c = c.number_of-x.ensures ∙ ap (λ (ss : _). number_of ss c.args.name.now.name) (c.as_slice.ensures.value ∙ c.requires.slots.pipes)

pub index_mut-requires : goal.index_mut-requires
index_mut-requires c =
    let r = put_right c.args.d.now.job c.job-job.ensures.sound.names c.args.k c.args.j c.args.name.now c.args.e.now c.requires.right in
    omega (arith, number (goal.at.index_mut-requires c).After-number_of-x, r.inside, c.requires.work.fits.put_count)

pub returns : goal.returns
returns c =
    let job = c.args.d.now.job in
    let node = c.in_ok-node in
    let step = put_step job c.args.k c.args.j c.args.pool.now c.value.new.pool _ node.ensures.grown.kept c.args.work.now c.requires.work
    c.job-job.ensures.sound.names c.spare-spare.ensures.right c.args.name.now c.args.e.now node.node node.ensures.wire node.ensures.gives c.requires.right c.number_of-x.result (number (goal.at.returns c).After-number_of-x) in
    record {
      work = step.0;
      goes = step.1;
      added = added_more job c.args.pool.now c.value.new.pool (8 * size job.decls c.args.e.now) (cost_of job (stmts.Put c.args.name.now c.args.e.now)) (grown_added job _ _ _ node.ensures.grown) (omega arith);
    }
