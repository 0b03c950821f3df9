use Rattle.std.proofs.Common.{◌≡◌, ◌∙◌, ◌*◌, ◌+◌, ◌<◌, ℕ, List, length, Some, None, ap, sym, subst, arith}
use Rattle.std.proofs.lemmas.List.{get_or_default}
use Rattle.kp_ast.specs.{Size.size, declared.tree.Decl.Decl, declared.tree.Job.Job}
use Rattle.kp_ast.specs.declared.tree.StmtKind.TheVariants as stmts
use Rattle.kp_stage.specs.Sizes.{size_of_option}
use Rattle.kp_machine.specs.Slots.{Slot, targets_of}
use Rattle.kp_net.specs.Nodes.{at as value_at, on}
use Rattle.kp_pipeline.specs.Sequential.{first_value}
use Rattle.kp_design.specs.Numbers.{target_at}
use Rattle.kp_synth_registers.specs.{Holding.optional, Meaning.SetFits, Meaning.set_value}
use Rattle.kp_synth_registers.proofs.Growth.{grown_added, added_then, added_more}
use Rattle.kp_synth_stage.{specs.Work.cost_of, specs.inner.Statements.target_named, proofs.Binding.kept_same, proofs.Taking.bit_of}
use Rattle.kp_synth_stage.proofs.Setting.{SetRight, SetNodes, set_right, target_there, set_nodes, before_fits, set_step}
use Rattle.kp_synth_stage.proofs.statement.set.Goals.{After-spare-spare, After-target_named, In-Some}
use Rattle.kp_synth_stage.proofs.statement.set.Goals as goal

right : (c : After-spare-spare) → SetRight c.args.d.now.job c.args.k c.args.j c.args.name.now c.args.e.now c.args.when.now
right c = set_right c.args.d.now.job c.job-job.ensures.sound.names c.args.k c.args.j c.args.name.now c.args.e.now c.args.when.now c.requires.right

named : (c : After-target_named) → target_named c.args.d.now.job.decls (targets_of c.args.d.now.job.decls) c.args.name.now.name ≡ c.target_named.result
named c = sym (c.target_named.ensures ∙ ap (λ (ds : List Decl). target_named ds c.as_slice-2.result.now c.args.name.now.name) (c.as_slice.ensures ∙ ap (λ (x : Job). x.decls) c.job-job.ensures.job)
    ∙ ap (λ (ts : List Slot). target_named c.args.d.now.job.decls ts c.args.name.now.name) (c.as_slice-2.ensures.value ∙ c.requires.slots.targets))

nodes : (c : In-Some) → SetRight c.args.d.now.job c.args.k c.args.j c.args.name.now c.args.e.now c.args.when.now
    → target_named c.args.d.now.job.decls (targets_of c.args.d.now.job.decls) c.args.name.now.name ≡ c.target_named.result
    → SetNodes c.args.d.now.job c.args.k c.args.j c.args.name.now c.args.e.now c.args.when.now c.in-Some.t c.args.pool.now c.condition-enabled.new.pool c.args.work.now.env c.in_ok-node.node c.condition-enabled.result
nodes c is found =
    let n = c.in_ok-node.ensures in
    set_nodes c.args.d.now.job c.job-job.ensures.sound.names c.args.k c.args.j c.args.name.now c.args.e.now c.args.when.now is c.args.pool.now c.value.new.pool c.value_if.new.pool c.condition-enabled.new.pool
    _ _ _ n.grown.kept c.in_ok-test.ensures.grown.kept c.condition-enabled.ensures.grown.kept c.args.work.now.env c.requires.work.env c.spare-spare.ensures.right n.right
    c.in_ok-node.node c.condition-enabled.result c.in_ok-test.test n.wire n.gives c.in_ok-test.ensures.gives c.condition-enabled.ensures.value c.in-Some.t (found ∙ c.in-Some.is)

pub value-requires-clause-right : goal.value-requires-clause-right
value-requires-clause-right c = (right (goal.at.value-requires-clause-right c).After-spare-spare).right

pub value_if-requires-clause-right : goal.value_if-requires-clause-right
value_if-requires-clause-right c = (right (goal.at.value_if-requires-clause-right c).After-spare-spare).tested

pub condition-enabled-requires-clause-wire : goal.condition-enabled-requires-clause-wire
condition-enabled-requires-clause-wire c =
    bit_of c.args.d.now.job c.args.k c.args.j c.value_if.new.pool c.args.when.now c.in_ok-test.test (right (goal.at.condition-enabled-requires-clause-wire c).After-spare-spare).one c.in_ok-test.ensures.wire

pub unreachable-requires : goal.unreachable-requires
unreachable-requires c =
    let at = goal.at.unreachable-requires c in
    target_there c.args.d.now.job c.args.k c.args.j c.args.name.now c.args.e.now c.args.when.now (right at.After-spare-spare) (named at.After-target_named ∙ c.in-None.is)

pub index-before-requires : goal.index-before-requires
index-before-requires c =
    let at = goal.at.index-before-requires c in
    let n = nodes at.In-Some (right at.After-spare-spare) (named at.After-target_named) in
    omega (arith, n.inside, c.requires.work.fits.set_count)

pub after_set-set-requires-clause-before : goal.after_set-set-requires-clause-before
after_set-set-requires-clause-before c =
    let at = goal.at.after_set-set-requires-clause-before c in
    let n = nodes at.In-Some (right at.After-spare-spare) (named at.After-target_named) in
    let q = c.condition-enabled.new.pool in
    let l : c.in-Some.t < length c.args.work.now.sets.items = omega (arith, n.inside, c.requires.work.fits.set_count) in
    let x = c.index-before.ensures ∙ get_or_default c.args.work.now.sets.items c.in-Some.t _ None l in
    let f = before_fits c.args.d.now.job c.args.k c.args.j c.args.name.now c.args.e.now c.args.when.now c.requires.right c.args.pool.now q q _ (kept_same q) c.args.work.now c.requires.work c.in-Some.t _ _ n in
    subst (λ k. SetFits q k c.index-before.result.now) (sym n.wire.wide) (subst (SetFits q (target_at c.args.d.now.job c.in-Some.t).width) (sym x) f)

pub index_mut-requires : goal.index_mut-requires
index_mut-requires c =
    let at = goal.at.index_mut-requires c in
    let n = nodes at.In-Some (right at.After-spare-spare) (named at.After-target_named) in
    omega (arith, n.inside, c.requires.work.fits.set_count)

pub returns : goal.returns
returns c =
    let job = c.args.d.now.job in
    let at = goal.at.returns c in
    let n = nodes at.In-Some (right at.After-spare-spare) (named at.After-target_named) in
    let q = c.condition-enabled.new.pool in
    let after = c.after_set-set.ensures in
    let l : c.in-Some.t < length c.args.work.now.sets.items = omega (arith, n.inside, c.requires.work.fits.set_count) in
    let e = c.index-before.ensures ∙ get_or_default c.args.work.now.sets.items c.in-Some.t _ None l in
    let step = set_step job c.args.k c.args.j c.args.name.now c.args.e.now c.args.when.now c.requires.right c.args.pool.now q c.after_set-set.new.pool 2 after.grown.kept c.args.work.now c.requires.work c.in-Some.t _ _ n
    c.after_set-set.result (subst (λ k. SetFits c.after_set-set.new.pool k (Some c.after_set-set.result)) n.wire.wide after.fits)
    (λ y. after.value y ∙ ap (λ o. first_value (set_value y q o) (optional (on y q.nodes c.condition-enabled.result.0) (value_at y q.nodes c.in_ok-node.node.0))) e) in
    let x : ℕ = 8 * size job.decls c.args.e.now in
    let y : ℕ = 8 * size_of_option job.decls c.args.when.now in
    record {
      work = step.0;
      goes = step.1;
      added = added_more job c.args.pool.now c.after_set-set.new.pool (((x + y) + 1) + 2) (cost_of job (stmts.Set c.args.name.now c.args.e.now c.args.when.now))
          (added_then job _ _ _ ((x + y) + 1) 2 (added_then job _ _ _ (x + y) 1 (added_then job _ _ _ x y (grown_added job _ _ _ c.in_ok-node.ensures.grown) (grown_added job _ _ _ c.in_ok-test.ensures.grown))
          (grown_added job _ _ _ c.condition-enabled.ensures.grown)) (grown_added job _ _ _ after.grown)) (omega arith);
    }
