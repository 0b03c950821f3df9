use Rattle.std.proofs.Common.{◌∙◌, ◌<◌, arith, sym, subst, length}
use Rattle.kp_ast.specs.declared.tree.Job.{Job}
use Rattle.kp_machine.specs.{Slots.targets_of, Words.target}
use Rattle.kp_seq.specs.Running.{state}
use Rattle.kp_implements.specs.{Naming.value_shown, Shows.IsOfJob}
use Rattle.kp_run.{specs.Places.place_in, proofs.Placing.few_targets, proofs.Placing.as_many, proofs.Placing.place_at}
use Rattle.kp_watch.specs.inner.Machines.{due_by}
use Rattle.kp_watch.proofs.{Comparing.first_at_alike, Comparing.agree_alike, Comparing.target_more, Comparing.first_in, Lanes.machine_at}
use Rattle.kp_watch.proofs.compare.difference_in.Goals as goal

pub overflow_cast-t : goal.overflow_cast-t
overflow_cast-t c =
    let job = c.args.job.now.design.job in
    let many = as_many job c.args.sim.now.net c.args.tables.now.places.items c.requires.places in
    let few = few_targets job.decls in
    omega (arith, many, few, c.args.job.now.few, c.loop-t-test.true, c.len-t-end.ensures)

pub difference_at-requires : goal.difference_at-requires
difference_at-requires c =
    let job = c.args.job.now.design.job in
    let net = c.args.sim.now.net in
    let t = c.loop-t.t in
    let many = as_many job net c.args.tables.now.places.items c.requires.places in
    let within : t < length (targets_of job.decls) = omega (arith, many, c.loop-t-test.true, c.len-t-end.ensures) in
    let found = machine_at job c.args.machines.now c.args.tables.now.homes.items t _ c.from.result c.index-machines-from.result c.requires.homes c.requires.count c.requires.jobs within (c.from.ensures ∙ c.index.ensures) c.index-machines-from.is in
    record {
      of_job = subst (IsOfJob net) (sym found.0) c.requires.of_job;
      target = subst (λ (j : Job). t < length (targets_of j.decls)) (sym found.0) within;
      place = c.index-in-loop-t.ensures ∙ place_at job net c.args.tables.now.places.items t _ c.requires.places within ∙ (λ i. place_in net (target (sym found.0 i) t));
    }

pub returns-in-Some : goal.returns-in-Some
returns-in-Some c =
    let job = c.args.job.now.design.job in
    let net = c.args.sim.now.net in
    let st = c.args.sim.now.state in
    let t = c.loop-t.t in
    let m = c.index-machines-from.result in
    let many = as_many job net c.args.tables.now.places.items c.requires.places in
    let within : c.loop-t.t < length (targets_of job.decls) = omega (arith, many, c.loop-t-test.true, c.len-t-end.ensures) in
    let found = machine_at job c.args.machines.now c.args.tables.now.homes.items c.loop-t.t _ c.from.result m c.requires.homes c.requires.count c.requires.jobs within (c.from.ensures ∙ c.index.ensures) c.index-machines-from.is in
    first_in job (value_shown job net st) (due_by job c.args.machines.now) t c.loop-t.invariant c.args.cycle c.in-Some.difference
    (first_at_alike net st job m.job c.args.cycle t (state m t) (due_by job c.args.machines.now t) found.0 found.1 c.in-Some.difference c.in-Some.ensures)

pub loop-t-preserved : goal.loop-t-preserved
loop-t-preserved c =
    let job = c.args.job.now.design.job in
    let net = c.args.sim.now.net in
    let st = c.args.sim.now.state in
    let t = c.loop-t.t in
    let m = c.index-machines-from.result in
    let many = as_many job net c.args.tables.now.places.items c.requires.places in
    let within : c.loop-t.t < length (targets_of job.decls) = omega (arith, many, c.loop-t-test.true, c.len-t-end.ensures) in
    let found = machine_at job c.args.machines.now c.args.tables.now.homes.items c.loop-t.t _ c.from.result m c.requires.homes c.requires.count c.requires.jobs within (c.from.ensures ∙ c.index.ensures) c.index-machines-from.is in
    let agree = rw c.in_default.is at c.difference_at.ensures in
    target_more job (value_shown job net st) (due_by job c.args.machines.now) t c.loop-t.invariant
    (agree_alike net st job m.job c.args.cycle t (state m t) (due_by job c.args.machines.now t) found.0 found.1 agree)
