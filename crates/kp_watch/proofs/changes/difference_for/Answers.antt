use Rattle.std.proofs.Common.{◌≡◌, ◌∙◌, ◌<◌, ap, sym, subst, arith, length, List, Option, ℕ}
use Rattle.kp_ast.specs.declared.tree.Job.{Job}
use Rattle.kp_machine.specs.{Slots.targets_of, Words.target}
use Rattle.kp_seq.specs.Running.{state}
use Rattle.kp_implements.specs.Shows.{IsOfJob}
use Rattle.kp_run.specs.Places.{place_in}
use Rattle.kp_watch.{specs.inner.Changes.noted_at, specs.inner.Machines.due_by, proofs.Comparing.target_alike}
use Rattle.kp_watch.proofs.Targets.{place_is, home_is, number_is, machine_is, record_is, file_noted, wrote_fits, agree_here}
use Rattle.kp_watch.proofs.changes.difference_for.Goals as goal

pub noted_at-noted-requires : goal.noted_at-noted-requires
noted_at-noted-requires c f words is =
    let job = c.args.job.now.design.job in
    let placed = place_is job c.args.tables.now c.args.both.now c.args.t c.requires.comparable c.requires.target c.index-place.result.now _ c.index-place.ensures in
    let low = file_noted job c.args.tables.now c.args.both.now c.args.t c.requires.comparable c.requires.target c.index-place.result.now placed f words is in
    let many : length c.as_slice.result.now ≡ length c.args.both.now.written.items = ap (λ (l : List (Option ℕ)). length l) c.as_slice.ensures.value in
    omega (arith, low, many)

pub last_write-wrote-requires : goal.last_write-wrote-requires
last_write-wrote-requires c stage some =
    let job = c.args.job.now.design.job in
    let home = home_is job c.args.tables.now c.args.both.now c.args.t c.requires.comparable c.requires.target c.index-home.result.now _ c.index-home.ensures in
    let number = number_is job c.args.tables.now c.args.both.now c.args.t c.requires.comparable c.requires.target c.index.result.now _ c.index.ensures in
    let recorded = record_is job c.args.tables.now c.args.both.now c.args.t c.requires.comparable c.requires.target c.from.result c.index-machine.result.now (c.from.ensures ∙ home) c.index-machine.ensures in
    wrote_fits job c.args.tables.now c.args.both.now c.args.t c.requires.comparable c.requires.target c.index-home.result.now c.index.result.now c.index-machine.result.now.last home number recorded stage some

pub difference_among-requires : goal.difference_among-requires
difference_among-requires c =
    let job = c.args.job.now.design.job in
    let tables = c.args.tables.now in
    let both = c.args.both.now in
    let t = c.args.t in
    let all = c.requires.comparable in
    let within = c.requires.target in
    let m = c.index-machine.result.now in
    let placed = place_is job tables both t all within c.index-place.result.now _ c.index-place.ensures in
    let home = home_is job tables both t all within c.index-home.result.now _ c.index-home.ensures in
    let number = number_is job tables both t all within c.index.result.now _ c.index.ensures in
    let found = machine_is job tables both t all within c.from.result _ m (c.from.ensures ∙ c.index-home.ensures) c.index-machine.ensures in
    let recorded = record_is job tables both t all within c.from.result m (c.from.ensures ∙ home) c.index-machine.ensures in
    let noted = c.noted_at-noted.ensures ∙ ap (λ (l : List (Option ℕ)). noted_at l c.index-place.result.now) c.as_slice.ensures.value in
    record {
      of_job = subst (IsOfJob both.sim.net) (sym found.0) all.of_job;
      target = subst (λ (j : Job). t < length (targets_of j.decls)) (sym found.0) within;
      place = placed ∙ (λ i. place_in both.sim.net (target (sym found.0 i) t));
      elsewhere = agree_here job tables both t all within c.index-place.result.now c.index-home.result.now c.index.result.now m c.noted_at-noted.result c.last_write-wrote.result
          placed home number found.0 found.1 recorded noted c.last_write-wrote.ensures;
    }

pub returns : goal.returns
returns c =
    let job = c.args.job.now.design.job in
    let both = c.args.both.now in
    let m = c.index-machine.result.now in
    let found = machine_is job c.args.tables.now both c.args.t c.requires.comparable c.requires.target c.from.result _ m (c.from.ensures ∙ c.index-home.ensures) c.index-machine.ensures in
    target_alike both.sim.net both.sim.state job m.job c.args.cycle c.args.t (state m c.args.t) (due_by job both.machines.items c.args.t) found.0 found.1 c.difference_among.result c.difference_among.ensures
