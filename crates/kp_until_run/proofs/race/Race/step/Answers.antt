use Rattle.std.proofs.Common.{◌≡◌, ◌∙◌, ◌-◌, ◌+◌, ◌<◌, ◌≤◌, ℕ, List, length, refl, ap, sym, subst, arith, Option, ⊎_elim}
use Rattle.std.proofs.lemmas.Bool.{cases_lt}
use Rattle.kp_base.specs.declared.row.Row.{Row}
use Rattle.kp_bits.specs.Word.{Word}
use Rattle.kp_cycle.specs.Steps.{Running}
use Rattle.kp_implements.specs.Shows.{IsOfJob}
use Rattle.kp_net.specs.Netlist.{Net, last_of}
use Rattle.kp_sched.specs.Monitors.{HasSeen}
use Rattle.kp_run.{specs.Cycles.after_cycles, specs.Cycles.HasRows, specs.Cycles.input_at, specs.Cycles.inputs_to, specs.Places.places_in, proofs.Given.feeds_many, proofs.Machines.stages_fit, proofs.Prefixes.rows_many, proofs.Steps.rows_next}
use Rattle.kp_watch.{specs.inner.Changes.AreNoted, proofs.Rows.written_back}
use Rattle.kp_until_run.specs.{Ending.retired_in, inner.Pasts.AreHistories, inner.Pasts.Shown, inner.Races.AreReached}
use Rattle.kp_until_run.proofs.{Races.reached_more, Races.reached_still, Reaching.agrees, Reaching.counted, Reaching.net_rows, Reaching.updated}
use Rattle.kp_until_run.proofs.race.Race.step.Goals as goal

pub overflow_sub-last : goal.overflow_sub-last
overflow_sub-last c =
    let some = (stages_fit c.args.job.now.design.job c.job-kept.ensures.sound.stages).0 in
    omega (arith, c.stages-last.ensures.stages, c.requires.at.rows.stages, some)

pub passed-before-requires : goal.passed-before-requires
passed-before-requires c =
    let some = (stages_fit c.args.job.now.design.job c.job-kept.ensures.sound.stages).0 in
    omega (arith, c.stages-last.ensures.stages, c.requires.at.rows.stages, some)

pub passed-retired-requires : goal.passed-retired-requires
passed-retired-requires c =
    let some = (stages_fit c.args.job.now.design.job c.job-kept.ensures.sound.stages).0 in
    omega (arith, c.stages-last.ensures.stages, c.requires.at.rows.stages, c.cycle.ensures.stages, some)

pub run_cycle-row-requires : goal.run_cycle-row-requires
run_cycle-row-requires c =
    let accepted = c.args.job.now in
    let at = c.requires.at in
    record {
      samples = rw at.sim c.requires.shows.of_job.samples;
      room =
          ap (λ (l : List Word). length l) c.as_mut_slice-room.ensures.value
          ∙ at.room
          ∙ sym (feeds_many accepted.design.job accepted.sections.inputs c.job-kept.ensures.sound.names accepted.unbroken accepted.inputs);
      written = ap (λ (l : List (Option ℕ)). length l) c.as_mut_slice-written.ensures.value ∙ at.written ∙ ap (λ (r : Running). length r.net.parts.files) (sym at.sim);
    }

pub cycle-requires : goal.cycle-requires
cycle-requires c =
    let seen = c.requires.at.rows.seen.cycles in
    let many = rows_many c.args.job.now.design.job c.args._net.now c.args.cycle in
    omega (arith, seen, many, c.requires.low, c.ranges._limit)

pub note_all-requires : goal.note_all-requires
note_all-requires c =
    let job = c.args.job.now.design.job in
    let net = c.args._net.now in
    let n = c.args.cycle in
    let limit = c.args._limit in
    let at = c.requires.at in
    let agree = agrees job net c.job-kept.ensures.sound.names c.args.job.now.unbroken c.requires.shows in
    let ran = c.run_cycle-row.ensures.sim net at.sim in
    let same : net ≡ c.run_cycle-row.new.sim.net = ap (λ (r : Running). r.net) (sym ran) in
    let old = c.args.self.now.written in
    let new = c.run_cycle-row.new.written in
    let back = written_back old.items new old.len (omega (arith, c.run_cycle-row.auto.written, c.as_mut_slice-written.ensures.len)) in
    record {
      of_job = subst (λ (m : Net). IsOfJob m job) same c.requires.shows.of_job;
      shown = subst (λ (m : Net). Shown job m limit) same c.requires.shown;
      low = c.requires.low;
      ran = subst (λ (m : Net). c.run_cycle-row.new.sim ≡ after_cycles job m (n + 1)) same ran;
      noted = rw c.as_slice-noted.ensures.value (subst (AreNoted job c.run_cycle-row.new.sim.net n) (sym back) (subst (λ (m : Net). AreNoted job m n new) same (c.run_cycle-row.ensures.noted net at.sim)));
      updates = updated job net agree n c.run_cycle-row.result.ue (ap (λ (r : Row). r.ue) (c.run_cycle-row.ensures.row net at.sim));
      places = c.as_slice-places.ensures.value ∙ at.past.places ∙ ap (places_in job) same;
      homes = rw c.as_slice-homes.ensures.value at.past.homes;
      histories = rw c.as_mut_slice-histories.ensures.value at.past.histories;
    }

pub returns : goal.returns
returns c =
    let job = c.args.job.now.design.job in
    let net = c.args._net.now in
    let n = c.args.cycle in
    let limit = c.args._limit in
    let self = c.args.self.now in
    let at = c.requires.at in
    let ran = c.run_cycle-row.ensures in
    let agree = agrees job net c.job-kept.ensures.sound.names c.args.job.now.unbroken c.requires.shows in
    let last : c.stages-last.result - 1 ≡ job.stages.value - 1 = omega (arith, c.stages-last.ensures.stages, at.rows.stages) in
    let has = rows_next job net n (input_at job n) refl (last_of net (inputs_to job n)) c.run_cycle-row.result (net_rows job net n) self.monitor c.cycle.new.self refl
    (ran.row net at.sim) at.rows c.cycle.ensures.stages c.cycle.ensures.seen in
    let rows : HasRows job net (n + 1) (net_rows job net (n + 1)) c.cycle.new.self = record { rows = refl; seen = subst (HasSeen c.cycle.new.self) has.rows has.seen; stages = has.stages } in
    let before : c.passed-before.result ≡ retired_in job n = counted job net agree n c.passed-before.result (c.stages-last.result - 1) self.monitor last at.rows c.passed-before.ensures.seen in
    let after : c.passed-retired.result ≡ retired_in job (n + 1) = counted job net agree (n + 1) c.passed-retired.result (c.stages-last.result - 1) c.cycle.new.self last rows c.passed-retired.ensures.seen in
    record {
      sim = ran.sim net at.sim;
      rows = rows;
      past = record {
        places = at.past.places;
        homes = at.past.homes;
        histories = subst (AreHistories job limit (n + 1))
            (sym (written_back self.past.histories.items c.note_all.new.histories self.past.histories.len (omega (arith, c.note_all.auto.histories, c.as_mut_slice-histories.ensures.len))))
            c.note_all.ensures;
      };
      reached = ⊎_elim
          (λ (up : retired_in job n < retired_in job (n + 1)). reached_more job net agree n self.reached c.reached_after-self.result up at.reached (c.reached_after-self.ensures.more (omega (arith, up, before, after))))
          (λ (still : retired_in job (n + 1) ≤ retired_in job n).
          let same = c.reached_after-self.ensures.still (omega (arith, still, before, after)) in
          reached_still job net agree n c.reached_after-self.result still (subst (λ (l : List ℕ). AreReached job n l) (sym same) at.reached))
          (cases_lt (retired_in job n) (retired_in job (n + 1)));
      room =
          ap (λ (l : List Word). length l) (written_back self.room.items c.run_cycle-row.new.room self.room.len (omega (arith, c.run_cycle-row.auto.room, c.as_mut_slice-room.ensures.len)))
          ∙ ran.room ∙ ap (λ (l : List Word). length l) c.as_mut_slice-room.ensures.value ∙ at.room;
      written =
          ap (λ (l : List (Option ℕ)). length l) (written_back self.written.items c.run_cycle-row.new.written self.written.len (omega (arith, c.run_cycle-row.auto.written, c.as_mut_slice-written.ensures.len)))
          ∙ (ran.noted net at.sim).count;
    }
