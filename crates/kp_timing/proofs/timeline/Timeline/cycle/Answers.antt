use Rattle.std.proofs.Common.{◌≡◌, ◌∙◌, ◌+◌, ◌<◌, ◌^◌, [], false, length, get_or, refl, ap, sym, subst, arith}
use Rattle.kp_ast.specs.declared.tree.Job.{Job}
use Rattle.kp_stage.specs.Counts.{summary_of}
use Rattle.kp_machine.{specs.Slots.samples_of, proofs.Stages.stages_inside}
use Rattle.kp_sites.specs.Reports.{HasRoom}
use Rattle.kp_timing.specs.{declared.movement.Found.Found, Timed.Timed, Timed.IsCycle, inner.Kept.Advances, inner.Deciding.record_in, inner.Deciding.moves_by}
use Rattle.kp_timing.proofs.Keeping.{f, no_samples_declared, kept_next, hold_next, moves_same, waits_same, waits_past, row_shown, stages_are}
use Rattle.kp_timing.proofs.timeline.Timeline.cycle.Goals as goal

pub find-found-requires : goal.find-found-requires
find-found-requires c =
    let k = c.self.invariant in
    record { hold = k.holds; recorded = omega (arith, k.flights, stages_are k.sites); few = omega (arith, k.few, stages_are k.sites) }

pub row_of-row-requires : goal.row_of-row-requires
row_of-row-requires c =
    let k = c.self.invariant in
    record { hold = k.holds; few = omega (arith, k.few, stages_are k.sites) }

pub advance-requires : goal.advance-requires
advance-requires c =
    let t = c.self.inside in
    let k = c.self.invariant in
    let job = t.design.now.job in
    let all = c.stages-stages.ensures ∙ stages_are k.sites in
    record {
      samples = subst (λ (x : Job). samples_of x.decls ≡ []) (sym k.job_is) (no_samples_declared job k.plain.samples);
      hold = k.holds;
      flights = k.flights ∙ sym all;
      some = omega (arith, k.some, all);
      few = omega (arith, k.few, all);
      room = λ j l. subst (λ (x : Job). HasRoom x (record_in t.held j)) (sym k.job_is) (k.room j (omega (arith, l, all)));
      reads = subst (λ (x : Job). (summary_of x).reads < 2 ^ 32) (sym k.job_is) k.few_reads;
      results = subst (λ (x : Job). (summary_of x).results < 2 ^ 32) (sym k.job_is) k.few_results;
      parts = subst (λ (x : Job). length x.blocks ≡ x.stages.value) (sym k.job_is) (stages_inside job k.sites.rules);
      small = omega (arith, k.bound, ap (λ (x : Timed). x.cycles) c.self.view_is, c.requires);
    }

pub invariant_of-self : goal.invariant_of-self
invariant_of-self c =
    let t = c.self.inside in
    let k = c.self.invariant in
    let job = t.design.now.job in
    let all = c.stages-stages.ensures ∙ stages_are k.sites in
    let ad = subst (λ n. Advances t.machine t.held (f job t.start.now t.cycles t.machine t.sites t.held c.args.ext k).blocked n c.advance.new.machine c.advance.new.held) all
    (subst (λ (x : Found). Advances t.machine t.held x.blocked c.stages-stages.result c.advance.new.machine c.advance.new.held) c.find-found.ensures c.advance.ensures) in
    kept_next job t.start.now t.cycles t.machine t.sites t.held c.args.ext k c.advance.new.machine c.advance.new.held ad

pub returns : goal.returns
returns c =
    let t = c.self.inside in
    let k = c.self.invariant in
    let job = t.design.now.job in
    let all = c.stages-stages.ensures ∙ stages_are k.sites in
    let ad = subst (λ n. Advances t.machine t.held (f job t.start.now t.cycles t.machine t.sites t.held c.args.ext k).blocked n c.advance.new.machine c.advance.new.held) all
    (subst (λ (x : Found). Advances t.machine t.held x.blocked c.stages-stages.result c.advance.new.machine c.advance.new.held) c.find-found.ensures c.advance.ensures) in
    let after : Timed = record { job = job; start = t.start.now; cycles = t.cycles + 1; hold = c.advance.new.held.hold; waits = c.mask_of-self-inside.result } in
    subst (λ (x : Timed). IsCycle x c.args.ext c.row_of-row.result after) c.self.view_is (record {
      job = refl;
      start = refl;
      cycles = refl;
      shows = row_shown job.stages.value c.row_of-row.result _ _
          (λ j l. c.row_of-row.ensures.full j (omega (arith, l, all)))
          (λ j l.
          c.row_of-row.ensures.ue j (omega (arith, l, all))
          ∙ ap (λ (x : Found). moves_by t.held x.blocked j) c.find-found.ensures
          ∙ moves_same job t.start.now t.cycles t.machine t.sites t.held c.args.ext k j l)
          c.row_of-row.ensures.back;
      no_more_full = λ j l. c.row_of-row.ensures.no_more_full j (omega (arith, l, all));
      no_more_ue = λ j l. c.row_of-row.ensures.no_more_ue j (omega (arith, l, all));
      hold = λ j l. hold_next job t.start.now t.cycles t.machine t.sites t.held c.args.ext k c.advance.new.machine c.advance.new.held ad j l;
      waits = λ j l.
          c.mask_of-self-inside.ensures j ∙ ap (λ (x : Found). get_or x.waits j false) c.find-found.ensures
          ∙ waits_same job t.start.now t.cycles t.machine t.sites t.held c.args.ext k j l;
      others = λ j l.
          c.mask_of-self-inside.ensures j ∙ ap (λ (x : Found). get_or x.waits j false) c.find-found.ensures
          ∙ waits_past job t.start.now t.cycles t.machine t.sites t.held c.args.ext k j l;
    })
