use Rattle.std.proofs.Common.{◌≡◌, ℕ, suc, ◌+◌, ◌-◌, ◌≤◌, List, length, sym, ap, subst, arith}
use Rattle.kp_synth_registers.specs.{declared.outcome.Outcome.Outcome, Meaning.Added}
use Rattle.kp_synth_registers.proofs.Growth.{grown_added, added_more, ready_kept}
use Rattle.kp_synth_stage.specs.declared.row.Source.{Source}
use Rattle.kp_build.specs.Names.{Scope}
use Rattle.kp_synth.specs.{inner.Descending.Faces, inner.Descending.NamedFrom, inner.Descending.SayFrom, Stages.stages_room}
use Rattle.kp_synth.proofs.Naming.{all_named, none_named}
use Rattle.kp_synth.proofs.Following.{room_for, first_room, faces_top, all_say, none_said, more_added, last_added, whole_slice}
use Rattle.kp_synth.proofs.Rules.{rules_of}
use Rattle.kp_synth.proofs.stages.run_stages.Goals as goal

pub one_more-requires-clause-rules : goal.one_more-requires-clause-rules
one_more-requires-clause-rules c = rules_of c.design.result.now c.args.layout.now c.design.ensures c.job-job.ensures.sound

pub first-requires-clause-rules : goal.first-requires-clause-rules
first-requires-clause-rules c = rules_of c.design.result.now c.args.layout.now c.design.ensures c.job-job.ensures.sound

pub loop-j-init : goal.loop-j-init
loop-j-init c =
    let job = c.args.layout.now in
    let sources = c.in_ok-sources.ensures in
    record {
      faces = faces_top job _ _ c.bit-higher.result (c.stages-n.result - 1) (omega (arith, c.stages-n.ensures.stages, c.stages-n.ensures.fits.at_least)) sources.sources sources.few sources.sees
          c.bit-higher.ensures.wire c.bit-higher.ensures.value;
      says = none_said job c.bit-higher.new.pool (suc (c.stages-n.result - 1)) c.new-outcomes.result.items c.new-outcomes.ensures.items;
      count = ap (λ (os : List Outcome). suc (length os)) c.new-outcomes.ensures.items;
      names = none_named job c.bit-higher.new.pool (suc (c.stages-n.result - 1)) c.new-names.result.items c.new-names.ensures.items;
      name_count = ap (λ (envs : List Scope). suc (length envs)) c.new-names.ensures.items;
      added = added_more job _ _ 1 _ (grown_added job _ _ 1 c.bit-higher.ensures.grown) (omega arith);
    }

pub one_more-requires-clause-room : goal.one_more-requires-clause-room
one_more-requires-clause-room c =
    let job = c.args.layout.now in
    let k : ℕ = c.stages-n.result - c.loop-j.j in
    let d : ℕ = length c.loop-j.stages.outcomes.items in
    let z : job.stages.value ≡ k + suc d = omega (arith, c.stages-n.ensures.stages, c.loop-j.invariant.count, c.loop-j-test.true) in
    room_for job job.stages.value k d c.args.pool.now.spare c.loop-j.pool.spare z c.requires.room c.loop-j.invariant.added.kept.room

pub loop-j-preserved : goal.loop-j-preserved
loop-j-preserved c =
    let job = c.args.layout.now in
    let r = c.one_more.new.pool in
    let k : ℕ = c.stages-n.result - c.loop-j.j in
    let k' : ℕ = c.stages-n.result - (c.loop-j.j + 1) in
    let v = c.loop-j.invariant in
    let h = c.in_ok-higher.ensures in
    let z : k ≡ suc k' = omega (arith, c.loop-j-test.true) in
    let f : Faces job r c.one_more.new.sources c.in_ok-higher.higher k' = h.faces k' z in
    let a : length c.one_more.new.sources ≡ length c.loop-j.sources.items = omega (arith, f.sources.count, v.faces.sources.count) in
    let b : length c.one_more.new.sources ≡ c.loop-j.sources.len = omega (arith, ap length c.as_mut_slice.ensures.value, c.as_mut_slice.ensures.len, a) in
    record {
      faces = subst (λ (ss : List Source). Faces job r ss c.in_ok-higher.higher k') (sym (whole_slice c.one_more.new.sources c.loop-j.sources.items c.loop-j.sources.len b (omega (arith, a)))) f;
      says = subst (λ x. SayFrom job r x c.one_more.new.stages.outcomes.items) z h.says;
      count = omega (arith, h.count, v.count);
      names = subst (λ x. NamedFrom job r x c.one_more.new.stages.names.items) z h.names;
      name_count = omega (arith, h.name_count, v.name_count);
      added = subst (λ x. Added job c.args.pool.now r (stages_room job x (length c.one_more.new.stages.outcomes.items) + 1)) z
          (subst (λ m. Added job c.args.pool.now r (stages_room job k m + 1)) (sym h.count) (more_added job _ _ _ k (length c.loop-j.stages.outcomes.items) v.added h.added));
    }

pub first-requires-clause-room : goal.first-requires-clause-room
first-requires-clause-room c =
    let job = c.args.layout.now in
    let d : ℕ = length c.loop-j.stages.outcomes.items in
    let v = c.loop-j.invariant in
    let y : c.stages-n.result - c.loop-j.j ≡ 0 = omega (arith, c.loop-j-test.false) in
    let z : job.stages.value ≡ suc d = omega (arith, c.stages-n.ensures.stages, v.count, c.loop-j-test.false) in
    first_room job job.stages.value d c.args.pool.now.spare c.loop-j.pool.spare z c.requires.room
    (subst (λ x. c.args.pool.now.spare ≤ c.loop-j.pool.spare + (stages_room job (suc x) d + 1)) y v.added.kept.room)

pub returns-clause-says : goal.returns-clause-says
returns-clause-says c =
    all_say c.args.layout.now c.first.new.pool c.first.new.stages.outcomes.items c.in_ok-first.ensures.says
    (omega (arith, c.stages-n.ensures.stages, c.loop-j.invariant.count, c.loop-j-test.false, c.in_ok-first.ensures.count))

pub returns-clause-added : goal.returns-clause-added
returns-clause-added c =
    let job = c.args.layout.now in
    let d : ℕ = length c.loop-j.stages.outcomes.items in
    let v = c.loop-j.invariant in
    let y : c.stages-n.result - c.loop-j.j ≡ 0 = omega (arith, c.loop-j-test.false) in
    let z : job.stages.value ≡ suc d = omega (arith, c.stages-n.ensures.stages, v.count, c.loop-j-test.false) in
    last_added job _ _ _ job.stages.value d z (subst (λ x. Added job c.args.pool.now c.loop-j.pool (stages_room job (suc x) d + 1)) y v.added) c.in_ok-first.ensures.added

pub sources_in-requires : goal.sources_in-requires
sources_in-requires c = record { ready = ready_kept _ _ _ _ _ c.bit-higher.ensures.grown.kept c.requires.ready }

pub one_more-requires-clause-ready : goal.one_more-requires-clause-ready
one_more-requires-clause-ready c = ready_kept _ _ _ _ _ c.loop-j.invariant.added.kept c.requires.ready

pub first-requires-clause-ready : goal.first-requires-clause-ready
first-requires-clause-ready c = ready_kept _ _ _ _ _ c.loop-j.invariant.added.kept c.requires.ready

pub returns-clause-name_count : goal.returns-clause-name_count
returns-clause-name_count c = omega (arith, c.stages-n.ensures.stages, c.loop-j.invariant.name_count, c.loop-j-test.false, c.in_ok-first.ensures.name_count)

pub returns-clause-names : goal.returns-clause-names
returns-clause-names c =
    all_named c.args.layout.now c.first.new.pool c.first.new.stages.names.items c.in_ok-first.ensures.names
    (omega (arith, c.stages-n.ensures.stages, c.loop-j.invariant.name_count, c.loop-j-test.false, c.in_ok-first.ensures.name_count))
