-- The machine of a job that violates no rule is accepted.
use Rattle.std.proofs.Common.{◌≡◌, ℕ, ◌+◌, ◌<◌, ◌≤◌, [], ◌∷◌, Option, Some, None, true, not, ap, sym, subst, arith}
use Rattle.std.proofs.lemmas.Bool.{ltb-true, leb-true, not-true, leb-false}
use Rattle.std.specs.Prelude.{get_or, nat_lt, nat_le, is_some}
use Rattle.kp_ast.specs.declared.tree.{Named.Named, ResultDecl.ResultDecl, Job.Job}
use Rattle.kp_ast.specs.declared.tree.Decl.TheVariants as decls
use Rattle.kp_width.{specs.Widths.widths_of, proofs.Unbroken.Unbroken}
use Rattle.kp_stage.specs.{Facts.At, Facts.Facts, Facts.facts_of, Rules.holds_of, Rules.ask_pipe, declared.rules.Rule.Rule, Stages.broken_of}
use Rattle.kp_stage.proofs.{Unbroken.first_none, Unbroken.answer_none, Unbroken.found_none, Unbroken.stages_kept, Kept.rules_kept, Kept.decl_kept, Kept.stmts_kept}
use Rattle.kp_pipeline.specs.Accepted.{Accepted}
use Rattle.kp_machine.specs.Machine.{machine_of, result_for, write_stage_of, after_put, known_after, known_from_of}
use Rattle.kp_machine.{specs.Slots.sample_stages, proofs.Aims.aims_inside, proofs.Placing.stands}
use Rattle.kp_machine.proofs.{Results.Stands, Sampled.own_samples, Sampled.sample_stands}
use Rattle.kp_machine.proofs.Fitting.{some_from, stage_fits}

put_in_time : (w : ℕ) (o : Option At) → not (holds_of (λ at. nat_le w at.stage) o) ≡ true → after_put o ≤ w
put_in_time w None e = omega arith
put_in_time w (Some at) e = let h : at.stage < w = leb-false w at.stage (not-true (nat_le w at.stage) e) in omega arith

pipe_in_time : (facts : Facts) (w : ℕ) (o : Option Named) → ask_pipe facts w o ≡ None → known_after facts o ≤ w
pipe_in_time facts w None e = omega arith
pipe_in_time facts w (Some n) e = put_in_time w (facts.put n.name) (found_none _ _ (facts.put n.name) n.at e)

module _ (job : Job) (names : Unbroken (widths_of job)) (stages : broken_of job ≡ None) where
  abbrev facts : Facts
  facts = facts_of job

  some_stages : 1 ≤ job.stages.value
  some_stages = let more = (stages_kept facts job (rules_kept job stages)).0 in omega (arith, more)

  -- the result of a target is among the declarations
  found : (t : ℕ) → is_some (result_for job t) ≡ true → (r : ResultDecl) × ((result_for job t ≡ Some r) × Stands job.decls r)
  found t h =
      let r = some_from (result_for job t) h in
      (r.0, (r.1, (stands job names t r.0 r.1).0))

  writes : (t : ℕ) → is_some (result_for job t) ≡ true → write_stage_of (result_for job t) < job.stages.value
  writes t h =
      let r = found t h in
      let w : write_stage_of (result_for job t) ≡ r.0.stage.value = ap write_stage_of r.1.0 in
      let e : nat_lt r.0.stage.value facts.stages ≡ true =
      answer_none _ _ (decl_kept facts job (rules_kept job stages) Rule.E15 r.1.1.index (decls.Target r.0) r.1.1.there) in
      let b : r.0.stage.value < job.stages.value = ltb-true r.0.stage.value job.stages.value e in
      omega (arith, w, b)

  knows : (t : ℕ) → is_some (result_for job t) ≡ true → known_from_of facts (result_for job t) ≤ write_stage_of (result_for job t)
  knows t h =
      let r = found t h in
      let w = r.0.stage.value in
      let both = first_none (ask_pipe facts w r.0.address) (ask_pipe facts w r.0.enable ∷ [])
      (decl_kept facts job (rules_kept job stages) Rule.E19 r.1.1.index (decls.Target r.0) r.1.1.there) in
      let a : known_after facts r.0.address ≤ w = pipe_in_time facts w r.0.address both.0 in
      let b : known_after facts r.0.enable ≤ w = pipe_in_time facts w r.0.enable (first_none (ask_pipe facts w r.0.enable) [] both.1).0 in
      subst (λ o. known_from_of facts o ≤ write_stage_of o) (sym r.1.0) (omega (arith, a, b))

  window : (t : ℕ) → is_some (result_for job t) ≡ true → facts.top ≤ write_stage_of (result_for job t) + 1
  window t h =
      let r = found t h in
      let w : write_stage_of (result_for job t) ≡ r.0.stage.value = ap write_stage_of r.1.0 in
      let e : nat_le facts.top (r.0.stage.value + 1) ≡ true =
      answer_none _ _ (decl_kept facts job (rules_kept job stages) Rule.E24 r.1.1.index (decls.Target r.0) r.1.1.there) in
      let b : facts.top ≤ r.0.stage.value + 1 = leb-true facts.top (r.0.stage.value + 1) e in
      omega (arith, w, b)

  late : (x : ℕ) → get_or (sample_stages job.decls) x job.stages.value < job.stages.value → facts.top ≤ get_or (sample_stages job.decls) x job.stages.value + 1
  late x h =
      sample_stands job.decls x job.stages.value
      (λ j n w s there is.
      let e : nat_le facts.top (s.value + 1) ≡ true =
      answer_none _ _ (decl_kept facts job (rules_kept job stages) Rule.E35 j (decls.Sample n w s) there) in
      let b : facts.top ≤ s.value + 1 = leb-true facts.top (s.value + 1) e in
      omega (arith, is, b))
      (λ past. absurd (omega (arith, past, h)))

  pub accepted : Accepted (machine_of job)
  unfolding machine_of
  accepted = record {
    but_for_window = record {
      some_stages = some_stages;
      fits = λ k q p b. stage_fits job names stages k q p;
      own_samples = λ k q r p b same. own_samples job k (stmts_kept facts job (rules_kept job stages) Rule.E34 k) q r p same;
      late_samples = late;
      writes = writes;
      knows = knows;
      aims = λ x. aims_inside job stages some_stages x;
    };
    window = window;
  }
