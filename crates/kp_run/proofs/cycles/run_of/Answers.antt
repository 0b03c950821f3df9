use Rattle.std.proofs.Common.{◌≡◌, ◌∙◌, ap, subst, arith, refl, ℕ, [], ◌∷◌, ◌++◌, ◌+◌, length, List}
use Rattle.std.specs.Prelude.{vec_len}
use Rattle.kp_bits.specs.Word.{Word}
use Rattle.kp_net.specs.Netlist.{last_of}
use Rattle.kp_run.{specs.Cycles.inputs_to, specs.Cycles.input_at, specs.Cycles.HasRows, proofs.Steps.rows_next, proofs.Steps.rows_begin, proofs.Given.as_feeds}
use Rattle.kp_run.proofs.cycles.run_of.Goals as goal

pub open-requires : goal.open-requires
open-requires c =
    let outputs = c.requires.outputs in
    record { ext = outputs.few; full = outputs.full; ue = outputs.ue; back = outputs.back }

pub loop-cycle-init : goal.loop-cycle-init
loop-cycle-init c = (
  c.in_ok-sim.ensures,
  rw c.in_ok-rows.ensures.items (rows_begin c.args.job.now.design.job c.args.net.now c.monitor_of-monitor.result c.monitor_of-monitor.ensures.stages c.monitor_of-monitor.ensures.seen),
  c.in_ok-rows.ensures.len,
  c.in_ok-rows.ensures.capacity,
  rw c.as_mut_slice-room.ensures.value (ap (λ (l : List Word). length l) c.in_ok-samples.ensures ∙ as_feeds c.args.job.now.sections.inputs 0),
)

pub next_cycle-row-requires-clause-samples : goal.next_cycle-row-requires-clause-samples
next_cycle-row-requires-clause-samples c = rw c.loop-cycle.invariant.0 c.requires.samples

pub loop-cycle-preserved : goal.loop-cycle-preserved
loop-cycle-preserved c =
    let job = c.args.job.now.design.job in
    let net = c.args.net.now in
    let n = c.loop-cycle.cycle in
    let kept = c.loop-cycle.invariant in
    let ran = c.next_cycle-row.ensures in
    let items : c.push.new.self.items ≡ c.loop-cycle.rows.items ++ c.next_cycle-row.result ∷ [] = rw c.unwrap.ensures at c.push.ensures.items in
    let len : vec_len c.push.new.self ≡ vec_len c.loop-cycle.rows + 1 = rw c.unwrap.ensures at c.push.ensures.len in (
      ran.sim net kept.0,
      rw items (rows_next job net n (input_at job n) refl (last_of net (inputs_to job n)) c.next_cycle-row.result c.loop-cycle.rows.items c.loop-cycle.monitor c.cycle.new.self refl
          (ran.row net kept.0) kept.1 c.cycle.ensures.stages c.cycle.ensures.seen),
      len ∙ (let e : vec_len c.loop-cycle.rows + 1 ≡ n + 1 = omega (arith, kept.2) in e),
      (let grown = c.push.ensures.capacity in let room = kept.3 in omega (arith, grown, room)),
      ran.room ∙ kept.4,
    )

pub returns-clause-rows : goal.returns-clause-rows
returns-clause-rows c =
    let all : c.loop-cycle.cycle ≡ c.args.count = omega (arith, c.loop-cycle-test.false, c.loop-cycle.auto.cycle-end) in
    subst (λ (n : ℕ). HasRows c.args.job.now.design.job c.args.net.now n c.loop-cycle.rows.items c.loop-cycle.monitor) all c.loop-cycle.invariant.1
