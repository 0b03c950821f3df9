use Rattle.std.proofs.Common.{◌≡◌, ◌∙◌, ℕ, ◌+◌, ◌<◌, ◌≤◌, List, All, length, ap, arith, refl, subst, sym}
use Rattle.kp_base.specs.declared.row.Row as masks
use Rattle.kp_stage.specs.Start.{stall_word}
use Rattle.kp_sched.specs.Rows.{bit_of}
use Rattle.kp_net.specs.Netlist.{run}
use Rattle.kp_run.{specs.Cycles.inputs_to, proofs.Machines.stages_fit, proofs.Prefixes.rows_many}
use Rattle.kp_diagram_text.specs.declared.window.Placed.{Placed}
use Rattle.kp_diagram_run.{specs.inner.Walks.IsWalked, proofs.Walking.rows-then}
use Rattle.kp_diagram_run.proofs.window.pass_all.Goals as goal

pub next_cycle-row-requires-clause-samples : goal.next_cycle-row-requires-clause-samples
next_cycle-row-requires-clause-samples c = rw c.loop-cycle.invariant.at c.requires.shows.of_job.samples

pub pass-requires-clause-few : goal.pass-requires-clause-few
pass-requires-clause-few c =
    let many = rows_many c.args.job.now.design.job c.args.sim.now.net c.loop-cycle.cycle in
    omega (arith, c.loop-cycle.invariant.walked.seen.cycles, many, c.loop-cycle-test.true, c.requires.early)

pub pass-requires-clause-some : goal.pass-requires-clause-some
pass-requires-clause-some c = rw c.loop-cycle.invariant.walked.stages (stages_fit c.args.job.now.design.job c.job-kept.ensures.sound.stages).0

pub pass-requires-clause-twelve : goal.pass-requires-clause-twelve
pass-requires-clause-twelve c = c.loop-cycle.invariant.walked.twelve

pub pass-requires-clause-within : goal.pass-requires-clause-within
pass-requires-clause-within c =
    let walked = c.loop-cycle.invariant.walked in
    subst (λ (n : ℕ). All (λ (p : Placed). p.stage < n) c.loop-cycle.walk.flight.items) (sym walked.stages) walked.within

pub loop-cycle-preserved : goal.loop-cycle-preserved
loop-cycle-preserved c =
    let accepted = c.args.job.now in
    let job = accepted.design.job in
    let net = c.args.sim.now.net in
    let n = c.loop-cycle.cycle in
    let kept = c.loop-cycle.invariant in
    let ext : ℕ → ℕ → _ = λ T. bit_of (stall_word job T) in
    let word = c.word-word.ensures ∙ ap (λ (f : ℕ → ℕ). f c.from.result) accepted.stalls ∙ ap (stall_word job) c.from.ensures in
    record {
      at = c.next_cycle-row.ensures.sim net kept.at;
      room = c.next_cycle-row.ensures.room ∙ kept.room;
      walked = subst (λ (rows : List masks.Row). IsWalked job.stages.value ext rows c.pass.new.self) (rows-then job net n c.next_cycle-row.result (c.next_cycle-row.ensures.row net kept.at))
          (c.in_ok-pass.ensures job.stages.value ext (run net (inputs_to job n)).rows (ap ext (rows_many job net n) ∙ ap bit_of (sym word)) kept.walked);
    }
