use Rattle.std.proofs.Common.{◌≡◌, ◌∙◌, ◌==◌, ◌-◌, ℕ, Bool, cond, sym, ap, arith}
use Rattle.kp_pipeline.specs.Pipeline.{ue}
use Rattle.kp_machine.specs.Machine.{machine_of}
use Rattle.kp_synth_registers.specs.declared.key.Key.TheVariants.{Pending, Guess}
use Rattle.kp_synth_registers.specs.Holding.{kept_in}
use Rattle.kp_synth_next.proofs.Transport.{pending_kept, guessed_kept}
use Rattle.kp_synth_next.proofs.next_values.guess_node.Goals as goal

pub returns-clause-pending_next : goal.returns-clause-pending_next
returns-clause-pending_next c = λ x st i h j z.
    let e : c.args.stage - 1 ≡ j = omega arith in
    let b = c.next_guess.ensures.is_pending x st i h in
    let f = rw e at b in
    let k = pending_kept c.args.layout.now c.args.pool.now c.next_guess.new.pool 2 j c.args.guess c.args.outs.now x c.next_guess.ensures.grown.kept c.requires.has.0 (c.requires.says.says j (omega (arith, c.requires.has.2, z))) in
    f ∙ ap (λ (y : Bool). cond (ue (machine_of c.args.layout.now) st i j) y (kept_in c.args.layout.now x (Pending c.args.guess c.args.stage) == 1)) (sym k)

pub returns-clause-value_next : goal.returns-clause-value_next
returns-clause-value_next c = λ x st i h j z.
    let e : c.args.stage - 1 ≡ j = omega arith in
    let b = c.next_guess.ensures.is_value x st i h in
    let f = rw e at b in
    let k = guessed_kept c.args.layout.now c.args.pool.now c.next_guess.new.pool 2 j c.args.guess c.args.outs.now x c.next_guess.ensures.grown.kept c.requires.has.0 (c.requires.says.says j (omega (arith, c.requires.has.2, z))) in
    f ∙ ap (λ (y : ℕ). cond (ue (machine_of c.args.layout.now) st i j) y (kept_in c.args.layout.now x (Guess c.args.guess c.args.stage))) (sym k)
