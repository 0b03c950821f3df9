use Rattle.std.proofs.Common.{◌∙◌, ap, sym}
use Rattle.kp_bits.specs.Word.{Word, word}
use Rattle.kp_net.specs.Netlist.{cells_of, stalled}
use Rattle.kp_synth_registers.specs.Holding.{kept_in}
use Rattle.kp_design.specs.{declared.guess.GuessSlot.GuessSlot, Numbers.guess_at, Spans.is_carried}
use Rattle.kp_synth_registers.specs.declared.key.Key.TheVariants.{Guess}
use Rattle.kp_stalls_run.proofs.{Sizes.guess_sized, GuessSteps.is_pending}
use Rattle.kp_stalls_run.proofs.guess_registers.pending.Goals as goal

pub returns-then-slot-register : goal.returns-then-slot-register
returns-then-slot-register c =
    let job = c.args.layout.now in
    let cells = cells_of (stalled 0) c.args.sim.now.state in
    let g = c.args.guess in
    let k = c.args.stage in
    let slot = c.guess-slot.ensures.slot in
    is_pending job cells k c.args.register g (guess_at job g) c.kept-then-slot-register.result
    (ap (λ (s : GuessSlot). is_carried s k) (sym slot) ∙ sym c.can_be_pending.ensures ∙ c.if-can_be_pending.true)
    (sym (ap (λ (w : Word). w.value) c.kept.ensures) ∙ sym c.value.ensures.value ∙ c.if-value-eq1.true)
    (ap (λ (s : GuessSlot). s.register) (sym slot) ∙ c.if-slot-register.true)
    (guess_sized job g c.requires.guess)
    (c.kept-then-slot-register.ensures ∙ ap (λ (s : GuessSlot). word s.width (kept_in job cells (Guess g k))) slot)
