use Rattle.std.proofs.Common.{◌∙◌, ◌<◌, List, length, get_or, ap, sym, subst, arith}
use Rattle.kp_synth_registers.specs.{Keys.HasKey, Keys.keys_of, declared.key.Key.Key, declared.key.Key.TheVariants.Full}
use Rattle.kp_synth_registers.proofs.Places.{key_had}
use Rattle.kp_synth_registers.proofs.registers.registers.Goals as goal

pub width_of-width-requires : goal.width_of-width-requires
width_of-width-requires c =
    let job = c.args.layout.now in
    let r = c.loop-r.r in
    let l : r < length (keys_of job) = omega (arith, c.loop-r-test.true, c.count-r-end.ensures.count, ap length c.requires.keys) in
    subst (HasKey job) (sym (c.key.ensures ∙ ap (λ (ks : List Key). get_or ks r (Full 0)) c.requires.keys)) (key_had job r l)
