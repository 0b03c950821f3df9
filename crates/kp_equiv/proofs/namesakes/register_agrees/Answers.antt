use Rattle.std.proofs.Common.{ap}
use Rattle.kp_net.specs.declared.netlist.NetReg.{NetReg}
use Rattle.kp_equiv.specs.{Alike.reg_name, Agreement.RegsAlike, Agreement.RegisterAgrees}
use Rattle.kp_equiv.proofs.{Ordered.register_found, Ordered.looked_up, Ordered.not_found, Places.registers}
use Rattle.kp_equiv.proofs.namesakes.register_agrees.Goals as goal

pub returns-in-None : goal.returns-in-None
returns-in-None c =
    let name = reg_name c.args.a.now c.args.i in
    not_found registers c.args.b.now.parts.regs name c.reg_at-reg.result.now c.args.regs.now (RegisterAgrees c.args.a.now c.args.b.now name) (λ h. (h.second, h.in_second, h.named_second))
    (ap (λ (r : NetReg). r.name) c.reg_at-reg.ensures.value) c.requires.names c.in-None.ensures

pub returns-in-Some : goal.returns-in-Some
returns-in-Some c =
    let a = c.args.a.now in
    let b = c.args.b.now in
    looked_up registers (RegsAlike a b) (RegisterAgrees a b) a.parts.regs b.parts.regs c.args.i c.in-Some.q c.reg_at-reg.result.now c.reg_at-other.result.now c.args.regs.now
    (λ q l. register_found a b c.args.i q c.requires.first.regs c.requires.second.regs c.requires.inside l) c.reg_at-reg.ensures.value c.reg_at-other.ensures.value
    c.requires.names c.in-Some.ensures c.regs_are_alike.result c.regs_are_alike.ensures
