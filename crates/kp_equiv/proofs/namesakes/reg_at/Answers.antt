use Rattle.std.proofs.{Common.ap, Common.◌∙◌, Common.List, Common.get_or, lemmas.List.get_or_default}
use Rattle.kp_net.specs.{declared.netlist.NetReg.NetReg, declared.netlist.Parts.Parts, Parts.no_reg}
use Rattle.kp_equiv.proofs.namesakes.reg_at.Goals as goal

pub returns-clause-value : goal.returns-clause-value
returns-clause-value c =
    let r : NetReg = c.index-as_slice-i.result in
    c.index-as_slice-i.is ∙ ap (λ (rs : List NetReg). get_or rs c.args.i r) (c.as_slice.ensures ∙ ap (λ (p : Parts). p.regs) c.parts.ensures.parts)
    ∙ get_or_default c.args.net.now.parts.regs c.args.i r no_reg c.requires
