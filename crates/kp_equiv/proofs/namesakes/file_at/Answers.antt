use Rattle.std.proofs.{Common.ap, Common.◌∙◌, Common.List, Common.get_or, lemmas.List.get_or_default}
use Rattle.kp_net.specs.{declared.netlist.NetFile.NetFile, declared.netlist.Parts.Parts, Parts.no_file}
use Rattle.kp_equiv.proofs.namesakes.file_at.Goals as goal

pub returns-clause-value : goal.returns-clause-value
returns-clause-value c =
    let f : NetFile = c.index-as_slice-i.result in
    c.index-as_slice-i.is ∙ ap (λ (fs : List NetFile). get_or fs c.args.i f) (c.as_slice.ensures ∙ ap (λ (p : Parts). p.files) c.parts.ensures.parts)
    ∙ get_or_default c.args.net.now.parts.files c.args.i f no_file c.requires
