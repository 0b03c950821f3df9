use Rattle.std.proofs.Common.{◌∙◌, ap, get_or}
use Rattle.kp_net.specs.declared.{node.Kind.TheVariants.Sample, node.Kind.TheVariants.Reg, node.Kind.TheVariants.Word, netlist.Parts.Parts}
use Rattle.kp_net.specs.Parts.{no_port, no_reg, no_file}
use Rattle.kp_equiv.{specs.Classes.place, proofs.Growing.source_shape}
use Rattle.kp_equiv.proofs.known.Known.kind.Goals as goal

pub returns-in-Sample : goal.returns-in-Sample
returns-in-Sample c =
    rw c.in-Sample.is (source_shape Sample (λ k. k.samples) (λ x. x.name) no_port c.index-as_slice-s.result _ c.args.self.now _ _ _ c.in-Sample.s c.place.result c.self.view_is c.as_slice.ensures
    (ap (λ (p : Parts). p.samples) c.parts-parts.ensures.parts) (rw c.in-Sample.is at c.requires.cell).0 c.index-as_slice-s.is c.place.ensures)

pub returns-in-Reg : goal.returns-in-Reg
returns-in-Reg c =
    rw c.in-Reg.is (source_shape Reg (λ k. k.regs) (λ x. x.name) no_reg c.index-as_slice-r.result _ c.args.self.now _ _ _ c.in-Reg.r c.place-in-Reg.result c.self.view_is c.as_slice-in-Reg.ensures
    (ap (λ (p : Parts). p.regs) c.parts-parts.ensures.parts) (rw c.in-Reg.is at c.requires.cell).0 c.index-as_slice-r.is c.place-in-Reg.ensures)

pub returns-in-Word : goal.returns-in-Word
returns-in-Word c =
    rw c.in-Word.is (source_shape (λ n. Word n c.class_of.result) (λ k. k.files) (λ x. x.name) no_file c.index-as_slice-f.result _ c.args.self.now _ _ _ c.in-Word.f c.place-in-Word.result c.self.view_is c.as_slice-in-Word.ensures
    (ap (λ (p : Parts). p.files) c.parts-parts.ensures.parts) (rw c.in-Word.is at c.requires.cell).0 c.index-as_slice-f.is c.place-in-Word.ensures ∙ ap (Word (place c.args.self.now.files (get_or c.args.net.now.parts.files c.in-Word.f no_file).name)) c.class_of.ensures)
