use Rattle.kp_base.proofs.Writing.{◌▷◌, wrote_as}
use Rattle.kp_vwrite.{specs.Texts.right_text, proofs.Lines.concat_is}
use Rattle.kp_vwrite.proofs.nodes.write_right.Goals as goal

pub returns-in-Const : goal.returns-in-Const
unfolding right_text
returns-in-Const g c = rw c.in-Const.is ((rw c.word_of.ensures at c.write_literal.ensures) ▷ c.put.ensures)

pub returns-in-Sample : goal.returns-in-Sample
unfolding right_text
returns-in-Sample g c = rw c.in-Sample.is ((rw (c.sample_name.ensures, c.as_slice.ensures) at c.put-in-Sample.ensures) ▷ c.put-in-Sample-2.ensures)

pub returns-in-Reg : goal.returns-in-Reg
unfolding right_text
returns-in-Reg g c = rw c.in-Reg.is ((rw (c.reg_name.ensures, c.as_slice-in-Reg.ensures) at c.put-in-Reg.ensures) ▷ c.put-in-Reg-2.ensures)

pub returns-in-Concat : goal.returns-in-Concat
unfolding right_text
returns-in-Concat g c = rw c.in-Concat.is (wrote_as _ _ _ _ (concat_is _) ((rw c.nodes.ensures.nodes at c.write_joined.ensures) ▷ c.put-in-Concat.ensures))
