use Rattle.std.proofs.Common.{append_assoc, append-nil}
use Rattle.kp_base.specs.Texts.{filled}
use Rattle.kp_base.proofs.Writing.{◌▷◌, wrote_as}
use Rattle.kp_vwrite.specs.Texts.{value_text}
use Rattle.kp_vwrite.proofs.state.write_value.Goals as goal

pub returns : goal.returns
unfolding value_text filled
returns g c = wrote_as _ _ _ _ (simp (append_assoc, append-nil)) ((rw c.bytes.ensures.bytes at c.fill.ensures) ▷ (c.write_literal.ensures ▷ c.put.ensures))
