use Rattle.kp_base.specs.Texts.{filled}
use Rattle.kp_vwrite.specs.Texts.{file_text}
use Rattle.kp_vwrite.proofs.header.write_file.Goals as goal

pub returns : goal.returns
unfolding file_text filled
returns g c = rw (c.from.ensures, c.bytes.ensures.bytes, c.from-2.ensures, c.word_count-last.ensures.value) at c.fill.ensures
