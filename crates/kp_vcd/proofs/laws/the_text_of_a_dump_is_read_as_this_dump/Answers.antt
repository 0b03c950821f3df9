use Rattle.kp_vcd.proofs.Round.{text_is_read}
use Rattle.kp_vcd.proofs.laws.the_text_of_a_dump_is_read_as_this_dump.Goals as goal

pub returns : goal.returns
returns c d fits = text_is_read d fits
