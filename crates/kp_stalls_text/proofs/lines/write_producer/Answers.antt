use Rattle.std.proofs.Common.{ap, sym}
use Rattle.kp_base.proofs.Writing.{◌▷◌, wrote_as}
use Rattle.kp_stalls_text.specs.Text.{producer_text}
use Rattle.kp_stalls_text.proofs.lines.write_producer.Goals as goal

pub returns-in-Some : goal.returns-in-Some
returns-in-Some g c = wrote_as _ _ _ _ (ap (producer_text c.args.report.now.names) (sym c.in-Some.is)) (c.write_instruction.ensures ▷ c.put.ensures)
