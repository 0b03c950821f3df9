use Rattle.std.proofs.{Common.ap, lemmas.Result.IfOk-weaker}
use Rattle.kp_image.proofs.Given.{starts}
use Rattle.kp_vcd.specs.Text.{dump_text}
use Rattle.kp_tool.proofs.vcd.dumped.Goals as goal

pub synth-requires-clause-suits : goal.synth-requires-clause-suits
synth-requires-clause-suits c = rw c.args.job.now.start (starts _ c.job-kept.ensures.sound.names c.args.job.now.unbroken)

pub dump_of-requires : goal.dump_of-requires
dump_of-requires c = c.in_ok-net.ensures.shows

pub returns : goal.returns
returns c = IfOk-weaker c.dump_of.result _ _ (λ d same. ap dump_text same) c.dump_of.ensures
