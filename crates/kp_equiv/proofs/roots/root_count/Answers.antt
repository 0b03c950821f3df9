use Rattle.std.proofs.Common.{arith}
use Rattle.kp_equiv.proofs.Counting.{count_of_all}
use Rattle.kp_equiv.proofs.roots.root_count.Goals as goal

pub returns : goal.returns
returns c = λ other h. omega (arith, count_of_all c.args.net.now other h, c.reg_count.ensures.value, c.file_count.ensures.value)
