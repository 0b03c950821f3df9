use Rattle.std.proofs.Common.{ℕ, length, ap, arith}
use Rattle.std.proofs.lemmas.List.Sums.{sum_by_more_le, sum_by-le, sum_by-take-le}
use Rattle.kp_net.specs.declared.netlist.NetFile.{NetFile}
use Rattle.kp_cycle_plan.proofs.memory.words_of.Goals as goal

pub overflow_add-sum : goal.overflow_add-sum
overflow_add-sum c =
    let f : NetFile → ℕ = λ x. length x.words in
    omega (arith, c.loop-file.invariant, c.loop-file-test.true, sum_by_more_le f c.args.files.now c.loop-file.file-index c.file-item.result c.loop-file-test.true, ap f c.file-item.is, sum_by-le f 65536 c.args.files.now c.requires.small, c.requires.few, ap length c.as_slice.ensures)

pub returns-clause-at_most : goal.returns-clause-at_most
returns-clause-at_most c =
    let f : NetFile → ℕ = λ x. length x.words in
    omega (arith, c.loop-file.invariant, sum_by-take-le f c.args.files.now c.loop-file.file-index, sum_by-le f 65536 c.args.files.now c.requires.small, c.requires.few)
