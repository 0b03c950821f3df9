use Rattle.std.proofs.Common.{◌≡◌, ◌≤◌, ◌++◌, map, drop}
use Rattle.kp_design.specs.{Numbers.guesses_in, inner.Tables.short_guess}
use Rattle.kp_design.proofs.tables.add_guesses.Given as goal

abbrev pub invariant-loop-stmt : goal.invariant-loop-stmt
invariant-loop-stmt l = record {
  few : l.index ≤ l.stmt-index;
  slots : l.slots.items ++ map short_guess (guesses_in l.job l.stage l.index (drop l.stmt-index l.block.stmts)) ≡ l.fn.slots.items ++ map short_guess (guesses_in l.job l.stage 0 l.block.stmts);
}
