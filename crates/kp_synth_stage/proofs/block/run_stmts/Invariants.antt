use Rattle.std.proofs.Common.{take}
use Rattle.kp_synth_registers.specs.Meaning.{Added}
use Rattle.kp_synth_stage.specs.{Work.stmts_at, Work.costs_of, inner.Standing.WorkOk, inner.Standing.AllGo}
use Rattle.kp_synth_stage.proofs.block.run_stmts.Given as goal

abbrev pub invariant-loop-j : goal.invariant-loop-j
invariant-loop-j l = record {
  work : WorkOk l.d.job l.k l.j l.pool l.work;
  goes : AllGo l.d.job l.k l.fn.pool l.fn.work l.sources l.pool l.work l.j;
  added : Added l.d.job l.fn.pool l.pool (costs_of l.d.job (take l.j (stmts_at l.d.job l.k)));
}
