use Rattle.kp_debug.specs.inner.Standing.{IsSearched}
use Rattle.kp_debug.proofs.commands.search.Given as goal

abbrev pub invariant-loop : goal.invariant-loop
invariant-loop l = IsSearched l.job.design.job l.initial.session l.target l.value l.left l.counter l.session
