use Rattle.std.proofs.Common.{◌-◌, ◌≤◌, ℕ, get_or}
use Rattle.kp_base.specs.inner.Bytes.{WrittenUpTo}
use Rattle.kp_machine.specs.Words.{target}
use Rattle.kp_page.specs.{States.changes_of_words, inner.Seen.seen}
use Rattle.kp_page.proofs.states.write_words.Given as goal

abbrev pub invariant-loop-address : goal.invariant-loop-address
invariant-loop-address g l = record {
  text : WrittenUpTo (changes_of_words l.name (target l.job.design.job l.t).width (λ (a : ℕ). get_or l.old a 0) (seen l.job.design.job l.now l.t) 0 l.count)
      (changes_of_words l.name (target l.job.design.job l.t).width (λ (a : ℕ). get_or l.old a 0) (seen l.job.design.job l.now l.t) l.address (l.count - l.address))
      (g.K.Sink.held l.initial.sink) (g.K.Sink.held l.sink);
  later : g.K.Sink.faults l.initial.sink ≤ g.K.Sink.faults l.sink;
}
