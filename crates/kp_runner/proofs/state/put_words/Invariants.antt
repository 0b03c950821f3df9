use Rattle.std.proofs.Common.{◌≡◌, ◌++◌}
use Rattle.kp_machine.specs.Words.{target}
use Rattle.kp_seq.specs.Running.{state}
use Rattle.kp_runner.specs.{Texts.kept_lines, inner.Keeping.keep_of}
use Rattle.kp_runner.proofs.state.put_words.Given as goal

abbrev pub invariant-loop-k : goal.invariant-loop-k
invariant-loop-k l =
    l.out.items ≡ l.initial.out.items ++ kept_lines (target l.layout l.t) (keep_of l.keep (state l.first l.t) (state l.last l.t)) (state l.last l.t) l.from l.k
