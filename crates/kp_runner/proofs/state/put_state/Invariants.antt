use Rattle.std.proofs.Common.{◌≡◌, ◌++◌}
use Rattle.std.specs.Prelude.{option_map}
use Rattle.kp_seq.specs.Running.{state}
use Rattle.kp_runner.specs.Texts.{targets_text}
use Rattle.kp_runner.proofs.state.put_state.Given as goal

abbrev pub invariant-loop-t : goal.invariant-loop-t
invariant-loop-t l = l.out.items ≡ l.initial.out.items ++ targets_text l.layout (state l.first) (state l.last) (option_map (λ parts. parts.items) l.only) l.t
