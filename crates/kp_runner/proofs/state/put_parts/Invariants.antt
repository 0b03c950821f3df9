use Rattle.std.proofs.Common.{◌≡◌, ◌++◌, drop}
use Rattle.kp_machine.specs.Words.{target}
use Rattle.kp_seq.specs.Running.{state}
use Rattle.kp_runner.specs.Texts.{parts_text}
use Rattle.kp_runner.proofs.state.put_parts.Given as goal

abbrev pub invariant-loop-part : goal.invariant-loop-part
invariant-loop-part l =
    l.out.items ++ parts_text l.t (target l.layout l.t) (state l.last l.t) (drop l.part-index l.parts)
    ≡ l.initial.out.items ++ parts_text l.t (target l.layout l.t) (state l.last l.t) l.parts
