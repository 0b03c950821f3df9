use Rattle.std.proofs.Common.{◌≡◌, drop}
use Rattle.kp_width.specs.Declarations.{parameters_of}
use Rattle.kp_width.proofs.declarations.add_params.Given as goal

abbrev pub invariant-loop-param : goal.invariant-loop-param
invariant-loop-param l =
    ((parameters_of l.i l.names (drop l.param-index l.params)).found ≡ (parameters_of l.i l.initial.names l.params).found)
    × (l.names.text ≡ l.initial.names.text)
    × (l.names.doubts ≡ l.initial.names.doubts)
