use Rattle.std.proofs.Common.{refl}
use Rattle.kp_implements.specs.{Naming.value_shown, Anew.trace_from}
use Rattle.kp_core.proofs.laws.show_and_peek_show_what_is_visible.Goals as goal

pub returns : goal.returns
unfolding trace_from value_shown
returns c = record { show = λ job net s ins i T t a. refl; peek = λ job net s ins i T t a. refl }
