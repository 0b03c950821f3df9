use Rattle.std.proofs.Common.{◌+◌, ◌∙◌, length, ap, refl}
use Rattle.kp_diagram.specs.{Claims.cycles_of, Diagram.Filling, Flights.losses_from}
use Rattle.kp_diagram.proofs.{Adding.adds-up, Parts.shown-back, Parts.shown-on, Windows.account-windowed}
use Rattle.kp_diagram.proofs.laws.a_window_is_a_part.Goals as goal

pub returns-clause-cells : goal.returns-clause-cells
returns-clause-cells c = λ A fetches i T k. shown-back A T k i fetches

pub returns-clause-all : goal.returns-clause-all
returns-clause-all c = λ A fetches i T k. shown-on A T k i fetches

pub returns-clause-total : goal.returns-clause-total
returns-clause-total c = λ last ext before rows.
    ap cycles_of (account-windowed last ext (length before) before rows refl)
    ∙ adds-up last (λ u. ext (length before + u)) 0 (losses_from ext 0 (λ k. Filling) before) rows
