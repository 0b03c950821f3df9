use Rattle.std.proofs.Common.{◌∙◌, List, ap, sym, subst}
use Rattle.kp_vcd.specs.{declared.dump.Moment.Moment, Held.nothing, Held.after, Held.changes_to, Held.EachIsNew, Held.all_changes}
use Rattle.kp_vcd.proofs.Holding.{recorded_held, recorded_new}
use Rattle.kp_vcd.proofs.laws.the_changes_of_values_hold_them.Goals as goal

pub returns-clause-held : goal.returns-clause-held
returns-clause-held c d values n is lasts T s w h e =
    ap (λ (ms : List Moment). after nothing (changes_to T ms) s) is ∙ recorded_held values n lasts T h s w e

pub returns-clause-changes : goal.returns-clause-changes
returns-clause-changes c d values n is lasts =
    subst (λ (ms : List Moment). EachIsNew nothing (all_changes ms)) (sym is) (recorded_new values n lasts)
