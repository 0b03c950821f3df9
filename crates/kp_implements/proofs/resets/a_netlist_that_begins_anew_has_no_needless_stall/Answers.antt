use Rattle.std.proofs.Common.{◌∙◌}
use Rattle.kp_implements.proofs.resets.a_netlist_that_begins_anew_has_no_needless_stall.Goals as goal

pub returns : goal.returns
returns c net st i ins h m r q = (h.runs st i ins m r q).rows ∙ c.rows_of_a_design_are_the_timeline.ensures _ _ _
