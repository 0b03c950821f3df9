use Rattle.std.proofs.Common.{◌∙◌}
use Rattle.kp_implements.proofs.netlists.a_netlist_that_shows_has_no_needless_stall.Goals as goal

-- src/laws.rt:34:1
pub returns : goal.returns
returns c net ins h q = (h.runs ins q).rows ∙ c.rows_of_a_design_are_the_timeline.ensures _ _ _
