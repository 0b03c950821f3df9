use Rattle.kp_vread.proofs.laws.a_netlist_with_its_outputs_shows_rows.Goals as goal

pub returns-clause-shows : goal.returns-clause-shows
returns-clause-shows c net h = record { ext = h.few; full = h.full; ue = h.ue; back = h.back }

pub returns-clause-has : goal.returns-clause-has
returns-clause-has c net h = record { few = h.ext; full = h.full; ue = h.ue; back = h.back }
