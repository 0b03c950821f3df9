use Rattle.kp_vread.proofs.laws.a_netlist_that_was_read_has_its_outputs.Goals as goal

pub returns : goal.returns
returns c at text net denotes =
    let named = c.a_text_denotes_a_named_netlist.ensures at text net denotes in
    record { few = named.at_most; full = named.full; ue = named.ue; back = named.back }
