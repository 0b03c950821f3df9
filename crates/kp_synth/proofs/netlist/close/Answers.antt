use Rattle.std.proofs.Common.{◌∙◌, ap, sym, subst}
use Rattle.kp_net.specs.{declared.netlist.Parts.Parts, Names.IsNamed, Netlist.Net, Parts.PartsOk}
use Rattle.kp_synth_registers.proofs.Growth.{grown_added}
use Rattle.kp_synth_next.specs.Shows.{Shows}
use Rattle.kp_synth.{specs.inner.Built.Spelled, proofs.Assembled.Source, proofs.Assembled.parts_ok, proofs.Assembled.shows, proofs.Assembled.is_named}
use Rattle.kp_synth.proofs.netlist.close.Goals.{In_ok-parts}
use Rattle.kp_synth.proofs.netlist.close.Goals as goal

made : (c : In_ok-parts) → Source c.args.layout.now c.close_nodes.new.pool c.args.outs.now c.args.start.now c.in_ok-ends.ends.nexts.items c.in_ok-ends.ends.ports.items c.in_ok-ends.ends.row
made c =
    let e = c.in_ok-ends.ensures in
    record {
      names = c.assembled.ensures.names;
      stages = c.assembled.ensures.stages;
      begins = c.requires.begins;
      suits = c.requires.suits;
      next_count = e.nexts;
      port_count = e.ports;
      closes = e.closes;
      shows = e.shows;
      cells = (grown_added c.args.layout.now c.args.pool c.close_nodes.new.pool _ e.grown).fits c.requires.cells;
    }

pub close-requires : goal.close-requires
close-requires c =
    subst (PartsOk c.close_nodes.new.pool.nodes) (sym c.in_ok-parts.ensures.parts) (parts_ok c.args.layout.now _ _ c.args.start.now _ _ _ (made (goal.at.close-requires c).In_ok-parts))

pub returns-clause-shows : goal.returns-clause-shows
returns-clause-shows c =
    let net : Parts → Net = λ p. record { nodes = c.close_nodes.new.pool.nodes; parts = p } in
    subst (λ (n : Net). Shows n c.args.layout.now) (sym (c.close.ensures.net ∙ ap net c.in_ok-parts.ensures.parts)) (shows c.args.layout.now _ _ c.args.start.now _ _ _ (made (goal.at.returns-clause-shows c).In_ok-parts))

pub returns-clause-named : goal.returns-clause-named
returns-clause-named c =
    let net : Parts → Net = λ p. record { nodes = c.close_nodes.new.pool.nodes; parts = p } in
    subst IsNamed (sym (c.close.ensures.net ∙ ap net c.in_ok-parts.ensures.parts))
    (is_named c.args.layout.now _ _ c.args.start.now _ _ _ (made (goal.at.returns-clause-named c).In_ok-parts) (subst Spelled c.in_ok-parts.ensures.parts c.in_ok-parts.ensures.spelled))

pub returns-clause-contains : goal.returns-clause-contains
returns-clause-contains c =
    record { pool = c.close_nodes.new.pool; nodes = ap (λ (n : Net). n.nodes) c.close.ensures.net; kept = c.in_ok-ends.ensures.grown.kept }
