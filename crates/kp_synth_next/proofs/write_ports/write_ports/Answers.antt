use Rattle.std.proofs.Common.{◌≡◌, ◌∙◌, ◌<◌, ℕ, [], ◌∷◌, length, length-append, false, sym, ap, subst, arith}
use Rattle.kp_pipeline.specs.Pipeline.{PipelineState, Inputs, next_visible}
use Rattle.kp_machine.specs.{Slots.targets_of, Slots.is_register, Machine.machine_of}
use Rattle.kp_net.{specs.Nodes.Cells, proofs.Growing.grown_then, proofs.Growing.grown_more}
use Rattle.kp_design.specs.Numbers.{target_at}
use Rattle.kp_synth_registers.{specs.Holding.Holds, proofs.Growth.ready_kept}
use Rattle.kp_synth_next.specs.{Nexts.PortFits, Nexts.port_word, Control.PortsFrom}
use Rattle.kp_synth_next.proofs.{Squashes.all_say_kept, Transport.updating_kept, Transport.ports_more}
use Rattle.kp_synth_next.proofs.write_ports.write_ports.Goals as goal

pub target_port-requires-clause-ready : goal.target_port-requires-clause-ready
target_port-requires-clause-ready c = ready_kept _ _ _ _ _ c.loop-t.invariant.grown.kept c.requires.ready

pub target_port-requires-clause-says : goal.target_port-requires-clause-says
target_port-requires-clause-says c = all_say_kept _ _ _ _ _ c.loop-t.invariant.grown.kept c.requires.says

pub target_port-requires-clause-updates : goal.target_port-requires-clause-updates
target_port-requires-clause-updates c = updating_kept _ _ _ _ _ c.loop-t.invariant.grown.kept c.requires.updates

pub loop-t-preserved : goal.loop-t-preserved
loop-t-preserved c =
    let v = c.loop-t.invariant in
    let l : c.loop-t.t < length (targets_of c.args.layout.now.decls) = omega (arith, c.loop-t-test.true, c.target_count-t-end.ensures) in
    let f = subst (λ (t : ℕ). PortFits c.args.layout.now c.target_port.new.pool t c.target_port.result) (sym v.count) c.target_port.ensures.fits in
    let i = subst (λ (t : ℕ). is_register (target_at c.args.layout.now t) ≡ false → (d : Cells) (st : PipelineState) (i : Inputs) → Holds c.args.layout.now d st i
    → (a : ℕ) → next_visible (machine_of c.args.layout.now) st i t a ≡ port_word d c.target_port.new.pool c.target_port.result a (st.visible t a)) (sym v.count) c.target_port.ensures.is in
    let m = ports_more _ c.loop-t.pool c.target_port.new.pool 9 c.loop-t.ports.items c.target_port.result c.target_port.ensures.grown.kept v.ports (omega (arith, v.count, l)) f i in
    record {
      count = ap length c.in_ok-push.ensures.items ∙ length-append c.loop-t.ports.items (c.target_port.result ∷ []) ∙ omega (arith, v.count);
      ports = subst (PortsFrom c.args.layout.now c.target_port.new.pool) (sym c.in_ok-push.ensures.items) m;
      grown = grown_more _ _ _ _ (grown_then _ _ _ _ _ v.grown c.target_port.ensures.grown) (omega arith);
    }
