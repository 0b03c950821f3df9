use Rattle.std.proofs.Common.{◌≡◌, ℕ, ◌+◌, ◌*◌, ◌<◌, false, List, length, get_or, sym, ap, ◌∙◌}
use Rattle.std.specs.Prelude.{slice_range}
use Rattle.kp_bits.specs.Word.{Word}
use Rattle.kp_net.specs.{declared.netlist.Parts.Parts, declared.netlist.Port.Port, Netlist.Net, Netlist.Input, Netlist.row_of, Netlist.state_after}
use Rattle.kp_cycle.specs.Steps.{Running, given}
use Rattle.kp_debug.{specs.Sessions.inputs_of, specs.inner.Kept.no_input, proofs.Feeding.input_there}
use Rattle.kp_debug.proofs.cycles.run_one.Goals as goal

-- the input of a cycle, whose samples are sliced by the number of ports
given_there : (net : Net) (exts : List ℕ) (samples : List Word) (cycle ports : ℕ) → cycle < length exts → ports ≡ length net.parts.samples
    → given (get_or exts cycle 0) false (slice_range samples (cycle * ports) (cycle * ports + ports)) ≡ get_or (inputs_of (length net.parts.samples) exts samples) cycle no_input
given_there net exts samples cycle ports there same =
    sym (input_there (length net.parts.samples) exts samples cycle (cycle * ports) (cycle * ports + ports) there
    (ap (λ (n : ℕ). cycle * n) same) (ap (λ (n : ℕ). cycle * ports + n) same))

pub returns-clause-row : goal.returns-clause-row
returns-clause-row c =
    let sim = c.args.sim.now in
    let ports : length c.as_slice-ports.result.now ≡ length sim.net.parts.samples =
    ap (λ (l : List Port). length l) (c.as_slice-ports.ensures ∙ ap (λ (p : Parts). p.samples) (c.parts.ensures.parts ∙ ap (λ (n : Net). n.parts) c.netlist.ensures)) in
    c.step_with.ensures.row
    ∙ ap (λ (i : Input). row_of sim.net i sim.state) (given_there sim.net c.args.exts.now c.args.samples.now c.args.cycle (length c.as_slice-ports.result.now) c.requires.there ports)

pub returns-clause-state : goal.returns-clause-state
returns-clause-state c =
    let sim = c.args.sim.now in
    let ports : length c.as_slice-ports.result.now ≡ length sim.net.parts.samples =
    ap (λ (l : List Port). length l) (c.as_slice-ports.ensures ∙ ap (λ (p : Parts). p.samples) (c.parts.ensures.parts ∙ ap (λ (n : Net). n.parts) c.netlist.ensures)) in
    c.step_with.ensures.state
    ∙ ap (λ (i : Input). record sim { state = state_after sim.net i sim.state })
    (given_there sim.net c.args.exts.now c.args.samples.now c.args.cycle (length c.as_slice-ports.result.now) c.requires.there ports)
