use Rattle.std.proofs.Common.{◌≡◌, ◌<◌, ◌≤◌, ℕ, List, length, get_or, take, ap, ◌∙◌, arith}
use Rattle.kp_base.specs.declared.row.Row.{Row}
use Rattle.kp_net.specs.Netlist.{Input, State, row_of, last_of}
use Rattle.kp_cycle.specs.Steps.{Running}
use Rattle.kp_debug.{specs.Sessions.inputs_of, specs.Sessions.row_there, specs.inner.Kept.no_input, proofs.Feeding.inputs_many}
use Rattle.kp_debug.proofs.{Passing.row_at_cycle, Passing.no_row_at_end, AtCycle.ins}
use Rattle.kp_debug.proofs.session.Session.row.Goals as goal

pub returns-then-self-len-clause-row : goal.returns-then-self-len-clause-row
returns-then-self-len-clause-row c =
    let s = c.self.inside in
    let many = inputs_many (length s.sim.net.parts.samples) s.exts.items s.samples.items in
    let end : length (ins s.sim.net s.exts.items s.samples.items) ≤ s.cycle = omega (arith, many, c.if-self-len.true, c.len.ensures) in
    no_row_at_end s.sim.net (ins s.sim.net s.exts.items s.samples.items) s.cycle end ∙ ap row_there c.self.view_is

pub returns-clause-row : goal.returns-clause-row
returns-clause-row c =
    let s = c.self.inside in
    let all : List Input = ins s.sim.net s.exts.items s.samples.items in
    let many = inputs_many (length s.sim.net.parts.samples) s.exts.items s.samples.items in
    let there : s.cycle < length all = omega (arith, many, c.if-self-len.false, c.len.ensures, c.self.invariant.there) in
    let same = c.save.ensures in
    let row : c.run_one-row.result ≡ row_of s.sim.net (get_or all s.cycle no_input) (last_of s.sim.net (take s.cycle all)) =
    c.run_one-row.ensures.row
    ∙ (λ i. row_of (same i).net (get_or (inputs_of (length (same i).net.parts.samples) (c.as_slice.ensures.value i) (c.as_slice-2.ensures.value i)) s.cycle no_input) (same i).state)
    ∙ ap (row_of s.sim.net (get_or all s.cycle no_input)) c.self.invariant.run in
    row_at_cycle s.sim.net all s.cycle c.run_one-row.result there row ∙ ap row_there c.self.view_is
