use Rattle.std.proofs.Common.{◌≡◌, Bool, ℕ, List, false, [], ap, get_or, refl, ◌∙◌, sym, subst, ⊎_elim}
use Rattle.std.proofs.lemmas.Bool.{cases_Bool}
use Rattle.kp_bits.specs.Word.{Word}
use Rattle.kp_net.specs.{Nodes.at, Netlist.Net, Netlist.Input, Netlist.State, Netlist.cells_of, Netlist.resets, Parts.no_file}
use Rattle.kp_net.proofs.Resets.{reset_state}
use Rattle.kp_cycle.{specs.Steps.given, specs.inner.Settling.AreFixed, proofs.Clocking.state_is, proofs.Latching.next_value, proofs.Reached.fits_after}
use Rattle.kp_cycle_plan.specs.{Latches.latch_for, Latches.latched, Plans.OfRoots, Storage.Stored, Storage.StateFits, Storage.port_from, Storage.state_of}
use Rattle.kp_cycle_plan.proofs.Marking.{roots_are}
use Rattle.kp_cycle.proofs.sim.cycle.Goals as goal

-- the nodes that are read have their values in the cycle
settled_roots : (net : Net) (from ext : ℕ) (rst : Bool) (samples : List Word) (m0 m1 : Stored) (values : List ℕ) → from ≡ ext → m1.regs ≡ m0.regs → m1.files ≡ m0.files → values ≡ m1.nodes
    → OfRoots net (λ j. get_or m1.nodes j 0 ≡ at (cells_of (given from false samples) (state_of m1)) net.nodes j) → OfRoots net (λ j. get_or values j 0 ≡ at (cells_of (given ext rst samples) (state_of m0)) net.nodes j)
settled_roots net from ext rst samples m0 m1 values x er ef kept known =
    roots_are net (λ j. get_or m1.nodes j 0 ≡ at (cells_of (given from false samples) (state_of m1)) net.nodes j) (λ j. get_or values j 0 ≡ at (cells_of (given ext rst samples) (state_of m0)) net.nodes j)
    (λ j is. ap (λ (v : List ℕ). get_or v j 0) kept ∙ is ∙ (λ i. at (cells_of (given (x i) false samples) (record { regs = er i; files = ef i })) net.nodes j)) known

pub returns-clause-state : goal.returns-clause-state
returns-clause-state c =
    let net = c.args.net.now in
    let input : Input = given c.args.ext c.args.rst c.args.samples.now in
    let m0 = c.args.memory.now in
    let m1 = c.settle.new.memory in
    let m2 = c.clock.new.memory in
    let er : m1.regs ≡ m0.regs = c.settle.ensures.regs in
    let ef : m1.files ≡ m0.files = c.settle.ensures.files in
    let known = settled_roots net c.from.result c.args.ext c.args.rst c.args.samples.now m0 m1 m1.nodes c.from.ensures er ef refl c.settle.ensures.known in
    ⊎_elim
    (λ on. let k = c.clock.ensures.reset on in let f : m2.files ≡ m0.files = k.1 ∙ ef in
    (λ i. record { regs = k.0 i; files = f i }) ∙ sym (reset_state net input (state_of m0) on))
    (λ off.
    state_is net input (state_of m0) m1.nodes m2.regs m2.files c.requires.fits.right off c.requires.fits.files c.clock.ensures.fits.files known c.clock.ensures.fits.regs
    (λ r l. c.clock.ensures.regs off r l ∙ ap (λ (rs : List ℕ). latched m1.nodes (get_or rs r 0) (latch_for net r)) er
    ∙ next_value net input (state_of m0) m1.nodes r c.requires.fits.right c.requires.widths l (known.regs r l))
    (λ f l. c.clock.ensures.files off f l ∙ (λ i. port_from (get_or net.parts.files f no_file).port m1.nodes (get_or (ef i) f []))))
    (cases_Bool (resets net input))

pub returns-clause-fixed : goal.returns-clause-fixed
returns-clause-fixed c =
    let P : List ℕ → Type 0 = AreFixed c.args.net.now.nodes c.args.steps.now c.args.fixed in
    subst P (sym c.clock.ensures.nodes) c.settle.ensures.fixed

pub returns-clause-nodes : goal.returns-clause-nodes
returns-clause-nodes c =
    settled_roots c.args.net.now c.from.result c.args.ext c.args.rst c.args.samples.now c.args.memory.now c.settle.new.memory c.clock.new.memory.nodes c.from.ensures
    c.settle.ensures.regs c.settle.ensures.files c.clock.ensures.nodes c.settle.ensures.known

pub returns-clause-widths : goal.returns-clause-widths
returns-clause-widths c =
    let P : State → Type 0 = StateFits c.args.net.now in
    subst P (sym (returns-clause-state c)) (fits_after c.args.net.now (given c.args.ext c.args.rst c.args.samples.now) (state_of c.args.memory.now) c.requires.fits.right c.requires.fits.files c.requires.widths)
