use Rattle.std.proofs.Common.{◌≡◌, ◌<◌, ◌≤◌, ◌++◌, false, ℕ, List, length, get_or, take, drop, refl, ap, sym, subst, arith, ◌∙◌}
use Rattle.std.specs.List.{refill}
use Rattle.kp_net.specs.Netlist.{Net, Input, State}
use Rattle.kp_cycle_plan.specs.{declared.codes.Step.Step, Storage.Stored, Storage.Fits, Storage.StateFits, Storage.state_of}
use Rattle.kp_cycle.specs.{Steps.given, inner.Settling.Settled}
use Rattle.kp_cycle.proofs.Stepping.{all_settled, fixed_settled, still_fixed, heads_fit}
use Rattle.kp_cycle.proofs.Settling.{fits_as, over_length, over_front, over_rest, refilled}
use Rattle.kp_cycle.proofs.nodes.settle.Goals as goal

pub show_regs-requires-clause-nodes : goal.show_regs-requires-clause-nodes
show_regs-requires-clause-nodes c = omega (arith, c.requires.plan.ordered.heads, c.requires.fits.nodes)

pub show_regs-requires-clause-regs : goal.show_regs-requires-clause-regs
show_regs-requires-clause-regs c = heads_fit c.args.net.now c.args.heads c.args.steps.now c.args.memory.now c.requires.plan c.requires.fits

pub all-init : goal.all-init
all-init c =
    let net = c.args.net.now in
    let m = c.args.memory.now in
    let n = c.show_regs.new.self in
    let e = c.show_regs.ensures in
    let few = heads_fit net c.args.heads c.args.steps.now m c.requires.plan c.requires.fits in
    let room : c.args.heads ≤ length m.nodes = omega (arith, c.requires.plan.ordered.heads, c.requires.fits.nodes) in
    let over : n.nodes ≡ take c.args.heads m.regs ++ drop c.args.heads m.nodes = ap (λ (x : Stored). x.nodes) e in
    let regs : n.regs ≡ m.regs = ap (λ (x : Stored). x.regs) e in
    let files : n.files ≡ m.files = ap (λ (x : Stored). x.files) e in
    let fits : Fits net n = fits_as net m n c.requires.fits (ap (λ (xs : List ℕ). length xs) over ∙ over_length m.regs m.nodes c.args.heads few room) regs files in
    let same : state_of m ≡ state_of n = λ i. record { regs = sym regs i; files = sym files i } in
    let P : State → Type 0 = StateFits net in
    let shown : (j : ℕ) → j < c.args.heads → get_or n.nodes j 0 ≡ get_or n.regs j 0 = λ j l. ap (λ (xs : List ℕ). get_or xs j 0) over ∙ over_front m.regs m.nodes c.args.heads few j l ∙ ap (λ (rs : List ℕ). get_or rs j 0) (sym regs) in (
      fits,
      fixed_settled net (given c.args.ext false c.args.samples.now) c.args.heads c.args.steps.now c.args.fixed m.nodes n c.requires.plan fits (subst P same c.requires.state) c.requires.widths c.requires.fixed shown (λ j l. ap (λ (xs : List ℕ). get_or xs j 0) over ∙ over_rest m.regs m.nodes c.args.heads few j l),
      regs,
      files,
      ap (λ (x : Stored). x.slots) e,
      c.requires.fixed.0,
    )

pub returns-clause-fixed : goal.returns-clause-fixed
returns-clause-fixed c =
    let net = c.args.net.now in
    let input = given c.args.ext false c.args.samples.now in
    let e : c.all.k ≡ length c.args.steps.now = omega (arith, c.all-test.false, c.all.invariant.5) in
    let P : ℕ → Type 0 = λ k. Settled net input c.args.heads c.args.steps.now k c.all.memory in
    still_fixed net input c.args.heads c.args.steps.now c.args.fixed c.args.memory.now.nodes c.all.memory c.requires.fits.right c.requires.plan c.requires.fixed (subst P e c.all.invariant.1)

pub returns-clause-known : goal.returns-clause-known
returns-clause-known c =
    let net = c.args.net.now in
    let input = given c.args.ext false c.args.samples.now in
    let e : c.all.k ≡ length c.args.steps.now = omega (arith, c.all-test.false, c.all.invariant.5) in
    let P : ℕ → Type 0 = λ k. Settled net input c.args.heads c.args.steps.now k c.all.memory in
    all_settled net input c.args.heads c.args.steps.now c.all.memory c.requires.plan (subst P e c.all.invariant.1)

-- a batch of steps was evaluated
module _ (net : Net) (input : Input) (heads : ℕ) (steps : List Step) (m : Stored) (old new : List ℕ) (k end : ℕ) (value : old ≡ m.nodes) (same : length new ≡ length old)
    (batch : Settled net input heads steps k (record m { nodes = old }) → Settled net input heads steps end (record m { nodes = new })) where
  many : length new ≡ length m.nodes
  many = same ∙ ap (λ (v : List ℕ). length v) value

  fits_batch : Fits net m → Fits net (record m { nodes = refill (length m.nodes) m.nodes new })
  fits_batch fits = fits_as net m _ fits (ap (λ (v : List ℕ). length v) (refilled m.nodes new many) ∙ many) refl refl

  settled_batch : Settled net input heads steps k m → Settled net input heads steps end (record m { nodes = refill (length m.nodes) m.nodes new })
  settled_batch settled =
      let P : List ℕ → Type 0 = λ v. Settled net input heads steps end (record m { nodes = v }) in
      subst P (sym (refilled m.nodes new many)) (batch (subst (λ v. Settled net input heads steps k (record m { nodes = v })) (sym value) settled))

pub take_one-requires-clause-fits : goal.take_one-requires-clause-fits
take_one-requires-clause-fits c =
    let input = given c.args.ext false c.args.samples.now in
    let t = c.take_batches-k in
    fits_batch c.args.net.now input c.args.heads c.args.steps.now c.all.memory c.nodes_mut.result.now t.new.nodes c.all.k t.result c.nodes_mut.ensures.value t.auto.nodes (t.ensures.settled input c.all.memory) c.all.invariant.0

pub take_one-requires-clause-settled : goal.take_one-requires-clause-settled
take_one-requires-clause-settled c =
    let input = given c.args.ext false c.args.samples.now in
    let t = c.take_batches-k in
    settled_batch c.args.net.now input c.args.heads c.args.steps.now c.all.memory c.nodes_mut.result.now t.new.nodes c.all.k t.result c.nodes_mut.ensures.value t.auto.nodes (t.ensures.settled input c.all.memory) c.all.invariant.1
