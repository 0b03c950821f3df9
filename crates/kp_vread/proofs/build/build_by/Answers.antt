use Rattle.std.proofs.Common.{◌∙◌, List, All, refl, sym, subst}
use Rattle.kp_vlog.{specs.declared.tree.Item.Item, specs.Scope.scope_of, specs.Denote.made_by, specs.Denote.net_of, proofs.Sound.holds}
use Rattle.kp_vread.specs.inner.Building.{ItemFits, IsMade}
use Rattle.kp_vread.proofs.{Fitting.narrow, Fitting.all_fit, Fitting.ext_fits, Fitting.samples_fit, Fitting.started, Whole.net_same, Whole.net_ok}
use Rattle.kp_vread.proofs.build.build_by.Goals as goal

pub new-requires-clause-fit : goal.new-requires-clause-fit
new-requires-clause-fit c = subst (λ (xs : List Item). All ItemFits xs) (sym c.as_slice.ensures) (all_fit c.args.whole.now (holds c.args.whole.now c.requires.sound))

pub new-requires-clause-narrow : goal.new-requires-clause-narrow
new-requires-clause-narrow c = narrow c.args.whole.now (holds c.args.whole.now c.requires.sound) c.args.numbers.now.sizes c.requires.scope.sizes

pub parts-requires-clause-narrow : goal.parts-requires-clause-narrow
parts-requires-clause-narrow c = narrow c.args.whole.now (holds c.args.whole.now c.requires.sound) c.args.numbers.now.sizes c.requires.scope.sizes

pub parts-requires-clause-ext : goal.parts-requires-clause-ext
parts-requires-clause-ext c = ext_fits c.args.whole.now (holds c.args.whole.now c.requires.sound)

pub parts-requires-clause-samples : goal.parts-requires-clause-samples
parts-requires-clause-samples c = samples_fit c.args.whole.now (holds c.args.whole.now c.requires.sound)

pub parts-requires-clause-regs : goal.parts-requires-clause-regs
parts-requires-clause-regs c = started c.args.whole.now (net_ok c.args.whole.now (net_of c.args.whole.now) c.requires.samples c.requires.items c.requires.sound refl)

pub from_nodes-requires : goal.from_nodes-requires
from_nodes-requires c =
    let m = c.args.whole.now in
    let made = c.in_ok-made.made in
    net_ok m _ c.requires.samples c.requires.items c.requires.sound
    (net_same m c.args.numbers.now made.wires made.nodes.items c.in_ok-parts.parts c.requires.scope
    (subst (λ (xs : List Item). IsMade made.wires made.nodes.items (made_by (scope_of m) xs)) c.as_slice.ensures (c.in_ok-made.ensures (scope_of m) c.requires.scope)) c.in_ok-parts.ensures)

pub returns : goal.returns
returns c =
    let m = c.args.whole.now in
    let made = c.in_ok-made.made in
    c.from_nodes.ensures
    ∙ net_same m c.args.numbers.now made.wires made.nodes.items c.in_ok-parts.parts c.requires.scope
    (subst (λ (xs : List Item). IsMade made.wires made.nodes.items (made_by (scope_of m) xs)) c.as_slice.ensures (c.in_ok-made.ensures (scope_of m) c.requires.scope)) c.in_ok-parts.ensures
