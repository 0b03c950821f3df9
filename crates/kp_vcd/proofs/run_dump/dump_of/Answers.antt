use Rattle.std.proofs.Common.{◌≡◌, ◌∙◌, List, ap, ap₂, sym, subst, map}
use Rattle.kp_ast.specs.declared.tree.Decl.{Decl}
use Rattle.kp_net.specs.declared.netlist.NetReg.{NetReg}
use Rattle.kp_vcd.specs.inner.Shown.{places_from, ArePlaces}
use Rattle.kp_vcd.proofs.Placing.{are_places}
use Rattle.kp_vcd.proofs.run_dump.dump_of.Goals as goal

pub moments_of-requires-clause-places : goal.moments_of-requires-clause-places
moments_of-requires-clause-places c =
    let job = c.args.job.now.design.job in
    let net = c.args.net.now in
    let decls_are : c.as_slice-decls.result.now ≡ job.decls = c.as_slice-decls.ensures ∙ ap (λ (j : _). j.decls) c.job.ensures.job in
    let regs_are : c.as_slice.result.now ≡ net.parts.regs = c.as_slice.ensures ∙ ap (λ (p : _). p.regs) c.parts.ensures.parts in
    subst (ArePlaces job net) (sym c.as_slice-2.ensures.value)
    (are_places job net c.requires.of_job c.in_ok-places.places.items
    (c.in_ok-places.ensures ∙ ap₂ (λ (rs : List NetReg) (ds : List Decl). places_from (map (λ r. r.name) rs) ds) regs_are decls_are))
