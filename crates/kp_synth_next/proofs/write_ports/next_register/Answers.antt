use Rattle.std.proofs.Common.{◌≡◌, ◌∙◌, Some, None, subst, sym}
use Rattle.kp_design.specs.Fits.{port_at, ResultFits}
use Rattle.kp_synth_next.proofs.Writes.{register_none, register_some}
use Rattle.kp_synth_next.proofs.write_ports.next_register.Goals as goal

pub returns-in-Some-clause-gives : goal.returns-in-Some-clause-gives
returns-in-Some-clause-gives c =
    let e : port_at c.args.layout.now c.args.target ≡ Some c.in-Some.port = sym c.port.ensures.port ∙ c.in-Some.is in
    let f : ResultFits c.args.layout.now c.args.target (Some c.in-Some.port) = subst (ResultFits c.args.layout.now c.args.target) c.in-Some.is c.port.ensures.fits in
    register_some _ _ _ _ _ _ _ c.in-Some.port c.write_of-write.result.enabled c.write_of-write.result.value c.kept-own.result _ c.requires.target c.requires.register e f
    c.write_of-write.ensures.grown.kept c.kept-own.ensures.wire c.kept-own.ensures.value c.write_of-write.ensures.is_test c.write_of-write.ensures.gives c.choose.ensures.value

pub returns-in-None-clause-gives : goal.returns-in-None-clause-gives
returns-in-None-clause-gives c =
    let e : port_at c.args.layout.now c.args.target ≡ None = sym c.port.ensures.port ∙ c.in-None.is in
    register_none _ _ _ c.kept-own.result c.requires.target c.requires.register e c.kept-own.ensures.value
