use Rattle.std.proofs.Common.{subst}
use Rattle.kp_report.specs.inner.Targets.{StandsAt}
use Rattle.kp_debug.{specs.inner.Standing.HasAddresses, proofs.Places.register_is, proofs.Places.file_is}
use Rattle.kp_debug.proofs.states.write_target.Goals as goal

pub register_shown-value-requires-clause-register : goal.register_shown-value-requires-clause-register
register_shown-value-requires-clause-register g c =
    let stands = subst (StandsAt c.args.job.now.design.job c.args.t) c.in-Reg.is c.requires.stands in
    register_is c.args.job.now.design.job c.args.net.now c.args.session.now.net c.args.t c.register_named-number.result c.in-Reg.name c.in-Reg.field-1
    stands c.requires.net c.register_named-number.ensures

pub write_words-requires-clause-file : goal.write_words-requires-clause-file
write_words-requires-clause-file g c =
    let stands = subst (StandsAt c.args.job.now.design.job c.args.t) c.in-File.is c.requires.stands in
    let some = subst HasAddresses c.in-File.is c.requires.some in
    file_is c.args.job.now.design.job c.args.net.now c.args.session.now.net c.args.t c.file_named-number.result c.in-File.name c.in-File.field-1 c.in-File.address
    stands.0 some c.requires.net c.file_named-number.ensures
