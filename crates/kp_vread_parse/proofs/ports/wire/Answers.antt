use Rattle.std.proofs.Common.{arith, refl}
use Rattle.kp_grammar.specs.Machine.{goes}
use Rattle.kp_vread_parse.proofs.Picks.{goes_at, other}
use Rattle.kp_vread_parse.proofs.ports.wire.Goals as goal

pub returns-in-Some : goal.returns-in-Some
returns-in-Some c = record {
  leads = λ s vs o h. goes_at _ c.in-Some.ensures.0 refl (c.in-Some.ensures.1.leads _ _ _ h);
  shrinks = omega (arith, c.in-Some.ensures.1.shrinks);
}

pub returns-in-None : goal.returns-in-None
returns-in-None c = record {
  leads = λ s vs o h. goes _ (other _ _ _ _ c.in-None.ensures refl) h;
  shrinks = omega (arith);
}
