use Rattle.std.proofs.Common.{◌∙◌, sym, arith}
use Rattle.kp_grammar.specs.Machine.{make}
use Rattle.kp_vread_parse.proofs.Picks.{behind_else}
use Rattle.kp_vread_parse.proofs.rights.after_name.Goals as goal

pub returns-in-None : goal.returns-in-None
returns-in-None c = record {
  leads = λ s vs o h. behind_else c.in-None.ensures (sym c.if-is.false ∙ c.is.ensures) (sym c.if-is-2.false ∙ c.is-2.ensures) (make (h));
  shrinks = omega arith;
}
