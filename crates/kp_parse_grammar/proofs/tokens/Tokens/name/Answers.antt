use Rattle.std.proofs.{Common.refl, Common.sym, Common.◌∙◌, lemmas.Bool.eqb-true}
use Rattle.kp_parse_grammar.{specs.Language.as_name, specs.Language.at, proofs.Taking.missed_end, proofs.Taking.missed_kind, proofs.Taking.reads_name}
use Rattle.kp_parse_grammar.proofs.tokens.Tokens.name.Goals as goal

pub returns-in_default : goal.returns-in_default
returns-in_default c = record { ends = λ s cs vs. missed_end c.args.self.now c.args.at 1 c.in_default.ensures.token refl as_name s (at cs vs) }

pub returns-then-not-is_identifier : goal.returns-then-not-is_identifier
returns-then-not-is_identifier c = record { ends = λ s cs vs. missed_kind c.args.self.now c.args.at 1 _ _ c.in-Some.ensures.token (sym c.if-not-is_identifier.true ∙ c.is_identifier.ensures) as_name s (at cs vs) }

pub returns : goal.returns
returns c = rw c.in_ok-name.ensures (reads_name c.args.self.now c.args.at c.in-Some.next _ c.in-Some.ensures.token (eqb-true _ _ (sym c.is_identifier.ensures ∙ c.if-not-is_identifier.false)))
