use Rattle.std.proofs.Common.{◌∙◌, ◌++◌, ◌∷◌, [], ap, arith}
use Rattle.kp_grammar.specs.Machine.{make}
use Rattle.kp_vread_parse.proofs.Steps.{on_top, exits}
use Rattle.kp_vlog.specs.Language.{updates}
use Rattle.kp_vread_parse.proofs.edges.only_updates.Goals as goal

pub returns-in_err-next : goal.returns-in_err-next
returns-in_err-next c =
    exits _ _ _ c.from_residual-in_err-next.ensures.1 c.in_err-next.ensures (λ o h s vs. make (on_top updates (c.in_ok-push.ensures.items ∙ ap (λ us. us ++ c.args.first ∷ []) c.requires) (h _ _)))

pub returns : goal.returns
returns c = record {
  leads = λ s vs o h. make (on_top updates (c.in_ok-push.ensures.items ∙ ap (λ us. us ++ c.args.first ∷ []) c.requires) (c.in_ok-next.ensures.leads _ _ _ h));
  shrinks = omega (arith, c.in_ok-next.ensures.shrinks);
}
