use Rattle.std.{proofs.Common.◌∙◌, proofs.Common.ap, proofs.Common.subst, proofs.Common.sym, proofs.lemmas.Result.IfOk-weaker, specs.List.position}
use Rattle.kp_ast.specs.Expressions.{is_same_name}
use Rattle.kp_seq.{specs.inner.Resolved.Does, proofs.Resolved.does_let}
use Rattle.kp_seq.proofs.program.step_of.Goals as goal

pub returns-in-Read : goal.returns-in-Read
returns-in-Read c =
    IfOk-weaker _ _ _ (λ m h. subst (λ k. Does c.args.tables.now c.args.widths.now k m) (sym c.in-Read.is) h) c.read_of.ensures

pub returns-in_ok-value-in-Let : goal.returns-in_ok-value-in-Let
returns-in_ok-value-in-Let c =
    let place = c.place-place.ensures.place ∙ ap (position (is_same_name c.in-Let.named.name)) c.requires in
    does_let c.args.tables.now c.args.widths.now c.args.stmt.now c.in-Let.named c.in-Let.e c.place-place.result c.in_ok-value-in-Let.value c.in-Let.is place c.in_ok-value-in-Let.ensures
