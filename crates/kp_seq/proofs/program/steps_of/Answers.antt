use Rattle.std.proofs.{Common.◌+◌, Common.◌++◌, Common.◌∷◌, Common.[], Common.subst, Common.sym, Common.take, lemmas.List.take_all}
use Rattle.kp_seq.{specs.inner.Resolved.Does, specs.inner.Resolved.DoesAll, proofs.Resolved.no_steps, proofs.Resolved.more_steps}
use Rattle.kp_seq.proofs.program.steps_of.Goals as goal

pub loop-stmt-init : goal.loop-stmt-init
loop-stmt-init c =
    let t = c.args.tables.now in
    let w = c.args.entry.now in
    subst (λ ws. DoesAll t w (take 0 c.args.stmts.now) c.new-steps.result.items ws) (sym c.in_ok-widths.ensures.items)
    (subst (λ ss. DoesAll t w (take 0 c.args.stmts.now) ss w) (sym c.new-steps.ensures.items) (no_steps t w))

pub loop-stmt-preserved : goal.loop-stmt-preserved
loop-stmt-preserved c =
    let t = c.args.tables.now in
    let w = c.args.entry.now in
    let m = c.in_ok-made.made in
    subst (λ ss. DoesAll t w (take (c.loop-stmt.stmt-index + 1) c.args.stmts.now) ss c.know.new.widths.items) (sym c.in_ok-push.ensures.items)
    (subst (DoesAll t w (take (c.loop-stmt.stmt-index + 1) c.args.stmts.now) (c.loop-stmt.steps.items ++ m.step ∷ [])) (sym c.know.ensures)
    (more_steps t w c.args.stmts.now c.loop-stmt.stmt-index c.stmt-item.result c.loop-stmt.steps.items c.loop-stmt.widths.items m c.loop-stmt-test.true c.stmt-item.is c.loop-stmt.invariant
    (subst (λ ws. Does t ws c.stmt-item.result.kind m) c.as_slice.ensures.value c.in_ok-made.ensures)))

pub returns : goal.returns
returns c = (
  c.loop-stmt.widths.items,
  subst (λ xs. DoesAll c.args.tables.now c.args.entry.now xs c.loop-stmt.steps.items c.loop-stmt.widths.items) (take_all c.loop-stmt.stmt-index c.args.stmts.now c.loop-stmt-test.false) c.loop-stmt.invariant,
)
