use Rattle.std.proofs.Common.{◌≡◌, ◌∙◌, ◌++◌, OnOk, ap, sym, subst}
use Rattle.kp_ast.specs.Expressions.{names_in, names_in_kind, names_in_level}
use Rattle.kp_ast.proofs.Levels.{fold-Binary, fold-Mux}
use Rattle.kp_lint.specs.Tables.{value_of}
use Rattle.kp_lint.specs.inner.Noted.{noted}
use Rattle.kp_lint.proofs.Noting.{more_parts, three, two}
use Rattle.kp_lint.proofs.used.+uses.Goals as goal

pub add_expr-returns-in_ok-add_expr-in-Binary : goal.add_expr-returns-in_ok-add_expr-in-Binary
add_expr-returns-in_ok-add_expr-in-Binary t c =
    let e = c.args.e.now in
    let before = value_of c.args.used.now.entries in
    let last = c.add_expr-in-Binary in
    let a = c.get.result.now in
    let b = c.get-in-Binary.result.now in
    let parts : names_in e ≡ names_in a ++ names_in b =
    ap (λ k. names_in (record { place = e.place; kind = k })) c.in-Binary.is
    ∙ fold-Binary _ _ names_in_kind names_in_level e.place c.in-Binary.field-0 c.in-Binary.a c.in-Binary.b
    ∙ sym (λ i. names_in (c.get.ensures i) ++ names_in (c.get-in-Binary.ensures i)) in
    subst (λ names. OnOk last.result (value_of last.new.used.entries ≡ names))
    (two before (value_of c.add_expr.new.used.entries) (names_in a) (names_in b) c.in_ok-add_expr-in-Binary.ensures ∙ ap (noted before) (sym parts)) last.ensures

pub add_expr-returns-in_ok-add_expr-in-Mux-2 : goal.add_expr-returns-in_ok-add_expr-in-Mux-2
add_expr-returns-in_ok-add_expr-in-Mux-2 t c =
    let e = c.args.e.now in
    let before = value_of c.args.used.now.entries in
    let last = c.add_expr-in-Mux-3 in
    let test = c.get-in-Mux.result.now in
    let a = c.get-in-Mux-2.result.now in
    let b = c.get-in-Mux-3.result.now in
    let parts : names_in e ≡ names_in test ++ (names_in a ++ names_in b) =
    ap (λ k. names_in (record { place = e.place; kind = k })) c.in-Mux.is
    ∙ fold-Mux _ _ names_in_kind names_in_level e.place c.in-Mux.test c.in-Mux.a c.in-Mux.b
    ∙ sym (λ i. names_in (c.get-in-Mux.ensures i) ++ (names_in (c.get-in-Mux-2.ensures i) ++ names_in (c.get-in-Mux-3.ensures i))) in
    subst (λ names. OnOk last.result (value_of last.new.used.entries ≡ names))
    (three before (value_of c.add_expr-in-Mux.new.used.entries) (value_of c.add_expr-in-Mux-2.new.used.entries) (names_in test) (names_in a) (names_in b)
    c.in_ok-add_expr-in-Mux.ensures c.in_ok-add_expr-in-Mux-2.ensures ∙ ap (noted before) (sym parts)) last.ensures

pub add_exprs-loop-e-preserved : goal.add_exprs-loop-e-preserved
add_exprs-loop-e-preserved t c =
    more_parts names_in (value_of c.loop-e.used.entries) (value_of c.add_expr.new.used.entries) c.args.es.now c.loop-e.e-index c.e-item.result c.loop-e-test.true c.e-item.is c.in_ok-add_expr.ensures
    ∙ c.loop-e.invariant
