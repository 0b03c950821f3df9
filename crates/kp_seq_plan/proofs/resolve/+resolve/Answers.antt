use Rattle.std.proofs.{Common.arith, Common.refl, Common.ap, Common.subst, Common.sym, Common.take, Common.◌≤◌, Common.◌∙◌, lemmas.Result.IfOk-weaker}
use Rattle.std.proofs.lemmas.List.{take_all, Sums.sum_by_push}
use Rattle.kp_ast.{specs.declared.tree.Decl.Decl, proofs.Weight.weight, proofs.Weight.weight_of}
use Rattle.kp_ast.specs.declared.tree.Decl.TheVariants as decls
use Rattle.kp_seq_plan.specs.declared.plan.Plan.TheViews as plans
use Rattle.kp_seq_plan.specs.Plans.{Means, AllMean, MeansBody}
use Rattle.kp_seq_plan.proofs.Meaning.{means_Lit, means_Name, means_Not, means_Binary, means_Mux, means_Concat, means_Slice, means_Zext, means_Sext, means_Call}
use Rattle.kp_seq_plan.proofs.Calling.{wrong_count, right_count, called_here, called_before, called_nowhere, none_mean, more_mean}
use Rattle.kp_seq_plan.proofs.resolve.+resolve.Goals as goal

pub plan_of-returns-in-Lit : goal.plan_of-returns-in-Lit
plan_of-returns-in-Lit t c =
    means_Lit c.args.decls.now c.args.scope c.args.e.now c.in-Lit.literal c.literal.result c.in-Lit.is c.literal.ensures

pub plan_of-returns-in-Name : goal.plan_of-returns-in-Name
plan_of-returns-in-Name t c =
    means_Name c.args.decls.now c.args.scope c.args.e.now c.in-Name.name c.place_of.result c.in-Name.is c.place_of.ensures

pub plan_of-returns-in_ok-a-in-Not : goal.plan_of-returns-in_ok-a-in-Not
plan_of-returns-in_ok-a-in-Not t c =
    means_Not c.args.decls.now c.args.scope c.args.e.now c.in-Not.a c.get.result.now c.in_ok-a-in-Not.a c.in-Not.is c.get.ensures c.in_ok-a-in-Not.ensures

pub plan_of-returns-in_ok-a-in-Binary : goal.plan_of-returns-in_ok-a-in-Binary
plan_of-returns-in_ok-a-in-Binary t c =
    means_Binary c.args.decls.now c.args.scope c.args.e.now c.in-Binary.op c.in-Binary.a c.in-Binary.b c.get-in-Binary.result.now c.get-in-Binary-2.result.now
    c.in_ok-a-in-Binary.a c.in_ok-a-in-Binary.b c.in-Binary.is c.get-in-Binary.ensures c.get-in-Binary-2.ensures c.in_ok-a-in-Binary.ensures.0 c.in_ok-a-in-Binary.ensures.1

pub plan_of-returns-in-Ok : goal.plan_of-returns-in-Ok
plan_of-returns-in-Ok t c =
    means_Mux c.args.decls.now c.args.scope c.args.e.now c.in-Mux.test c.in-Mux.a c.in-Mux.b c.get-in-Mux.result.now c.get-in-Mux-2.result.now c.get-in-Mux-3.result.now
    c.in_ok-test-in-Mux.test c.in-Ok.a c.in-Ok.b c.in-Mux.is c.get-in-Mux.ensures c.get-in-Mux-2.ensures c.get-in-Mux-3.ensures c.in_ok-test-in-Mux.ensures c.in-Ok.ensures.0 c.in-Ok.ensures.1

pub plan_of-returns-in_ok-a-in-Slice : goal.plan_of-returns-in_ok-a-in-Slice
plan_of-returns-in_ok-a-in-Slice t c =
    means_Slice c.args.decls.now c.args.scope c.args.e.now c.in-Slice.a c.get-in-Slice.result.now c.in-Slice.hi c.in-Slice.lo c.in_ok-a-in-Slice.a c.in-Slice.is c.get-in-Slice.ensures c.in_ok-a-in-Slice.ensures

pub plan_of-returns-in_ok-a-in-Zext : goal.plan_of-returns-in_ok-a-in-Zext
plan_of-returns-in_ok-a-in-Zext t c =
    means_Zext c.args.decls.now c.args.scope c.args.e.now c.in-Zext.a c.get-in-Zext.result.now c.in-Zext.width c.in_ok-a-in-Zext.a c.in-Zext.is c.get-in-Zext.ensures c.in_ok-a-in-Zext.ensures

pub plan_of-returns-in_ok-a-in-Sext : goal.plan_of-returns-in_ok-a-in-Sext
plan_of-returns-in_ok-a-in-Sext t c =
    means_Sext c.args.decls.now c.args.scope c.args.e.now c.in-Sext.a c.get-in-Sext.result.now c.in-Sext.width c.in_ok-a-in-Sext.a c.in-Sext.is c.get-in-Sext.ensures c.in_ok-a-in-Sext.ensures

pub plan_of-returns-in_ok-args-in-Call : goal.plan_of-returns-in_ok-args-in-Call
plan_of-returns-in_ok-args-in-Call t c =
    IfOk-weaker _ _ _ (λ p h. means_Call c.args.decls.now c.args.scope c.args.e.now c.in-Call.name c.in-Call.args c.as_slice-in-Call.result.now c.in_ok-args-in-Call.args.items p
    c.in-Call.is c.as_slice-in-Call.ensures c.in_ok-args-in-Call.ensures h) c.call_of.ensures

pub plans_of-loop-e-init : goal.plans_of-loop-e-init
plans_of-loop-e-init t c =
    subst (AllMean c.args.decls.now c.args.scope (take 0 c.args.es.now)) (sym c.new-plans.ensures.items) (none_mean c.args.decls.now c.args.scope)

pub plans_of-loop-e-preserved : goal.plans_of-loop-e-preserved
plans_of-loop-e-preserved t c =
    subst (AllMean c.args.decls.now c.args.scope (take _ c.args.es.now)) (sym c.in_ok-push.ensures.items)
    (more_mean c.args.decls.now c.args.scope c.args.es.now c.loop-e.e-index c.e-item.result c.loop-e.plans.items c.in_ok-plan.plan c.loop-e-test.true c.e-item.is c.loop-e.invariant c.in_ok-plan.ensures)

pub call_of-returns-in-None : goal.call_of-returns-in-None
call_of-returns-in-None t c =
    called_nowhere c.args.decls.now c.in-None.ensures.cases c.args.name.now c.args.args.items

pub plan_of-returns-in_ok-parts-in-Concat : goal.plan_of-returns-in_ok-parts-in-Concat
plan_of-returns-in_ok-parts-in-Concat t c =
    subst (λ ps. Means c.args.decls.now c.args.scope c.args.e.now (plans.Concat ps)) (sym c.new.ensures)
    (means_Concat c.args.decls.now c.args.scope c.args.e.now c.in-Concat.parts c.as_slice.result.now c.in_ok-parts-in-Concat.parts.items c.in-Concat.is c.as_slice.ensures c.in_ok-parts-in-Concat.ensures)

pub call_of-returns-then-is_function : goal.call_of-returns-then-is_function
call_of-returns-then-is_function t c =
    IfOk-weaker _ _ _ (λ p h. called_here c.args.decls.now c.in-Some.earlier.now c.in-Some.decl.now c.in-Some.ensures.cases.0 c.args.name.now c.args.args.items p (sym c.is_function.ensures ∙ c.if-is_function.true) h) c.body_of.ensures

pub call_of-returns-else-is_function : goal.call_of-returns-else-is_function
call_of-returns-else-is_function t c =
    IfOk-weaker _ _ _ (λ p h. called_before c.args.decls.now c.in-Some.earlier.now c.in-Some.decl.now c.in-Some.ensures.cases.0 c.args.name.now c.args.args.items p (sym c.is_function.ensures ∙ c.if-is_function.false) h) c.call_of.ensures

pub body_of-returns-then-len-params : goal.body_of-returns-then-len-params
body_of-returns-then-len-params t c =
    wrong_count c.args.earlier.now c.args.args.items c.args.decl.now c.in-Func.f c.in-Func.is c.as_slice-params.result.now c.as_slice-params.ensures (λ e. c.if-len-params.true (omega (arith, e)))

pub body_of-returns-in_ok-body-in-Func : goal.body_of-returns-in_ok-body-in-Func
body_of-returns-in_ok-body-in-Func t c =
    subst (λ xs. MeansBody c.args.earlier.now c.args.decl.now c.args.args.items (plans.Call xs c.in_ok-body-in-Func.body)) (sym c.new.ensures)
    (right_count c.args.earlier.now c.args.args.items c.args.decl.now c.in-Func.f c.in-Func.is c.as_slice-params.result.now c.as_slice-params.ensures c.in_ok-body-in-Func.body (omega arith) _ (λ q. refl) c.in_ok-body-in-Func.ensures)

pub plans_of-returns : goal.plans_of-returns
plans_of-returns t c =
    subst (λ es. AllMean c.args.decls.now c.args.scope es c.loop-e.plans.items) (take_all c.loop-e.e-index c.args.es.now c.loop-e-test.false) c.loop-e.invariant

-- the work of a function, and of those before it
positive : (d : Decl) → 1 ≤ weight_of d
positive (decls.Func f) = omega arith
positive _ = omega arith

pub call_of-call_of-requires : goal.call_of-call_of-requires
call_of-call_of-requires t c =
    let d = c.in-Some.decl.now in
    omega (arith, c.decreases, ap weight c.in-Some.ensures.cases.0, sum_by_push weight_of c.in-Some.earlier.now d, positive d)

pub call_of-body_of-requires : goal.call_of-body_of-requires
call_of-body_of-requires t c =
    omega (arith, c.decreases, ap weight c.in-Some.ensures.cases.0, sum_by_push weight_of c.in-Some.earlier.now c.in-Some.decl.now)
