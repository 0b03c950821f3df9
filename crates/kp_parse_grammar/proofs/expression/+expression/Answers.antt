-- Each return value specifies the steps of the machine.
use Rattle.std.proofs.Common.{arith, sym, ◌∙◌}
use Rattle.kp_grammar.specs.Machine.{make}
use Rattle.kp_parse_grammar.proofs.Steps.{by_dropped, by_placed, by_closed, by_separated, by_counted, by_opened, by_opened_at, over_counted, over_opened, one, exits, exceeds, extends}
use Rattle.kp_parse_grammar.proofs.Picks.{expr_is, choice_1, choice_else, unary_1, post_is, slices_1, slices_else, prim_name, prim_bracket, prim_concat, prim_extended, extended_is, call_1, call_else, exprs_are, parts_1, parts_else}
use Rattle.kp_parse_grammar.proofs.Operators.{chain_start, more_start, more_none, operators_go_on, compare_ends, post_reads}
use Rattle.kp_parse_grammar.specs.Language.{opens, opens_at}
use Rattle.kp_parse_grammar.proofs.expression.+expression.Goals as goal

pub expression-returns-in_err-test : goal.expression-returns-in_err-test
expression-returns-in_err-test t c =
    exits _ _ _ c.from_residual.ensures.1 c.in_err-test.ensures (λ o h s cs vs. expr_is (h _ _ _))

pub expression-returns-in_default : goal.expression-returns-in_default
expression-returns-in_default t c = record {
  leads = λ s cs vs o h. expr_is (c.in_ok-test.ensures.leads _ _ _ _ (choice_else c.in_default.ensures h));
  grows = c.in_ok-test.ensures.grows;
  limit = c.in_ok-test.ensures.limit;
  shrinks = c.in_ok-test.ensures.shrinks;
}

pub expression-returns-in_err-deeper : goal.expression-returns-in_err-deeper
expression-returns-in_err-deeper t c =
    exceeds _ _ _ _ c.from_residual-in_err-deeper.ensures.1 c.in_err-deeper.ensures (λ s cs vs. expr_is (c.in_ok-test.ensures.leads _ _ _ _ (choice_1 c.in-Some.ensures (over_counted c.in-Some.ensures c.in_err-deeper.ensures.1))))

pub expression-returns-in_err-yes : goal.expression-returns-in_err-yes
expression-returns-in_err-yes t c =
    exits _ _ _ c.from_residual-in_err-yes.ensures.1 c.in_err-yes.ensures (λ o h s cs vs. expr_is (c.in_ok-test.ensures.leads _ _ _ _ (choice_1 c.in-Some.ensures (by_counted c.in-Some.ensures c.in_ok-deeper.ensures (h _ _ _)))))

pub expression-returns-in_err-_colon : goal.expression-returns-in_err-_colon
expression-returns-in_err-_colon t c =
    exits _ _ _ c.from_residual-in_err-_colon.ensures.1 c.in_err-_colon.ensures (λ o h s cs vs. expr_is (c.in_ok-test.ensures.leads _ _ _ _ (choice_1 c.in-Some.ensures (by_counted c.in-Some.ensures c.in_ok-deeper.ensures (c.in_ok-yes.ensures.leads _ _ _ _ (h _ _ _))))))

pub expression-returns-in_err-no : goal.expression-returns-in_err-no
expression-returns-in_err-no t c =
    exits _ _ _ c.from_residual-in_err-no.ensures.1 c.in_err-no.ensures (λ o h s cs vs. expr_is (c.in_ok-test.ensures.leads _ _ _ _ (choice_1 c.in-Some.ensures (by_counted c.in-Some.ensures c.in_ok-deeper.ensures (c.in_ok-yes.ensures.leads _ _ _ _ (by_dropped c.in_ok-_colon.ensures (h _ _ _)))))))

pub expression-returns : goal.expression-returns
expression-returns t c = rw (c.in_ok-made.ensures) (record {
  leads = λ s cs vs o h. expr_is (c.in_ok-test.ensures.leads _ _ _ _ (choice_1 c.in-Some.ensures (by_counted c.in-Some.ensures c.in_ok-deeper.ensures (c.in_ok-yes.ensures.leads _ _ _ _ (by_dropped c.in_ok-_colon.ensures (c.in_ok-no.ensures.leads _ _ _ _ (make h)))))));
  grows = omega (arith, c.in_ok-test.ensures.grows, c.in_ok-deeper.ensures.1, c.in_ok-yes.ensures.grows, c.in_ok-no.ensures.grows);
  limit = c.in_ok-no.ensures.limit;
  shrinks = omega (arith, c.in_ok-test.ensures.shrinks, one c.in-Some.ensures, c.in_ok-yes.ensures.shrinks, one c.in_ok-_colon.ensures, c.in_ok-no.ensures.shrinks);
})

pub chain-returns-in_err-left : goal.chain-returns-in_err-left
chain-returns-in_err-left t c =
    exits _ _ _ c.from_residual.ensures.1 c.in_err-left.ensures (λ o h s cs vs. chain_start c.args.tokens.now c.args.at c.args.level (h _ _ _))

pub chain-operators-init : goal.chain-operators-init
chain-operators-init t c = record {
  leads = λ s cs vs o h. chain_start c.args.tokens.now c.args.at c.args.level (c.in_ok-left.ensures.leads _ _ _ _ h);
  grows = c.in_ok-left.ensures.grows;
  limit = c.in_ok-left.ensures.limit;
  shrinks = c.in_ok-left.ensures.shrinks;
}

pub chain-returns-in_err-deeper : goal.chain-returns-in_err-deeper
chain-returns-in_err-deeper t c =
    exceeds _ _ _ _ c.from_residual-in_err-deeper.ensures.1 c.in_err-deeper.ensures (λ s cs vs. c.operators.invariant.leads _ _ _ _ (more_start c.args.tokens.now c.operators.here c.args.level c.in-Some.ensures (over_counted c.in-Some.ensures.finds c.in_err-deeper.ensures.1)))

pub chain-returns-in_err-right : goal.chain-returns-in_err-right
chain-returns-in_err-right t c =
    exits _ _ _ c.from_residual-in_err-right.ensures.1 c.in_err-right.ensures (λ o h s cs vs. c.operators.invariant.leads _ _ _ _ (more_start c.args.tokens.now c.operators.here c.args.level c.in-Some.ensures (by_counted c.in-Some.ensures.finds c.in_ok-deeper.ensures (h _ _ _))))

pub chain-returns-in_default : goal.chain-returns-in_default
chain-returns-in_default t c = record {
  leads = λ s cs vs o h. c.operators.invariant.leads _ _ _ _ (more_none c.args.tokens.now c.operators.here c.args.level c.in_default.ensures h);
  grows = c.operators.invariant.grows;
  limit = c.operators.invariant.limit;
  shrinks = c.operators.invariant.shrinks;
}

pub chain-returns-in-Compare : goal.chain-returns-in-Compare
chain-returns-in-Compare t c = rw c.in_ok-both.ensures (compare_ends c.args.level c.in-Compare.is c.operators.invariant c.in-Some.ensures c.in_ok-deeper.ensures c.in_ok-right.ensures)

pub chain-operators-preserved : goal.chain-operators-preserved
chain-operators-preserved t c = rw c.in_ok-both.ensures (operators_go_on c.args.level c.in_default-level.not-Compare c.operators.invariant c.in-Some.ensures c.in_ok-deeper.ensures c.in_ok-right.ensures)

pub unary-returns-in_err-deeper : goal.unary-returns-in_err-deeper
unary-returns-in_err-deeper t c =
    exceeds _ _ _ _ c.from_residual.ensures.1 c.in_err-deeper.ensures (λ s cs vs. unary_1 c.in-Some.ensures (over_counted c.in-Some.ensures c.in_err-deeper.ensures.1))

pub unary-returns-in_err-inner : goal.unary-returns-in_err-inner
unary-returns-in_err-inner t c =
    exits _ _ _ c.from_residual-in_err-inner.ensures.1 c.in_err-inner.ensures (λ o h s cs vs. unary_1 c.in-Some.ensures (by_counted c.in-Some.ensures c.in_ok-deeper.ensures (h _ _ _)))

pub unary-returns : goal.unary-returns
unary-returns t c = rw (c.in_ok-made.ensures) (record {
  leads = λ s cs vs o h. unary_1 c.in-Some.ensures (by_counted c.in-Some.ensures c.in_ok-deeper.ensures (c.in_ok-inner.ensures.leads _ _ _ _ (make h)));
  grows = omega (arith, c.in_ok-deeper.ensures.1, c.in_ok-inner.ensures.grows);
  limit = c.in_ok-inner.ensures.limit;
  shrinks = omega (arith, one c.in-Some.ensures, c.in_ok-inner.ensures.shrinks);
})

pub unary-returns-in_default : goal.unary-returns-in_default
unary-returns-in_default t c = post_reads c.args.tokens.now c.args.count c.args.at c.in_default.ensures c.post.result c.post.ensures

pub post-returns-in_err-inner : goal.post-returns-in_err-inner
post-returns-in_err-inner t c =
    exits _ _ _ c.from_residual.ensures.1 c.in_err-inner.ensures (λ o h s cs vs. post_is (h _ _ _))

pub post-slices-init : goal.post-slices-init
post-slices-init t c = record {
  leads = λ s cs vs o h. post_is (c.in_ok-inner.ensures.leads _ _ _ _ h);
  grows = c.in_ok-inner.ensures.grows;
  limit = c.in_ok-inner.ensures.limit;
  shrinks = c.in_ok-inner.ensures.shrinks;
}

pub post-returns-in_err-place : goal.post-returns-in_err-place
post-returns-in_err-place t c =
    exits _ _ _ c.from_residual-in_err-place.ensures.1 c.in_err-place.ensures.bounds (λ o h s cs vs. c.slices.invariant.leads _ _ _ _ (slices_1 (sym c.slices-test.true ∙ c.is_mark.ensures) (h _ _ _)))

pub post-slices-preserved : goal.post-slices-preserved
post-slices-preserved t c = rw (c.in_ok-sliced.ensures) (record {
  leads = λ s cs vs o h. c.slices.invariant.leads _ _ _ _ (slices_1 (sym c.slices-test.true ∙ c.is_mark.ensures) (c.in_ok-place.ensures.bounds.leads _ _ _ _ (make h)));
  grows = omega (arith, c.slices.invariant.grows, c.in_ok-place.ensures.bounds.grows);
  limit = c.in_ok-place.ensures.bounds.limit;
  shrinks = omega (arith, c.slices.invariant.shrinks, c.in_ok-place.ensures.bounds.shrinks);
})

pub post-returns : goal.post-returns
post-returns t c = record {
  leads = λ s cs vs o h. c.slices.invariant.leads _ _ _ _ (slices_else (sym c.slices-test.false ∙ c.is_mark.ensures) h);
  grows = c.slices.invariant.grows;
  limit = c.slices.invariant.limit;
  shrinks = c.slices.invariant.shrinks;
}

pub bracket-returns-in_err-_open : goal.bracket-returns-in_err-_open
bracket-returns-in_err-_open t c =
    exits _ _ _ c.from_residual.ensures.1 c.in_err-_open.ensures (λ o h s cs vs. prim_bracket c.requires.first (h opens tt _ _ _))

pub bracket-returns-in_err-inner : goal.bracket-returns-in_err-inner
bracket-returns-in_err-inner t c =
    exits _ _ _ c.from_residual-in_err-inner.ensures.1 c.in_err-inner.ensures (λ o h s cs vs. prim_bracket c.requires.first (by_opened c.in_ok-_open.ensures.0 c.in_ok-_open.ensures.1 (h _ _ _)))

pub bracket-returns-in_err-_close : goal.bracket-returns-in_err-_close
bracket-returns-in_err-_close t c =
    exits _ _ _ c.from_residual-in_err-_close.ensures.1 c.in_err-_close.ensures (λ o h s cs vs. prim_bracket c.requires.first (by_opened c.in_ok-_open.ensures.0 c.in_ok-_open.ensures.1 (c.in_ok-inner.ensures.leads _ _ _ _ (h _ _ _))))

pub bracket-returns : goal.bracket-returns
bracket-returns t c = record {
  leads = λ s cs vs o h. prim_bracket c.requires.first (by_opened c.in_ok-_open.ensures.0 c.in_ok-_open.ensures.1 (c.in_ok-inner.ensures.leads _ _ _ _ (by_closed c.in_ok-_close.ensures h)));
  grows = omega arith;
  limit = c.requires.limit;
  shrinks = omega (arith, one c.in_ok-_open.ensures.0, c.in_ok-inner.ensures.shrinks, one c.in_ok-_close.ensures);
}

pub named-returns-in_err-named : goal.named-returns-in_err-named
named-returns-in_err-named t c =
    exits _ _ _ c.from_residual.ensures.1 c.in_err-named.ensures (λ o h s cs vs. prim_name c.requires.first (h _ _ _))

pub named-returns-in_default : goal.named-returns-in_default
named-returns-in_default t c = record {
  leads = λ s cs vs o h. prim_name c.requires.first (c.in_ok-named.ensures.leads _ _ _ _ (call_else c.in_default.ensures (make h)));
  grows = omega arith;
  limit = c.requires.limit;
  shrinks = c.in_ok-named.ensures.shrinks;
}

pub named-returns-in_err-deeper : goal.named-returns-in_err-deeper
named-returns-in_err-deeper t c =
    exceeds _ _ _ _ c.from_residual-in_err-deeper.ensures.1 c.in_err-deeper.ensures (λ s cs vs. prim_name c.requires.first (c.in_ok-named.ensures.leads _ _ _ _ (call_1 c.in-Some.ensures (over_opened c.in-Some.ensures c.in_err-deeper.ensures.1))))

pub named-returns-in_err-args : goal.named-returns-in_err-args
named-returns-in_err-args t c =
    exits _ _ _ c.from_residual-in_err-args.ensures.1 c.in_err-args.ensures (λ o h s cs vs. prim_name c.requires.first (c.in_ok-named.ensures.leads _ _ _ _ (call_1 c.in-Some.ensures (by_opened c.in-Some.ensures c.in_ok-deeper.ensures (h _ _ _ _ c.in_ok-deeper.ensures.1)))))

pub named-returns : goal.named-returns
named-returns t c = rw (c.new.ensures) (record {
  leads = λ s cs vs o h. prim_name c.requires.first (c.in_ok-named.ensures.leads _ _ _ _ (call_1 c.in-Some.ensures (by_opened c.in-Some.ensures c.in_ok-deeper.ensures (c.in_ok-args.ensures.leads _ _ _ _ _ c.in_ok-deeper.ensures.1 (make h)))));
  grows = omega arith;
  limit = c.requires.limit;
  shrinks = omega (arith, c.in_ok-named.ensures.shrinks, one c.in-Some.ensures, c.in_ok-args.ensures.shrinks);
})

pub concatenation-returns-in_err-place : goal.concatenation-returns-in_err-place
concatenation-returns-in_err-place t c =
    exits _ _ _ c.from_residual.ensures.1 c.in_err-place.ensures (λ o h s cs vs. prim_concat c.requires.first (h opens_at tt _ _ _))

pub concatenation-returns-in_err-parts : goal.concatenation-returns-in_err-parts
concatenation-returns-in_err-parts t c =
    exits _ _ _ c.from_residual-in_err-parts.ensures.1 c.in_err-parts.ensures (λ o h s cs vs. prim_concat c.requires.first (by_opened_at c.in_ok-place.ensures.0 c.in_ok-place.ensures.1 (h _ _ _ _ c.in_ok-place.ensures.1.1)))

pub concatenation-returns : goal.concatenation-returns
concatenation-returns t c = rw (c.joined.ensures) (record {
  leads = λ s cs vs o h. prim_concat c.requires.first (by_opened_at c.in_ok-place.ensures.0 c.in_ok-place.ensures.1 (c.in_ok-parts.ensures.leads _ _ _ _ _ c.in_ok-place.ensures.1.1 (make h)));
  grows = omega arith;
  limit = c.requires.limit;
  shrinks = omega (arith, one c.in_ok-place.ensures.0, c.in_ok-parts.ensures.shrinks);
})

pub expressions-returns-in_err-first : goal.expressions-returns-in_err-first
expressions-returns-in_err-first t c =
    exits _ _ _ c.from_residual.ensures.1 c.in_err-first.ensures (λ o h s k cs vs e. exprs_are (make (h _ _ _)))

pub expressions-parts-init : goal.expressions-parts-init
expressions-parts-init t c = rw (c.in_ok-push.ensures.items, c.new-all.ensures.items) (record {
  leads = λ s k cs vs o e h. exprs_are (make (c.in_ok-first.ensures.leads _ _ _ _ (make (h c.in_ok-first._count))));
  shrinks = c.in_ok-first.ensures.shrinks;
})

pub expressions-returns-in_err-one : goal.expressions-returns-in_err-one
expressions-returns-in_err-one t c =
    exits _ _ _ c.from_residual-in_err-one.ensures.1 c.in_err-one.ensures (λ o h s k cs vs e. c.parts.invariant.leads _ _ _ _ _ e (λ f. parts_1 c.in-Some.ensures (by_separated c.in-Some.ensures e (h _ _ _))))

pub expressions-parts-preserved : goal.expressions-parts-preserved
expressions-parts-preserved t c = rw (c.in_ok-push-2.ensures.items) (record {
  leads = λ s k cs vs o e h. c.parts.invariant.leads _ _ _ _ _ e (λ f. parts_1 c.in-Some.ensures (by_separated c.in-Some.ensures e (c.in_ok-one.ensures.leads _ _ _ _ (make (h c.in_ok-one._count)))));
  shrinks = omega (arith, c.parts.invariant.shrinks, one c.in-Some.ensures, c.in_ok-one.ensures.shrinks);
})

pub expressions-returns-in_err-_close : goal.expressions-returns-in_err-_close
expressions-returns-in_err-_close t c =
    exits _ _ _ c.from_residual-in_err-_close.ensures.1 c.in_err-_close.ensures (λ o h s k cs vs e. c.parts.invariant.leads _ _ _ _ _ e (λ f. parts_else c.in_default.ensures (h _ _ _)))

pub expressions-returns : goal.expressions-returns
expressions-returns t c = record {
  leads = λ s k cs vs o e h. c.parts.invariant.leads _ _ _ _ _ e (λ f. parts_else c.in_default.ensures (by_closed c.in_ok-_close.ensures h));
  shrinks = omega (arith, c.parts.invariant.shrinks, one c.in_ok-_close.ensures);
}

pub extension-returns-in_err-place : goal.extension-returns-in_err-place
extension-returns-in_err-place t c =
    exits _ _ _ c.from_residual.ensures.1 c.in_err-place.ensures (λ o h s cs vs. prim_extended c.args.keyword c.requires.first (h _ _ _))

pub extension-returns-in_err-_open : goal.extension-returns-in_err-_open
extension-returns-in_err-_open t c =
    exits _ _ _ c.from_residual-in_err-_open.ensures.1 c.in_err-_open.ensures (λ o h s cs vs. prim_extended c.args.keyword c.requires.first (by_placed c.in_ok-place.ensures (extended_is (h opens tt _ _ _))))

pub extension-returns-in_err-inner : goal.extension-returns-in_err-inner
extension-returns-in_err-inner t c =
    exits _ _ _ c.from_residual-in_err-inner.ensures.1 c.in_err-inner.ensures (λ o h s cs vs. prim_extended c.args.keyword c.requires.first (by_placed c.in_ok-place.ensures (extended_is (by_opened c.in_ok-_open.ensures.0 c.in_ok-_open.ensures.1 (h _ _ _)))))

pub extension-returns-in_err-width : goal.extension-returns-in_err-width
extension-returns-in_err-width t c =
    exits _ _ _ c.from_residual-in_err-width.ensures.1 c.in_err-width.ensures (λ o h s cs vs. prim_extended c.args.keyword c.requires.first (by_placed c.in_ok-place.ensures (extended_is (by_opened c.in_ok-_open.ensures.0 c.in_ok-_open.ensures.1 (c.in_ok-inner.ensures.leads _ _ _ _ (h _ _ _ _ _))))))

pub extension-returns : goal.extension-returns
extension-returns t c = rw (c.in_ok-made.ensures) (record {
  leads = λ s cs vs o h. prim_extended c.args.keyword c.requires.first (by_placed c.in_ok-place.ensures (extended_is (by_opened c.in_ok-_open.ensures.0 c.in_ok-_open.ensures.1 (c.in_ok-inner.ensures.leads _ _ _ _ (c.in_ok-width.ensures.leads _ _ _ _ _ _ (extends c.args.keyword h))))));
  grows = omega arith;
  limit = c.requires.limit;
  shrinks = omega (arith, one c.in_ok-place.ensures, one c.in_ok-_open.ensures.0, c.in_ok-inner.ensures.shrinks, c.in_ok-width.ensures.shrinks);
})
