use Rattle.kp_parse.proofs.Picks.{arith, make, by_dropped, one, exits, decl_fn}
use Rattle.kp_parse.proofs.declaration.function.Goals as goal

pub returns-in_err-_fn : goal.returns-in_err-_fn
returns-in_err-_fn c =
    exits _ _ _ c.from_residual.ensures.1 c.in_err-_fn.ensures (λ o h s cs vs. decl_fn c.requires.no_reg c.requires.no_file c.requires.no_pipe c.requires.no_result c.requires.no_hint c.requires.no_sample (h _ _ _))

pub returns-in_err-name : goal.returns-in_err-name
returns-in_err-name c =
    exits _ _ _ c.from_residual-in_err-name.ensures.1 c.in_err-name.ensures (λ o h s cs vs. decl_fn c.requires.no_reg c.requires.no_file c.requires.no_pipe c.requires.no_result c.requires.no_hint c.requires.no_sample (by_dropped c.in_ok-_fn.ensures (h _ _ _)))

pub returns-in_err-params : goal.returns-in_err-params
returns-in_err-params c =
    exits _ _ _ c.from_residual-in_err-params.ensures.1 c.in_err-params.ensures (λ o h s cs vs. decl_fn c.requires.no_reg c.requires.no_file c.requires.no_pipe c.requires.no_result c.requires.no_hint c.requires.no_sample (by_dropped c.in_ok-_fn.ensures (c.in_ok-name.ensures.leads _ _ _ _ (h _ _ _))))

pub returns-in_err-width : goal.returns-in_err-width
returns-in_err-width c =
    exits _ _ _ c.from_residual-in_err-width.ensures.1 c.in_err-width.ensures (λ o h s cs vs. decl_fn c.requires.no_reg c.requires.no_file c.requires.no_pipe c.requires.no_result c.requires.no_hint c.requires.no_sample (by_dropped c.in_ok-_fn.ensures (c.in_ok-name.ensures.leads _ _ _ _ (c.in_ok-params.ensures.leads _ _ _ _ (h _ _ _)))))

pub returns : goal.returns
returns c = record {
  leads = λ s cs vs o h. decl_fn c.requires.no_reg c.requires.no_file c.requires.no_pipe c.requires.no_result c.requires.no_hint c.requires.no_sample (by_dropped c.in_ok-_fn.ensures (c.in_ok-name.ensures.leads _ _ _ _ (c.in_ok-params.ensures.leads _ _ _ _ (c.in_ok-width.ensures.leads _ _ _ _ (make (rw c.new-params.ensures at h))))));
  shrinks = omega (arith, one c.in_ok-_fn.ensures, c.in_ok-name.ensures.shrinks, c.in_ok-params.ensures.shrinks, c.in_ok-width.ensures.shrinks);
}
