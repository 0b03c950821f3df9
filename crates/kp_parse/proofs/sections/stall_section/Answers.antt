use Rattle.kp_parse.proofs.Picks.{arith, make, by_dropped, one, exits, stalls_1, stalls_else}
use Rattle.kp_parse.proofs.sections.stall_section.Goals as goal

pub returns-in_default : goal.returns-in_default
returns-in_default c = record {
  leads = λ s cs vs o h. stalls_else c.in_default.ensures (make h);
  shrinks = omega arith;
}

pub returns-in_err-_open : goal.returns-in_err-_open
returns-in_err-_open c =
    exits _ _ _ c.from_residual.ensures.1 c.in_err-_open.ensures (λ o h s cs vs. stalls_1 c.in-Some.ensures (by_dropped c.in-Some.ensures (h _ _ _)))

pub returns-in_err-all : goal.returns-in_err-all
returns-in_err-all c =
    exits _ _ _ c.from_residual-in_err-all.ensures.1 c.in_err-all.ensures (λ o h s cs vs. stalls_1 c.in-Some.ensures (by_dropped c.in-Some.ensures (by_dropped c.in_ok-_open.ensures (make (h _ _ _)))))

pub returns-in_err-_close : goal.returns-in_err-_close
returns-in_err-_close c =
    exits _ _ _ c.from_residual-in_err-_close.ensures.1 c.in_err-_close.ensures (λ o h s cs vs. stalls_1 c.in-Some.ensures (by_dropped c.in-Some.ensures (by_dropped c.in_ok-_open.ensures (make (c.in_ok-all.ensures.leads _ _ _ _ (h _ _ _))))))

pub returns : goal.returns
returns c = record {
  leads = λ s cs vs o h. stalls_1 c.in-Some.ensures (by_dropped c.in-Some.ensures (by_dropped c.in_ok-_open.ensures (make (c.in_ok-all.ensures.leads _ _ _ _ (by_dropped c.in_ok-_close.ensures (make (rw c.new.ensures at h)))))));
  shrinks = omega (arith, one c.in-Some.ensures, one c.in_ok-_open.ensures, c.in_ok-all.ensures.shrinks, one c.in_ok-_close.ensures);
}
