use Rattle.kp_parse.proofs.Picks.{arith, make, by_dropped, one, exits, stage_is}
use Rattle.kp_parse.proofs.stage.stage.Goals as goal

pub returns-in_err-_stage : goal.returns-in_err-_stage
returns-in_err-_stage c = exits _ _ _ c.from_residual.ensures.1 c.in_err-_stage.ensures (λ o h s cs vs. stage_is (h _ _ _))

pub returns-in_err-number : goal.returns-in_err-number
returns-in_err-number c =
    exits _ _ _ c.from_residual-in_err-number.ensures.1 c.in_err-number.ensures (λ o h s cs vs. stage_is (by_dropped c.in_ok-_stage.ensures (h _ _ _)))

pub returns-in_err-all : goal.returns-in_err-all
returns-in_err-all c =
    exits _ _ _ c.from_residual-in_err-all.ensures.1 c.in_err-all.ensures (λ o h s cs vs. stage_is (by_dropped c.in_ok-_stage.ensures (c.in_ok-number.ensures.leads _ _ _ _ (make (h _ _ _)))))

pub returns-in_err-_close : goal.returns-in_err-_close
returns-in_err-_close c =
    exits _ _ _ c.from_residual-in_err-_close.ensures.1 c.in_err-_close.ensures (λ o h s cs vs. stage_is (by_dropped c.in_ok-_stage.ensures (c.in_ok-number.ensures.leads _ _ _ _ (make (c.in_ok-all.ensures.leads _ _ _ _ (h _ _ _))))))

pub returns : goal.returns
returns c = record {
  leads = λ s cs vs o h. stage_is (by_dropped c.in_ok-_stage.ensures (c.in_ok-number.ensures.leads _ _ _ _ (make (c.in_ok-all.ensures.leads _ _ _ _ (by_dropped c.in_ok-_close.ensures (make (rw c.new-stmts.ensures at h)))))));
  shrinks = omega (arith, one c.in_ok-_stage.ensures, c.in_ok-number.ensures.shrinks, c.in_ok-all.ensures.shrinks, one c.in_ok-_close.ensures);
}
