use Rattle.kp_parse.proofs.Picks.{arith, refl, make, by_dropped, by_placed, one, exits, isnt_end, stmt_set}
use Rattle.kp_parse.proofs.stage.set.Goals as goal

pub returns-in_err-name : goal.returns-in_err-name
returns-in_err-name c =
    exits _ _ _ c.from_residual.ensures.1 c.in_err-name.ensures (λ o h s cs vs. stmt_set c.requires (by_placed (c.taken-next.ensures _ c.requires) (h _ _ _)))

pub returns-in_err-bound : goal.returns-in_err-bound
returns-in_err-bound c =
    exits _ _ _ c.from_residual-in_err-bound.ensures.1 (rw c.in_err-bound.ensures at c.when-condition.ensures) (λ o h s cs vs. stmt_set c.requires (by_placed (c.taken-next.ensures _ c.requires) (c.in_ok-name.ensures.leads _ _ _ _ (h _ _ _))))

pub returns-in_err-all : goal.returns-in_err-all
returns-in_err-all c =
    exits _ _ _ c.from_residual-in_err-all.ensures.1 (rw c.in_err-all.ensures at c.mark-end.ensures) (λ o h s cs vs. stmt_set c.requires (by_placed (c.taken-next.ensures _ c.requires) (c.in_ok-name.ensures.leads _ _ _ _ ((rw c.in_ok-bound.ensures.1 at c.when-condition.ensures).leads _ _ _ _ (h _ _ _)))))

pub returns : goal.returns
returns c = record {
  leads = λ s cs vs o h. stmt_set c.requires (by_placed (c.taken-next.ensures _ c.requires) (c.in_ok-name.ensures.leads _ _ _ _ ((rw c.in_ok-bound.ensures.1 at c.when-condition.ensures).leads _ _ _ _ (by_dropped (rw c.in_ok-all.ensures.1 at c.mark-end.ensures) (make (rw (c.in_ok-all.ensures.0, c.in_ok-bound.ensures.0) at h))))));
  shrinks = omega (arith, one (c.taken-next.ensures _ c.requires), c.in_ok-name.ensures.shrinks, (rw c.in_ok-bound.ensures.1 at c.when-condition.ensures).shrinks, one (rw c.in_ok-all.ensures.1 at c.mark-end.ensures));
}

pub taken-next-requires : goal.taken-next-requires
taken-next-requires c = isnt_end _ _ c.requires refl
