use Rattle.kp_parse.proofs.Picks.{arith, refl, make, by_dropped, one, exits, isnt_end, decl_result}
use Rattle.kp_parse.proofs.declaration.target.Goals as goal

pub returns-in_err-typed : goal.returns-in_err-typed
returns-in_err-typed c =
    exits _ _ _ c.from_residual.ensures.1 c.in_err-typed.ensures (λ o h s cs vs. decl_result c.requires (by_dropped (c.taken-next.ensures _ c.requires) (h _ _ _)))

pub returns-in_err-_arrow : goal.returns-in_err-_arrow
returns-in_err-_arrow c =
    exits _ _ _ c.from_residual-in_err-_arrow.ensures.1 c.in_err-_arrow.ensures (λ o h s cs vs. decl_result c.requires (by_dropped (c.taken-next.ensures _ c.requires) (c.in_ok-typed.ensures.leads _ _ _ _ (h _ _ _))))

pub returns-in_err-target : goal.returns-in_err-target
returns-in_err-target c =
    exits _ _ _ c.from_residual-in_err-target.ensures.1 c.in_err-target.ensures (λ o h s cs vs. decl_result c.requires (by_dropped (c.taken-next.ensures _ c.requires) (c.in_ok-typed.ensures.leads _ _ _ _ (by_dropped c.in_ok-_arrow.ensures (h _ _ _)))))

pub returns-in_err-address : goal.returns-in_err-address
returns-in_err-address c =
    exits _ _ _ c.from_residual-in_err-address.ensures.1 c.in_err-address.ensures (λ o h s cs vs. decl_result c.requires (by_dropped (c.taken-next.ensures _ c.requires) (c.in_ok-typed.ensures.leads _ _ _ _ (by_dropped c.in_ok-_arrow.ensures (c.in_ok-target.ensures.leads _ _ _ _ (h _ _ _))))))

pub returns-in_err-enable : goal.returns-in_err-enable
returns-in_err-enable c =
    exits _ _ _ c.from_residual-in_err-enable.ensures.1 c.in_err-enable.ensures (λ o h s cs vs. decl_result c.requires (by_dropped (c.taken-next.ensures _ c.requires) (c.in_ok-typed.ensures.leads _ _ _ _ (by_dropped c.in_ok-_arrow.ensures (c.in_ok-target.ensures.leads _ _ _ _ (c.in_ok-address.ensures.leads _ _ _ _ (h _ _ _)))))))

pub returns-in_err-stage : goal.returns-in_err-stage
returns-in_err-stage c =
    exits _ _ _ c.from_residual-in_err-stage.ensures.1 c.in_err-stage.ensures (λ o h s cs vs. decl_result c.requires (by_dropped (c.taken-next.ensures _ c.requires) (c.in_ok-typed.ensures.leads _ _ _ _ (by_dropped c.in_ok-_arrow.ensures (c.in_ok-target.ensures.leads _ _ _ _ (c.in_ok-address.ensures.leads _ _ _ _ (c.in_ok-enable.ensures.leads _ _ _ _ (h _ _ _))))))))

pub returns : goal.returns
returns c = record {
  leads = λ s cs vs o h. decl_result c.requires (by_dropped (c.taken-next.ensures _ c.requires) (c.in_ok-typed.ensures.leads _ _ _ _ (by_dropped c.in_ok-_arrow.ensures (c.in_ok-target.ensures.leads _ _ _ _ (c.in_ok-address.ensures.leads _ _ _ _ (c.in_ok-enable.ensures.leads _ _ _ _ (c.in_ok-stage.ensures.leads _ _ _ _ (make (h)))))))));
  shrinks = omega (arith, one (c.taken-next.ensures _ c.requires), c.in_ok-typed.ensures.shrinks, one c.in_ok-_arrow.ensures, c.in_ok-target.ensures.shrinks, c.in_ok-address.ensures.shrinks, c.in_ok-enable.ensures.shrinks, c.in_ok-stage.ensures.shrinks);
}

pub taken-next-requires : goal.taken-next-requires
taken-next-requires c = isnt_end _ _ c.requires refl
