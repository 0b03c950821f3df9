use Rattle.kp_parse.proofs.Picks.{arith, refl, make, by_dropped, one, exits, isnt_end, decl_pipe}
use Rattle.kp_parse.proofs.declaration.pipe.Goals as goal

pub returns-in_err-typed : goal.returns-in_err-typed
returns-in_err-typed c =
    exits _ _ _ c.from_residual.ensures.1 c.in_err-typed.ensures (λ o h s cs vs. decl_pipe c.requires (by_dropped (c.taken-next.ensures _ c.requires) (h _ _ _)))

pub returns-in_err-_end : goal.returns-in_err-_end
returns-in_err-_end c =
    exits _ _ _ c.from_residual-in_err-_end.ensures.1 c.in_err-_end.ensures (λ o h s cs vs. decl_pipe c.requires (by_dropped (c.taken-next.ensures _ c.requires) (c.in_ok-typed.ensures.leads _ _ _ _ (h _ _ _))))

pub returns : goal.returns
returns c = record {
  leads = λ s cs vs o h. decl_pipe c.requires (by_dropped (c.taken-next.ensures _ c.requires) (c.in_ok-typed.ensures.leads _ _ _ _ (by_dropped c.in_ok-_end.ensures (make (h)))));
  shrinks = omega (arith, one (c.taken-next.ensures _ c.requires), c.in_ok-typed.ensures.shrinks, one c.in_ok-_end.ensures);
}

pub taken-next-requires : goal.taken-next-requires
taken-next-requires c = isnt_end _ _ c.requires refl
