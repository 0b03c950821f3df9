use Rattle.kp_parse.proofs.Picks.{arith, refl, make, by_dropped, one, exits, isnt_end, decl_sample}
use Rattle.kp_parse.proofs.declaration.sample.Goals as goal

pub returns-in_err-typed : goal.returns-in_err-typed
returns-in_err-typed c =
    exits _ _ _ c.from_residual.ensures.1 c.in_err-typed.ensures (λ o h s cs vs. decl_sample c.requires (by_dropped (c.taken-next.ensures _ c.requires) (h _ _ _)))

pub returns-in_err-stage : goal.returns-in_err-stage
returns-in_err-stage c =
    exits _ _ _ c.from_residual-in_err-stage.ensures.1 c.in_err-stage.ensures (λ o h s cs vs. decl_sample c.requires (by_dropped (c.taken-next.ensures _ c.requires) (c.in_ok-typed.ensures.leads _ _ _ _ (h _ _ _))))

pub returns : goal.returns
returns c = record {
  leads = λ s cs vs o h. decl_sample c.requires (by_dropped (c.taken-next.ensures _ c.requires) (c.in_ok-typed.ensures.leads _ _ _ _ (c.in_ok-stage.ensures.leads _ _ _ _ (make (h)))));
  shrinks = omega (arith, one (c.taken-next.ensures _ c.requires), c.in_ok-typed.ensures.shrinks, c.in_ok-stage.ensures.shrinks);
}

pub taken-next-requires : goal.taken-next-requires
taken-next-requires c = isnt_end _ _ c.requires refl
