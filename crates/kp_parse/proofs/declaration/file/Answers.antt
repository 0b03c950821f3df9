use Rattle.kp_parse.proofs.Picks.{arith, refl, make, by_dropped, one, exits, isnt_end, decl_file}
use Rattle.kp_parse.proofs.declaration.file.Goals as goal

pub returns-in_err-typed : goal.returns-in_err-typed
returns-in_err-typed c =
    exits _ _ _ c.from_residual.ensures.1 c.in_err-typed.ensures (λ o h s cs vs. decl_file c.requires (by_dropped (c.taken-next.ensures _ c.requires) (h _ _ _)))

pub returns-in_err-_open : goal.returns-in_err-_open
returns-in_err-_open c =
    exits _ _ _ c.from_residual-in_err-_open.ensures.1 c.in_err-_open.ensures (λ o h s cs vs. decl_file c.requires (by_dropped (c.taken-next.ensures _ c.requires) (c.in_ok-typed.ensures.leads _ _ _ _ (h _ _ _))))

pub returns-in_err-address : goal.returns-in_err-address
returns-in_err-address c =
    exits _ _ _ c.from_residual-in_err-address.ensures.1 c.in_err-address.ensures (λ o h s cs vs. decl_file c.requires (by_dropped (c.taken-next.ensures _ c.requires) (c.in_ok-typed.ensures.leads _ _ _ _ (by_dropped c.in_ok-_open.ensures (h _ _ _)))))

pub returns-in_err-_end : goal.returns-in_err-_end
returns-in_err-_end c =
    exits _ _ _ c.from_residual-in_err-_end.ensures.1 c.in_err-_end.ensures (λ o h s cs vs. decl_file c.requires (by_dropped (c.taken-next.ensures _ c.requires) (c.in_ok-typed.ensures.leads _ _ _ _ (by_dropped c.in_ok-_open.ensures (c.in_ok-address.ensures.leads _ _ _ _ (h _ _ _))))))

pub returns : goal.returns
returns c = record {
  leads = λ s cs vs o h. decl_file c.requires (by_dropped (c.taken-next.ensures _ c.requires) (c.in_ok-typed.ensures.leads _ _ _ _ (by_dropped c.in_ok-_open.ensures (c.in_ok-address.ensures.leads _ _ _ _ (by_dropped c.in_ok-_end.ensures (make h))))));
  shrinks = omega (arith, one (c.taken-next.ensures _ c.requires), c.in_ok-typed.ensures.shrinks, one c.in_ok-_open.ensures, c.in_ok-address.ensures.shrinks, one c.in_ok-_end.ensures);
}

pub taken-next-requires : goal.taken-next-requires
taken-next-requires c = isnt_end _ _ c.requires refl
