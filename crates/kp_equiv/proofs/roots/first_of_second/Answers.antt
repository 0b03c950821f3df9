use Rattle.kp_equiv.proofs.{Counting.new_differs, Counting.none_new, Ordered.second_agrees}
use Rattle.kp_equiv.proofs.roots.first_of_second.Goals as goal

pub returns-in-Some-clause-first : goal.returns-in-Some-clause-first
returns-in-Some-clause-first c = λ a b h. new_differs a b c.args.found _ c.in-Some.is h

pub returns-in-None-clause-first : goal.returns-in-None-clause-first
returns-in-None-clause-first c = λ a b h. second_agrees a b (none_new a b c.args.found c.in-None.is h)

pub returns-in-None-clause-none : goal.returns-in-None-clause-none
returns-in-None-clause-none c = λ a b h _. none_new a b c.args.found c.in-None.is h
