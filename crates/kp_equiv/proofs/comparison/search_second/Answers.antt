use Rattle.std.proofs.Common.{ℕ, List, subst}
use Rattle.kp_equiv.{specs.Sections.FirstNew, proofs.Listed.regs_listed}
use Rattle.kp_equiv.proofs.comparison.search_second.Goals as goal

pub returns-clause-first : goal.returns-clause-first
returns-clause-first c =
    c.first_of_second.ensures.first c.args.a.now c.args.b.now
    (subst (λ (ns : List (List ℕ)). FirstNew ns c.args.b.now c.only_in_second.result) (regs_listed c.args.a.now c.parts.result.now _ _ c.parts.ensures.parts c.as_slice.ensures c.in_ok-names.ensures)
    c.only_in_second.ensures)

pub returns-clause-none : goal.returns-clause-none
returns-clause-none c =
    c.first_of_second.ensures.none c.args.a.now c.args.b.now
    (subst (λ (ns : List (List ℕ)). FirstNew ns c.args.b.now c.only_in_second.result) (regs_listed c.args.a.now c.parts.result.now _ _ c.parts.ensures.parts c.as_slice.ensures c.in_ok-names.ensures)
    c.only_in_second.ensures)
