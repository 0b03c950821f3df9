use Rattle.std.proofs.Common.{◌≡◌, Some, None, ap, subst}
use Rattle.std.specs.Prelude.{MatchOption, unwrap_or}
use Rattle.kp_implements.specs.Naming.{value_shown}
use Rattle.kp_run.{specs.Boards.due_behind, specs.inner.Finals.AreFinals, proofs.Due.counts_are, proofs.Due.finals_alike}
use Rattle.kp_run.proofs.board.board_with.Goals as goal

never : {X : Type 0} (x : X) → Some x ≡ None → ⊥
never x e = subst (λ o. MatchOption o ⊥ (λ _. Unit {0})) e tt

pub invariant_of-result : goal.invariant_of-result
invariant_of-result c =
    let job = c.args.job.now.design.job in
    let sim = c.args.sim.now in
    let rows = c.args.cycles.rows.items in
    let finals = c.in_ok-finals.finals in
    let are = finals_alike job (value_shown job sim.net sim.state) (due_behind job rows) finals.items c.requires.values c.in_ok-finals.ensures in
    record {
      few = c.args.job.now.few;
      seen = c.requires.seen;
      stages = c.requires.stages;
      counts = counts_are job rows c.in_ok-homes.homes.items c.a_design_is_accepted.ensures c.in_ok-homes.ensures;
      is = λ e. absurd (never finals e);
      are = λ fs e. subst (λ f. AreFinals job (due_behind job rows) f.items) (ap (λ o. unwrap_or o finals) e) are;
    }
