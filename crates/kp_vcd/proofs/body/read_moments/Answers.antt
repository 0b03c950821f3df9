use Rattle.std.proofs.{Common.◌∙◌, Common.ℕ, Common.Option, Common.sym, Common.ap, lemmas.Result.err_from_is_err_and}
use Rattle.kp_vcd.{specs.declared.dump.Dump.Dump, specs.inner.Meeting.gives_behind, proofs.Meeting.stops, proofs.Meeting.same_dump}
use Rattle.kp_vcd.proofs.body.read_moments.Goals as goal

pub returns-in_err-next : goal.returns-in_err-next
returns-in_err-next c d is none =
    let p = err_from_is_err_and c.from_residual.result c.from_residual.ensures.1 in
    rw (p.1, p.2) (c.in_err-next.ensures d)

pub loop-next-init : goal.loop-next-init
loop-next-init c d is none =
    c.in_ok-next.ensures d
    ∙ ap (λ (x : Dump). gives_behind x c.in_ok-next.next c.read_first_time.new.words) (same_dump d c.new-moments.result.items (none ∙ sym c.new-moments.ensures.items))

pub returns-in_err-changes : goal.returns-in_err-changes
returns-in_err-changes c d is none =
    stops _ _ _ _ _ c.from_residual-in_err-changes.ensures.1
    (c.loop-next.invariant d is none
    ∙ ap (λ (o : Option ℕ). gives_behind (record d { moments = c.loop-next.moments.items }) o c.loop-next.words) c.in-Some.is)
    (c.in_err-changes.ensures.meets (record d { moments = c.loop-next.moments.items }) is)
