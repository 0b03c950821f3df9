use Rattle.std.proofs.Common.{◌∙◌, ℕ, ◌+◌, ◌*◌, List, All, length, ap, sym, subst, arith}
use Rattle.kp_net.{specs.Nodes.at, specs.Widths.wide, proofs.Growing.grown_then, proofs.Growing.grown_more}
use Rattle.kp_synth_stage.{specs.Rows.asked, specs.Reading.ask_width, proofs.Nearest.first_view}
use Rattle.kp_fwd.specs.{declared.entries.Candidate.Candidate, Forward.CandidateOk}
use Rattle.kp_synth_stage.proofs.bypass.truth.Goals as goal

pub select-picked-requires-clause-rows : goal.select-picked-requires-clause-rows
select-picked-requires-clause-rows c =
    let q = c.candidates.new.pool in
    let same = c.in_ok-all.ensures.grown.kept.widths c.args.own.0 c.requires.own ∙ sym c.width-width.ensures.width in
    subst (λ (xs : List Candidate). All (CandidateOk q (wide q.nodes c.args.own.0)) xs) (sym c.as_slice.ensures.value)
    (subst (λ w. All (CandidateOk q w) c.in_ok-all.all.items) (sym same) c.in_ok-all.ensures.ok)

pub returns-clause-value : goal.returns-clause-value
returns-clause-value c = λ y.
    let p = c.args.pool.now in
    let q = c.candidates.new.pool in
    let s = c.as_slice.ensures.value in
    let o = c.select-picked.ensures.ok y in
    let v = c.select-picked.ensures.value y in
    let g = c.in_ok-all.ensures.grown.kept in
    let f = first_view y p q (4 * length c.args.rows.now) (asked y p c.args.address) (ask_width p c.args.address) (wide p.nodes c.args.own.0) c.args.rows.now c.in_ok-all.all.items (at y q.nodes c.args.own.0) g c.requires.rows (c.in_ok-all.ensures.matched y) in
    let e = g.same y c.args.own.0 c.requires.own in
    cc (s, o, v, f, e)

pub returns-clause-grown : goal.returns-clause-grown
returns-clause-grown c =
    let p = c.args.pool.now in
    let q = c.candidates.new.pool in
    let r = c.select-picked.new.pool in
    let n : ℕ = length c.args.rows.now in
    let s = ap length c.as_slice.ensures.value in
    let count = c.in_ok-all.ensures.count in
    let m : ℕ = 3 * length c.as_slice.result.now + 2 in
    grown_more p r (4 * n + m) (20 * n + 8) (grown_then p q r (4 * n) m c.in_ok-all.ensures.grown c.select-picked.ensures.grown) (omega arith)
