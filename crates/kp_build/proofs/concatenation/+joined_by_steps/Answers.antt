use Rattle.std.proofs.{Common.◌≡◌, Common.◌∙◌, Common.◌≤◌, Common.◌∷◌, Common.length, Common.ap, Common.arith, lemmas.Result.IfOk-weaker}
use Rattle.kp_build.proofs.Rows.{row_one, row_some, front_there, shorter_there, shorter_shows, shorter_inside}
use Rattle.kp_build.proofs.concatenation.+joined_by_steps.Goals as goal

pub unreachable-requires : goal.unreachable-requires
unreachable-requires t c = row_some c.args.pool.now c.args.parts.now c.requires.fit c.in-0.is

pub returns-in-1-clause-shows : goal.returns-in-1-clause-shows
returns-in-1-clause-shows t c = row_one c.args.pool.now c.args.parts.now _ c.in-1.is

pub row-first-requires-clause-fit : goal.row-first-requires-clause-fit
row-first-requires-clause-fit t c =
    let s = c.split_at.ensures in
    front_there c.args.pool.now c.split_at.result.0.now c.split_at.result.1.now c.args.parts.now s.by_index.0 (omega (arith, s.front_len)) c.requires.fit

pub joined_by_steps-requires : goal.joined_by_steps-requires
joined_by_steps-requires t c =
    let s = c.split_at.ensures in
    let front = c.split_at.result.0.now in
    let back = c.split_at.result.1.now in
    let zs = c.as_slice.result.now in
    let q = c.row-first.new.pool in
    let e : zs ≡ c.row-first.result ∷ back = c.as_slice.ensures.value ∙ c.in_ok-shorter-in_default.ensures in
    let l = ap length e in
    let some : 1 ≤ length front = omega (arith, s.front_len) in
    let r = c.row-first.ensures in (
      omega (arith, c.decreases, l, s.back_len),
      (
        omega (arith, l, s.back_len, c.requires.room, r.grown.kept.room),
        (
          shorter_inside c.args.pool.now q 1 r.grown front back c.args.parts.now s.by_index.0 c.requires.inside c.row-first.result r.inside zs e,
          shorter_there c.args.pool.now q 1 r.grown front back c.args.parts.now s.by_index.0 some c.requires.inside c.requires.fit c.row-first.result r.shows zs e,
        ),
      ),
    )

pub returns-in_ok-shorter-in_default-clause-shows : goal.returns-in_ok-shorter-in_default-clause-shows
returns-in_ok-shorter-in_default-clause-shows t c =
    let s = c.split_at.ensures in
    let front = c.split_at.result.0.now in
    let back = c.split_at.result.1.now in
    let zs = c.as_slice.result.now in
    let e : zs ≡ c.row-first.result ∷ back = c.as_slice.ensures.value ∙ c.in_ok-shorter-in_default.ensures in
    let some : 1 ≤ length front = omega (arith, s.front_len) in
    let r = c.row-first.ensures in
    IfOk-weaker _ _ _
    (λ n h. shorter_shows c.args.pool.now c.row-first.new.pool 1 r.grown front back c.args.parts.now s.by_index.0 some c.requires.inside c.requires.fit c.row-first.result r.shows zs e c.joined_by_steps.new.pool n h)
    c.joined_by_steps.ensures.shows
