use Rattle.std.proofs.Common.{◌∙◌, ap, arith}
use Rattle.kp_bits.specs.Operators.{joined_of}
use Rattle.kp_build.{specs.inner.Showing.words_at, proofs.Rows.row_fits, proofs.Rows.row_shows}
use Rattle.kp_build.proofs.concatenation.row.Goals as goal

pub width_of-width-requires-clause-fits : goal.width_of-width-requires-clause-fits
width_of-width-requires-clause-fits c = row_fits c.args.pool.now c.args.parts.now c.requires.inside c.requires.fit c.requires.some

pub join-requires-clause-at_most : goal.join-requires-clause-at_most
join-requires-clause-at_most c =
    let f = row_fits c.args.pool.now c.args.parts.now c.requires.inside c.requires.fit c.requires.some in omega (arith, c.width_of-width.ensures.value)

pub returns-clause-shows : goal.returns-clause-shows
returns-clause-shows c =
    row_shows c.args.pool.now c.args.parts.now c.requires.inside c.requires.fit c.join.new.pool c.join.result
    (λ c'. c.join.ensures.word c' ∙ ap (λ ns. joined_of (words_at c' c.args.pool.now ns)) c.new.ensures)
