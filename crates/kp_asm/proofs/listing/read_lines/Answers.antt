use Rattle.std.proofs.{Common.rules, Common.◌∙◌, Common.◌<◌, Common.length, Common.arith, lemmas.Result.err_from_is_err_and}
use Rattle.kp_asm.proofs.Lines.{within, positive, line_ok, line_err}
use Rattle.kp_asm.proofs.listing.read_lines.Goals as goal

pub split_at-requires : goal.split_at-requires
split_at-requires c = omega (arith, within c.loop-rest.rest.now, c.line_length.ensures)

pub returns-in_err-read_line : goal.returns-in_err-read_line
returns-in_err-read_line c =
    let some : 0 < length c.loop-rest.rest.now = search rules in
    let p = err_from_is_err_and c.from_residual.result c.from_residual.ensures.1 in
    rw (p.1, p.2) (line_err _ _ c.loop-rest.rest.now _ _ _ some c.line_length.ensures c.split_at.ensures.front c.split_at.ensures.back _ _ _ _ c.loop-rest.invariant c.in_err-read_line.ensures)

pub loop-rest-smaller : goal.loop-rest-smaller
loop-rest-smaller c =
    let some : 0 < length c.loop-rest.rest.now = search rules in
    let low = positive c.loop-rest.rest.now some in
    omega (arith, c.line_length.ensures, c.split_at.ensures.back_len)

pub loop-rest-preserved : goal.loop-rest-preserved
loop-rest-preserved c =
    let some : 0 < length c.loop-rest.rest.now = search rules in
    line_ok _ _ c.loop-rest.rest.now _ _ _ some c.line_length.ensures c.split_at.ensures.front c.split_at.ensures.back _ c.in_ok-read_line.ensures ∙ c.loop-rest.invariant
