use Rattle.std.proofs.Common.{ℕ, List, ◌++◌, ◌∙◌, take, sym, ap, arith}
use Rattle.kp_base.specs.Place.{place_after}
use Rattle.kp_lex.proofs.{Fits.gap_fits, Fits.token_fits, Along.finished, Along.ended, Along.refused, Along.skipped, Along.read}
use Rattle.kp_lex.proofs.lexer.lex.Goals as goal

pub returns-in-End : goal.returns-in-End
returns-in-End c = rw c.new.ensures (finished _ _ _ _ _ c.loop-tokens.invariant (sym c.in-End.ensures))

pub returns-in-Broken : goal.returns-in-Broken
returns-in-Broken c = rw (c.e.ensures, c.rule.ensures) (refused _ _ _ _ _ c.loop-tokens.invariant c.in-Broken.fault (sym c.in-Broken.ensures))

pub split_at-requires : goal.split_at-requires
split_at-requires c = (gap_fits _ c.in-Gap.len (sym c.in-Gap.ensures)).1

pub loop-tokens-smaller-in-Gap : goal.loop-tokens-smaller-in-Gap
loop-tokens-smaller-in-Gap c =
    let low = (gap_fits c.loop-tokens.rest.now c.in-Gap.len (sym c.in-Gap.ensures)).0 in
    omega (arith, c.split_at.ensures.back_len)

pub loop-tokens-preserved-in-Gap : goal.loop-tokens-preserved-in-Gap
loop-tokens-preserved-in-Gap c =
    let front = take c.loop-tokens.start c.args.text.now in
    let moved = c.after-place.ensures front c.loop-tokens.invariant.placed ∙ ap (λ (gap : List ℕ). place_after (front ++ gap)) c.split_at.ensures.front in
    let high = (gap_fits c.loop-tokens.rest.now c.in-Gap.len (sym c.in-Gap.ensures)).1 in
    skipped _ _ _ _ _ c.loop-tokens.invariant c.in-Gap.len _ moved _ c.split_at.ensures.back (omega (arith, c.split_at.ensures.back_len)) (sym c.in-Gap.ensures)

pub split_at-requires-in-Token : goal.split_at-requires-in-Token
split_at-requires-in-Token c = (token_fits _ c.in-Token.kind c.in-Token.len (sym c.in-Token.ensures)).1

pub returns-then-is_end : goal.returns-then-is_end
returns-then-is_end c =
    rw (c.new-then-is_end.ensures, c.in_ok-push-in-Token.ensures.items)
    (ended _ _ _ _ _ c.loop-tokens.invariant c.in-Token.kind c.in-Token.len (sym c.in-Token.ensures) (sym c.if-is_end.ensures))

pub loop-tokens-smaller : goal.loop-tokens-smaller
loop-tokens-smaller c =
    let low = (token_fits c.loop-tokens.rest.now c.in-Token.kind c.in-Token.len (sym c.in-Token.ensures)).0 in
    omega (arith, c.split_at-in-Token.ensures.back_len)

pub loop-tokens-preserved : goal.loop-tokens-preserved
loop-tokens-preserved c =
    let front = take c.loop-tokens.start c.args.text.now in
    let moved = c.after-place-in-Token.ensures front c.loop-tokens.invariant.placed ∙ ap (λ (word : List ℕ). place_after (front ++ word)) c.split_at-in-Token.ensures.front in
    let high = (token_fits c.loop-tokens.rest.now c.in-Token.kind c.in-Token.len (sym c.in-Token.ensures)).1 in
    rw c.in_ok-push-in-Token.ensures.items
    (read _ _ _ _ _ c.loop-tokens.invariant c.in-Token.len _ moved _ c.split_at-in-Token.ensures.back (omega (arith, c.split_at-in-Token.ensures.back_len)) c.in-Token.kind (sym c.in-Token.ensures) (sym c.if-is_end.ensures))
