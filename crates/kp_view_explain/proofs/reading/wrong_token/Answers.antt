use Rattle.kp_view_explain.proofs.Next.{names_next}
use Rattle.kp_view_explain.proofs.reading.wrong_token.Goals as goal

pub returns : goal.returns
returns c =
    names_next c.args.text.now c.args.tokens.now _ c.args.place c.index_of-at.result c.token_at-found.result c.in_ok-expected.expected c.end_of-before.result
    c.index_of-at.ensures.index c.token_at-found.ensures c.split_at.ensures.front c.in_ok-expected.ensures
