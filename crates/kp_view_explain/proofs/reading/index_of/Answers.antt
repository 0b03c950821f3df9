use Rattle.kp_view_explain.{proofs.Next.none_passes, specs.Listing.is_at}
use Rattle.kp_view_explain.proofs.reading.index_of.Goals as goal

pub returns-in-None-clause-index : goal.returns-in-None-clause-index
returns-in-None-clause-index c = none_passes (is_at c.args.place) c.args.tokens.now c.in-None.ensures
