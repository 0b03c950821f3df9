use Rattle.std.proofs.{Common.rules, lemmas.Iterator.Adapters.items_from_extend, lemmas.Iterator.Adapters.YieldsList-from_rev_slice}
use Rattle.std.proofs.lemmas.Iterator.Consumers.{YieldsList-from_copied}
use Rattle.kp_expected.proofs.rest.Rest.push.Goals as goal

pub returns : goal.returns
returns g c = let h = items_from_extend c.extend.result c.extend.ensures.ran (YieldsList-from_copied (YieldsList-from_rev_slice c.args.body.now cc)) in search rules
