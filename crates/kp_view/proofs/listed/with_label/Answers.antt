use Rattle.std.proofs.Common.{ap, map, string_bytes}
use Rattle.kp_view.{specs.Listed.listed_with, specs.inner.Listings.listed_seen, proofs.Listings.label_failed}
use Rattle.kp_view.proofs.listed.with_label.Goals as goal

pub returns-in-Ok-clause-listed : goal.returns-in-Ok-clause-listed
returns-in-Ok-clause-listed c = ap (listed_with (map string_bytes c.args.names.items)) c.in-Ok.ensures.label

pub returns-in-Err-clause-listed : goal.returns-in-Err-clause-listed
returns-in-Err-clause-listed c = label_failed (listed_seen c.args.input.now) (map string_bytes c.args.names.items) _ c.in-Err.refused _ c.in-Err.ensures.label
