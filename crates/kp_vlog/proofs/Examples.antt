-- The two examples, by computation: their texts denote them, and are canonical.
use Rattle.std.{proofs.Common.◌≡◌, proofs.Common.refl, specs.Fmt.digits}
use Rattle.kp_net.specs.Widths.{wide}
use Rattle.kp_vlog.specs.{Canon.canon, Rules.broken, Denote.net_of, Denote.Denotes}
use Rattle.kp_vlog.specs.Examples.{counter, counter_text, store, store_text}
use Rattle.kp_vlog.proofs.Computed.{right, report_by}

pub counter_denotes : Denotes 0 counter_text counter
unfolding broken net_of
counter_denotes = report_by 2000 counter_text (right counter) refl

pub store_denotes : Denotes 0 store_text store
unfolding broken net_of
store_denotes = report_by 3000 store_text (right store) refl

pub counter_canonical : canon counter ≡ counter_text
unfolding canon wide digits
counter_canonical = refl

pub store_canonical : canon store ≡ store_text
unfolding canon wide digits
store_canonical = refl
