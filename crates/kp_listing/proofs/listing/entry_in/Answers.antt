use Rattle.std.proofs.Common.{Option, length, sym, subst, arith}
use Rattle.kp_listing.{specs.Listings.Entry, specs.inner.Seen.numbered_seen, specs.Listings.numbered_in, proofs.Turns.Short, proofs.Turns.numbered_short}
use Rattle.std.specs.Prelude.{Some}
use Rattle.kp_listing.proofs.listing.entry_in.Goals as goal

pub text_shown-requires : goal.text_shown-requires
text_shown-requires c =
    let line = c.args.line.now in
    let short : Short (length line) (Some (numbered_seen c.in-Some.found)) =
    subst (λ (o : Option Entry). Short (length line) o) (sym c.in-Some.ensures) (numbered_short line) in
    omega (arith, short, c.requires)
