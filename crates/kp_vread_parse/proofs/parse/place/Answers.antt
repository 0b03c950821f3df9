use Rattle.std.proofs.Common.{ap, sym, ◌∙◌, take}
use Rattle.kp_base.specs.Place.{place_after}
use Rattle.kp_vread_parse.proofs.Text.{offset_at}
use Rattle.kp_vread_parse.proofs.parse.place.Goals as goal

pub returns-in-Some : goal.returns-in-Some
returns-in-Some c =
    c.place_of.ensures
    ∙ ap (λ n. place_after (take n c.args.text.now)) (sym (offset_at c.args.text.now c.args.tokens.now c.args.at c.in-Some.token.now c.in-Some.ensures.lookup.3.0 c.in-Some.ensures.lookup.1))
