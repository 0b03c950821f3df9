use Rattle.std.{proofs.Common.subst, proofs.Common.sym, specs.Str.IsUtf8}
use Rattle.kp_view_expected.proofs.Listing.{keyword_is_text}
use Rattle.kp_view_expected.proofs.display.TokenClassDisplay.fmt.Goals as goal

pub unreachable-requires : goal.unreachable-requires
unreachable-requires g c = c.in_default.ensures.cases.0 (subst IsUtf8 (sym c.spelling.ensures) (keyword_is_text c.in-Keyword.keyword))
