-- A line without terms prints none.
use Rattle.std.proofs.Common.{◌≡◌, ◌∙◌, List, ℕ, [], take, ap}
use Rattle.std.proofs.Math.Seq.{take-nil}
use Rattle.kp_view_help.specs.{Phrases.places, Phrases.printed, Phrases.terms_texts, declared.phrase.Line.Line}
use Rattle.kp_view_help.specs.declared.phrase.Terms.TheVariants as terms_as

pub none_printed : (line : Line) → line.terms ≡ terms_as.None → printed line ≡ []
none_printed line none = ap (λ t. take (places line.text.now) (terms_texts t)) none ∙ take-nil (places line.text.now)
