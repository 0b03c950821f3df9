-- From one line to all lines.
use Rattle.std.proofs.Common.{◌≡◌, ◌∙◌, List, [], ◌∷◌, ◌++◌, Option, Some, None, append_assoc, refl, sym, ap}
use Rattle.kp_base.specs.Lines.{Piece}
use Rattle.kp_directive.specs.{Directives.directive_in, Directives.directives_from, Directives.with_directive, declared.directive.Directive.Directive}

one : (d : Option Directive) (rest : List Directive) → with_directive d [] ++ rest ≡ with_directive d rest
one None rest = refl
one (Some d) rest = refl

-- the lines that are left after one
pub next_line : (old new all : List Directive) (line : Piece) (left more : List Piece) → left ≡ line ∷ more → new ≡ old ++ with_directive (directive_in line) []
    → old ++ directives_from left ≡ all → new ++ directives_from more ≡ all
next_line old new all line left more is added so_far =
    ap (λ (ds : List Directive). ds ++ directives_from more) added
    ∙ append_assoc old (with_directive (directive_in line) []) (directives_from more)
    ∙ ap (λ (ds : List Directive). old ++ ds) (one (directive_in line) (directives_from more) ∙ ap directives_from (sym is))
    ∙ so_far
