-- What is appended to a report: a line with a message, and what is shown of the text at its place.
use Rattle.std.specs.Prelude.{◌≡◌, ℕ, ◌-◌, List, [], ◌∷◌, ◌++◌, Option, IfSome, codes, decimal}
use Rattle.kp_base.specs.declared.place.Place.{Place}
use Rattle.kp_view_excerpt.specs.{Excerpts.IsExcerpt, Excerpts.excerpt_text, Lines.from_place, Lines.line_at, Tokens.token_length}
use Rattle.kp_view_excerpt.specs.declared.excerpt.Excerpt.{Excerpt}
use Rattle.kp_view_message.specs.{Rules.rule_of, Rules.warning_number, Texts.message_text}
use Rattle.kp_view_message.specs.declared.{message.Message.Message, warning.Warning.Warning}

-- The new text is the old one, a line with the text of a message, where that is known, and what follows it.
abbrev pub AppendsMessage : List ℕ → List ℕ → Option (List ℕ) → Type 0
AppendsMessage old new message = IfSome message (λ line. (rest : List ℕ) × (new ≡ old ++ (line ++ 10 ∷ rest)))

abbrev pub Grows : List ℕ → List ℕ → Type 0
Grows old new = (more : List ℕ) × (new ≡ old ++ more)

-- The new text is the old one, the excerpt at a place of a text, and lines of help.
abbrev pub AppendsExcerpt : List ℕ → Place → List ℕ → List ℕ → Type 0
AppendsExcerpt text p old new =
    (e : Excerpt) × IsExcerpt e p.line (line_at text p.line) (p.col - 1) (token_length (from_place text p)) × Grows (old ++ excerpt_text e) new

-- The same after a line.
abbrev pub AppendsShown : List ℕ → Place → List ℕ → List ℕ → Type 0
AppendsShown text p old new = (line : List ℕ) × AppendsExcerpt text p ((old ++ line) ++ 10 ∷ []) new

-- the name of a file, a place, and what is reported there, with its number
abbrev pub head_text : List ℕ → Place → List ℕ → ℕ → List ℕ
head_text file p class number =
    file ++ (codes ":" ++ (decimal p.line ++ (codes ":" ++ (decimal p.col ++ (codes ": " ++ (class ++ (decimal number ++ codes ": ")))))))

-- After an empty line and such a head with the number of the rule, the message and the excerpt at this place.
abbrev pub AppendsFinding : List ℕ → List ℕ → Place → Message → List ℕ → List ℕ → Type 0
AppendsFinding text file p m old new =
    let begun = (old ++ 10 ∷ []) ++ head_text file p (codes "error E") (rule_of m) in
    AppendsMessage begun new (message_text m) × AppendsShown text p begun new

-- an empty line, if there is something before it
abbrev pub gap : List ℕ → List ℕ
gap [] = []
gap (byte ∷ rest) = 10 ∷ []

-- After such a line and a head with the number of the warning, the rest of its line and the excerpt at its place.
abbrev pub AppendsWarning : List ℕ → List ℕ → Place → Warning → List ℕ → List ℕ → Type 0
AppendsWarning text file p w old new =
    (line : List ℕ) × AppendsExcerpt text p (((old ++ gap old) ++ head_text file p (codes "warning W") (warning_number w)) ++ line) new
