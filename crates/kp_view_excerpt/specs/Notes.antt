-- What is appended for a violated rule after its head: a message, the excerpt at its place, and a line of help.
use Rattle.std.specs.Prelude.{◌≡◌, ◌⊎◌, ℕ, ◌-◌, List, [], ◌∷◌, ◌++◌}
use Rattle.kp_base.specs.declared.place.Place.{Place}
use Rattle.kp_view_excerpt.specs.{Excerpts.IsExcerpt, Excerpts.excerpt_text, Excerpts.help_text, Lines.line_at}
use Rattle.kp_view_excerpt.specs.declared.excerpt.Excerpt.{Excerpt}

-- nothing, or a line of help below the excerpt of the line of this number
abbrev pub IsAdvice : ℕ → List ℕ → Type 0
IsAdvice number lines = (lines ≡ []) ⊎ ((help : List ℕ) × (lines ≡ help_text number help))

-- The new text is the old one, a message with a line feed, the excerpt, and at most one line of help. Nothing is said here of the words of the message
-- and of the help.
pub record AppendsNote (e : Excerpt) (old new : List ℕ) : Type 0 where
  pub message : List ℕ
  pub advice : List ℕ
  pub helps : IsAdvice e.line advice
  pub appended : new ≡ old ++ (message ++ (10 ∷ (excerpt_text e ++ advice)))

-- THE NOTE on a place of a text, with a mark under this many bytes.
abbrev pub AppendsNoteAt : List ℕ → Place → ℕ → List ℕ → List ℕ → Type 0
AppendsNoteAt text p count old new = (e : Excerpt) × IsExcerpt e p.line (line_at text p.line) (p.col - 1) count × AppendsNote e old new
