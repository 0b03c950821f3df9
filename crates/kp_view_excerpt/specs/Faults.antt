-- What is appended for a violated rule.
use Rattle.std.specs.Prelude.{◌≡◌, ℕ, List, [], ◌∷◌, ◌++◌, Option, Some, None, IfSome}
use Rattle.kp_view_excerpt.specs.{Excerpts.excerpt_text, Excerpts.help_text, declared.excerpt.Excerpt.Excerpt}

-- the text that is printed of a value, where it is known
abbrev pub IsText : Option (List ℕ) → List ℕ → Type 0
IsText known text = IfSome known (λ output. text ≡ output)

-- a line of help, if there is help
abbrev pub IsHelp : {H : Type 0} → (H → Option (List ℕ)) → Option H → ℕ → List ℕ → Type 0
IsHelp output None number lines = lines ≡ []
IsHelp output (Some help) number lines = (text : List ℕ) × IsText (output help) text × (lines ≡ help_text number text)

-- A message and a line feed, the excerpt, and the line of help.
pub record AppendsFault {H : Type 0} (e : Excerpt) (message : Option (List ℕ)) (output : H → Option (List ℕ)) (help : Option H) (old new : List ℕ) : Type 0 where
  pub sentence : List ℕ
  pub advice : List ℕ
  pub sentence_is : IsText message sentence
  pub advice_is : IsHelp output help e.line advice
  pub appended : new ≡ old ++ (sentence ++ (10 ∷ (excerpt_text e ++ advice)))
