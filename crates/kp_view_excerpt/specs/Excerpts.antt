-- An excerpt of a line, and its text.
use Rattle.std.specs.Prelude.{◌≡◌, ℕ, ◌-◌, ◌==◌, ◌&&◌, ◌||◌, not, min, Bool, ltb, leb, List, [], ◌∷◌, ◌++◌, length, take, drop, map, filter, codes, decimal, if◌then◌else◌}
use Rattle.kp_view_excerpt.specs.declared.excerpt.Excerpt.{Excerpt}

abbrev pub last : ℕ → List ℕ → List ℕ
last n bytes = drop (length bytes - n) bytes

-- THE EXCERPT of a line with a mark under `count` bytes from `column` on: at most 400 bytes before the mark, 100 under it and 200 after it.
pub record IsExcerpt (e : Excerpt) (number : ℕ) (source : List ℕ) (column count : ℕ) : Type 0 where
  pub line : e.line ≡ number
  pub begins_late : e.begins_late ≡ ltb 400 (length (take column source))
  pub before : e.before.now ≡ last 400 (take column source)
  pub marked : e.marked.now ≡ take (min count 100) (drop column source)
  pub after : e.after.now ≡ take 200 (drop (min count 100) (drop column source))
  pub ends_early : e.ends_early ≡ ltb 200 (length (drop (min count 100) (drop column source)))

-- a byte as it is printed: `?` for one that controls a terminal, except a tab
abbrev pub printed : ℕ → ℕ
printed byte = if (ltb byte 32 && not (byte == 9)) || byte == 127 then 63 else byte

-- any byte of a character in UTF-8 except its first is 128 to 191
abbrev pub is_first : ℕ → Bool
is_first byte = not (leb 128 byte && ltb byte 192)

-- below each character a space, and below a tab a tab
abbrev pub blank : ℕ → ℕ
blank byte = if byte == 9 then 9 else 32

abbrev pub blanks : List ℕ → List ℕ
blanks bytes = map blank (filter is_first bytes)

-- below each character a caret, and one where no byte is marked
abbrev pub carets : List ℕ → List ℕ
carets [] = codes "^"
carets (byte ∷ rest) = map (λ b. 94) (filter is_first (byte ∷ rest))

-- a text where the line is cut
abbrev pub where_cut : Bool → List ℕ → List ℕ
where_cut cut text = if cut then text else []

-- the line
abbrev pub source_text : Excerpt → List ℕ
source_text e =
    where_cut e.begins_late (codes "...") ++ (map printed e.before.now ++ (map printed e.marked.now ++ (map printed e.after.now
    ++ (where_cut e.ends_early (codes "...") ++ codes "\n"))))

-- the line below it
abbrev pub caret_text : Excerpt → List ℕ
caret_text e = where_cut e.begins_late (codes "   ") ++ (blanks e.before.now ++ (carets e.marked.now ++ codes "\n"))

-- a sign, after blanks as wide as the number of the line
abbrev pub bar : List ℕ → List ℕ → List ℕ
bar digits sign = blanks digits ++ sign

-- THE TEXT of an excerpt: an empty line, the line, and the carets.
unfoldable pub excerpt_text : Excerpt → List ℕ
excerpt_text e =
    bar (decimal e.line) (codes " |\n") ++ (decimal e.line ++ (codes " | " ++ (source_text e ++ (bar (decimal e.line) (codes " | ") ++ caret_text e))))

-- a line of help below the excerpt of the line of this number
unfoldable pub help_text : ℕ → List ℕ → List ℕ
help_text number help = bar (decimal number) (codes " = ") ++ (help ++ codes "\n")
