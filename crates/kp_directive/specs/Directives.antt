-- THE DIRECTIVES of a job: comments that begin with `//:` and have only blanks before them in their line. What follows `//:` in the line is a word and its
-- arguments.
use Rattle.std.specs.Prelude.{ℕ, ◌+◌, Bool, false, not, ◌&&◌, ◌==◌, if◌then◌else◌, List, [], ◌∷◌, length, drop, take, codes, Option, Some, None}
use Rattle.std.specs.Str.{bytes_eq}
use Rattle.kp_base.specs.{Characters.run_length, Lines.IsWithin, Lines.Piece, Lines.is_blank, Lines.lines_of, Lines.piece_of, declared.run.Run.Run}
use Rattle.kp_directive.specs.declared.directive.{Directive.Directive, Verb.Verb}
use Rattle.kp_directive.specs.declared.directive.Verb.TheVariants as verbs

-- where a piece is in its text
abbrev pub run_of : Piece → Run
run_of p = record { at = p.at; end = p.at + length p.bytes }

-- the bytes of a piece from the n-th on
abbrev pub from_on : ℕ → Piece → Piece
from_on n p = record { at = p.at + n; bytes = drop n p.bytes }

-- a piece without the blanks at its start
abbrev pub trimmed : Piece → Piece
trimmed p = from_on (run_length is_blank p.bytes) p

-- the bytes begin with `//:`
abbrev pub is_marked : List ℕ → Bool
is_marked (a ∷ b ∷ c ∷ rest) = a == 47 && (b == 47 && c == 58)
is_marked _ = false

-- the bytes up to the first blank, and those after them
abbrev pub is_solid : ℕ → Bool
is_solid byte = not (is_blank byte)

abbrev pub first_word : Piece → Piece
first_word p = record { at = p.at; bytes = take (run_length is_solid p.bytes) p.bytes }

abbrev pub after_word : Piece → Piece
after_word p = from_on (run_length is_solid p.bytes) p

-- `stages`, `label`, `expect`
abbrev pub verb_of : List ℕ → Option Verb
verb_of word =
    if bytes_eq word (codes "stages") then Some verbs.Stages else (if bytes_eq word (codes "label") then Some verbs.Label
    else (if bytes_eq word (codes "expect") then Some verbs.Expect else None))

-- the directive after `//:`: its first word, what that means, and what follows it in its line
abbrev pub directed : Piece → Directive
directed p = record { verb = verb_of (first_word p).bytes; word = run_of (first_word p); rest = run_of (after_word p) }

-- the directive of a line, if it is one
abbrev pub directive_in : Piece → Option Directive
directive_in line = if is_marked (trimmed line).bytes then Some (directed (trimmed (from_on 3 (trimmed line)))) else None

abbrev pub with_directive : Option Directive → List Directive → List Directive
with_directive None rest = rest
with_directive (Some d) rest = d ∷ rest

abbrev pub directives_from : List Piece → List Directive
directives_from [] = []
directives_from (line ∷ lines) = with_directive (directive_in line) (directives_from lines)

-- THE DIRECTIVES of a text up to an offset, in order.
abbrev pub directives_of : List ℕ → ℕ → List Directive
directives_of text end = directives_from (lines_of (piece_of text (record { at = 0; end = end })))

-- the runs of a directive are within the text
abbrev pub AreWithin : List ℕ → Directive → Type 0
AreWithin text d = IsWithin text d.word × IsWithin text d.rest
