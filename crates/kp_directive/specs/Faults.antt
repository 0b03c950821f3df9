-- THE RULES of directives. D1: a directive begins with `stages`, `label` or `expect`, and of `stages` and `label` there is one at most. D2: `stages` has a
-- name for each stage, of 1 to 8 letters, digits or `_`. (D3, on labels, is a matter of the declarations.)
use Rattle.std.specs.Prelude.{◌≡◌, ℕ, ◌+◌, Bool, true, false, not, ◌&&◌, ◌==◌, nat_lt, nat_le, if◌then◌else◌, List, [], ◌∷◌, length, map, take, Option, Some, None, Result, Ok, Err, ⊤}
use Rattle.std.specs.List.{list_all, list_any}
use Rattle.kp_base.specs.{Characters.is_word, Lines.IsWithin, Lines.Piece, Lines.piece_of, Lines.words_of, declared.run.Run.Run}
use Rattle.kp_directive.specs.{Directives.directives_of, Directives.run_of, declared.directive.Directive.Directive, declared.directive.DirectiveFault.DirectiveFault, declared.directive.Verb.Verb}
use Rattle.kp_directive.specs.declared.directive.DirectivesRefused.{DirectivesRefused, TheVariants.Rule, TheVariants.NoMemory}
use Rattle.kp_directive.specs.declared.directive.DirectiveFault.TheVariants.{Unknown, Again, Count, Name, Label}
use Rattle.kp_directive.specs.declared.directive.Verb.TheVariants as verbs

abbrev pub fault_number : DirectiveFault → ℕ
fault_number (Unknown word) = 1
fault_number (Again word) = 1
fault_number (Count word given stages) = 2
fault_number (Name word) = 2
fault_number (Label word) = 3

abbrev pub fault_word : DirectiveFault → Run
fault_word (Unknown word) = word
fault_word (Again word) = word
fault_word (Count word given stages) = word
fault_word (Name word) = word
fault_word (Label word) = word

-- ---- D1

abbrev pub is_verb : Verb → Option Verb → Bool
is_verb verbs.Stages (Some verbs.Stages) = true
is_verb verbs.Label (Some verbs.Label) = true
is_verb verbs.Expect (Some verbs.Expect) = true
is_verb _ _ = false

-- there may be several of it
abbrev pub may_repeat : Verb → Bool
may_repeat verbs.Expect = true
may_repeat _ = false

abbrev pub has_verb : Verb → Directive → Bool
has_verb verb d = is_verb verb d.verb

-- an earlier directive begins with the same word, which may not repeat
abbrev pub is_again : List Directive → Verb → Bool
is_again before verb = not (may_repeat verb) && list_any (has_verb verb) before

-- what a directive violates after these
abbrev pub again_after : List Directive → Verb → Run → Option DirectiveFault
again_after before verb word = if is_again before verb then Some (Again word) else None

abbrev pub broken_after : List Directive → Option Verb → Run → Option DirectiveFault
broken_after before None word = Some (Unknown word)
broken_after before (Some verb) word = again_after before verb word

abbrev pub or_later : Option DirectiveFault → Option DirectiveFault → Option DirectiveFault
or_later (Some fault) later = Some fault
or_later None later = later

-- the first violation of D1 among directives, from the n-th on
abbrev pub broken_from : (all : List Directive) → ℕ → List Directive → Option DirectiveFault
broken_from all n [] = None
broken_from all n (d ∷ ds) = or_later (broken_after (take n all) d.verb d.word) (broken_from all (n + 1) ds)

-- THE FIRST VIOLATION of D1.
abbrev pub broken_in : List Directive → Option DirectiveFault
broken_in all = broken_from all 0 all

-- the first directive with this word
abbrev pub directive_of : Verb → List Directive → Option Directive
directive_of verb [] = None
directive_of verb (d ∷ ds) = if has_verb verb d then Some d else directive_of verb ds

-- ---- D2

abbrev pub has_length : List ℕ → Bool
has_length name = nat_lt 0 (length name) && nat_le (length name) 8

abbrev pub is_name : List ℕ → Bool
is_name name = has_length name && list_all is_word name

-- the first of these words that isn't the name of a stage
abbrev pub no_name : List Piece → Option DirectiveFault
no_name [] = None
no_name (word ∷ words) = if is_name word.bytes then no_name words else Some (Name (run_of word))

-- the words after `stages`, for a machine of so many stages
abbrev pub names_broken : Run → ℕ → List Piece → Option DirectiveFault
names_broken word stages names = if length names == stages then no_name names else Some (Count word (length names) stages)

abbrev pub or_names : Option DirectiveFault → List Piece → Result (List (List ℕ)) DirectiveFault
or_names (Some fault) names = Err fault
or_names None names = Ok (map (λ name. name.bytes) names)

abbrev pub names_after : List ℕ → ℕ → Option Directive → Result (List (List ℕ)) DirectiveFault
names_after text stages None = Ok []
names_after text stages (Some d) =
    or_names (names_broken d.word stages (words_of (piece_of text d.rest))) (words_of (piece_of text d.rest))

abbrev pub unless : Option DirectiveFault → Result (List (List ℕ)) DirectiveFault → Result (List (List ℕ)) DirectiveFault
unless (Some fault) names = Err fault
unless None names = names

-- THE NAMES of the stages that the directives of a text up to an offset give, or none; or the first rule that they violate.
unfoldable pub stage_names : List ℕ → (end stages : ℕ) → Result (List (List ℕ)) DirectiveFault
stage_names text end stages =
    unless (broken_in (directives_of text end)) (names_after text stages (directive_of verbs.Stages (directives_of text end)))

-- what a call returns that reads directives: what is specified, of which `value` is a view, or out of memory
abbrev pub Yields : {T X : Type 0} → Result T DirectivesRefused → Result X DirectiveFault → (T → X) → Type 0
Yields (Ok t) found value = found ≡ Ok (value t)
Yields (Err (Rule fault)) found value = found ≡ Err fault
Yields (Err NoMemory) found value = ⊤

-- the word that violates a rule is within the text
abbrev pub IsIn : List ℕ → DirectivesRefused → Type 0
IsIn text (Rule fault) = IsWithin text (fault_word fault)
IsIn text NoMemory = ⊤
