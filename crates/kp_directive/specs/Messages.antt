-- THE MESSAGE on a directive that violates a rule, after the name of the file: `:6:5: error D2: 4 names of stages; the machine has 5 stages`.
use Rattle.std.specs.Prelude.{ℕ, ◌==◌, nat_le, if◌then◌else◌, List, [], ◌∷◌, ◌++◌, flat_map, length, take, codes, decimal}
use Rattle.kp_base.specs.{Lines.piece_of, Place.place_after, declared.place.Place.Place, declared.run.Run.Run}
use Rattle.kp_directive.specs.{Faults.fault_number, Faults.fault_word, declared.directive.DirectiveFault.DirectiveFault}
use Rattle.kp_directive.specs.declared.directive.DirectiveFault.TheVariants.{Unknown, Again, Count, Name, Label}

abbrev pub joined : List (List ℕ) → List ℕ
joined parts = flat_map (λ part. part) parts

-- the place and the number of the rule
unfoldable pub head : Place → ℕ → List ℕ
head place number =
    joined (codes ":" ∷ decimal place.line ∷ codes ":" ∷ decimal place.col ∷ codes ": error D" ∷ decimal number ∷ codes ": " ∷ [])

unfoldable pub unknown : List ℕ → List ℕ
unknown word = joined (codes "no directive begins with `" ∷ word ∷ codes "`: they are `stages`, `label`, `expect`" ∷ [])

unfoldable pub again : List ℕ → List ℕ
again word = joined (codes "there is a directive `" ∷ word ∷ codes "` already" ∷ [])

abbrev pub names_of : ℕ → List ℕ
names_of count = if count == 1 then codes " name of a stage; the machine has " else codes " names of stages; the machine has "

unfoldable pub count : ℕ → ℕ → List ℕ
count given stages = joined (decimal given ∷ names_of given ∷ decimal stages ∷ codes " stages" ∷ [])

-- a name that is short enough has another character
unfoldable pub long : ℕ → List ℕ
long size = joined (codes " has " ∷ decimal size ∷ [])

abbrev pub reason : ℕ → List ℕ
reason size = if nat_le size 8 then codes " has others" else long size

unfoldable pub name : List ℕ → List ℕ
name word =
    joined (codes "the name of a stage has 1 to 8 letters, digits or `_`: `" ∷ word ∷ codes "`" ∷ []) ++ reason (length word)

unfoldable pub label : List ℕ → List ℕ
label word = joined (codes "a label is a register, a pipe, a result or a word as `F[0]`; not `" ∷ word ∷ codes "`" ∷ [])

-- the bytes of a run of the text
abbrev pub bytes_in : List ℕ → Run → List ℕ
bytes_in text run = (piece_of text run).bytes

abbrev pub sentence : List ℕ → DirectiveFault → List ℕ
sentence text (Unknown word) = unknown (bytes_in text word)
sentence text (Again word) = again (bytes_in text word)
sentence text (Count word given stages) = count given stages
sentence text (Name word) = name (bytes_in text word)
sentence text (Label word) = label (bytes_in text word)

abbrev pub message : List ℕ → DirectiveFault → List ℕ
message text fault =
    head (place_after (take (fault_word fault).at text)) (fault_number fault) ++ (sentence text fault ++ codes "\n")
