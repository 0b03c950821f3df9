-- The texts that are printed.
use Rattle.std.specs.Prelude.{ℕ, List, ◌++◌, ◌==◌, if◌then◌else◌, codes, decimal, Option, Some, None}
use Rattle.kp_base.specs.declared.refusal.{Family.Family, Family.TheVariants.E, Family.TheVariants.V, Family.TheVariants.A, Refusal.Refusal}
use Rattle.kp_bits.specs.{Word.Word, Spelling.spelling}
use Rattle.kp_stage.specs.declared.counts.Summary.{Summary}
use Rattle.kp_machine.specs.Slots.{Slot, is_register}

abbrev pub bad_words : List ℕ
bad_words = codes "bad words\n"

abbrev pub family_letter : Family → List ℕ
family_letter E = codes "E"
family_letter V = codes "V"
family_letter A = codes "A"

-- `refused E9 12:5`
unfoldable pub refusal_line : Refusal → List ℕ
refusal_line refusal =
    codes "refused " ++ family_letter refusal.family ++ decimal refusal.number ++ codes " " ++ decimal refusal.place.line
    ++ codes ":" ++ decimal refusal.place.col ++ codes "\n"

-- `after 2`
unfoldable pub after_line : ℕ → List ℕ
after_line count = codes "after " ++ decimal count ++ codes "\n"

-- the end of the line of a value: the number of instructions that it reflects, if that is printed
unfoldable pub ending_of : Option ℕ → List ℕ
ending_of None = codes "\n"
ending_of (Some count) = codes " after " ++ decimal count ++ codes "\n"

-- `X = 8'h02`, or `X = 8'h02 after 1`
unfoldable pub register_value : List ℕ → Word → List ℕ
register_value name value = name ++ codes " = " ++ spelling value

abbrev pub register_line : List ℕ → Word → Option ℕ → List ℕ
register_line name value behind = register_value name value ++ ending_of behind

-- `F[5] = 8'h0b`, or `F[5] = 8'h0b after 3`
unfoldable pub word_value : List ℕ → ℕ → Word → List ℕ
word_value name address value = name ++ codes "[" ++ decimal address ++ codes "] = " ++ spelling value

abbrev pub word_line : List ℕ → ℕ → Word → Option ℕ → List ℕ
word_line name address value behind = word_value name address value ++ ending_of behind

-- `X`, or `F[1]` for a word of a file
unfoldable pub word_named : Slot → ℕ → List ℕ
word_named s address = if is_register s then s.name else s.name ++ codes "[" ++ decimal address ++ codes "]"

-- `differs 6 `, `F[1]`, ` 8'h0c 8'h0d`: the cycle, the word, and its value followed by the expected one
unfoldable pub cycle_differing : ℕ → List ℕ
cycle_differing cycle = codes "differs " ++ decimal cycle ++ codes " "

unfoldable pub values_differing : Word → Word → List ℕ
values_differing found due = codes " " ++ spelling found ++ codes " " ++ spelling due ++ codes "\n"

abbrev pub differs_line : ℕ → Slot → ℕ → Word → Word → List ℕ
differs_line cycle s address found due = cycle_differing cycle ++ (word_named s address ++ values_differing found due)

-- `accepted acc3 stages 3 regs 1 files 0`
unfoldable pub targets_counted : List ℕ → Summary → List ℕ
targets_counted name s =
    codes "accepted " ++ name ++ codes " stages " ++ decimal s.stages ++ codes " regs " ++ decimal s.regs ++ codes " files " ++ decimal s.files

-- ` pipes 1 results 1 hints 0`
unfoldable pub pipes_counted : Summary → List ℕ
pipes_counted s = codes " pipes " ++ decimal s.pipes ++ codes " results " ++ decimal s.results ++ codes " hints " ++ decimal s.hints

-- ` reads 1 guesses 0 size 4`
unfoldable pub reads_counted : Summary → List ℕ
reads_counted s = codes " reads " ++ decimal s.reads ++ codes " guesses " ++ decimal s.guesses ++ codes " size " ++ decimal s.size

-- ` samples 1`, if there are any, and the end of the line
unfoldable pub samples_counted : Summary → List ℕ
samples_counted s = if s.samples == 0 then codes "\n" else codes " samples " ++ decimal s.samples ++ codes "\n"

-- all in one line: the name and the numbers of an accepted job
abbrev pub accepted_line : List ℕ → Summary → List ℕ
accepted_line name s = targets_counted name s ++ (pipes_counted s ++ (reads_counted s ++ samples_counted s))
