-- THE TEXT OF A DUMP, in the form of IEEE 1364-2005, clause 18.2.
use Rattle.std.specs.Prelude.{ℕ, zero, suc, ◌+◌, ◌/◌, ◌%◌, ◌^◌, ◌==◌, List, [], ◌∷◌, ◌++◌, Bool, true, false, codes, decimal, if◌then◌else◌}
use Rattle.kp_bits.specs.Word.{Word}
use Rattle.kp_vcd.specs.declared.dump.{Signal.Signal, Change.Change, Moment.Moment, Dump.Dump}

-- `wire` or `reg`
abbrev pub kind_word : Bool → List ℕ
kind_word true = codes "reg"
kind_word false = codes "wire"

-- `$var reg 8 s3 r_X $end`
unfoldable pub declaration : List ℕ → (width number : ℕ) → List ℕ → List ℕ
declaration kind width number name =
    codes "$var " ++ kind ++ codes " " ++ decimal width ++ codes " s" ++ decimal number ++ codes " " ++ name ++ codes " $end\n"

abbrev pub signal_line : ℕ → Signal → List ℕ
signal_line number s = declaration (kind_word s.reg) s.width number s.name

-- the lines of signals, the first of which has this number
abbrev pub signal_lines : ℕ → List Signal → List ℕ
signal_lines number [] = []
signal_lines number (s ∷ ss) = signal_line number s ++ signal_lines (number + 1) ss

-- the given number of lowest bits of a number as digits, the highest first
abbrev pub bit_digits : ℕ → ℕ → List ℕ
bit_digits zero n = []
bit_digits (suc count) n = (48 + n / 2 ^ count % 2) ∷ bit_digits count n

-- a value before the code of its signal: `b`, all its bits and a space; a single bit is just the digit
unfoldable pub value_text : Word → List ℕ
value_text v = if v.width == 1 then bit_digits 1 v.value else codes "b" ++ bit_digits v.width v.value ++ codes " "

-- `s3`
unfoldable pub code_line : ℕ → List ℕ
code_line number = codes "s" ++ decimal number ++ codes "\n"

-- `b00000010 s3`, or `1s3` for a single bit
abbrev pub change_line : Change → List ℕ
change_line c = value_text c.value ++ code_line c.signal

abbrev pub change_lines : List Change → List ℕ
change_lines [] = []
change_lines (c ∷ cs) = change_line c ++ change_lines cs

-- `#3`
unfoldable pub time_line : ℕ → List ℕ
time_line at = codes "#" ++ decimal at ++ codes "\n"

abbrev pub moment_lines : List Moment → List ℕ
moment_lines [] = []
moment_lines (m ∷ ms) = (time_line m.at ++ change_lines m.changes) ++ moment_lines ms

-- the unit of time, and the keywords before the name of the module
unfoldable pub head_words : List ℕ
head_words = codes "$timescale 1 ns $end\n$scope module "

unfoldable pub name_line : List ℕ → List ℕ
name_line name = name ++ codes " $end\n"

-- the end of the module and of the declarations
unfoldable pub end_lines : List ℕ
end_lines = codes "$upscope $end\n$enddefinitions $end\n"

abbrev pub dump_text : Dump → List ℕ
dump_text d = (head_words ++ name_line d.module) ++ (signal_lines 0 d.signals ++ (end_lines ++ moment_lines d.moments))
