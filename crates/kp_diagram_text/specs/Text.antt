-- THE TEXT of a diagram: a line for each fetch, a column for each cycle, and the account below.
use Rattle.std.specs.Prelude.{ℕ, zero, suc, ◌+◌, ◌-◌, ◌*◌, ◌/◌, ◌%◌, ◌==◌, max, ltb, cond, List, [], ◌∷◌, ◌++◌, length, get_or, flat_map, replicate, codes, decimal, if◌then◌else◌}
use Rattle.kp_diagram.specs.Diagram.{Account, Cell, Fetch, Mark, Moves, WaitsForValue, WaitsForStage, Held, Squashed}
use Rattle.kp_diagram_text.specs.Figures.{Figure}

abbrev pub spaces : ℕ → List ℕ
spaces n = replicate n 32

-- a text at the right end of a column
abbrev pub in_column : ℕ → List ℕ → List ℕ
in_column width text = spaces (width - length text) ++ text

-- the name of a stage, or its number where it has none
abbrev pub stage_name : List (List ℕ) → ℕ → List ℕ
stage_name names k = cond (ltb k (length names)) (get_or names k []) (decimal k)

-- the length of the longest name of the stages below n
abbrev pub longest : List (List ℕ) → ℕ → ℕ
longest names zero = 0
longest names (suc n) = max (longest names n) (length (stage_name names n))

-- THE WIDTH of a column: a name with its mark, or the number of a cycle, and a space before it.
abbrev pub column : List (List ℕ) → (stages cycles : ℕ) → ℕ
column names n count = max (longest names n + 2) (length (decimal count) + 1)

abbrev pub counted : ℕ → List ℕ → List ℕ → List ℕ
counted count one more = if count == 1 then one else more

-- `mini5: 5 stages, 26 cycles`
unfoldable pub size_text : List ℕ → (stages cycles : ℕ) → List ℕ
size_text name n count =
    name ++ codes ": " ++ decimal n ++ codes " stages, " ++ decimal count ++ counted count (codes " cycle") (codes " cycles")

-- and the head of the column of numbers
unfoldable pub title : List ℕ → (stages cycles : ℕ) → List ℕ
title name n count = size_text name n count ++ codes "\n\ninstruction "

-- the numbers of `count` cycles from cycle T on
abbrev pub cycle_numbers : (width from count : ℕ) → List ℕ
cycle_numbers width T zero = []
cycle_numbers width T (suc count) = in_column width (decimal T) ++ cycle_numbers width (T + 1) count

abbrev pub head : List ℕ → (stages cycles width : ℕ) → List ℕ
head name n count width = title name n count ++ (cycle_numbers width 0 count ++ codes "\n")

-- THE MARKS: `*` waits for a value, `-` waits for the stage ahead, `!` is held from outside, `x` is squashed.
abbrev pub sign : Mark → List ℕ
sign Moves = []
sign WaitsForValue = codes "*"
sign WaitsForStage = codes "-"
sign Held = codes "!"
sign Squashed = codes "x"

abbrev pub cell_text : ℕ → List (List ℕ) → Cell → List ℕ
cell_text width names c = in_column width (stage_name names c.stage ++ sign c.mark)

abbrev pub cells_text : ℕ → List (List ℕ) → List Cell → List ℕ
cells_text width names cells = flat_map (cell_text width names) cells

-- the number of an instruction that enters in cycle T, up to the column of that cycle
abbrev pub line_start : (width number cycle : ℕ) → List ℕ
line_start width number T = in_column 11 (decimal number) ++ (codes " " ++ spaces (T * width))

abbrev pub line_at : ℕ → List (List ℕ) → ℕ → ℕ → List Cell → List ℕ
line_at width names T number cells = line_start width number T ++ (cells_text width names cells ++ codes "\n")

-- the cycle in which it enters
abbrev pub entered : List Cell → ℕ
entered [] = 0
entered (c ∷ cells) = c.cycle

-- THE LINE of an instruction that was fetched.
abbrev pub line_text : ℕ → List (List ℕ) → Fetch → List ℕ
line_text width names f = line_at width names (entered f.cells) f.number f.cells

abbrev pub lines_text : ℕ → List (List ℕ) → List Fetch → List ℕ
lines_text width names fetches = flat_map (line_text width names) fetches

unfoldable pub legend : List ℕ
legend = codes "\n* waits for a value   - waits for the stage ahead   ! held from outside   x squashed\n\n"

-- THE ACCOUNT. Cycles per instruction, in hundredths, rounded.
abbrev pub hundredths : (cycles retired : ℕ) → ℕ
hundredths count retired = (200 * count + retired) / (2 * retired)

-- `1.53`
unfoldable pub rate : ℕ → ℕ → List ℕ
rate count retired =
    decimal (hundredths count retired / 100) ++ cond (ltb (hundredths count retired % 100) 10) (codes ".0") (codes ".")
    ++ decimal (hundredths count retired % 100)

-- `, 1.53 cycles per instruction`, if any retired
abbrev pub rate_text : ℕ → ℕ → List ℕ
rate_text count retired = if retired == 0 then [] else codes ", " ++ (rate count retired ++ codes " cycles per instruction")

-- `retired 17 in 26 cycles`
unfoldable pub retired_text : ℕ → ℕ → List ℕ
retired_text count retired =
    codes "retired " ++ decimal retired ++ codes " in " ++ decimal count ++ counted count (codes " cycle") (codes " cycles")

-- `    5 cycles lost to wrong guesses`
unfoldable pub lost_words : ℕ → List ℕ → List ℕ
lost_words count cause = counted count (codes " cycle  lost to ") (codes " cycles lost to ") ++ (cause ++ codes "\n")

abbrev pub lost_line : ℕ → List ℕ → List ℕ
lost_line count cause = if count == 0 then [] else in_column 5 (decimal count) ++ lost_words count cause

abbrev pub waits_text : Account → List ℕ
waits_text a = lost_line a.guesses (codes "wrong guesses") ++ lost_line a.outside (codes "stalls from outside")

abbrev pub losses_text : Account → List ℕ
losses_text a = lost_line a.filling (codes "filling the pipeline") ++ (lost_line a.hazards (codes "data hazards") ++ waits_text a)

abbrev pub account_text : ℕ → Account → List ℕ
account_text count a = retired_text count a.retired ++ (rate_text count a.retired ++ (codes "\n" ++ losses_text a))

-- THE TEXT of a figure.
unfoldable pub diagram_text : Figure → List ℕ
diagram_text f =
    let width = column f.names f.stages f.cycles in
    head f.name f.stages f.cycles width
    ++ (lines_text width f.names f.fetches ++ (legend ++ account_text f.cycles f.account))

-- `mini5: 5 stages, cycles 5 to 18`, and the head of the column of numbers
unfoldable pub window_title : List ℕ → (stages from count : ℕ) → List ℕ
window_title name n from count =
    name ++ (codes ": " ++ (decimal n ++ (codes " stages, cycles " ++ (decimal from ++ (codes " to " ++ (decimal (from + count - 1) ++ codes "\n\ninstruction "))))))

-- THE TEXT of a window that begins with this cycle.
unfoldable pub window_text : ℕ → Figure → List ℕ
window_text from f =
    let width = column f.names f.stages (from + f.cycles) in
    window_title f.name f.stages from f.cycles
    ++ (cycle_numbers width from f.cycles ++ (codes "\n" ++ (lines_text width f.names f.fetches ++ (legend ++ account_text f.cycles f.account))))
