-- The text of a state: each register and file in the order of declaration.
use Rattle.std.specs.Prelude.{ℕ, zero, suc, ◌+◌, ◌^◌, ◌==◌, List, [], ◌∷◌, ◌++◌, if◌then◌else◌, Option, None}
use Rattle.kp_bits.specs.Word.{word}
use Rattle.kp_ast.specs.declared.tree.{Decl.Decl, Job.Job}
use Rattle.kp_ast.specs.declared.tree.Decl.TheVariants as decls
use Rattle.kp_machine.specs.Machine.{sequential, values_in}
use Rattle.kp_stage.specs.Start.{input}
use Rattle.kp_report.specs.Texts.{after_line, register_line, word_line}
use Rattle.kp_pipeline.specs.Machine.{State as MachineState}

-- the values of targets, which are numbered from 0 in the order of declaration, at their addresses
abbrev pub State : Type 0
State = MachineState

-- for each target the number of instructions that its value reflects, if that is printed
abbrev pub Behind : Type 0
Behind = ℕ → Option ℕ

abbrev pub no_counts : Behind
no_counts t = None

-- a word of a file has a line where it isn't 0
abbrev pub line_of_word : List ℕ → ℕ → Option ℕ → (address value : ℕ) → List ℕ
line_of_word name width behind address v = if v == 0 then [] else word_line name address (word width v) behind

-- the lines of the given number of words, from an address on
unfoldable pub lines_of_words : List ℕ → ℕ → Option ℕ → (ℕ → ℕ) → ℕ → ℕ → List ℕ
lines_of_words name width behind values address zero = []
lines_of_words name width behind values address (suc n) =
    line_of_word name width behind address (values address) ++ lines_of_words name width behind values (address + 1) n

-- the lines of a register or file with these values at its addresses; other declarations have none
abbrev pub lines_of : Decl → Option ℕ → (ℕ → ℕ) → List ℕ
lines_of (decls.Reg n width start) behind values = register_line n.name (word width.value (values 0)) behind
lines_of (decls.File n width address) behind values = lines_of_words n.name width.value behind values 0 (2 ^ address.value)
lines_of _ behind values = []

-- how many targets a declaration declares
abbrev pub targets_in : Decl → ℕ
targets_in (decls.Reg n width start) = 1
targets_in (decls.File n width address) = 1
targets_in _ = 0

-- the lines of declarations, the first of whose targets has number t
abbrev pub state_lines : ℕ → Behind → State → List Decl → List ℕ
state_lines t behind state [] = []
state_lines t behind state (d ∷ ds) = lines_of d (behind t) (state t) ++ state_lines (t + targets_in d) behind state ds

-- the number of instructions, and the state after them
abbrev pub text_after : ℕ → List Decl → State → List ℕ
text_after count ds state = after_line count ++ state_lines 0 no_counts state ds

-- instruction i reads the sample values of cycle i
abbrev pub sequential_text : ℕ → Job → List ℕ
sequential_text count job = text_after count job.decls (sequential job (λ i. values_in (input job i)) count)
