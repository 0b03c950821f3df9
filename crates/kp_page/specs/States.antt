-- WHAT IS RECORDED of a run: for each cycle its number, the registers, and the words of files that differ from the cycle before.
use Rattle.std.specs.Prelude.{ℕ, zero, suc, ◌+◌, ◌^◌, ◌==◌, List, [], ◌∷◌, ◌++◌, if◌then◌else◌, None}
use Rattle.kp_bits.specs.Word.{word}
use Rattle.kp_ast.specs.declared.tree.{Decl.Decl, Job.Job}
use Rattle.kp_ast.specs.declared.tree.Decl.TheVariants as decls
use Rattle.kp_machine.specs.Machine.{pipe_of, inputs_from}
use Rattle.kp_report.specs.{States.State, States.targets_in, Texts.register_line, Texts.word_line}
use Rattle.kp_debug.specs.Inspecting.{at_line}

-- A word of a file has a line where it differs from an earlier value.
abbrev pub change_line : List ℕ → ℕ → ℕ → (old new : ℕ) → List ℕ
change_line name width address old new = if new == old then [] else word_line name address (word width new) None

-- the lines of the given number of words, from an address on
unfoldable pub changes_of_words : List ℕ → ℕ → (old new : ℕ → ℕ) → ℕ → ℕ → List ℕ
changes_of_words name width old new address zero = []
changes_of_words name width old new address (suc n) =
    change_line name width address (old address) (new address) ++ changes_of_words name width old new (address + 1) n

-- The line of a register, or the lines of a file.
abbrev pub changes_of : Decl → (old new : ℕ → ℕ) → List ℕ
changes_of (decls.Reg n width start) old new = register_line n.name (word width.value (new 0)) None
changes_of (decls.File n width address) old new = changes_of_words n.name width.value old new 0 (2 ^ address.value)
changes_of _ old new = []

-- the lines of declarations, the first of whose targets has number t
abbrev pub change_lines : ℕ → (old new : State) → List Decl → List ℕ
change_lines t old new [] = []
change_lines t old new (d ∷ ds) = changes_of d (old t) (new t) ++ change_lines (t + targets_in d) old new ds

-- before the first cycle nothing has a value other than 0
abbrev pub all_zero : State
all_zero = λ t a. 0

-- the state in the cycle before cycle T
abbrev pub earlier : (ℕ → State) → ℕ → State
earlier visible zero = all_zero
earlier visible (suc T) = visible T

-- A cycle, where the states of the run are `visible`.
abbrev pub recorded_in : List Decl → (ℕ → State) → ℕ → List ℕ
recorded_in ds visible T = at_line T ++ change_lines 0 (earlier visible T) (visible T) ds

-- n cycles from cycle T on
abbrev pub recorded_from : List Decl → (ℕ → State) → ℕ → ℕ → List ℕ
recorded_from ds visible T zero = []
recorded_from ds visible T (suc n) = recorded_in ds visible T ++ recorded_from ds visible (T + 1) n

-- cycle 0, which has the start state, and n cycles after it
abbrev pub recorded : List Decl → (ℕ → State) → ℕ → List ℕ
recorded ds visible n = recorded_in ds visible 0 ++ recorded_from ds visible 1 n

-- THE STATES of the pipelined machine of a job in n cycles and after them, under the job's own stall words and samples.
abbrev pub states_text : Job → ℕ → List ℕ
states_text job n = recorded job.decls (pipe_of job (inputs_from job 0 n)).visible n
