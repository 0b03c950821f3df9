-- The names of a job that have values: its targets, which are the registers and the files together, its pipes, its
-- hints and its samples. The entries of each list are numbered from 0 in the order of declaration.
use Rattle.std.specs.Prelude.{ℕ, suc, List, [], ◌∷◌, Option, Some, None, Bool, ◌==◌, if◌then◌else◌}
use Rattle.kp_bits.specs.Word.{word}
use Rattle.kp_ast.specs.{Expressions.Values, Expressions.is_same_name, declared.tree.Named.Named, declared.tree.Num.Num, declared.tree.ResultDecl.ResultDecl}
use Rattle.kp_ast.specs.declared.tree.Decl.{Decl}
use Rattle.kp_ast.specs.declared.tree.Decl.TheVariants as decls

-- A slot: its name, the width of its values, and the width of its addresses, which is 0 if it has none.
pub record Slot : Type 0 where
  pub name : List ℕ
  pub width : ℕ
  pub address : ℕ

abbrev pub slot : Named → Num → ℕ → Slot
slot n width address = record { name = n.name; width = width.value; address = address }

abbrev pub targets_of : List Decl → List Slot
targets_of [] = []
targets_of (decls.Reg n width start ∷ ds) = slot n width 0 ∷ targets_of ds
targets_of (decls.File n width address ∷ ds) = slot n width address.value ∷ targets_of ds
targets_of (_ ∷ ds) = targets_of ds

abbrev pub pipes_of : List Decl → List Slot
pipes_of [] = []
pipes_of (decls.Pipe n width ∷ ds) = slot n width 0 ∷ pipes_of ds
pipes_of (_ ∷ ds) = pipes_of ds

abbrev pub hints_of : List Decl → List Slot
hints_of [] = []
hints_of (decls.Hint n width start ∷ ds) = slot n width 0 ∷ hints_of ds
hints_of (_ ∷ ds) = hints_of ds

abbrev pub samples_of : List Decl → List Slot
samples_of [] = []
samples_of (decls.Sample n width stage ∷ ds) = slot n width 0 ∷ samples_of ds
samples_of (_ ∷ ds) = samples_of ds

-- The stages of the samples.
abbrev pub sample_stages : List Decl → List ℕ
sample_stages [] = []
sample_stages (decls.Sample n width stage ∷ ds) = stage.value ∷ sample_stages ds
sample_stages (_ ∷ ds) = sample_stages ds

-- The number of a name is that of the first entry with it. If no entry has it, it is the number of entries.
abbrev pub number_of : List Slot → List ℕ → ℕ
number_of [] name = 0
number_of (s ∷ ss) name = if is_same_name name s.name then 0 else suc (number_of ss name)

-- The width of the values of a name.
abbrev pub width_of : List Slot → List ℕ → ℕ
width_of [] name = 0
width_of (s ∷ ss) name = if is_same_name name s.name then s.width else width_of ss name

-- A register has no addresses.
abbrev pub is_register : Slot → Bool
is_register s = s.address == 0

-- The names of entries that are numbered from i on, each with a word of its width and the value under its number.
abbrev pub words_from : ℕ → (ℕ → ℕ) → List Slot → Values
words_from i values [] = []
words_from i values (s ∷ ss) = (s.name, word s.width (values i)) ∷ words_from (suc i) values ss

abbrev pub words_of : List Slot → (ℕ → ℕ) → Values
words_of slots values = words_from 0 values slots

-- The first result of this name.
abbrev pub result_named : List Decl → List ℕ → Option ResultDecl
result_named [] name = None
result_named (decls.Target r ∷ ds) name = if is_same_name name r.name.name then Some r else result_named ds name
result_named (_ ∷ ds) name = result_named ds name

-- The first result whose target has number t among these targets.
abbrev pub result_to : List Slot → List Decl → ℕ → Option ResultDecl
result_to targets [] t = None
result_to targets (decls.Target r ∷ ds) t = if number_of targets r.target.name == t then Some r else result_to targets ds t
result_to targets (_ ∷ ds) t = result_to targets ds t
