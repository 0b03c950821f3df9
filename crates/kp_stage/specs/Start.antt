-- The start state of a job, and the external inputs of a cycle: the stall word and the values of the samples.
--
-- A register starts with the value of its declaration, and the words of a file with 0. The entries of the image
-- section overwrite these in text order: an entry writes its literals to the words from its address on. A register is
-- a word of address 0. An entry of the stalls section stalls its stage in the cycles from A to B, in steps of P. An
-- entry of the inputs section sets a sample's value in such cycles, and later entries override earlier ones. In all
-- other cycles a sample is 0.
use Rattle.std.specs.Prelude.{◌≡◌, ℕ, zero, suc, ◌+◌, ◌-◌, ◌^◌, ◌%◌, ◌<◌, length, List, [], ◌∷◌, Option, Some, None, Bool, ◌&&◌, ◌==◌, nat_le, if◌then◌else◌, option_map, unwrap_or, slice_get}
use Rattle.std.specs.List.{list_any, All}
use Rattle.kp_bits.specs.Word.{Word, word, IsWord}
use Rattle.kp_ast.specs.{Expressions.is_same_name, declared.tree.Num.Num, declared.tree.Decl.Decl, declared.tree.Image.Image, declared.tree.Stalls.Stalls}
use Rattle.kp_ast.specs.declared.tree.{Inputs.Inputs, Job.Job}
use Rattle.kp_ast.specs.declared.tree.Decl.TheVariants as decls
use Rattle.kp_stage.specs.declared.start.Start.{Start}

abbrev pub number_or : Option Num → ℕ → ℕ
number_or None n = n
number_or (Some m) n = m.value

-- the first address that an entry writes
abbrev pub first_address : Image → ℕ
first_address e = number_or e.address 0

-- the value that an entry writes to the word of a target at an address, if it writes one
abbrev pub given_by : Image → List ℕ → ℕ → Option ℕ
given_by e name a =
    if is_same_name e.name.name name && nat_le (first_address e) a
    then option_map (λ l. l.literal.value) (slice_get e.values (a - first_address e))
    else None

-- the value of a word, from its value before these entries: the last entry that writes it counts
abbrev pub laid_over : List Image → List ℕ → (address before : ℕ) → ℕ
laid_over [] name a v = v
laid_over (e ∷ es) name a v = laid_over es name a (unwrap_or (given_by e name a) v)

abbrev pub start_regs : List Image → List Decl → List Word
start_regs es [] = []
start_regs es (decls.Reg n width start ∷ ds) = word width.value (laid_over es n.name 0 start.literal.value) ∷ start_regs es ds
start_regs es (_ ∷ ds) = start_regs es ds

-- the n words of a file from an address on
abbrev pub words_from : List Image → List ℕ → (address count : ℕ) → List ℕ
words_from es name a zero = []
words_from es name a (suc n) = laid_over es name a 0 ∷ words_from es name (a + 1) n

abbrev pub start_files : List Image → List Decl → List (List ℕ)
start_files es [] = []
start_files es (decls.File n width address ∷ ds) = words_from es n.name 0 (2 ^ address.value) ∷ start_files es ds
start_files es (_ ∷ ds) = start_files es ds

-- the entries of the image section, or none if there is no such section
abbrev pub image_of : Job → List Image
image_of job = unwrap_or job.image []

-- the start state of a job
unfoldable pub start_of : Job → Start
start_of job = record { regs = start_regs (image_of job) job.decls; files = start_files (image_of job) job.decls }

-- the values of the registers: one for each register, with its width
abbrev pub AreRegs : List Decl → List Word → Type 0
AreRegs [] values = values ≡ []
AreRegs (decls.Reg n width start ∷ ds) [] = ⊥
AreRegs (decls.Reg n width start ∷ ds) (v ∷ values) = (v.width ≡ width.value) × IsWord v × AreRegs ds values
AreRegs (_ ∷ ds) values = AreRegs ds values

-- the words of the files: one list for each file, with a word of its width for each of its addresses
abbrev pub AreFiles : List Decl → List (List ℕ) → Type 0
AreFiles [] files = files ≡ []
AreFiles (decls.File n width address ∷ ds) [] = ⊥
AreFiles (decls.File n width address ∷ ds) (words ∷ files) =
    (length words ≡ 2 ^ address.value) × All (λ v. v < 2 ^ width.value) words × AreFiles ds files
AreFiles (_ ∷ ds) files = AreFiles ds files

-- a state in which the machine of this job can start
pub record IsStartOf (job : Job) (start : Start) : Type 0 where
  pub regs : AreRegs job.decls start.regs
  pub files : AreFiles job.decls start.files

-- a cycle is one of those from first to last, in steps of this size
abbrev pub is_among : (first last step cycle : ℕ) → Bool
is_among first last step cycle = nat_le first cycle && nat_le cycle last && (cycle - first) % step == 0

-- an entry stalls this stage in this cycle
abbrev pub stalls_at : Stalls → ℕ → ℕ → Bool
stalls_at e k cycle = e.stage.value == k && is_among e.from.value e.to.value (number_or e.step 1) cycle

-- some entry does
abbrev pub is_stalled : List Stalls → ℕ → ℕ → Bool
is_stalled es k cycle = list_any (λ e. stalls_at e k cycle) es

-- the number whose bit k is 1 exactly where the test passes, for k below n
abbrev pub bits_below : ℕ → (ℕ → Bool) → ℕ
bits_below zero test = 0
bits_below (suc k) test = bits_below k test + (if test k then 2 ^ k else 0)

abbrev pub stalls_of : Job → List Stalls
stalls_of job = unwrap_or job.stalls []

-- the stall word of a cycle
unfoldable pub stall_word : Job → ℕ → ℕ
stall_word job cycle = bits_below job.stages.value (λ k. is_stalled (stalls_of job) k cycle)

-- an entry sets its value in this cycle
abbrev pub gives_at : Inputs → ℕ → Bool
gives_at e cycle = is_among e.from.value e.to.value (number_or e.step 1) cycle

-- the value of a sample in a cycle, from its value before these entries: the last entry that sets it counts
abbrev pub input_over : List Inputs → List ℕ → (cycle before : ℕ) → ℕ
input_over [] name cycle v = v
input_over (e ∷ es) name cycle v =
    input_over es name cycle (if is_same_name e.name.name name && gives_at e cycle then e.value.literal.value else v)

-- the values of the samples in a cycle, in the order of declaration
abbrev pub input_row : List Inputs → List Decl → ℕ → List Word
input_row es [] cycle = []
input_row es (decls.Sample n width stage ∷ ds) cycle = word width.value (input_over es n.name cycle 0) ∷ input_row es ds cycle
input_row es (_ ∷ ds) cycle = input_row es ds cycle

abbrev pub inputs_of : Job → List Inputs
inputs_of job = unwrap_or job.inputs []

-- the input vector of a cycle: the samples' values
unfoldable pub input : Job → ℕ → List Word
input job cycle = input_row (inputs_of job) job.decls cycle

-- an input vector: a word for each sample, with its width
abbrev pub AreSamples : List Decl → List Word → Type 0
AreSamples [] row = row ≡ []
AreSamples (decls.Sample n width stage ∷ ds) [] = ⊥
AreSamples (decls.Sample n width stage ∷ ds) (v ∷ row) = (v.width ≡ width.value) × IsWord v × AreSamples ds row
AreSamples (_ ∷ ds) row = AreSamples ds row
