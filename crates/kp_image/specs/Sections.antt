-- The rules of the image, the stalls and the inputs section: E30 to E32, E36 and E37, and E8, E13 and E10 for the literals of image and inputs entries.
--
-- Each entry has at most one finding, the first in it. Names and widths have been checked before.
use Rattle.std.specs.Prelude.{ℕ, ◌+◌, ◌^◌, List, [], ◌∷◌, ◌++◌, Option, Some, None, option_map, Bool, not, if◌then◌else◌, ◌==◌, nat_lt, min, map, Result, Ok, Err, refl}
use Rattle.std.specs.Option.{option_or}
use Rattle.kp_base.specs.{First.first, Check.Check, Check.after, Check.answer, declared.finding.Finding.Finding, declared.place.Place.Place, declared.refusal.Refusal.Refusal}
use Rattle.kp_bits.specs.{Word.Word, Literals.fit_of, declared.literal.LiteralFault.LiteralFault, declared.literal.LiteralFault.TheVariants.TooBig}
use Rattle.kp_ast.specs.{Expressions.is_same_name, declared.widths.NameKind.NameKind, declared.tree.Num.Num, declared.tree.Lit.Lit, declared.tree.Named.Named, declared.tree.Decl.Decl}
use Rattle.kp_ast.specs.declared.tree.{Image.Image, Stalls.Stalls, Inputs.Inputs, Job.Job}
use Rattle.kp_ast.specs.declared.tree.Decl.TheVariants as decls
use Rattle.kp_ast.specs.declared.widths.NameKind.TheVariants as kinds
use Rattle.kp_width.specs.Declarations.{name_of}
use Rattle.kp_stage.specs.Start.{first_address, image_of, stalls_of, inputs_of}
use Rattle.kp_image.specs.{Faults.refusal_of, declared.check.Declared.Declared, declared.fault.SectionFault.SectionFault}
use Rattle.kp_image.specs.declared.fault.SectionFault.TheVariants as faults

-- a violation, or none
abbrev pub Answer : Type 0
Answer = Option (Finding SectionFault)

abbrev pub found : SectionFault → Place → Answer
found fault at = Some (record { place = at; fault = fault })

-- the violation, unless the test holds
abbrev pub broken_unless : Bool → SectionFault → Place → Answer
broken_unless holds fault at = answer holds (record { place = at; fault = fault })

abbrev pub known : NameKind → Named → (width words : ℕ) → Declared
known kind n width words = record { kind = kind; at = n.at; width = width; words = words }

-- what is declared: its kind, the place of its name, the width of its words, and how many it has: a file has one for each of its addresses, which have up to
-- 16 bits (E14)
abbrev pub declared_by : Decl → Declared
declared_by (decls.Reg n width start) = known kinds.Reg n width.value 1
declared_by (decls.File n width address) = known (kinds.File (min address.value 16)) n width.value (2 ^ min address.value 16)
declared_by (decls.Pipe n width) = known kinds.Pipe n width.value 1
declared_by (decls.Hint n width start) = known kinds.Hint n width.value 1
declared_by (decls.Target r) = known kinds.Target r.name r.width.value 1
declared_by (decls.Func f) = known kinds.Func f.name f.width.value 1
declared_by (decls.Sample n width stage) = known kinds.Sample n width.value 1

abbrev pub declared_as : List ℕ → Decl → Option Declared
declared_as name d = if is_same_name (name_of d).name name then Some (declared_by d) else None

-- the declaration of a name
abbrev pub declared_in : List Decl → List ℕ → Option Declared
declared_in ds name = first (map (declared_as name) ds)

-- The literals of an entry whose name is at `name`, for what is declared so. E8 and E13: a literal is a word; E10: it is as wide as the words.
abbrev pub word_found : Place → Declared → Lit → Result Word LiteralFault → Answer
word_found name d l (Ok word) = broken_unless (word.width == d.width) (faults.ValueWidth name d.kind d.width word.width l.literal.value) l.at
word_found name d l (Err TooBig) = found (faults.LiteralValue l.literal.width l.literal.value) l.at
word_found name d l (Err _) = found (faults.LiteralWidth l.literal.width) l.at

abbrev pub literal_of : Place → Declared → Lit → Answer
literal_of name d l = word_found name d l (fit_of l.literal)

-- E31: the word of an address exists
abbrev pub no_word : NameKind → Place → ℕ → SectionFault
no_word kinds.Reg name words = faults.SecondStart name
no_word kind name words = faults.WordBeyond name words

abbrev pub word_of : Place → Declared → (address : ℕ) → Lit → Answer
word_of name d address l = option_or (broken_unless (nat_lt address d.words) (no_word d.kind name d.words) l.at) (literal_of name d l)

-- the literals for the words from an address on
abbrev pub values_of : Place → Declared → (address : ℕ) → List Lit → Answer
values_of name d address [] = None
values_of name d address (l ∷ ls) = option_or (word_of name d address l) (values_of name d (address + 1) ls)

-- E31: an address is one of those of the words
abbrev pub address_of : Place → (words : ℕ) → Option Num → Answer
address_of name words None = None
address_of name words (Some n) = broken_unless (nat_lt n.value words) (faults.AddressBeyond name words n.value) n.at

-- E30: the name is that of a register without an address, or of a file with one
abbrev pub target_of : Place → NameKind → Place → Option Num → Answer
target_of name kinds.Reg declared None = None
target_of name kinds.Reg declared (Some n) = found (faults.NeedlessAddress declared) name
target_of name (kinds.File bits) declared None = found (faults.NoAddress declared) name
target_of name (kinds.File bits) declared (Some n) = None
target_of name kind declared address = found (faults.Empty kind declared) name

-- an entry of the image, where its name is declared so
abbrev pub image_entry : Image → Option Declared → Answer
image_entry e None = found faults.Unknown e.name.at
image_entry e (Some d) =
    option_or (target_of e.name.at d.kind d.at e.address)
    (option_or (address_of e.name.at d.words e.address) (values_of e.name.at d (first_address e) e.values))

unfoldable pub entry_of : List Decl → Image → Answer
entry_of ds e = image_entry e (declared_in ds e.name.name)

-- a step is not 0
abbrev pub step_of : SectionFault → Option Num → Answer
step_of fault None = None
step_of fault (Some n) = broken_unless (not (n.value == 0)) fault n.at

-- E32: the stage of an entry of the stalls is one of this many, and its step is not 0
abbrev pub stall_of : ℕ → Stalls → Answer
stall_of stages e = option_or (broken_unless (nat_lt e.stage.value stages) (faults.NoStage e.stage.value stages) e.stage.at) (step_of faults.StallStep e.step)

-- E36: the name is that of a sample
abbrev pub sample_of : Place → NameKind → Place → Answer
sample_of name kinds.Sample declared = None
sample_of name kind declared = found (faults.NoSample kind declared) name

-- an entry of the inputs, where its name is declared so; E37: its step is not 0
abbrev pub inputs_entry : Inputs → Option Declared → Answer
inputs_entry e None = found faults.UnknownSample e.name.at
inputs_entry e (Some d) = option_or (sample_of e.name.at d.kind d.at) (option_or (literal_of e.name.at d e.value) (step_of faults.InputStep e.step))

unfoldable pub input_of : List Decl → Inputs → Answer
input_of ds e = inputs_entry e (declared_in ds e.name.name)

-- THE ANSWERS for the entries of all sections, in text order
unfoldable pub asked_by : Job → List Answer
asked_by job =
    map (entry_of job.decls) (image_of job)
    ++ (map (stall_of job.stages.value) (stalls_of job) ++ map (input_of job.decls) (inputs_of job))

-- the rules that they violate
abbrev pub rules_of : List Answer → List (Option Refusal)
rules_of answers = map (option_map refusal_of) answers

-- THE VERDICT on the sections: the first rule that one of them violates
unfoldable pub sections_of : Job → Check Refusal (Unit {0})
sections_of job = record { value = tt; asked = rules_of (asked_by job); found = after (first (rules_of (asked_by job))) (Ok tt); same = refl }
