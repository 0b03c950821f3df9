-- The texts that are printed on standard error.
use Rattle.std.specs.Prelude.{ℕ, List, [], ◌++◌, codes, decimal, slice_get, Option, Some, None}
use Rattle.std.specs.Option.{option_map_or}
use Rattle.kp_base.specs.declared.refusal.{Family.Family, Family.TheVariants.E, Family.TheVariants.V, Family.TheVariants.A, Refusal.Refusal}
use Rattle.kp_view.specs.declared.sentences.TheConstants.{SENTENCES}

-- the name of a file, or of standard input
abbrev pub file_text : Option (List ℕ) → List ℕ
file_text (Some name) = name
file_text None = codes "<stdin>"

abbrev pub family_letter : Family → List ℕ
family_letter E = codes "E"
family_letter V = codes "V"
family_letter A = codes "A"

-- the sentence for a rule of descriptions, by its number
abbrev pub sentence : ℕ → List ℕ
sentence number = option_map_or (λ s. s.now) (slice_get SENTENCES number) []

-- the place and the rule: `:11:13: error E9: two operands have different widths`
unfoldable pub rule_said : Refusal → List ℕ
rule_said refusal =
    codes ":" ++ decimal refusal.place.line ++ codes ":" ++ decimal refusal.place.col ++ codes ": error "
    ++ family_letter refusal.family ++ decimal refusal.number ++ codes ": " ++ sentence refusal.number ++ codes "\n"

-- after the name of the file: `mini5.kp:11:13: error E9: two operands have different widths`
abbrev pub refusal_said : List ℕ → Refusal → List ℕ
refusal_said name refusal = name ++ rule_said refusal

abbrev pub refusal_text : Option (List ℕ) → Refusal → List ℕ
refusal_text file refusal = refusal_said (file_text file) refusal

-- another number of names than of stages
unfoldable pub names_text : ℕ → ℕ → List ℕ
names_text given stages =
    codes "kpview: names of stages: "
    ++ (decimal given ++ (codes ", stages of the job: " ++ (decimal stages ++ codes "; give a name for each stage, or none\n")))

-- a word of the command line that isn't a label
unfoldable pub label_wrong : List ℕ → List ℕ
label_wrong word = codes "kpview: a label is a register, a pipe, a result or a word as `F[0]`; not `" ++ (word ++ codes "`\n")
