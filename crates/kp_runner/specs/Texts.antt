-- THE TEXT of the end of a run.
use Rattle.std.specs.Prelude.{ℕ, zero, suc, ◌+◌, ◌-◌, ◌^◌, Bool, true, not, ◌==◌, if◌then◌else◌, List, [], ◌∷◌, ◌++◌, codes, decimal, length, get_or, Option, Some, None}
use Rattle.std.specs.Option.{option_map_or}
use Rattle.kp_bits.specs.Word.{word}
use Rattle.kp_ast.specs.declared.tree.Job.{Job}
use Rattle.kp_pipeline.specs.Machine.{State}
use Rattle.kp_machine.specs.{Slots.Slot, Slots.targets_of, Slots.is_register, Words.target}
use Rattle.kp_directive.specs.Messages.{joined}
use Rattle.kp_diagram_text.specs.Text.{rate_text}
use Rattle.kp_report.specs.Texts.{register_line, word_line, word_named, values_differing}
use Rattle.kp_until.specs.declared.expected.Bound.{Bound}
use Rattle.kp_until.specs.declared.part.{Index.Index, Part.Part}
use Rattle.kp_until.specs.declared.part.Index.TheVariants.{Whole, One, Between, Others}
use Rattle.kp_until_run.specs.declared.missed.Missed.{Missed, TheVariants.Word, TheVariants.Retired, TheVariants.Cycles}

-- `halt: retired 15 in 24 cycles, 1.60 cycles per instruction`
unfoldable pub counts_text : List ℕ → (retired cycles : ℕ) → List ℕ
counts_text name retired cycles = joined (name ∷ codes ": retired " ∷ decimal retired ∷ codes " in " ∷ decimal cycles ∷ codes " cycles" ∷ [])

abbrev pub end_line : List ℕ → (retired cycles : ℕ) → List ℕ
end_line name retired cycles = counts_text name retired cycles ++ (rate_text cycles retired ++ codes "\n")

-- the line of a word of a file, if it is kept
abbrev pub kept_line : Slot → (ℕ → Bool) → (ℕ → ℕ) → ℕ → List ℕ
kept_line s keep values a = if keep a then word_line s.name a (word s.width (values a)) None else []

-- the lines of the first n words from an address on
abbrev pub kept_lines : Slot → (ℕ → Bool) → (ℕ → ℕ) → ℕ → ℕ → List ℕ
kept_lines s keep values from zero = []
kept_lines s keep values from (suc n) = kept_lines s keep values from n ++ kept_line s keep values (from + n)

abbrev pub register_text : Slot → (ℕ → ℕ) → List ℕ
register_text s values = register_line s.name (word s.width (values 0)) None

-- a register, or the words of a file that differ from those at the start
abbrev pub changed_text : Slot → (ℕ → ℕ) → (ℕ → ℕ) → List ℕ
changed_text s first values =
    if is_register s then register_text s values else kept_lines s (λ a. not (values a == first a)) values 0 (2 ^ s.address)

-- the words that are asked for; of a complete file those that aren't 0
abbrev pub index_text : Slot → (ℕ → ℕ) → Index → List ℕ
index_text s values Whole = if is_register s then register_text s values else kept_lines s (λ a. not (values a == 0)) values 0 (2 ^ s.address)
index_text s values (One a) = kept_lines s (λ _. true) values a 1
index_text s values (Between a b) = kept_lines s (λ _. true) values a (b + 1 - a)
index_text s values Others = []

abbrev pub part_text : ℕ → Slot → (ℕ → ℕ) → Part → List ℕ
part_text t s values part = if part.target == t then index_text s values part.index else []

abbrev pub parts_text : ℕ → Slot → (ℕ → ℕ) → List Part → List ℕ
parts_text t s values [] = []
parts_text t s values (part ∷ parts) = part_text t s values part ++ parts_text t s values parts

abbrev pub target_text : Job → (first state : State) → Option (List Part) → ℕ → List ℕ
target_text job first state None t = changed_text (target job t) (first t) (state t)
target_text job first state (Some parts) t = parts_text t (target job t) (state t) parts

-- the lines of the first n targets
abbrev pub targets_text : Job → (first state : State) → Option (List Part) → ℕ → List ℕ
targets_text job first state only zero = []
targets_text job first state only (suc n) = targets_text job first state only n ++ target_text job first state only n

abbrev pub state_text : Job → (first state : State) → Option (List Part) → List ℕ
state_text job first state only = targets_text job first state only (length (targets_of job.decls))

-- `<=23`, or `16`
abbrev pub bound_text : Bound → List ℕ
bound_text b = (if b.most then codes "<=" else []) ++ decimal b.number

-- `differs cycles 24 <=23`
unfoldable pub count_differing : List ℕ → ℕ → Bound → List ℕ
count_differing name n b = codes "differs " ++ (name ++ (codes " " ++ (decimal n ++ (codes " " ++ (bound_text b ++ codes "\n")))))

-- `differs GPR[4] 32'h00000000 32'h0000000c`: the word, its value and the expected one
abbrev pub missed_text : Job → ℕ → ℕ → Missed → List ℕ
missed_text job retired cycles (Word t a found expected) = codes "differs " ++ (word_named (target job t) a ++ values_differing found expected)
missed_text job retired cycles (Retired b) = count_differing (codes "retired") retired b
missed_text job retired cycles (Cycles b) = count_differing (codes "cycles") cycles b

-- `expected 89: all met`, where anything is expected
unfoldable pub met_text : ℕ → List ℕ
met_text lines = if lines == 0 then [] else codes "expected " ++ (decimal lines ++ codes ": all met\n")

abbrev pub verdict_text : Job → (lines retired cycles : ℕ) → Option Missed → List ℕ
verdict_text job lines retired cycles (Some missed) = missed_text job retired cycles missed
verdict_text job lines retired cycles None = met_text lines

-- what ended the run: a condition, by the words for them; without any it is `halt`
abbrev pub end_name : List (List ℕ) → Option ℕ → List ℕ
end_name names (Some k) = get_or names k (codes "halt")
end_name names None = codes "limit"

-- 7 if an expectation isn't met, else 8 at the limit, else 0
abbrev pub end_status : Option ℕ → Option Missed → ℕ
end_status which (Some missed) = 7
end_status (Some k) None = 0
end_status None None = 8
