-- THE CONDITIONS ON WHICH A RUN ENDS: `halt`, `retired=N`, `R=V`, `F[3]=V`, `R!=V` and `F[3]!=V`.
use Rattle.std.specs.Prelude.{◌≡◌, ◌≢◌, ℕ, ◌+◌, ◌-◌, ◌≤◌, Bool, true, false, ◌==◌, if◌then◌else◌, List, codes, take, drop, position, Option, Some, None, Result, Ok, Err}
use Rattle.std.specs.Str.{bytes_eq}
use Rattle.kp_bits.specs.{Word.Word, Literals.number_of as number_read}
use Rattle.kp_ast.specs.declared.tree.Job.{Job}
use Rattle.kp_machine.specs.Words.{HasWord, target}
use Rattle.kp_until.specs.Parts.{ends_in, front, part_of, single, value_of}
use Rattle.kp_until.specs.declared.{part.Part.Part, part.PartFault.PartFault, part.ValueFault.ValueFault, until.Until.Until, until.UntilFault.UntilFault}
use Rattle.kp_until.specs.declared.until.Until.TheVariants.{Halt, Retired, Word as Has}
use Rattle.kp_until.specs.declared.until.UntilFault.TheVariants.{Form, NoPart, ManyWords, NoValue}
use Rattle.kp_pipeline.specs.Machine.{State}

-- ---- reading

abbrev pub is_equals : ℕ → Bool
is_equals c = c == 61

abbrev pub retired_of : Option ℕ → Result Until UntilFault
retired_of (Some n) = Ok (Retired n)
retired_of None = Err Form

abbrev pub with_value : ℕ → ℕ → Bool → Result Word ValueFault → Result Until UntilFault
with_value t a equal (Ok v) = Ok (Has t a equal v)
with_value t a equal (Err fault) = Err (NoValue fault t)

abbrev pub with_address : Job → ℕ → Option ℕ → Bool → List ℕ → Result Until UntilFault
with_address job t None equal right = Err ManyWords
with_address job t (Some a) equal right = with_value t a equal (value_of (target job t).width right)

abbrev pub with_part : Job → Result Part PartFault → Bool → List ℕ → Result Until UntilFault
with_part job (Err fault) equal right = Err (NoPart fault)
with_part job (Ok part) equal right = with_address job part.target (single (target job part.target) part.index) equal right

abbrev pub compared : Job → List ℕ → List ℕ → Result Until UntilFault
compared job left right =
    if bytes_eq left (codes "retired") then retired_of (number_read right)
    else (if ends_in 33 left then with_part job (part_of job (front left)) false right else with_part job (part_of job left) true right)

abbrev pub until_at : Job → Option ℕ → List ℕ → Result Until UntilFault
until_at job None word = Err Form
until_at job (Some i) word = compared job (take i word) (drop (i + 1) word)

unfoldable pub until_of : Job → List ℕ → Result Until UntilFault
until_of job word = if bytes_eq word (codes "halt") then Ok Halt else until_at job (position is_equals word) word

-- the word of a condition is one of the job
abbrev pub IsUntil : Job → Until → Type 0
IsUntil job (Has t a equal v) = HasWord job t a
IsUntil job _ = Unit {0}

-- ---- meaning: `s i` is the state after i instructions

-- two states of a job have the same words
abbrev pub AreSame : Job → State → State → Type 0
AreSame job s r = (t a : ℕ) → HasWord job t a → s t a ≡ r t a

abbrev pub Compares : Bool → ℕ → ℕ → Type 0
Compares true x v = x ≡ v
Compares false x v = x ≢ v

-- After j instructions the state is the one after p fewer, for a p of 1 to 4.
pub record Repeats (job : Job) (s : ℕ → State) (j p : ℕ) : Type 0 where
  pub some : 1 ≤ p
  pub few : p ≤ 4
  pub within : p ≤ j
  pub same : AreSame job (s (j - p)) (s j)

-- THE CONDITION HOLDS after j instructions. That the state repeats is noticed when it does.
abbrev pub Holds : Job → (ℕ → State) → (instructions : ℕ) → Until → Type 0
Holds job s j Halt = (p : ℕ) × Repeats job s j p
Holds job s j (Retired n) = n ≤ j
Holds job s j (Has t a equal v) = Compares equal (s j t a) v.value
