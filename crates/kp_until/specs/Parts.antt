-- WORDS OF THE STATE, as they are written: `R`, `F`, `F[3]`, `F[0..15]` or `F[..]`; and values: `12`, `0x0c` or `8'h0c`.
use Rattle.std.specs.Prelude.{ℕ, ⊤, ◌<◌, ◌≤◌, ◌+◌, ◌-◌, ◌^◌, Bool, true, false, ◌&&◌, ◌==◌, nat_lt, nat_le, if◌then◌else◌, List, [], ◌∷◌, codes, length, take, drop, position, slice_get, Option, Some, None, Result, Ok, Err, option_map, option_and_then}
use Rattle.std.specs.{Str.bytes_eq, Option.option_map_or}
use Rattle.kp_bits.specs.{Word.Word, Literals.number_of as number_read, Literals.numeral_value, Literals.number_within, Literals.is_numeral, Literals.literal_of, Literals.fit_of, declared.literal.Literal.Literal}
use Rattle.kp_bits.specs.declared.literal.LiteralFault.{LiteralFault, TheVariants.BadDigit}
use Rattle.kp_ast.specs.declared.tree.Job.{Job}
use Rattle.kp_machine.specs.{Slots.Slot, Slots.targets_of, Slots.number_of, Slots.is_register, Words.target}
use Rattle.kp_until.specs.declared.part.{Index.Index, Part.Part, PartFault.PartFault, ValueFault.ValueFault}
use Rattle.kp_until.specs.declared.part.Index.TheVariants.{Whole, One, Between, Others}
use Rattle.kp_until.specs.declared.part.PartFault.TheVariants.{NoTarget, NoWord}
use Rattle.kp_until.specs.declared.part.ValueFault.TheVariants.{NoNumber, TooWide}

-- ---- bytes

abbrev pub is_open : ℕ → Bool
is_open c = c == 91

abbrev pub is_dot : ℕ → Bool
is_dot c = c == 46

-- the last byte is this one
abbrev pub ends_in : ℕ → List ℕ → Bool
ends_in c xs = option_map_or (λ l. l == c) (slice_get xs (length xs - 1)) false

-- all bytes but the last
abbrev pub front : List ℕ → List ℕ
front xs = take (length xs - 1) xs

-- ---- which words of a target

-- an address, which has at most 32 bits
abbrev pub small : ℕ → Option ℕ
small n = if nat_lt n (2 ^ 32) then Some n else None

abbrev pub address_of : List ℕ → Option ℕ
address_of run = option_and_then small (number_read run)

abbrev pub range_of : Option ℕ → Option ℕ → Option Index
range_of (Some a) (Some b) = Some (Between a b)
range_of _ _ = None

-- the bytes after `..`
abbrev pub after_dots : List ℕ → Option (List ℕ)
after_dots (a ∷ b ∷ rest) = if is_dot a && is_dot b then Some rest else None
after_dots _ = None

abbrev pub index_to : List ℕ → Option (List ℕ) → Option Index
index_to first None = None
index_to first (Some rest) = range_of (address_of first) (address_of rest)

-- what is in the brackets, with its first dot at this position
abbrev pub index_at : Option ℕ → List ℕ → Option Index
index_at None inner = option_map One (address_of inner)
index_at (Some i) inner = index_to (take i inner) (after_dots (drop i inner))

abbrev pub index_in : List ℕ → Option Index
index_in inner = if bytes_eq inner (codes "..") then Some Others else index_at (position is_dot inner) inner

-- what follows the `[`
abbrev pub after_open : List ℕ → Option Index
after_open rest = if ends_in 93 rest then index_in (front rest) else None

-- target t, which is this one, has these words
abbrev pub checked : ℕ → Slot → Index → Result Part PartFault
checked t s Whole = Ok (record { target = t; index = Whole })
checked t s (One a) =
    if is_register s then Err NoTarget else (if nat_lt a (2 ^ s.address) then Ok (record { target = t; index = One a }) else Err (NoWord t))
checked t s (Between a b) =
    if is_register s then Err NoTarget
    else (if nat_le a b && nat_lt b (2 ^ s.address) then Ok (record { target = t; index = Between a b }) else Err (NoWord t))
checked t s Others = if is_register s then Err NoTarget else Ok (record { target = t; index = Others })

abbrev pub part_with : Job → ℕ → Option Index → Result Part PartFault
part_with job t None = Err NoTarget
part_with job t (Some index) = if nat_lt t (length (targets_of job.decls)) then checked t (target job t) index else Err NoTarget

-- the words that bytes name, with their first `[` at this position
abbrev pub part_at : Job → Option ℕ → List ℕ → Result Part PartFault
part_at job None run = part_with job (number_of (targets_of job.decls) run) (Some Whole)
part_at job (Some i) run = part_with job (number_of (targets_of job.decls) (take i run)) (after_open (drop (i + 1) run))

unfoldable pub part_of : Job → List ℕ → Result Part PartFault
part_of job run = part_at job (position is_open run) run

-- the words are words of the job
abbrev pub IsIndex : Slot → Index → Type 0
IsIndex s (One a) = a < 2 ^ s.address
IsIndex s (Between a b) = (a ≤ b) × (b < 2 ^ s.address)
IsIndex s _ = ⊤

pub record IsPart (job : Job) (part : Part) : Type 0 where
  pub there : part.target < length (targets_of job.decls)
  pub index : IsIndex (target job part.target) part.index

-- the address of a single word: that of a register is 0
abbrev pub single : Slot → Index → Option ℕ
single s Whole = if is_register s then Some 0 else None
single s (One a) = Some a
single s _ = None

-- ---- a value of this width

abbrev pub fitted : Result Word LiteralFault → Result Word ValueFault
fitted (Ok w) = Ok w
fitted (Err e) = Err TooWide

abbrev pub bare : ℕ → Option ℕ → Result Word ValueFault
bare width (Some n) = fitted (fit_of (record { width = width; value = n }))
bare width None = Err TooWide

abbrev pub literal_value : ℕ → Result Literal LiteralFault → Result Word ValueFault
literal_value width (Ok l) = if l.width == width then fitted (fit_of l) else Err TooWide
literal_value width (Err BadDigit) = Err NoNumber
literal_value width (Err _) = Err TooWide

abbrev pub plain : ℕ → Option ℕ → List ℕ → Result Word ValueFault
plain width (Some n) run = bare width (Some n)
plain width None run = literal_value width (literal_of run)

abbrev pub hexadecimal : List ℕ → Option (List ℕ)
hexadecimal digits = if is_numeral 16 digits then Some digits else None

-- the digits after `0x`
abbrev pub after_0x : List ℕ → Option (List ℕ)
after_0x (a ∷ b ∷ digits) = if (a == 48) && (b == 120) then hexadecimal digits else None
after_0x _ = None

abbrev pub value_by : ℕ → Option (List ℕ) → List ℕ → Result Word ValueFault
value_by width (Some digits) run = bare width (number_within (numeral_value 16 digits))
value_by width None run = plain width (number_read run) run

unfoldable pub value_of : ℕ → List ℕ → Result Word ValueFault
value_of width run = value_by width (after_0x run) run
