-- THE CHANGES OF GIVEN VALUES. They are given for the times 0 to n, at each time by signal, and at some times a signal has none.
use Rattle.std.specs.Prelude.{◌≡◌, ℕ, zero, suc, ◌+◌, ◌<◌, ◌==◌, ◌&&◌, not, List, [], ◌∷◌, ◌++◌, get_or, Bool, true, false, Option, None, Some, if◌then◌else◌}
use Rattle.kp_bits.specs.Word.{Word}
use Rattle.kp_vcd.specs.declared.dump.{Change.Change, Moment.Moment}

abbrev pub Values : Type 0
Values = List (Option Word)

-- the signal has this value
abbrev pub is_value : Option Word → Word → Bool
is_value None w = false
is_value (Some v) w = v.width == w.width && v.value == w.value

-- a value is a change if there was another one, or none, before
abbrev pub change_of : ℕ → Option Word → Option Word → List Change
change_of s before None = []
change_of s before (Some w) = if is_value before w then [] else record { signal = s; value = w } ∷ []

-- the changes from the values before to the new ones, where the first is that of signal s
abbrev pub changes_from : ℕ → Values → Values → List Change
changes_from s before [] = []
changes_from s before (v ∷ now) = change_of s (get_or before s None) v ++ changes_from (s + 1) before now

-- the values before a time: before time 0 there are none
abbrev pub values_before : (ℕ → Values) → ℕ → Values
values_before values zero = []
values_before values (suc T) = values T

-- the changes at a time: at 0 every value is a change
abbrev pub changes_at : (ℕ → Values) → ℕ → List Change
changes_at values T = changes_from 0 (values_before values T) (values T)

abbrev pub is_empty : List Change → Bool
is_empty [] = true
is_empty (c ∷ cs) = false

-- a time between 0 and n without a change is left out
abbrev pub moment_of : ℕ → ℕ → List Change → List Moment
moment_of n T changes = if not (T == 0) && not (T == n) && is_empty changes then [] else record { at = T; changes = changes } ∷ []

-- the moments before time T
abbrev pub moments_before : (ℕ → Values) → ℕ → ℕ → List Moment
moments_before values n zero = []
moments_before values n (suc T) = moments_before values n T ++ moment_of n T (changes_at values T)

-- RECORDED: the moments at the times 0 to n
abbrev pub recorded : (ℕ → Values) → ℕ → List Moment
recorded values n = moments_before values n (suc n)

-- a signal that has a value at one of the times 1 to n has one at the time before
abbrev pub Lasts : (ℕ → Values) → ℕ → Type 0
Lasts values n = (T s : ℕ) (w : Word) → T < n → get_or (values (suc T)) s None ≡ Some w → (v : Word) × (get_or (values T) s None ≡ Some v)

-- the state of a recorder: the last time, the next time, the values before it, and the moments so far
pub record Record : Type 0 where
  pub last : ℕ
  pub at : ℕ
  pub before : Values
  pub moments : List Moment

-- it has recorded these values before time T
pub record HasRecorded (values : ℕ → Values) (n T : ℕ) (r : Record) : Type 0 where
  pub last : r.last ≡ n
  pub at : r.at ≡ T
  pub before : r.before ≡ values_before values T
  pub moments : r.moments ≡ moments_before values n T
