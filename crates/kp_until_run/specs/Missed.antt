-- WHICH EXPECTATION isn't met, and what is said of it.
use Rattle.std.specs.Prelude.{◌≡◌, ◌≢◌, ℕ, ◌<◌, false, List, length, get_or}
use Rattle.std.specs.List.{list_any}
use Rattle.kp_bits.specs.Word.{word}
use Rattle.kp_ast.specs.declared.tree.Job.{Job}
use Rattle.kp_machine.specs.Words.{HasWord, target}
use Rattle.kp_seq.specs.Running.{Running, state}
use Rattle.kp_until.specs.Expected.{End, Meets, names}
use Rattle.kp_until.specs.declared.expected.{Check.Check}
use Rattle.kp_until.specs.declared.expected.Check.TheVariants as checks
use Rattle.kp_until_run.specs.declared.missed.Missed.{Missed, TheVariants.Word, TheVariants.Retired, TheVariants.Cycles}

-- the end of a run, by a machine in the state there
abbrev pub end_of : Running → ℕ → ℕ → End
end_of m retired cycles = record { state = state m; retired = retired; cycles = cycles }

abbrev pub no_check : Check
no_check = checks.Retired (record { most = false; number = 0 })

-- What is said of a check: the word and its value, with the expected one; of several words the first that has another value; or the bound.
abbrev pub IsSaid : Job → List Check → End → Check → Missed → Type 0
IsSaid job all e (checks.Word t a v) said = said ≡ Word t a (word (target job t).width (e.state t a)) v
IsSaid job all e (checks.Others t v) said =
    (a : ℕ) × (said ≡ Word t a (word (target job t).width (e.state t a)) v) × HasWord job t a × (list_any (names t a) all ≡ false) × (e.state t a ≢ v.value)
    × ((b : ℕ) → b < a → list_any (names t b) all ≡ false → e.state t b ≡ v.value)
IsSaid job all e (checks.Retired b) said = said ≡ Retired b
IsSaid job all e (checks.Cycles b) said = said ≡ Cycles b

-- One of the checks isn't met, and all before it are.
pub record IsMissed (job : Job) (all : List Check) (e : End) (said : Missed) : Type 0 where
  pub number : ℕ
  pub there : number < length all
  pub missed : Meets job all e (get_or all number no_check) → ⊥
  pub before : (k : ℕ) → k < number → Meets job all e (get_or all k no_check)
  pub says : IsSaid job all e (get_or all number no_check) said

abbrev pub AreMet : Job → List Check → End → Type 0
AreMet job all e = (k : ℕ) → k < length all → Meets job all e (get_or all k no_check)
