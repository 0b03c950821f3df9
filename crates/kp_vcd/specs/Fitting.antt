-- DUMPS THAT A TEXT CAN DENOTE: reading the text returns all of the dump.
use Rattle.std.specs.Prelude.{◌≡◌, ℕ, ◌<◌, ◌≤◌, ◌^◌, true, List, [], ◌∷◌, length, All, ⊤}
use Rattle.kp_bits.specs.Word.{IsWord}
use Rattle.kp_vcd.specs.declared.dump.{Signal.Signal, Change.Change, Moment.Moment, Dump.Dump}
use Rattle.kp_vcd.specs.Forms.{is_name, width_at}

pub record IsSignal (s : Signal) : Type 0 where
  pub named : is_name s.name ≡ true
  pub positive : 1 ≤ s.width
  pub at_most : s.width ≤ 64

-- a change of a signal to a value of its width
pub record IsChange (signals : List Signal) (c : Change) : Type 0 where
  pub known : c.signal < 2 ^ 64
  pub wide : width_at signals c.signal ≡ c.value.width
  pub value : IsWord c.value

-- each time is greater than the one before
abbrev pub RisesAfter : ℕ → List Moment → Type 0
RisesAfter t [] = ⊤
RisesAfter t (m ∷ ms) = (t < m.at) × (m.at < 2 ^ 64) × RisesAfter m.at ms

abbrev pub Rises : List Moment → Type 0
Rises [] = ⊤
Rises (m ∷ ms) = (m.at < 2 ^ 64) × RisesAfter m.at ms

pub record FitsForm (d : Dump) : Type 0 where
  pub named : is_name d.module ≡ true
  pub signals : All IsSignal d.signals
  pub few : length d.signals < 2 ^ 64
  pub rises : Rises d.moments
  pub changes : All (λ m. All (IsChange d.signals) m.changes) d.moments
