-- The contracts of the parts of the reader.
use Rattle.std.specs.Prelude.{◌≡◌, ℕ, List, Option, None, Some, Result, Ok, Err, ⊤, []}
use Rattle.kp_base.specs.declared.place.Place.{Place}
use Rattle.kp_vcd.specs.{declared.dump.Dump.Dump, Words.Spot, Forms.Form}
use Rattle.kp_vcd.specs.{Verdicts.Meets, Reading.Fault, Reading.State, Reading.change, Reading.walk, Reading.at, Reading.ends, Reading.step, Reading.says, inner.Left.Left}
use Rattle.kp_vcd.specs.declared.refused.DumpRefused.{DumpRefused}
use Rattle.kp_vcd.specs.declared.refused.DumpRefused.TheVariants as refused

-- the verdict on a text, read from this state on
abbrev pub gives_from : State → Left → Result Dump Fault
gives_from s left = walk (Ok s) left.words left.end

-- the verdict on a text, after the moments of a dump: the time of the next one has been read already, or none follows
abbrev pub gives_behind : Dump → Option ℕ → Left → Result Dump Fault
gives_behind d None left = Ok d
gives_behind d (Some t) left = gives_from (at (change t []) d) left

-- the meaning of a token, or the rule that it violates at this position
abbrev pub refusing : {X : Type 0} → Place → Form X → Result X DumpRefused
refusing place (Ok x) = Ok x
refusing place (Err rule) = Err (refused.Rule rule place)

-- in this state a token of this form is required, and its meaning leads on
pub record Wants {X : Type 0} (s : State) (form : List ℕ → Form X) (on : X → State) : Type 0 where
  pub ending : (end : Place) → ends s.next s.dump end ≡ Err (record { rule = 1; place = end })
  pub word : (w : Spot) → step s w ≡ says (form w.bytes) w.place on

-- a token of this form was read
abbrev pub Takes : {X : Type 0} → (List ℕ → Form X) → Left → Left → Result X DumpRefused → Type 0
Takes {X = X} form old new result = (s : State) (on : X → State) → Wants s form on → Meets (gives_from s old) (λ x. gives_from (on x) new) result
