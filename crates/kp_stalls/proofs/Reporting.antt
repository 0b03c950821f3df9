-- What is reported of an instruction that waits for a value.
use Rattle.std.proofs.Common.{◌≡◌, ℕ, ◌+◌, Option, Some, None, Bool, true, false, cond, ap, List}
use Rattle.kp_stalls.specs.declared.cause.Cause.{Cause}
use Rattle.kp_stalls.specs.declared.cause.Cause.TheVariants.{Value, Unsure, Ahead, Held, Later, Squashed}
use Rattle.kp_stalls.specs.{declared.cause.Wait.Wait, declared.cause.Wrong.Wrong, Occupants.Seen, Occupants.at}
use Rattle.kp_stalls.specs.Causes.{cause_at, cause_of_wait, first_wait, is_squashed_by, is_reported, is_waiting, squashing_cause, wrong_of}
use Rattle.kp_sites.specs.Sites.{Sited}

pub record_wait : (s : Sited) (occupants : List Seen) (k : ℕ) (w : Wait) → (at occupants k).stage.full ≡ true → (at occupants k).stage.squashed ≡ false → (at occupants k).stage.moves ≡ false
    → is_squashed_by (at occupants k).stage.fate ≡ false → (at occupants k).stage.held ≡ false → is_waiting (at occupants (k + 1)).stage ≡ false → is_reported s (at occupants k).stage ≡ true
    → first_wait s occupants k 0 s.reads ≡ Some w → cause_at s occupants k ≡ Some (Value w)
record_wait s occupants k w full squashed moves later held ahead recorded first = λ i.
    cond (full i)
    (cond (squashed i) (squashing_cause s occupants k)
    (cond (moves i) None (Some (cond (later i) Later (cond (held i) Held (cond (ahead i) Ahead (cond (recorded i) (cause_of_wait (first i)) Unsure)))))))
    None

-- the wait of a cause
abbrev wait_in : Option Cause → Option Wait
wait_in (Some (Value w)) = Some w
wait_in _ = None

never : (f : Option Wait) (w : Wait) → None ≡ Some w → f ≡ Some w
never f w e = cc

only_found : (f : Option Wait) (recorded : Bool) → (w : Wait) → wait_in (Some (cond recorded (cause_of_wait f) Unsure)) ≡ Some w → f ≡ Some w
only_found None true w e = e
only_found (Some v) true w e = e
only_found f false w e = never f w e

only_recorded : (full squashed next moves later held ahead recorded : Bool) (g : Wrong) (f : Option Wait) (w : Wait)
    → wait_in (cond full
    (cond squashed (cond next None (Some (Squashed g)))
    (cond moves None (Some (cond later Later (cond held Held (cond ahead Ahead (cond recorded (cause_of_wait f) Unsure)))))))
    None) ≡ Some w → f ≡ Some w
only_recorded true false _ false false false false recorded g f w e = only_found f recorded w e
only_recorded true true true _ _ _ _ _ g f w e = never f w e
only_recorded _ _ _ _ _ _ _ _ g f w e = never f w e

pub record_found : (s : Sited) (occupants : List Seen) (k : ℕ) (w : Wait) → cause_at s occupants k ≡ Some (Value w) → first_wait s occupants k 0 s.reads ≡ Some w
record_found s occupants k w e =
    only_recorded (at occupants k).stage.full (at occupants k).stage.squashed (at occupants (k + 1)).stage.squashed (at occupants k).stage.moves (is_squashed_by (at occupants k).stage.fate)
    (at occupants k).stage.held (is_waiting (at occupants (k + 1)).stage) (is_reported s (at occupants k).stage) (wrong_of s occupants k) (first_wait s occupants k 0 s.reads) w (ap wait_in e)
