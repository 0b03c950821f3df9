-- WHY AN INSTRUCTION WAITS, or is squashed, by what the stages show in a cycle, and by what the sequential machine reports of the instructions in
-- them. `s` has the tables of the job; reads are numbered in text order.
use Rattle.std.specs.Prelude.{ℕ, zero, suc, ◌+◌, ◌-◌, List, [], ◌∷◌, ◌++◌, Option, Some, None, Bool, true, false, not, ◌&&◌, ◌||◌, ◌==◌, nat_le, nat_lt, if◌then◌else◌, is_some, get_or}
use Rattle.std.specs.List.{list_any}
use Rattle.kp_sites.specs.{declared.sites.Site.Site, declared.sites.Writer.Writer, Sites.Sited, Sites.no_site, Reports.may_write, Reports.setting}
use Rattle.kp_sites.specs.Reports as reports
use Rattle.kp_stalls.specs.declared.{occupants.Stage.Stage, fate.Fate.Fate, cause.Cause.Cause}
use Rattle.kp_stalls.specs.declared.cause.Cause.TheVariants.{Value, Unsure, Ahead, Held, Later, Squashed}
use Rattle.kp_stalls.specs.declared.cause.{Wait.Wait, Had.Had, Had.TheVariants.Known, Had.TheVariants.Set, Had.TheVariants.Moved, Wrong.Wrong, Guess.Guess}
use Rattle.kp_stalls.specs.{declared.cause.Producer.Producer, declared.cause.Line.Line, Occupants.Seen, Occupants.at, Occupants.no_value}
use Rattle.kp_stalls.specs.declared.fate.Fate.TheVariants as fates

-- SOURCES. A full stage j, up to the write stage, that may write the target of w at address a.
abbrev pub is_source : List Seen → Writer → ℕ → ℕ → Bool
is_source occupants w a j = (at occupants j).stage.full && (nat_le j w.write && may_write w (at occupants j).report.recorded j a)

-- The result is ready in stage j, which updates or not.
abbrev pub is_ready : Writer → Seen → ℕ → Bool
is_ready w x j = reports.is_ready w x.report.recorded j x.stage.moves

-- the nearest of d stages from j on that may write
abbrev pub nearest : List Seen → Writer → (address count from : ℕ) → Option ℕ
nearest occupants w a zero j = None
nearest occupants w a (suc d) j = if is_source occupants w a j then Some j else nearest occupants w a d (suc j)

abbrev pub nearest_above : Sited → List Seen → Writer → ℕ → ℕ → Option ℕ
nearest_above s occupants w a k = nearest occupants w a (s.stages - suc k) (suc k)

-- WAITS. When the value of a source in stage j can be had.
abbrev pub had_by : Writer → Seen → ℕ → Had
had_by w x j = if not (nat_le w.known j) then Known w.known else (if setting w x.report.recorded == j then Moved else Set (setting w x.report.recorded))

abbrev pub wait_at : List Seen → Writer → ℕ → ℕ → Option ℕ → Option Wait
wait_at occupants w i a None = None
wait_at occupants w i a (Some j) =
    if is_ready w (at occupants j) j then None
    else Some (record { read = i; address = a; writer = (at occupants j).stage.number; stage = j; had = had_by w (at occupants j) j })

-- read number i of stage k, of a target at address a: a target that isn't written never makes wait
abbrev pub wait_by : Sited → List Seen → (stage instruction address : ℕ) → Option Writer → Option Wait
wait_by s occupants k i a None = None
wait_by s occupants k i a (Some w) = wait_at occupants w i a (nearest_above s occupants w a k)

-- A read waits if its condition holds, it isn't guessed, and the nearest source isn't ready.
abbrev pub wait_of : Sited → List Seen → ℕ → ℕ → Site → Option ℕ → Option Wait
wait_of s occupants k i site None = None
wait_of s occupants k i site (Some a) = if (site.stage == k) && not site.guessed then wait_by s occupants k i a (get_or s.writers site.target None) else None

abbrev pub or_else : {X : Type 0} → Option X → Option X → Option X
or_else None next = next
or_else (Some x) next = Some x

-- the first read of stage k that waits, from read number i on
abbrev pub first_wait : Sited → List Seen → ℕ → ℕ → List Site → Option Wait
first_wait s occupants k i [] = None
first_wait s occupants k i (site ∷ sites) =
    or_else (wait_of s occupants k i site (get_or (at occupants k).report.recorded.reads i None)) (first_wait s occupants k (i + 1) sites)

abbrev pub cause_of_wait : Option Wait → Cause
cause_of_wait None = Unsure
cause_of_wait (Some w) = Value w

abbrev pub is_squashed_by : Fate → Bool
is_squashed_by fates.Squashed = true
is_squashed_by _ = false

abbrev pub retires_by : Fate → Bool
retires_by fates.Retires = true
retires_by _ = false

abbrev pub has_guess : List Site → Bool
has_guess sites = list_any (λ (site : Site). site.guessed) sites

-- The read for which an instruction waits is named if no wrong guess can have fetched it or an older one: the job has no guess, or the instruction retires;
-- and if the samples of its stage have the values that it takes.
abbrev pub is_reported : Sited → Stage → Bool
is_reported s x = x.settled && (retires_by x.fate || not (has_guess s.reads))

abbrev pub value_cause : Sited → List Seen → ℕ → Cause
value_cause s occupants k = if is_reported s (at occupants k).stage then cause_of_wait (first_wait s occupants k 0 s.reads) else Unsure

-- a full stage that doesn't update
abbrev pub is_waiting : Stage → Bool
is_waiting x = x.full && not x.moves

-- What is squashed later has no other cause; of several others the first counts: from outside, the stage ahead, a value.
abbrev pub waiting_cause : Sited → List Seen → ℕ → Cause
waiting_cause s occupants k =
    if is_squashed_by (at occupants k).stage.fate then Later
    else (if (at occupants k).stage.held then Held
    else (if is_waiting (at occupants (k + 1)).stage then Ahead
    else value_cause s occupants k))

-- ROLLBACKS. A guess that may be wrong in stage k: a guessed read of an earlier stage whose condition holds, of a register that isn't written before
-- stage k, and whose value can be had.
abbrev pub is_met : List Seen → Writer → Option ℕ → Bool
is_met occupants w None = true
is_met occupants w (Some j) = is_ready w (at occupants j) j

abbrev pub is_open_by : Sited → List Seen → ℕ → Option Writer → Bool
is_open_by s occupants k None = false
is_open_by s occupants k (Some w) = nat_lt k w.write && is_met occupants w (nearest_above s occupants w 0 k)

abbrev pub is_open : Sited → List Seen → ℕ → Site → Option ℕ → Bool
is_open s occupants k site asked =
    site.guessed && (nat_lt site.stage k && (is_some asked && is_open_by s occupants k (get_or s.writers site.target None)))

-- the only one from read number i on and of one that was found before; none if there are several
abbrev pub only_open : Sited → List Seen → ℕ → Option ℕ → ℕ → List Site → Option ℕ
only_open s occupants k found i [] = found
only_open s occupants k found i (site ∷ sites) =
    if is_open s occupants k site (get_or (at occupants k).report.recorded.reads i None)
    then (if is_some found then None else only_open s occupants k (Some i) (i + 1) sites)
    else only_open s occupants k found (i + 1) sites

-- the instruction that makes the value: that of the nearest stage that may write the register, if there is one
abbrev pub producer_at : List Seen → Option ℕ → Option Producer
producer_at occupants None = None
producer_at occupants (Some j) = Some (record { number = (at occupants j).stage.number; stage = j })

abbrev pub producer_by : Sited → List Seen → ℕ → Option Writer → Option Producer
producer_by s occupants k None = None
producer_by s occupants k (Some w) = producer_at occupants (nearest_above s occupants w 0 k)

abbrev pub producer_of : Sited → List Seen → ℕ → ℕ → Option Producer
producer_of s occupants k i = producer_by s occupants k (get_or s.writers (get_or s.reads i no_site).target None)

-- the guess of read i, found wrong in stage k
abbrev pub guess_of : Sited → List Seen → ℕ → Option ℕ → Option Guess
guess_of s occupants k None = None
guess_of s occupants k (Some i) =
    Some (record { read = i; guessed = None; value = get_or (at occupants k).report.values i no_value; producer = producer_of s occupants k i })

-- a full stage whose instruction doesn't retire
abbrev pub is_lost : Stage → Bool
is_lost x = x.full && not (retires_by x.fate)

-- The instructions in d stages from j on all retire.
abbrev pub all_retire : List Seen → ℕ → ℕ → Bool
all_retire occupants zero j = true
all_retire occupants (suc d) j = not (is_lost (at occupants j).stage) && all_retire occupants d (suc j)

-- The rollback of stage k: the guess is named where it can be no other, and all older instructions retire.
abbrev pub wrong_guess : Sited → List Seen → ℕ → Option Guess
wrong_guess s occupants k =
    if all_retire occupants (s.stages - suc k) (suc k) then guess_of s occupants k (only_open s occupants k None 0 s.reads) else None

abbrev pub wrong_of : Sited → List Seen → ℕ → Wrong
wrong_of s occupants k = record { last = (at occupants 0).stage.number; guess = wrong_guess s occupants k }

-- THE CAUSE of stage k: of the stages that are squashed, the highest one rolls back, and the others have none.
abbrev pub squashing_cause : Sited → List Seen → ℕ → Option Cause
squashing_cause s occupants k = if (at occupants (k + 1)).stage.squashed then None else Some (Squashed (wrong_of s occupants k))

abbrev pub staying_cause : Sited → List Seen → ℕ → Option Cause
staying_cause s occupants k = if (at occupants k).stage.moves then None else Some (waiting_cause s occupants k)

abbrev pub cause_at : Sited → List Seen → ℕ → Option Cause
cause_at s occupants k =
    if (at occupants k).stage.full
    then (if (at occupants k).stage.squashed then squashing_cause s occupants k else staying_cause s occupants k)
    else None

-- THE LINES of a cycle, from the oldest instruction on, of the stages below number k.
abbrev pub line_of : ℕ → List Seen → ℕ → Option Cause → List Line
line_of T occupants k None = []
line_of T occupants k (Some cause) = record { cycle = T; number = (at occupants k).stage.number; stage = k; cause = cause } ∷ []

abbrev pub lines_down : Sited → ℕ → List Seen → ℕ → List Line
lines_down s T occupants zero = []
lines_down s T occupants (suc k) = line_of T occupants k (cause_at s occupants k) ++ lines_down s T occupants k
