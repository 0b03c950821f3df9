-- Which stages wait, and which are blocked, by what was reported about the instructions in them.
use Rattle.std.specs.Prelude.{ℕ, zero, suc, ◌+◌, ◌-◌, List, Option, Some, None, Bool, true, false, not, ◌&&◌, ◌||◌, nat_le, if◌then◌else◌, is_some, get_or, set, replicate, unwrap_or}
use Rattle.std.specs.List.{swap}
use Rattle.kp_seq.specs.Recorded.{Recorded}
use Rattle.kp_sched.specs.Rows.{bit_of}
use Rattle.kp_sites.specs.{declared.sites.Site.Site, declared.sites.Writer.Writer, Sites.Sited}
use Rattle.kp_sites.specs.Reports.{is_ready, may_write, nothing_recorded, unmet_by}
use Rattle.kp_timing.specs.declared.movement.Found.{Found}
use Rattle.kp_sites.specs.Reports as reports

-- the instructions in the stages: their numbers, and what was reported about each
pub record Held : Type 0 where
  pub hold : List (Option ℕ)
  pub recorded : List Recorded

abbrev pub is_full : Held → ℕ → Bool
is_full h k = is_some (get_or h.hold k None)

abbrev pub record_in : Held → ℕ → Recorded
record_in h k = get_or h.recorded k nothing_recorded

-- d stages from k on: the nearest that may write is ready
abbrev pub met_from : Held → List Bool → Writer → (address count from : ℕ) → Bool
met_from h blocked w a zero k = true
met_from h blocked w a (suc d) k =
    if is_full h k && (nat_le k w.write && may_write w (record_in h k) k a)
    then is_ready w (record_in h k) k (not (get_or blocked k false))
    else met_from h blocked w a d (suc k)

-- a read in stage k of a target at an address
abbrev pub is_met : Sited → Held → List Bool → ℕ → Option Writer → ℕ → Bool
is_met s h blocked k None a = true
is_met s h blocked k (Some w) a = met_from h blocked w a (s.stages - suc k) (suc k)

abbrev pub is_unmet : Sited → Held → List Bool → ℕ → Site → Option ℕ → Bool
is_unmet s h blocked k site asked = unmet_by (λ t a. is_met s h blocked k (get_or s.writers t None) a) k site asked

-- some read of stage k, from the one of number i on, isn't met
abbrev pub some_unmet_from : Sited → Held → List Bool → ℕ → ℕ → List Site → Bool
some_unmet_from s h blocked k i sites = reports.some_unmet_from (is_unmet s h blocked k) (record_in h k).reads i sites

abbrev pub waits_by : Sited → Held → List Bool → ℕ → Bool
waits_by s h blocked k = is_full h k && some_unmet_from s h blocked k 0 s.reads

abbrev pub is_blocked_by : Held → ℕ → List Bool → ℕ → Bool → Bool
is_blocked_by h ext blocked k waits = is_full h k && (waits || (bit_of ext k || get_or blocked (k + 1) false))

-- which stages wait and are blocked, decided from the last one down
abbrev pub found_at : Sited → Held → ℕ → ℕ → Found → Found
found_at s h ext k f = record {
  waits = set f.waits k (waits_by s h f.blocked k);
  blocked = set f.blocked k (is_blocked_by h ext f.blocked k (waits_by s h f.blocked k));
}

abbrev pub no_stage_found : Found
no_stage_found = record { waits = replicate 12 false; blocked = replicate 13 false }

abbrev pub found_down : Sited → Held → ℕ → ℕ → Found → Found
found_down s h ext zero f = f
found_down s h ext (suc k) f = found_down s h ext k (found_at s h ext k f)

-- a stage that contains an instruction and isn't blocked moves it on
abbrev pub moves_by : Held → List Bool → ℕ → Bool
moves_by h blocked k = is_full h k && not (get_or blocked k false)

-- Stage k+1 receives the instruction of stage k if that one moves on, keeps its own if it is blocked, and is empty otherwise.
abbrev pub taken_by : List Bool → Held → ℕ → Held
taken_by blocked h k =
    if moves_by h blocked k
    then record { hold = set h.hold (k + 1) (get_or h.hold k None); recorded = swap h.recorded k (k + 1) }
    else (if get_or blocked (k + 1) false then h else record h { hold = set h.hold (k + 1) None })

-- so do the stages from n down to 1
abbrev pub taken_down : List Bool → ℕ → Held → Held
taken_down blocked zero h = h
taken_down blocked (suc k) h = taken_down blocked k (taken_by blocked h k)

-- stage 0 receives the next instruction
abbrev pub fetched : Held → Recorded → Held
fetched h recorded = record { hold = set h.hold 0 (Some (unwrap_or (get_or h.hold 0 None) 0 + 1)); recorded = set h.recorded 0 recorded }
