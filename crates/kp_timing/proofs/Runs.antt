-- The rows of cycles are those of the timeline.
use Rattle.std.proofs.Common.{◌≡◌, ◌∙◌, ℕ, zero, suc, ◌+◌, ◌-◌, ◌<◌, ◌≤◌, List, [], ◌∷◌, Option, None, cond, not, ◌&&◌, ◌||◌, refl, ap, sym, arith}
use Rattle.std.specs.Prelude.{is_some}
use Rattle.kp_base.specs.declared.row.Row as masks
use Rattle.kp_ast.specs.declared.tree.Job.{Job}
use Rattle.kp_stage.specs.declared.start.Start.{Start}
use Rattle.kp_pipeline.specs.Timeline.{ReadyAbove, may_write, is_ready, waits_given, blocked_given, ready_below, ready_from, ready_above, waits, blocked, moves_on, next_number, next_hold, start_hold, timeline_rows}
use Rattle.kp_pipeline.{specs.Machine.Machine, specs.Pipeline.Inputs, specs.Pipeline.is_candidate, specs.Rows.Row, specs.Rows.bits, proofs.Lists.bits-same}
use Rattle.kp_machine.specs.Machine.{machine_of, state_of}
use Rattle.kp_sched.specs.Rows.{row_seen, rows_seen}
use Rattle.kp_timing.specs.{Timed.Timed, Timed.IsOpened, Timed.hold_of, Timed.stalled_by, Cycles.Cycles, Cycles.StallAlike}

-- a cycle of a timeline in n stages depends on the instructions in them, and on which of them are stalled
module _ (m : Machine) (s : ℕ → ℕ → ℕ) (p q : ℕ → Option ℕ) (i j : Inputs) (same : (k : ℕ) → k < m.stages → p k ≡ q k) (alike : (k : ℕ) → k < m.stages → i.ext k ≡ j.ext k) where
  given_same : (k : ℕ) (up : ReadyAbove) → k < m.stages → blocked_given m s p i k up ≡ blocked_given m s q j k up
  given_same k up l =
      ap (λ o. is_some o && (waits_given m s o k up || (i.ext k || up.blocked))) (same k l)
      ∙ ap (λ b. is_some (q k) && (waits_given m s (q k) k up || (b || up.blocked))) (alike k l)

  below_same : (k : ℕ) (up : ReadyAbove) → k < m.stages → ready_below m s p i k up ≡ ready_below m s q j k up
  below_same k up l =
      ap (λ b. record { ready = λ t a. cond (is_candidate m k t && may_write m s k (p k) t a) (is_ready m s k (p k) b t) (up.ready t a); blocked = b }) (given_same k up l)
      ∙ ap (λ o. record { ready = λ t a. cond (is_candidate m k t && may_write m s k o t a) (is_ready m s k o (blocked_given m s q j k up) t) (up.ready t a); blocked = blocked_given m s q j k up }) (same k l)

  from_same : (d k : ℕ) → k + d ≤ m.stages → ready_from m s p i d k ≡ ready_from m s q j d k
  unfolding ready_from
  from_same zero k l = refl
  from_same (suc d) k l = ap (ready_below m s p i k) (from_same d (suc k) (omega arith)) ∙ below_same k (ready_from m s q j d (suc k)) (omega arith)

  above_same : (k : ℕ) → k < m.stages → ready_above m s p i k ≡ ready_above m s q j k
  unfolding ready_above
  above_same k l = from_same (m.stages - suc k) (suc k) (omega arith)

  blocked_same : (k : ℕ) → k < m.stages → blocked m s p i k ≡ blocked m s q j k
  unfolding blocked
  blocked_same k l = ap (blocked_given m s p i k) (above_same k l) ∙ given_same k (ready_above m s q j k) l

  pub moves_same : (k : ℕ) → k < m.stages → moves_on m s p i k ≡ moves_on m s q j k
  unfolding moves_on
  moves_same k l = ap (λ o. is_some o && not (blocked m s p i k)) (same k l) ∙ ap (λ b. is_some (q k) && not b) (blocked_same k l)

  pub waits_same : (k : ℕ) → k < m.stages → waits m s p i k ≡ waits m s q j k
  unfolding waits
  waits_same k l = ap (waits_given m s (p k) k) (above_same k l) ∙ ap (λ o. waits_given m s o k (ready_above m s q j k)) (same k l)

  pub next_same : (k : ℕ) → k < m.stages → next_hold m s p i k ≡ next_hold m s q j k
  unfolding next_hold
  next_same zero l = ap (λ b. cond b (next_number (p 0)) (p 0)) (moves_same 0 l) ∙ ap (λ o. cond (moves_on m s q j 0) (next_number o) o) (same 0 l)
  next_same (suc k) l =
      let below : k < m.stages = omega arith in
      ap (λ b. cond b (p k) (cond (blocked m s p i (suc k)) (p (suc k)) None)) (moves_same k below)
      ∙ ap (λ b. cond (moves_on m s q j k) (p k) (cond b (p (suc k)) None)) (blocked_same (suc k) l)
      ∙ ap (λ o. cond (moves_on m s q j k) o (cond (blocked m s q j (suc k)) (p (suc k)) None)) (same k below)
      ∙ ap (λ o. cond (moves_on m s q j k) (q k) (cond (blocked m s q j (suc k)) o None)) (same (suc k) l)

-- The rows of a timeline are those of the laws, from any of its states on.
pub rows_are : {t u : Timed} {exts : List ℕ} {rows : List masks.Row} (job : Job) (start : Start) (hold : ℕ → Option ℕ) (ins : List Inputs) → Cycles t exts rows u
    → t.job ≡ job → t.start ≡ start → ((k : ℕ) → k < job.stages.value → hold_of t k ≡ hold k) → StallAlike job.stages.value exts ins
    → rows_seen job.stages.value rows ≡ timeline_rows (machine_of job) (state_of job start) hold ins
unfolding machine_of
rows_are job start hold ins Cycles.none is began same alike = ap (timeline_rows (machine_of job) (state_of job start) hold) (sym alike)
rows_are job start hold [] (Cycles.one_more h more) is began same alike = absurd alike
rows_are job start hold (i ∷ ins) (Cycles.one_more {t} {u} {v} {ext} {row} {exts} {rows} h more) is began same alike =
    let n = job.stages.value in
    let m = machine_of job in
    let s = state_of job start in
    let here : row_seen n row ≡ record { full = bits (λ k. is_some (hold_of t k)) n 0; ue = bits (moves_on m s (hold_of t) (stalled_by ext)) n 0; back = 0 } =
    ap (λ (x : Job). row_seen x.stages.value row) (sym is) ∙ h.shows
    ∙ ap (λ (x : Job). record { full = bits (λ k. is_some (hold_of t k)) x.stages.value 0; ue = bits (moves_on (machine_of x) (state_of x t.start) (hold_of t) (stalled_by ext)) x.stages.value 0; back = 0 }) is
    ∙ ap (λ (x : Start). record { full = bits (λ k. is_some (hold_of t k)) n 0; ue = bits (moves_on m (state_of job x) (hold_of t) (stalled_by ext)) n 0; back = 0 }) began in
    let full : bits (λ k. is_some (hold_of t k)) n 0 ≡ bits (λ k. is_some (hold k)) n 0 = bits-same _ _ n 0 (λ j l k. ap is_some (same j (omega arith))) in
    let ue : bits (moves_on m s (hold_of t) (stalled_by ext)) n 0 ≡ bits (moves_on m s hold i) n 0 =
    bits-same _ _ n 0 (λ j l k. moves_same m s (hold_of t) hold (stalled_by ext) i same alike.0 j (omega arith)) in
    let next : (k : ℕ) → k < n → hold_of u k ≡ next_hold m s hold i k = λ k l.
    hold_is k l ∙ next_same m s (hold_of t) hold (stalled_by ext) i same alike.0 k l in
    ap (λ (x : Row). x ∷ rows_seen n rows) (here
    ∙ ap (λ x. record { full = x; ue = bits (moves_on m s (hold_of t) (stalled_by ext)) n 0; back = 0 }) full
    ∙ ap (λ x. record { full = bits (λ k. is_some (hold k)) n 0; ue = x; back = 0 }) ue)
    ∙ ap (λ (xs : List Row). record { full = bits (λ k. is_some (hold k)) n 0; ue = bits (moves_on m s hold i) n 0; back = 0 } ∷ xs)
    (rows_are job start (next_hold m s hold i) ins more (h.job ∙ is) (h.start ∙ began) next alike.1)
  where
    hold_is : (k : ℕ) → k < job.stages.value → hold_of u k ≡ next_hold (machine_of job) (state_of job start) (hold_of t) (stalled_by ext) k
    hold_is k l =
        h.hold k (omega (arith, ap (λ (x : Job). x.stages.value) is, l))
        ∙ ap (λ (x : Job). next_hold (machine_of x) (state_of x t.start) (hold_of t) (stalled_by ext) k) is
        ∙ ap (λ (x : Start). next_hold (machine_of job) (state_of job x) (hold_of t) (stalled_by ext) k) began

pub rows_from_opening : (job : Job) (start : Start) (t u : Timed) (exts : List ℕ) (rows : List masks.Row) (ins : List Inputs)
    → IsOpened job start t → Cycles t exts rows u → StallAlike job.stages.value exts ins
    → rows_seen job.stages.value rows ≡ timeline_rows (machine_of job) (state_of job start) start_hold ins
rows_from_opening job start t u exts rows ins o run alike = rows_are job start start_hold ins run o.same_job o.same_start o.hold alike
