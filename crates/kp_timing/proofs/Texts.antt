-- The text of a timeline, cycle by cycle.
use Rattle.std.proofs.Common.{◌≡◌, ◌∙◌, ℕ, zero, suc, ◌+◌, ◌-◌, ◌<◌, ◌≤◌, List, ◌++◌, Option, Bool, refl, ap, sym, arith}
use Rattle.std.specs.Prelude.{codes, decimal, if◌then◌else◌}
use Rattle.kp_base.specs.declared.row.Row as masks
use Rattle.kp_ast.specs.declared.tree.Job.{Job}
use Rattle.kp_stage.specs.{declared.start.Start.Start, Start.is_stalled, Start.start_of, Start.stalls_of}
use Rattle.kp_pipeline.specs.{Machine.Machine, Pipeline.Inputs, Rows.bit, Rows.bits, Rows.one_if}
use Rattle.kp_pipeline.specs.Timeline.{waits, moves_on, next_hold, start_hold}
use Rattle.kp_pipeline.proofs.Lists.{bit-at, bits-same}
use Rattle.kp_pipeline.specs.Rows as law
use Rattle.kp_machine.specs.Machine.{machine_of, state_of, inputs_at}
use Rattle.kp_sched.specs.{Lines.digits, Rows.bit_of}
use Rattle.kp_timing.specs.Lines.{held_text, holds_text, timing_line, timing_from, timing_text}
use Rattle.kp_timing.specs.Timed.{Timed, IsCycle, IsOpened, hold_of, begins, stalled_by}
use Rattle.kp_timing.proofs.Runs.{moves_same, waits_same, next_same}

-- the text of the cycles that are left, from the state of a timeline on
abbrev pub text_left : Job → Start → ℕ → ℕ → (ℕ → Option ℕ) → ℕ → ℕ → List ℕ
text_left job start left cycle hold retired waited = timing_from (machine_of job) (state_of job start) (inputs_at job) left cycle hold retired waited

holds_same : (p q : ℕ → Option ℕ) (n k : ℕ) → ((j : ℕ) → k ≤ j → j < k + n → p j ≡ q j) → holds_text p n k ≡ holds_text q n k
holds_same p q zero k h = refl
holds_same p q (suc n) k h =
    ap (λ (o : Option ℕ). codes " " ++ held_text o ++ holds_text p n (suc k)) (h k (omega arith) (omega arith))
    ∙ ap (λ (l : List ℕ). codes " " ++ held_text (q k) ++ l) (holds_same p q n (suc k) (λ j l x. h j (omega arith) (omega arith)))

-- a line depends only on the n stages
line_same : (cycle n : ℕ) (p q : ℕ → Option ℕ) (w x g y : ℕ → Bool) → ((k : ℕ) → k < n → p k ≡ q k) → ((k : ℕ) → k < n → w k ≡ x k) → ((k : ℕ) → k < n → g k ≡ y k)
    → timing_line cycle n p w g ≡ timing_line cycle n q x y
unfolding timing_line
line_same cycle n p q w x g y hold wait go =
    ap (λ (l : List ℕ). codes "cycle " ++ decimal cycle ++ codes " at" ++ l ++ codes " wait " ++ digits (bits w n 0) ++ codes " go " ++ digits (bits g n 0) ++ codes "\n")
    (holds_same p q n 0 (λ j l m. hold j (omega arith)))
    ∙ ap (λ (l : List Bool). codes "cycle " ++ decimal cycle ++ codes " at" ++ holds_text q n 0 ++ codes " wait " ++ digits l ++ codes " go " ++ digits (bits g n 0) ++ codes "\n")
    (bits-same w x n 0 (λ j l m. wait j (omega arith)))
    ∙ ap (λ (l : List Bool). codes "cycle " ++ decimal cycle ++ codes " at" ++ holds_text q n 0 ++ codes " wait " ++ digits (bits x n 0) ++ codes " go " ++ digits l ++ codes "\n")
    (bits-same g y n 0 (λ j l m. go j (omega arith)))

module _ (m : Machine) (s : ℕ → ℕ → ℕ) (inputs : ℕ → Inputs) (some : 1 ≤ m.stages) where
  -- and so does the text
  text_same : (d cycle : ℕ) (p q : ℕ → Option ℕ) (r w : ℕ) → ((k : ℕ) → k < m.stages → p k ≡ q k)
      → timing_from m s inputs d cycle p r w ≡ timing_from m s inputs d cycle q r w
  text_same zero cycle p q r w same = refl
  text_same (suc d) cycle p q r w same =
      let i = inputs cycle in
      let moved = moves_same m s p q i i same (λ k l. refl) in
      let line = timing_line cycle m.stages q (waits m s q i) (moves_on m s q i) in
      ap (λ (l : List ℕ). l ++ timing_from m s inputs d (cycle + 1) (next_hold m s p i) (r + one_if (moves_on m s p i (m.stages - 1))) (w + (if moves_on m s p i 0 then 0 else 1)))
      (line_same cycle m.stages p q (waits m s p i) (waits m s q i) (moves_on m s p i) (moves_on m s q i) same (waits_same m s p q i i same (λ k l. refl)) moved)
      ∙ ap (λ (b : Bool). line ++ timing_from m s inputs d (cycle + 1) (next_hold m s p i) (r + one_if b) (w + (if moves_on m s p i 0 then 0 else 1))) (moved (m.stages - 1) (omega arith))
      ∙ ap (λ (b : Bool). line ++ timing_from m s inputs d (cycle + 1) (next_hold m s p i) (r + one_if (moves_on m s q i (m.stages - 1))) (w + (if b then 0 else 1))) (moved 0 (omega arith))
      ∙ ap (λ (l : List ℕ). line ++ l)
      (text_same d (cycle + 1) (next_hold m s p i) (next_hold m s q i) (r + one_if (moves_on m s q i (m.stages - 1))) (w + (if moves_on m s q i 0 then 0 else 1))
      (next_same m s p q i i same (λ k l. refl)))

-- the line of a cycle, and what is left after it
pub cycle_text : (t u : Timed) (ext : ℕ) (row : masks.Row) (hold : ℕ → Option ℕ) (d cycle r w : ℕ) → 1 ≤ t.job.stages.value → IsCycle t ext row u
    → ((k : ℕ) → k < t.job.stages.value → hold k ≡ hold_of t k) → ((k : ℕ) → k < t.job.stages.value → bit_of ext k ≡ is_stalled (stalls_of t.job) k cycle)
    → text_left t.job t.start (suc d) cycle (hold_of t) r w
    ≡ timing_line cycle t.job.stages.value hold (bit_of u.waits) (bit_of row.ue)
    ++ text_left u.job u.start d (cycle + 1) (hold_of u) (r + one_if (bit_of row.ue (t.job.stages.value - 1))) (w + (if bit_of row.ue 0 then 0 else 1))
unfolding machine_of
cycle_text t u ext row hold d cycle r w some h same alike =
    let n = t.job.stages.value in
    let m = machine_of t.job in
    let s = begins t in
    let i = inputs_at t.job cycle in
    let other : (k : ℕ) → k < n → i.ext k ≡ (stalled_by ext).ext k = λ k l. sym (alike k l) in
    let go : (k : ℕ) → k < n → moves_on m s (hold_of t) i k ≡ bit_of row.ue k = λ k l.
    moves_same m s (hold_of t) (hold_of t) i (stalled_by ext) (λ j x. refl) other k l
    ∙ sym (bit-at (moves_on m s (hold_of t) (stalled_by ext)) n k l)
    ∙ ap (λ (x : law.Row). bit x.ue k) (sym h.shows) ∙ bit-at (bit_of row.ue) n k l in
    let wait : (k : ℕ) → k < n → waits m s (hold_of t) i k ≡ bit_of u.waits k = λ k l.
    waits_same m s (hold_of t) (hold_of t) i (stalled_by ext) (λ j x. refl) other k l ∙ sym (h.waits k l) in
    let next : (k : ℕ) → k < n → next_hold m s (hold_of t) i k ≡ hold_of u k = λ k l.
    next_same m s (hold_of t) (hold_of t) i (stalled_by ext) (λ j x. refl) other k l ∙ sym (h.hold k l) in
    let line = timing_line cycle n hold (bit_of u.waits) (bit_of row.ue) in
    let more = r + one_if (bit_of row.ue (n - 1)) in
    let stayed = w + (if bit_of row.ue 0 then 0 else 1) in
    ap (λ (l : List ℕ). l ++ timing_from m s (inputs_at t.job) d (cycle + 1) (next_hold m s (hold_of t) i) (r + one_if (moves_on m s (hold_of t) i (n - 1))) (w + (if moves_on m s (hold_of t) i 0 then 0 else 1)))
    (line_same cycle n (hold_of t) hold (waits m s (hold_of t) i) (bit_of u.waits) (moves_on m s (hold_of t) i) (bit_of row.ue) (λ k l. sym (same k l)) wait go)
    ∙ ap (λ (b : Bool). line ++ timing_from m s (inputs_at t.job) d (cycle + 1) (next_hold m s (hold_of t) i) (r + one_if b) (w + (if moves_on m s (hold_of t) i 0 then 0 else 1))) (go (n - 1) (omega arith))
    ∙ ap (λ (b : Bool). line ++ timing_from m s (inputs_at t.job) d (cycle + 1) (next_hold m s (hold_of t) i) more (w + (if b then 0 else 1))) (go 0 (omega arith))
    ∙ ap (λ (l : List ℕ). line ++ l) (text_same m s (inputs_at t.job) some d (cycle + 1) (next_hold m s (hold_of t) i) (hold_of u) more stayed next)
    ∙ ap (λ (x : Job). line ++ text_left x t.start d (cycle + 1) (hold_of u) more stayed) (sym h.job)
    ∙ ap (λ (x : Start). line ++ text_left u.job x d (cycle + 1) (hold_of u) more stayed) (sym h.start)

-- the complete text, after opening
pub opening_text : (t : Timed) (n : ℕ) → 1 ≤ t.job.stages.value → IsOpened t.job (start_of t.job) t → timing_text t.job n ≡ text_left t.job t.start n 0 (hold_of t) 0 0
unfolding timing_text machine_of
opening_text t n some o =
    ap (λ (x : Start). text_left t.job x n 0 start_hold 0 0) (sym o.same_start)
    ∙ sym (text_same (machine_of t.job) (begins t) (inputs_at t.job) some n 0 (hold_of t) start_hold 0 0 o.hold)
