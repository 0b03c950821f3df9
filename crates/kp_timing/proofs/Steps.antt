-- The step of the loop that writes a timeline.
use Rattle.std.proofs.Common.{◌≡◌, ◌∙◌, ℕ, suc, ◌+◌, ◌-◌, ◌<◌, ◌≤◌, List, ◌++◌, Option, None, Bool, true, false, get_or, ap, sym, subst, arith}
use Rattle.std.specs.Prelude.{if◌then◌else◌}
use Rattle.kp_base.specs.{inner.Bytes.WrittenUpTo, declared.row.Row.Row}
use Rattle.kp_ast.specs.declared.tree.Job.{Job}
use Rattle.kp_stage.specs.{Start.stall_word, Start.start_of, declared.start.Start.Start}
use Rattle.kp_pipeline.specs.Rows.{one_if}
use Rattle.kp_sched.{specs.Rows.bit_of, proofs.Bits.stalled_bit}
use Rattle.kp_timing.specs.{Lines.timing_line, Lines.timing_text, Lines.total_line, Timed.Timed, Timed.IsCycle, Timed.IsOpened, Timed.hold_of}
use Rattle.kp_timing.proofs.Texts.{text_left, cycle_text, opening_text}

-- the text that is left is the same
pub left_is : (whole rest same : List ℕ) (a b : Option (List ℕ)) → rest ≡ same → WrittenUpTo whole rest a b → WrittenUpTo whole same a b
left_is whole rest same a b e written = subst (λ (text : List ℕ). WrittenUpTo whole text a b) e written

-- after opening, everything is left
pub all_left : (t : Timed) (count : ℕ) → 2 ≤ t.job.stages.value → IsOpened t.job (start_of t.job) t
    → timing_text t.job count ≡ text_left t.job t.start (count - 0) 0 (hold_of t) 0 0
all_left t count some o =
    let z : count ≡ count - 0 = omega arith in
    opening_text t count (omega arith) o ∙ ap (λ n. text_left t.job t.start n 0 (hold_of t) 0 0) z

-- the line of a cycle, and what is left after it
pub next_left : (job : Job) (t u : Timed) (row : Row) (hold : List (Option ℕ)) (ext count cycle n waits r w r2 w2 : ℕ) → t.job ≡ job → cycle < count → n ≡ t.job.stages.value → 2 ≤ n
    → ext ≡ stall_word job cycle → IsCycle t ext row u → ((k : ℕ) → k < n → get_or hold k None ≡ hold_of t k) → waits ≡ u.waits
    → r2 ≡ r + one_if (bit_of row.ue (n - 1)) → w2 ≡ w + (if bit_of row.ue 0 then 0 else 1)
    → text_left t.job t.start (count - cycle) cycle (hold_of t) r w
    ≡ timing_line cycle n (λ k. get_or hold k None) (bit_of waits) (bit_of row.ue)
    ++ text_left u.job u.start (count - (cycle + 1)) (cycle + 1) (hold_of u) r2 w2
next_left job t u row hold ext count cycle n waits r w r2 w2 is l e some x h same p er ew =
    let one : count - cycle ≡ suc (count - (cycle + 1)) = omega arith in
    let rest = text_left u.job u.start (count - (cycle + 1)) (cycle + 1) (hold_of u) (r + one_if (bit_of row.ue (n - 1))) (w + (if bit_of row.ue 0 then 0 else 1)) in
    ap (λ d. text_left t.job t.start d cycle (hold_of t) r w) one
    ∙ cycle_text t u ext row (λ k. get_or hold k None) (count - (cycle + 1)) cycle r w (omega arith) h (λ k y. same k (omega arith))
    (λ k y. ap (λ v. bit_of v k) (x ∙ ap (λ (j : Job). stall_word j cycle) (sym is)) ∙ stalled_bit t.job cycle k y)
    ∙ ap (λ m. timing_line cycle m (λ k. get_or hold k None) (bit_of u.waits) (bit_of row.ue)
    ++ text_left u.job u.start (count - (cycle + 1)) (cycle + 1) (hold_of u) (r + one_if (bit_of row.ue (m - 1))) (w + (if bit_of row.ue 0 then 0 else 1))) (sym e)
    ∙ ap (λ v. timing_line cycle n (λ k. get_or hold k None) (bit_of v) (bit_of row.ue) ++ rest) (sym p)
    ∙ ap (λ x. timing_line cycle n (λ k. get_or hold k None) (bit_of waits) (bit_of row.ue)
    ++ text_left u.job u.start (count - (cycle + 1)) (cycle + 1) (hold_of u) x (w + (if bit_of row.ue 0 then 0 else 1))) (sym er)
    ∙ ap (λ x. timing_line cycle n (λ k. get_or hold k None) (bit_of waits) (bit_of row.ue)
    ++ text_left u.job u.start (count - (cycle + 1)) (cycle + 1) (hold_of u) r2 x) (sym ew)

-- at the end, the line of the totals
pub end_left : (job : Job) (start : Start) (count cycle : ℕ) (hold : ℕ → Option ℕ) (r w : ℕ) → count ≤ cycle → text_left job start (count - cycle) cycle hold r w ≡ total_line r w
end_left job start count cycle hold r w l = let z : count - cycle ≡ 0 = omega arith in ap (λ d. text_left job start d cycle hold r w) z

pub at_most_one : (b : Bool) → one_if b ≤ 1
at_most_one true = omega arith
at_most_one false = omega arith

pub at_most_one_more : (b : Bool) → (if b then 0 else 1) ≤ 1
at_most_one_more true = omega arith
at_most_one_more false = omega arith
