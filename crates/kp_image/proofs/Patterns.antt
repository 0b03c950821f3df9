-- What the code stores and returns is what the definitions specify.
use Rattle.std.proofs.Common.{◌≡◌, ◌<◌, ◌≤◌, ℕ, List, [], ◌∷◌, Bool, map, None, refl, ap, arith}
use Rattle.std.proofs.lemmas.{Bool.ltb-true, List.Elements.All-nil, List.Elements.All-cons, List.Elements.All-head, List.Elements.All-tail}
use Rattle.std.specs.{Prelude.◌||◌, List.All}
use Rattle.kp_ast.specs.declared.tree.{Stalls.Stalls, Job.Job}
use Rattle.kp_stage.specs.Start.{stalls_at, is_stalled, bits_below, stalls_of, stall_word}
use Rattle.kp_image.specs.{Sections.step_of, Sections.stall_of, Spans.some_stalls, Spans.IsSpan, Spans.word_in}
use Rattle.kp_image.specs.declared.fault.SectionFault.TheVariants as faults
use Rattle.kp_image.specs.inner.Kept.{span_of, pattern_of}
use Rattle.kp_image.proofs.Unbroken.{or_none, stage_right, step_right}

same_stalls : (es : List Stalls) (k cycle : ℕ) → some_stalls (map span_of es) k cycle ≡ is_stalled es k cycle
same_stalls [] k cycle = refl
same_stalls (e ∷ es) k cycle = ap (λ (b : Bool). stalls_at e k cycle || b) (same_stalls es k cycle)

-- the words of the pattern that is kept of the entries of a job
pub words_of_pattern : (job : Job) → word_in (pattern_of job.stages.value (stalls_of job)) ≡ stall_word job
unfolding stall_word
words_of_pattern job = λ i. λ cycle. bits_below job.stages.value (λ k. same_stalls (stalls_of job) k cycle i)

-- what is kept of entries that violate no rule
pub spans_right : (stages : ℕ) (es : List Stalls) → stages ≤ 12 → All (λ e. stall_of stages e ≡ None) es → All IsSpan (map span_of es)
spans_right stages [] few u = All-nil IsSpan
spans_right stages (e ∷ es) few u =
    let here = All-head (λ e. stall_of stages e ≡ None) e es u in
    let low : e.stage.value < stages = ltb-true e.stage.value stages (stage_right stages e here) in
    let step = (or_none _ (step_of faults.StallStep e.step) here).1 in
    All-cons IsSpan (span_of e) (map span_of es) (omega (arith, low, few), step_right faults.StallStep e.step step)
    (spans_right stages es few (All-tail (λ e. stall_of stages e ≡ None) e es u))
