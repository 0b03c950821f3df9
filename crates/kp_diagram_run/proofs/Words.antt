-- The stall words of a run: as a list, and as those of its inputs.
use Rattle.std.proofs.Common.{◌≡◌, ◌∙◌, ℕ, zero, suc, ◌%◌, ◌^◌, ◌<◌, ◌≤◌, List, [], ◌∷◌, map, length, get_or, refl, ap, sym, ⊎_elim, arith, length-append}
use Rattle.std.proofs.{Math.Nat.mod-eq_of_lt, lemmas.Bool.cases_lt}
use Rattle.std.proofs.lemmas.List.{get_or-map, get_or_append_left, get_or_push, length-map}
use Rattle.kp_ast.specs.declared.tree.Job.{Job}
use Rattle.kp_stage.specs.Start.{stall_word, is_stalled, stalls_of as entries_of}
use Rattle.kp_pipeline.specs.Pipeline.{Inputs}
use Rattle.kp_diagram.specs.Claims.{stalls_of}
use Rattle.kp_machine.specs.Machine.{inputs_from}
use Rattle.kp_net.specs.Netlist.{Input}
use Rattle.kp_sched.specs.Rows.{bit_of}
use Rattle.kp_sched.proofs.Bits.{word_fits}
use Rattle.kp_implements.specs.Traces.{input_seen, inputs_seen}
use Rattle.kp_run.specs.Cycles.{input_at, inputs_to}
use Rattle.kp_diagram_run.specs.inner.Words.{words_to}

stalls-at : (ins : List Inputs) (T k : ℕ) (d : Inputs) → T < length ins → stalls_of ins T k ≡ (get_or ins T d).ext k
stalls-at [] T k d b = absurd (omega (arith, b))
stalls-at (i ∷ ins) zero k d b = refl
stalls-at (i ∷ ins) (suc T) k d b = stalls-at ins T k d (omega (arith, b))

many : (job : Job) (n : ℕ) → length (inputs_to job n) ≡ n
many job zero = refl
many job (suc n) = length-append (inputs_to job n) (input_at job n ∷ []) ∙ (let e : length (inputs_to job n) ≡ n = many job n in omega (arith, e))

there : (job : Job) (n T : ℕ) (d : Input) → T < n → get_or (inputs_to job n) T d ≡ input_at job T
there job zero T d b = absurd (omega (arith, b))
there job (suc n) T d b = ⊎_elim
    (λ (h : T < n). get_or_append_left (inputs_to job n) (input_at job n ∷ []) d T (omega (arith, h, many job n)) ∙ there job n T d h)
    (λ (h : n ≤ T).
    let last : n ≡ T = omega (arith, h, b) in
    get_or_push (inputs_to job n) (input_at job n) d T (many job n ∙ last) ∙ ap (input_at job) last)
    (cases_lt T n)

low : (job : Job) (T : ℕ) → stall_word job T % 2 ^ job.stages.value ≡ stall_word job T
unfolding stall_word
low job T = mod-eq_of_lt (word_fits job.stages.value (λ k. is_stalled (entries_of job) k T))

pub words-seen : (job : Job) (n T k : ℕ) → inputs_seen job (inputs_to job n) ≡ inputs_from job 0 n → T < n
    → bit_of (stall_word job T) k ≡ stalls_of (inputs_from job 0 n) T k
words-seen job n T k seen b =
    let here = input_at job T in
    let within : T < length (inputs_to job n) = omega (arith, many job n, b) in
    let long : T < length (inputs_seen job (inputs_to job n)) = within_map (inputs_to job n) within in
    sym (ap (λ (ins : List Inputs). stalls_of ins T k) (sym seen)
    ∙ stalls-at (inputs_seen job (inputs_to job n)) T k (input_seen job here) long
    ∙ ap (λ (i : Inputs). i.ext k) (get_or-map (input_seen job) (inputs_to job n) T here (input_seen job here) within)
    ∙ ap (λ (i : Input). bit_of (i.ext % 2 ^ job.stages.value) k) (there job n T here b)
    ∙ ap (λ (v : ℕ). bit_of v k) (low job T))
  where
    within_map : (ins : List Input) → T < length ins → T < length (map (input_seen job) ins)
    within_map ins h = let e : length (map (input_seen job) ins) ≡ length ins = length-map ins (input_seen job) in omega (arith, e, h)

-- THE LIST of n words.
pub words-many : (f : ℕ → ℕ) (n : ℕ) → length (words_to f n) ≡ n
words-many f zero = refl
words-many f (suc n) = length-append (words_to f n) (f n ∷ []) ∙ (let e : length (words_to f n) ≡ n = words-many f n in omega (arith, e))

pub word-at : (f : ℕ → ℕ) (n T : ℕ) → T < n → get_or (words_to f n) T 0 ≡ f T
word-at f zero T b = absurd (omega (arith, b))
word-at f (suc n) T b = ⊎_elim
    (λ (h : T < n). get_or_append_left (words_to f n) (f n ∷ []) 0 T (omega (arith, h, words-many f n)) ∙ word-at f n T h)
    (λ (h : n ≤ T).
    let last : n ≡ T = omega (arith, h, b) in
    get_or_push (words_to f n) (f n) 0 T (words-many f n ∙ last) ∙ ap f last)
    (cases_lt T n)
