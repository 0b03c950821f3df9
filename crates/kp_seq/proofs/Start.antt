-- The words of a start state are those of its state, and they fit their targets.
use Rattle.std.proofs.Common.{◌≡◌, ◌∙◌, ℕ, zero, suc, ◌-◌, ◌^◌, ◌<◌, ◌≤◌, List, [], ◌∷◌, Option, Some, None, true, false, cond, ◌&&◌, length, get_or, take, refl, ap, sym, subst, arith, ⊎_elim}
use Rattle.std.proofs.lemmas.{Bool.cases_lt, Bool.and_from, Bool.ne_eqb, Bool.cond-true, Bool.cond_both, Bool.le-leb, Bool.lt-ltb, List.get_or_past}
use Rattle.std.{proofs.lemmas.Nat.pow_pos, specs.Prelude.slice_index, specs.Prelude.slice_get, specs.Prelude.nat_le, specs.Prelude.nat_lt, specs.List.filter}
use Rattle.kp_bits.specs.Word.{Word, word}
use Rattle.kp_ast.specs.declared.tree.{Decl.Decl, Job.Job}
use Rattle.kp_ast.specs.declared.tree.Decl.TheVariants as decls
use Rattle.kp_width.{specs.Widths.widths_of, proofs.Unbroken.Unbroken}
use Rattle.kp_stage.specs.{Start.AreRegs, Start.AreFiles, Start.IsStartOf, declared.start.Start.Start}
use Rattle.kp_machine.specs.Slots.{Slot, slot, targets_of, is_register}
use Rattle.kp_machine.specs.Machine.{registers_before, files_before, register_words, file_words, target_words, state_of}
use Rattle.kp_machine.{proofs.Widths.Fine, proofs.Widths.job_fine, specs.Words.HasWord, specs.Words.no_slot, specs.Words.target, specs.Words.state_in}
use Rattle.kp_seq.specs.{Running.Running, Running.state, Running.word_shown, inner.Steps.fitted, inner.Steps.zero_bit, inner.Fits.FitSlots}
use Rattle.kp_seq.specs.inner.Ready.{words_of_start}

one_word : (v w : ℕ) (a : ℕ) → v < 2 ^ w → slice_index (v ∷ []) a < 2 ^ w
one_word v w zero h = h
one_word v w (suc a) h = pow_pos w

some_word : (words : List ℕ) (w a : ℕ) → ((k d : ℕ) → k < length words → get_or words k d < 2 ^ w) → slice_index words a < 2 ^ w
some_word words w a h = ⊎_elim (λ (x : a < length words). h a 0 x) (λ (x : length words ≤ a). rw (get_or_past words a 0 x) (pow_pos w)) (cases_lt a (length words))

-- the words of a start state fit
pub start_fits : (ds : List Decl) (regs : List Word) (files : List (List ℕ)) → AreRegs ds regs → AreFiles ds files → FitSlots (targets_of ds) (words_of_start ds regs files)
start_fits [] regs files r f = refl
start_fits (decls.Reg n width start ∷ ds) [] files r f = absurd r
start_fits (decls.Reg n width start ∷ ds) (v ∷ regs) files r f =
    (record { count = refl; fits = λ a. one_word v.value width.value a (subst (λ w. v.value < 2 ^ w) r.0 r.1.fits) }, start_fits ds regs files r.2 f)
start_fits (decls.File n width address ∷ ds) regs [] r f = absurd f
start_fits (decls.File n width address ∷ ds) regs (w ∷ files) r f =
    (record { count = f.0; fits = λ a. some_word w width.value a f.1 }, start_fits ds regs files r f.2)
start_fits (_ ∷ ds) regs files r f = start_fits ds regs files r f

abbrev pub started : List Word → List (List ℕ) → Start
started regs files = record { regs = regs; files = files }

before_le : (ss : List Slot) (t : ℕ) → registers_before ss t ≤ t
before_le [] zero = omega arith
before_le [] (suc t) = omega arith
before_le (s ∷ ss) zero = omega arith
before_le (s ∷ ss) (suc t) =
    let h : length (filter is_register (take t ss)) ≤ t = before_le ss t in
    cond_both (is_register s) (s ∷ filter is_register (take t ss)) (filter is_register (take t ss)) (λ (xs : List Slot). length xs ≤ suc t) (λ _. omega arith) (λ _. omega arith)

-- after a register, and after a file
past_register : (s : Slot) (ss : List Slot) (v : Word) (regs : List Word) (files : List (List ℕ)) (t : ℕ) (o : Option Slot) → is_register s ≡ true
    → target_words (s ∷ ss) (started (v ∷ regs) files) (suc t) o ≡ target_words ss (started regs files) t o
past_register s ss v regs files t None h = refl
past_register s ss v regs files t (Some x) h =
    let n : registers_before (s ∷ ss) (suc t) ≡ suc (registers_before ss t) = ap (λ b. length (cond b (s ∷ filter is_register (take t ss)) (filter is_register (take t ss)))) h in
    let m : suc t - suc (registers_before ss t) ≡ files_before ss t = omega arith in
    ap (λ k. cond (is_register x) (register_words (slice_get (v ∷ regs) k)) (file_words (slice_get files (suc t - k)))) n
    ∙ ap (λ k. cond (is_register x) (register_words (slice_get regs (registers_before ss t))) (file_words (slice_get files k))) m

past_file : (s : Slot) (ss : List Slot) (w : List ℕ) (regs : List Word) (files : List (List ℕ)) (t : ℕ) (o : Option Slot) → is_register s ≡ false
    → target_words (s ∷ ss) (started regs (w ∷ files)) (suc t) o ≡ target_words ss (started regs files) t o
past_file s ss w regs files t None h = refl
past_file s ss w regs files t (Some x) h =
    let l = before_le ss t in
    let n : registers_before (s ∷ ss) (suc t) ≡ registers_before ss t = ap (λ b. length (cond b (s ∷ filter is_register (take t ss)) (filter is_register (take t ss)))) h in
    let m : suc t - registers_before ss t ≡ suc (files_before ss t) = omega arith in
    ap (λ k. cond (is_register x) (register_words (slice_get regs k)) (file_words (slice_get (w ∷ files) (suc t - k)))) n
    ∙ ap (λ k. cond (is_register x) (register_words (slice_get regs (registers_before ss t))) (file_words (slice_get (w ∷ files) k))) m

-- the words of a target in a start state
pub start_words : (ds : List Decl) (regs : List Word) (files : List (List ℕ)) (t : ℕ) → Fine ds → AreRegs ds regs → AreFiles ds files
    → get_or (words_of_start ds regs files) t [] ≡ target_words (targets_of ds) (started regs files) t (slice_get (targets_of ds) t)
start_words [] regs files t g r f = refl
start_words (decls.Reg n width start ∷ ds) [] files t g r f = absurd r
start_words (decls.Reg n width start ∷ ds) (v ∷ regs) files zero g r f = refl
start_words (decls.Reg n width start ∷ ds) (v ∷ regs) files (suc t) g r f =
    start_words ds regs files t g.2 r.2 f ∙ sym (past_register (slot n width 0) (targets_of ds) v regs files t (slice_get (targets_of ds) t) refl)
start_words (decls.File n width address ∷ ds) regs [] t g r f = absurd f
start_words (decls.File n width address ∷ ds) regs (w ∷ files) zero g r f =
    sym (ap (λ b. cond b (register_words (slice_get regs 0)) w) (ne_eqb address.value 0 (λ z. let l = g.2 in omega arith)))
start_words (decls.File n width address ∷ ds) regs (w ∷ files) (suc t) g r f =
    start_words ds regs files t g.3 r f.2 ∙ sym (past_file (slot n width address.value) (targets_of ds) w regs files t (slice_get (targets_of ds) t) (ne_eqb address.value 0 (λ z. let l = g.2 in omega arith)))
start_words (_ ∷ ds) regs files t g r f = start_words ds regs files t g r f

-- the state of a machine that starts
pub start_state : (job : Job) (start : Start) (ds : List Decl) → Unbroken (widths_of job) → IsStartOf job start → ds ≡ job.decls
    → state_in (words_of_start ds start.regs start.files) ≡ state_of job start
unfolding state_of
start_state job start ds u suits e =
    ap (λ (x : List Decl). state_in (words_of_start x start.regs start.files)) e
    ∙ (λ i t a. slice_index (start_words job.decls start.regs start.files t (job_fine job u) suits.regs suits.files i) a)

-- a target among those of these declarations has a width
pub target_width : (ds : List Decl) (t : ℕ) → Fine ds → t < length (targets_of ds) → (1 ≤ (get_or (targets_of ds) t no_slot).width) × ((get_or (targets_of ds) t no_slot).width ≤ 64)
target_width [] t g l = absurd (omega arith)
target_width (decls.Reg n width start ∷ ds) zero g l = (g.0, g.1)
target_width (decls.Reg n width start ∷ ds) (suc t) g l = target_width ds t g.2 (omega arith)
target_width (decls.File n width address ∷ ds) zero g l = (g.0, g.1)
target_width (decls.File n width address ∷ ds) (suc t) g l = target_width ds t g.3 (omega arith)
target_width (_ ∷ ds) t g l = target_width ds t g l

-- and its words fit it
pub word_fits : (ss : List Slot) (words : List (List ℕ)) (t a : ℕ) → FitSlots ss words → t < length ss → slice_index (get_or words t []) a < 2 ^ (get_or ss t no_slot).width
word_fits [] words t a h l = absurd (omega arith)
word_fits (s ∷ ss) [] t a h l = absurd h
word_fits (s ∷ ss) (w ∷ words) zero a h l = h.0.fits a
word_fits (s ∷ ss) (w ∷ words) (suc t) a h l = word_fits ss words t a h.1 (omega arith)

pub fitted_is : (w v : ℕ) → 1 ≤ w → w ≤ 64 → v < 2 ^ w → fitted w v ≡ word w v
fitted_is w v h k l =
    cond-true ((nat_le 1 w && nat_le w 64) && nat_lt v (2 ^ w)) (word w v) zero_bit
    (and_from _ _ (and_from _ _ (le-leb 1 w h) (le-leb w 64 k)) (lt-ltb v (2 ^ w) l))

-- a value of a target is shown as it is
pub shown_is : (m : Running) (t a w : ℕ) → Unbroken (widths_of m.job) → FitSlots (targets_of m.job.decls) m.words → HasWord m.job t a → w ≡ (target m.job t).width
    → fitted w (state m t a) ≡ word_shown m t a
shown_is m t a w u fit has e =
    let b = target_width m.job.decls t (job_fine m.job u) has.target in
    ap (λ n. fitted n (state m t a)) e
    ∙ fitted_is (target m.job t).width (state m t a) b.0 b.1 (word_fits (targets_of m.job.decls) m.words t a fit has.target)
