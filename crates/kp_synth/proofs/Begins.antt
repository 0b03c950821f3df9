-- The start values of the registers and files.
use Rattle.std.proofs.Common.{◌≡◌, ℕ, zero, suc, ◌+◌, ◌^◌, ◌<◌, ◌≤◌, ◌∙◌, List, [], ◌∷◌, true, false, cond, length, take, get_or, All, refl, ap, sym, subst, arith}
use Rattle.std.proofs.lemmas.{Option.slice_get-get_or, Bool.ltb-true, Bool.eqb-true, Nat.pow_pos}
use Rattle.std.specs.{Prelude.slice_index, Prelude.slice_get, Prelude.not, Prelude.is_some, Prelude.nat_lt, Prelude.◌==◌, List.filter}
use Rattle.kp_base.specs.{Check.ok, Check.wants, Check.◌>>=◌}
use Rattle.kp_bits.specs.Word.{Word, word, IsWord}
use Rattle.kp_ast.specs.declared.tree.{Named.Named, Num.Num, Lit.Lit, Decl.Decl, Job.Job}
use Rattle.kp_ast.specs.declared.tree.Decl.TheVariants as decls
use Rattle.kp_ast.specs.declared.widths.NameKind.TheVariants as kinds
use Rattle.kp_width.specs.Names.{Scoped, nothing, passed, sense, find, declared_text}
use Rattle.kp_width.specs.Expressions.{is_width, literal_of}
use Rattle.kp_width.specs.Faults.{found_at}
use Rattle.kp_width.specs.declared.fault.WidthFault.TheVariants as faults
use Rattle.kp_width.specs.Declarations.{declared, start_of, started_of, after_name, declaration_of, declarations_of, functions_in}
use Rattle.kp_width.{specs.Widths.widths_of, proofs.Unbroken.Unbroken, proofs.Unbroken.bind_unbroken, proofs.Unbroken.answer_unbroken}
use Rattle.kp_stage.specs.{Start.AreRegs, Start.AreFiles, declared.start.Start.Start}
use Rattle.kp_machine.specs.Slots.{Slot, targets_of, hints_of, is_register}
use Rattle.kp_machine.specs.Machine.{hint_starts, registers_before, files_before, register_words, file_words, target_words, state_of}
use Rattle.kp_machine.proofs.{Widths.Fine, Text.declared_right}
use Rattle.kp_synth_registers.specs.{declared.key.Key.Key, declared.key.Key.TheVariants.Hint, Keys.HasKey, Keys.key_width}
use Rattle.kp_design.specs.Numbers.{no_slot, target_at}
use Rattle.kp_synth.specs.inner.Built.{no_word, reg_count, file_count, first_start, FirstsFit}
use Rattle.kp_synth.proofs.{Numbers.is_file, Parts.not_zero}

-- each hint has its start value
pub hints_started : (ds : List Decl) → length (hint_starts ds) ≡ length (hints_of ds)
hints_started [] = refl
hints_started (decls.Hint n width start ∷ ds) = ap suc (hints_started ds)
hints_started (_ ∷ ds) = hints_started ds

-- which fits it
hint_fits : (width : Num) (start : Lit) → Unbroken (start_of start width.value) → start.literal.value < 2 ^ width.value
hint_fits width start u =
    let l = start.literal in
    let a = bind_unbroken (literal_of l start.at) (λ x. wants (x == width.value) (found_at start.at (faults.Start x width.value)) passed) u in
    let b = answer_unbroken (is_width l.width) _ (wants (nat_lt l.value (2 ^ l.width)) (found_at start.at (faults.LiteralValue l.value l.width)) (ok l.width)).asked a.0 in
    let c = answer_unbroken (nat_lt l.value (2 ^ l.width)) _ [] b.1 in
    let d = answer_unbroken (l.width == width.value) _ [] a.1 in
    subst (λ n. l.value < 2 ^ n) (eqb-true l.width width.value d.0) (ltb-true l.value (2 ^ l.width) c.0)

begun : (ds : List Decl) (i k : ℕ) (s : Scoped) (n : Named) (width : Num) (start : Lit) → Unbroken (declaration_of ds i k s (decls.Hint n width start)) → start.literal.value < 2 ^ width.value
begun ds i k s n width start u =
    let y = (answer_unbroken (not (is_some (find s n.name))) _ (after_name ds i k s (decls.Hint n width start)).asked u).1 in
    let a = bind_unbroken (started_of width start) (λ w. ok (declared_text s n.name (sense kinds.Hint w i))) y in
    let b = bind_unbroken (declared width) (λ w. start_of start w >>= (λ x. ok w)) a.0 in
    let c = bind_unbroken (start_of start width.value) (λ x. ok width.value) b.1 in
    hint_fits width start c.0

all_begun : (ds : List Decl) (i k : ℕ) (s : Scoped) (rest : List Decl) → Unbroken (declarations_of ds i k s rest)
    → (h : ℕ) → h < length (hints_of rest) → slice_index (hint_starts rest) h < 2 ^ (get_or (hints_of rest) h no_slot).width
all_begun ds i k s [] u h l = absurd (omega (arith, l))
all_begun ds i k s (decls.Hint n width start ∷ rest) u zero l =
    begun ds i k s n width start (bind_unbroken (declaration_of ds i k s (decls.Hint n width start)) (λ t. declarations_of ds (i + 1) (k + 0) t rest) u).0
all_begun ds i k s (decls.Hint n width start ∷ rest) u (suc h) l =
    all_begun ds (i + 1) (k + 0) _ rest (bind_unbroken (declaration_of ds i k s (decls.Hint n width start)) (λ t. declarations_of ds (i + 1) (k + 0) t rest) u).1 h (omega (arith, l))
all_begun ds i k s (d ∷ rest) u h l =
    all_begun ds (i + 1) (k + functions_in d) _ rest
    (bind_unbroken (declaration_of ds i k s d) (λ t. declarations_of ds (i + 1) (k + functions_in d) t rest) u).1 h l

pub hints_fit : (job : Job) → Unbroken (widths_of job) → FirstsFit job
hints_fit job u = λ h l. all_begun job.decls 0 0 nothing job.decls (declared_right job u) h l

-- the start value of a register that the job doesn't name
first_fits : (job : Job) (key : Key) → FirstsFit job → HasKey job key → first_start (hint_starts job.decls) key < 2 ^ key_width job key
first_fits job (Hint h) f l = f h l
first_fits job key f l = pow_pos (key_width job key)

pub first_word : (job : Job) (key : Key) (w : ℕ) → FirstsFit job → HasKey job key → 1 ≤ w → w ≤ 64 → w ≡ key_width job key → IsWord (word w (first_start (hint_starts job.decls) key))
first_word job key w f has low high e = record { positive = low; at_most = high; fits = subst (λ n. first_start (hint_starts job.decls) key < 2 ^ n) (sym e) (first_fits job key f has) }

-- A start state has a value for each register of the job, and words for each file.
pub regs_given : (ds : List Decl) (values : List Word) → AreRegs ds values → reg_count ds ≤ length values
regs_given [] values r = omega arith
regs_given (decls.Reg n width start ∷ ds) [] r = absurd r
regs_given (decls.Reg n width start ∷ ds) (v ∷ values) r = let more = regs_given ds values r.2 in omega (arith, more)
regs_given (_ ∷ ds) values r = regs_given ds values r

pub files_given : (ds : List Decl) (files : List (List ℕ)) → AreFiles ds files → file_count ds ≤ length files
files_given [] files g = omega arith
files_given (decls.File n width address ∷ ds) [] g = absurd g
files_given (decls.File n width address ∷ ds) (w ∷ files) g = let more = files_given ds files g.2 in omega (arith, more)
files_given (_ ∷ ds) files g = files_given ds files g

-- the words of the file of a target
abbrev pub WordsFit : Slot → List ℕ → Type 0
WordsFit s words = (length words ≡ 2 ^ s.address) × All (λ v. v < 2 ^ s.width) words

pub words_given : (ds : List Decl) (files : List (List ℕ)) (i : ℕ) → Fine ds → AreFiles ds files → i < length (targets_of ds) → is_register (get_or (targets_of ds) i no_slot) ≡ false
    → WordsFit (get_or (targets_of ds) i no_slot) (get_or files (length (filter is_file (take i (targets_of ds)))) [])
words_given [] files i f g l e = absurd (omega (arith, l))
words_given (decls.Reg n width start ∷ ds) files zero f g l e = cc
words_given (decls.Reg n width start ∷ ds) files (suc i) f g l e = words_given ds files i f.2 g (omega (arith, l)) e
words_given (decls.File n width address ∷ ds) [] i f g l e = absurd g
words_given (decls.File n width address ∷ ds) (w ∷ files) zero f g l e = (g.0, g.1)
words_given (decls.File n width address ∷ ds) (w ∷ files) (suc i) f g l e =
    let more = words_given ds files i f.3 g.2 (omega (arith, l)) e in
    rw (not_zero address.value f.2) more
words_given (_ ∷ ds) files i f g l e = words_given ds files i f g l e

-- the value of a register, and a word of a file
module _ (job : Job) (start : Start) (t : ℕ) (l : t < length (targets_of job.decls)) where
  pub reg_value : is_register (target_at job t) ≡ true → registers_before (targets_of job.decls) t < length start.regs
      → state_of job start t 0 ≡ (get_or start.regs (registers_before (targets_of job.decls) t) no_word).value
  unfolding state_of
  reg_value e m =
      ap (λ o. slice_index (target_words (targets_of job.decls) start t o) 0) (slice_get-get_or (targets_of job.decls) t no_slot l)
      ∙ ap (λ b. slice_index (cond b (register_words (slice_get start.regs (registers_before (targets_of job.decls) t))) (file_words (slice_get start.files (files_before (targets_of job.decls) t)))) 0) e
      ∙ ap (λ o. slice_index (register_words o) 0) (slice_get-get_or start.regs (registers_before (targets_of job.decls) t) no_word m)

  pub file_word : (a : ℕ) → is_register (target_at job t) ≡ false → files_before (targets_of job.decls) t < length start.files
      → state_of job start t a ≡ get_or (get_or start.files (files_before (targets_of job.decls) t) []) a 0
  unfolding state_of
  file_word a e m =
      ap (λ o. slice_index (target_words (targets_of job.decls) start t o) a) (slice_get-get_or (targets_of job.decls) t no_slot l)
      ∙ ap (λ b. slice_index (cond b (register_words (slice_get start.regs (registers_before (targets_of job.decls) t))) (file_words (slice_get start.files (files_before (targets_of job.decls) t)))) a) e
      ∙ ap (λ o. slice_index (file_words o) a) (slice_get-get_or start.files (files_before (targets_of job.decls) t) [] m)
