-- Sections that violate no rule: each entry ends within its target's words, and each value fits its target.
use Rattle.std.proofs.Common.{◌≡◌, ◌∙◌, ℕ, zero, suc, ◌+◌, ◌-◌, ◌^◌, ◌<◌, ◌≤◌, List, [], ◌∷◌, length, Option, Some, None, Bool, true, false, refl, ap, sym, subst, arith}
use Rattle.std.proofs.Math.Nat.{min-eq_left}
use Rattle.std.proofs.lemmas.{Bool.ltb-true, Nat.pow_pos}
use Rattle.std.proofs.lemmas.List.Elements.{All-nil, All-cons, All-head, All-tail, All-weaker}
use Rattle.std.specs.Prelude.{◌&&◌, nat_le, nat_lt, unwrap_or, if◌then◌else◌, option_map, slice_get}
use Rattle.std.specs.{List.All, Cmp.Lexicographic.bytes_decides}
use Rattle.kp_base.specs.{First.first, Check.ok, Check.◌>>=◌}
use Rattle.kp_base.specs.declared.place.Place.{Place}
use Rattle.kp_bits.specs.Word.{IsWord, word}
use Rattle.kp_ast.specs.{Expressions.is_same_name, declared.tree.Num.Num, declared.tree.Lit.Lit, declared.tree.Decl.Decl, declared.tree.Image.Image}
use Rattle.kp_ast.specs.declared.tree.{Inputs.Inputs, Job.Job}
use Rattle.kp_ast.specs.declared.tree.Decl.TheVariants as decls
use Rattle.kp_width.specs.{Names.nothing, Declarations.declarations_of, Statements.blocks_of, Widths.widths_of}
use Rattle.kp_width.proofs.Unbroken.{bind_unbroken}
use Rattle.kp_stage.specs.Start.{number_or, first_address, given_by, laid_over, start_regs, words_from, start_files, image_of, stalls_of, inputs_of, input, input_row, input_over, gives_at, AreRegs, AreFiles, AreSamples, IsStartOf}
use Rattle.kp_stage.{specs.Stages.broken_of, specs.Facts.facts_of, proofs.Unbroken.few_stages, proofs.Kept.rules_kept}
use Rattle.kp_stage.specs.Start as start
use Rattle.kp_image.specs.Sections.{declared_in, target_of, address_of, word_of, literal_of, values_of, image_entry, entry_of, stall_of, sample_of, step_of, inputs_entry, input_of, sections_of}
use Rattle.kp_image.specs.declared.check.Declared.{Declared}
use Rattle.kp_image.specs.declared.fault.SectionFault.TheVariants as faults
use Rattle.kp_image.specs.{Feeds.FitsFeed, inner.Kept.FitsSample, inner.Kept.InputsFit, inner.Kept.kept_by}
use Rattle.kp_image.specs.inner.Fits.{EndsWithin, StartFits}
use Rattle.kp_image.proofs.{Declared.IsSettled, Declared.literal_fits, Declared.settled, Unbroken.answer_none, Unbroken.are_right, Unbroken.or_none, Unbroken.step_right}

-- values that are below a limit
abbrev AreBelow : ℕ → List Lit → Type 0
AreBelow limit ls = All (λ l. l.literal.value < limit) ls

record EndsAt (s : Declared) (address : ℕ) (ls : List Lit) : Type 0 where
  pub within : address + length ls ≤ s.words
  pub below : AreBelow (2 ^ s.width) ls

values_right : (name : Place) (s : Declared) (address : ℕ) (ls : List Lit) → values_of name s address ls ≡ None → address ≤ s.words → EndsAt s address ls
values_right name s address [] e low = record { within = omega arith; below = All-nil _ }
values_right name s address (l ∷ ls) e low =
    let here = or_none (word_of name s address l) (values_of name s (address + 1) ls) e in
    let word = or_none _ (literal_of name s l) here.0 in
    let within = ltb-true address s.words (answer_none (nat_lt address s.words) _ word.0) in
    let more = values_right name s (address + 1) ls here.1 (omega (arith, within)) in
    record {
      within = omega (arith, more.within);
      below = All-cons (λ l. l.literal.value < 2 ^ s.width) l ls (literal_fits name s l word.1).word.fits more.below;
    }

address_right : (name : Place) (words : ℕ) (o : Option Num) → address_of name words o ≡ None → number_or o 0 ≤ words
address_right name words None e = omega arith
address_right name words (Some n) e = omega (arith, ltb-true n.value words (answer_none (nat_lt n.value words) _ e))

-- an entry that violates no rule has a target, and suits it
record IsGiven (ds : List Decl) (e : Image) : Type 0 where
  pub target : Declared
  pub found : declared_in ds e.name.name ≡ Some target
  pub ends : EndsAt target (first_address e) e.values

given_at : (ds : List Decl) (e : Image) (o : Option Declared) → declared_in ds e.name.name ≡ o → image_entry e o ≡ None → IsGiven ds e
given_at ds e None found unbroken = cc
given_at ds e (Some s) found unbroken =
    let rest = (or_none (target_of e.name.at s.kind s.at e.address) _ unbroken).1 in
    let both = or_none (address_of e.name.at s.words e.address) (values_of e.name.at s (first_address e) e.values) rest in
    record { target = s; found = found; ends = values_right e.name.at s (first_address e) e.values both.1 (address_right e.name.at s.words e.address both.0) }

given_right : (ds : List Decl) (e : Image) → entry_of ds e ≡ None → IsGiven ds e
unfolding entry_of
given_right ds e unbroken = given_at ds e (declared_in ds e.name.name) refl unbroken

value_below : (limit : ℕ) (ls : List Lit) (k v : ℕ) → AreBelow limit ls → v < limit → unwrap_or (option_map (λ l. l.literal.value) (slice_get ls k)) v < limit
value_below limit [] k v all low = low
value_below limit (l ∷ ls) zero v all low = All-head (λ l. l.literal.value < limit) l ls all
value_below limit (l ∷ ls) (suc k) v all low = value_below limit ls k v (All-tail (λ l. l.literal.value < limit) l ls all) low

same_target : (s t : Declared) (o : Option Declared) → o ≡ Some s → o ≡ Some t → s ≡ t
same_target s t o a b = cc

-- the target of an entry for this name is what is found under the name
ends_at_found : (ds : List Decl) (name : List ℕ) (s : Declared) (e : Image) → declared_in ds name ≡ Some s → IsGiven ds e → is_same_name e.name.name name ≡ true → EndsAt s (first_address e) e.values
ends_at_found ds name s e found given same =
    let there = ap (declared_in ds) (sym (((bytes_decides e.name.name name).0 same))) ∙ given.found in
    subst (λ (t : Declared). EndsAt t (first_address e) e.values) (same_target given.target s (declared_in ds name) (ap (declared_in ds) (sym (((bytes_decides e.name.name name).0 same))) ∙ given.found) found) given.ends

below_where : (limit : ℕ) (b c : Bool) (ls : List Lit) (k v : ℕ) → (b ≡ true → AreBelow limit ls) → v < limit → unwrap_or (if b && c then option_map (λ l. l.literal.value) (slice_get ls k) else None) v < limit
below_where limit true true ls k v all low = value_below limit ls k v (all refl) low
below_where limit true false ls k v all low = low
below_where limit false c ls k v all low = low

given_below : (ds : List Decl) (name : List ℕ) (s : Declared) (e : Image) (a v : ℕ) → declared_in ds name ≡ Some s → IsGiven ds e → v < 2 ^ s.width → unwrap_or (given_by e name a) v < 2 ^ s.width
given_below ds name s e a v found given low =
    below_where (2 ^ s.width) (is_same_name e.name.name name) (nat_le (first_address e) a) e.values (a - first_address e) v
    (λ same. (ends_at_found ds name s e found given same).below) low

-- what is laid over a word that fits a target fits it
laid_below : (ds : List Decl) (name : List ℕ) (s : Declared) → declared_in ds name ≡ Some s → (es : List Image) → All (IsGiven ds) es → (a v : ℕ) → v < 2 ^ s.width → laid_over es name a v < 2 ^ s.width
laid_below ds name s found [] all a v low = low
laid_below ds name s found (e ∷ es) all a v low =
    laid_below ds name s found es (All-tail (IsGiven ds) e es all) a (unwrap_or (given_by e name a) v)
    (given_below ds name s e a v found (All-head (IsGiven ds) e es all) low)

module _ (ds : List Decl) (es : List Image) (given : All (IsGiven ds) es) where
  -- what is laid over a start value is a word
  laid_word : (n : List ℕ) (s : Declared) (v : ℕ) → declared_in ds n ≡ Some s → IsWord (word s.width v) → (a : ℕ) → IsWord (word s.width (laid_over es n a v))
  laid_word n s v found w a = record { positive = w.positive; at_most = w.at_most; fits = laid_below ds n s found es given a v w.fits }

  start_fits_one : (d : Decl) → IsSettled ds d → StartFits es d
  start_fits_one (decls.Reg n width start) d = laid_word n.name _ start.literal.value d.found d.right 0
  start_fits_one (decls.File n width address) d = (
    d.right.2,
    All-weaker (IsGiven ds) (EndsWithin n.name (2 ^ address.value))
        (λ e x same. subst (λ (bits : ℕ). first_address e + length e.values ≤ 2 ^ bits) (min-eq_left d.right.2) (ends_at_found ds n.name _ e d.found x same).within) es given,
  )
  start_fits_one x d = tt

  regs_start : (rest : List Decl) → All (IsSettled ds) rest → AreRegs rest (start_regs es rest)
  regs_start [] all = refl
  regs_start (decls.Reg n width start ∷ rest) all =
      let d = All-head (IsSettled ds) (decls.Reg n width start) rest all in
      (refl, laid_word n.name _ start.literal.value d.found d.right 0, regs_start rest (All-tail (IsSettled ds) (decls.Reg n width start) rest all))
  regs_start (x ∷ rest) all = regs_start rest (All-tail (IsSettled ds) x rest all)

  words_length : (n : List ℕ) (count a : ℕ) → length (words_from es n a count) ≡ count
  words_length n zero a = refl
  words_length n (suc count) a = ap suc (words_length n count (a + 1))

  words_below : (n : List ℕ) (s : Declared) → declared_in ds n ≡ Some s → (count a : ℕ) → All (λ v. v < 2 ^ s.width) (words_from es n a count)
  words_below n s found zero a = All-nil _
  words_below n s found (suc count) a =
      All-cons (λ v. v < 2 ^ s.width) (laid_over es n a 0) (words_from es n (a + 1) count) (laid_below ds n s found es given a 0 (pow_pos s.width)) (words_below n s found count (a + 1))

  files_start : (rest : List Decl) → All (IsSettled ds) rest → AreFiles rest (start_files es rest)
  files_start [] all = refl
  files_start (decls.File n width address ∷ rest) all =
      let d = All-head (IsSettled ds) (decls.File n width address) rest all in
      (words_length n.name (2 ^ address.value) 0, words_below n.name _ d.found (2 ^ address.value) 0, files_start rest (All-tail (IsSettled ds) (decls.File n width address) rest all))
  files_start (x ∷ rest) all = files_start rest (All-tail (IsSettled ds) x rest all)

job_settled : (job : Job) → first (widths_of job).asked ≡ None → All (IsSettled job.decls) job.decls
job_settled job e =
    settled job.decls 0 0 nothing refl
    (bind_unbroken (declarations_of job.decls 0 0 nothing job.decls) (λ s. blocks_of job.decls 0 s job.blocks >>= (λ t. ok t.entries)) e).0

job_given : (job : Job) → first (sections_of job).asked ≡ None → All (IsGiven job.decls) (image_of job)
job_given job e = All-weaker (λ e. entry_of job.decls e ≡ None) (IsGiven job.decls) (given_right job.decls) (image_of job) (are_right job e).image

-- and if its sections are valid too, its start state fits, and the stalls are valid
pub start_fits : (job : Job) → first (widths_of job).asked ≡ None → first (sections_of job).asked ≡ None → All (StartFits (image_of job)) job.decls
start_fits job widths sections =
    All-weaker (IsSettled job.decls) (StartFits (image_of job)) (start_fits_one job.decls (image_of job) (job_given job sections)) job.decls (job_settled job widths)

pub stalls_right : (job : Job) → first (sections_of job).asked ≡ None → All (λ e. stall_of job.stages.value e ≡ None) (stalls_of job)
stalls_right job e = (are_right job e).stalls

-- a machine can start in it
pub starts : (job : Job) → first (widths_of job).asked ≡ None → first (sections_of job).asked ≡ None → IsStartOf job (start.start_of job)
unfolding start.start_of
starts job widths sections = record {
  regs = regs_start job.decls (image_of job) (job_given job sections) job.decls (job_settled job widths);
  files = files_start job.decls (image_of job) (job_given job sections) job.decls (job_settled job widths);
}

-- a design has few stages
pub few_stages_of : (job : Job) → broken_of job ≡ None → job.stages.value ≤ 12
few_stages_of job e = few_stages (facts_of job) job (rules_kept job e)

-- an inputs entry that violates no rule has a sample, whose width its value fits
record IsInput (ds : List Decl) (e : Inputs) : Type 0 where
  pub target : Declared
  pub found : declared_in ds e.name.name ≡ Some target
  pub fits : FitsFeed target.width (kept_by e)

input_at : (ds : List Decl) (e : Inputs) (o : Option Declared) → declared_in ds e.name.name ≡ o → inputs_entry e o ≡ None → IsInput ds e
input_at ds e None found unbroken = cc
input_at ds e (Some s) found unbroken =
    let rest = (or_none (sample_of e.name.at s.kind s.at) _ unbroken).1 in
    let both = or_none (literal_of e.name.at s e.value) (step_of faults.InputStep e.step) rest in
    record { target = s; found = found; fits = ((literal_fits e.name.at s e.value both.0).word.fits, step_right faults.InputStep e.step both.1) }

input_right : (ds : List Decl) (e : Inputs) → input_of ds e ≡ None → IsInput ds e
unfolding input_of
input_right ds e unbroken = input_at ds e (declared_in ds e.name.name) refl unbroken

-- the sample of an entry for this name is what is found under the name
fits_found : (ds : List Decl) (name : List ℕ) (s : Declared) (e : Inputs) → declared_in ds name ≡ Some s → IsInput ds e → FitsSample name s.width e
fits_found ds name s e found given same =
    let there = ap (declared_in ds) (sym (((bytes_decides e.name.name name).0 same))) ∙ given.found in
    subst (λ (t : Declared). FitsFeed t.width (kept_by e)) (same_target given.target s (declared_in ds name) there found) given.fits

input_fits_one : (ds : List Decl) (es : List Inputs) → All (IsInput ds) es → (d : Decl) → IsSettled ds d → InputsFit es d
input_fits_one ds es given (decls.Sample n width stage) d = (d.right.0, d.right.1, All-weaker (IsInput ds) (FitsSample n.name width.value) (λ e x. fits_found ds n.name _ e d.found x) es given)
input_fits_one ds es given x d = tt

-- the inputs fit the samples
pub inputs_fit : (job : Job) → first (widths_of job).asked ≡ None → first (sections_of job).asked ≡ None → All (InputsFit (inputs_of job)) job.decls
inputs_fit job widths sections =
    let right = All-weaker (λ e. input_of job.decls e ≡ None) (IsInput job.decls) (input_right job.decls) (inputs_of job) (are_right job sections).inputs in
    All-weaker (IsSettled job.decls) (InputsFit (inputs_of job)) (input_fits_one job.decls (inputs_of job) right) job.decls (job_settled job widths)

over_where : (limit : ℕ) (b c : Bool) (x v : ℕ) → (b ≡ true → x < limit) → v < limit → (if b && c then x else v) < limit
over_where limit true true x v here low = here refl
over_where limit true false x v here low = low
over_where limit false c x v here low = low

over_below : (name : List ℕ) (w : ℕ) (es : List Inputs) → All (FitsSample name w) es → (cycle v : ℕ) → v < 2 ^ w → input_over es name cycle v < 2 ^ w
over_below name w [] all cycle v low = low
over_below name w (e ∷ es) all cycle v low =
    over_below name w es (All-tail (FitsSample name w) e es all) cycle _
    (over_where (2 ^ w) (is_same_name e.name.name name) (gives_at e cycle) e.value.literal.value v (λ same. (All-head (FitsSample name w) e es all same).0) low)

row_fits : (es : List Inputs) (ds : List Decl) → All (InputsFit es) ds → (cycle : ℕ) → AreSamples ds (input_row es ds cycle)
row_fits es [] all cycle = refl
row_fits es (decls.Sample n width stage ∷ ds) all cycle =
    let h = All-head (InputsFit es) (decls.Sample n width stage) ds all in
    (refl, record { positive = h.0; at_most = h.1; fits = over_below n.name width.value es h.2 cycle 0 (pow_pos width.value) }, row_fits es ds (All-tail (InputsFit es) (decls.Sample n width stage) ds all) cycle)
row_fits es (x ∷ ds) all cycle = row_fits es ds (All-tail (InputsFit es) x ds all) cycle

-- and so does each row of them
pub rows_fit : (job : Job) → first (widths_of job).asked ≡ None → first (sections_of job).asked ≡ None → (cycle : ℕ) → AreSamples job.decls (input job cycle)
unfolding input
rows_fit job widths sections cycle = row_fits (inputs_of job) job.decls (inputs_fit job widths sections) cycle
