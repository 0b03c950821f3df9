-- A job that violates no rule fits: what the rules guarantee about its widths, its results, its guesses and its hints.
use Rattle.std.proofs.Common.{◌≡◌, ◌∙◌, ℕ, zero, suc, ◌+◌, ◌<◌, ◌≤◌, List, [], ◌∷◌, Option, Some, None, true, false, cond, not, ◌&&◌, ◌||◌, length, length-append, get_or, refl, ap, sym, subst, arith}
use Rattle.std.proofs.lemmas.Bool.{and_parts, ltb-true, leb-true, eqb-true, eq-eqb, false_from_ne_true}
use Rattle.std.specs.{Prelude.is_some, Prelude.slice_get, Prelude.nat_lt, Prelude.nat_le, List.AllByRecursion}
use Rattle.kp_base.specs.{First.first, Check.ok, Check.◌>>=◌, Refusal.e_rule}
use Rattle.kp_ast.specs.{Expressions.is_same_name, declared.tree.Named.Named, declared.tree.Num.Num, declared.tree.Lit.Lit, declared.tree.Expr.Expr}
use Rattle.kp_ast.specs.declared.tree.{ReadStmt.ReadStmt, ResultDecl.ResultDecl, Decl.Decl, Stmt.Stmt, StmtKind.StmtKind, Block.Block, Job.Job}
use Rattle.kp_ast.specs.declared.widths.NameKind.{NameKind}
use Rattle.kp_ast.specs.declared.tree.Decl.TheVariants as decls
use Rattle.kp_ast.specs.declared.tree.StmtKind.TheVariants as stmts
use Rattle.kp_ast.specs.declared.widths.NameKind.TheVariants as kinds
use Rattle.kp_width.specs.Names.{Sense, sense, Names, Scoped, nothing, look_up, find, declared_text}
use Rattle.kp_width.specs.Expressions.{is_width}
use Rattle.kp_width.specs.Declarations.{declared, start_of, started_of, addresses_of, address_width, name_of, after_name, declaration_of, declarations_of, functions_in}
use Rattle.kp_width.{specs.Widths.widths_of, proofs.Unbroken.Unbroken, proofs.Unbroken.bind_unbroken, proofs.Unbroken.answer_unbroken}
use Rattle.kp_width.specs.Names as names
use Rattle.kp_stage.specs.{Facts.Facts, Facts.facts_of, Facts.stmts_in, Rules.holds_of, Rules.may_guess, Rules.ask_stmt, Rules.ask_stmts, declared.rules.Rule.Rule, Stages.broken_of}
use Rattle.kp_stage.proofs.{Unbroken.first_none, Unbroken.answer_none, Unbroken.stages_kept, Kept.rules_kept, Kept.decl_kept, Kept.stmts_kept}
use Rattle.kp_pipeline.proofs.Lists.{all-append}
use Rattle.kp_machine.specs.Slots.{Slot, targets_of, pipes_of, hints_of, samples_of, number_of, width_of}
use Rattle.kp_machine.{specs.Machine.result_for, specs.Machine.write_stage_of, proofs.Aims.aims_inside, proofs.Names.IsIn}
use Rattle.kp_machine.proofs.{Apart.Apart, Apart.pipes_apart, Apart.samples_apart, Cases.by_test, Placing.result_placed, Placing.own, Placing.stands}
use Rattle.kp_machine.proofs.Results.{written_by}
use Rattle.kp_machine.proofs.{Scopes.addresses, Scopes.PipeFits, Scopes.results_fit, Scopes.storage_kind, Text.text, Text.declared_right, Text.placed}
use Rattle.kp_design.specs.Numbers.{no_slot, target_at, pipe_at, no_guess, guess_slot, with_read, with_guess, guesses_in, guesses_from, guesses_of, guess_at}
use Rattle.kp_design.specs.declared.guess.GuessSlot.{GuessSlot}
use Rattle.kp_design.specs.Fits.{pipe_number, port_for, IsWidth, EnableFits, AddressFits, ResultFits, Fits}
use Rattle.kp_design.proofs.{Apart.rest_right, Lasting.lasting, Quiet.no_put, Quiet.no_set}

-- a property of each entry of a list holds for the one at an index
pub all_at : {X : Type 0} (P : X → Type 0) (xs : List X) (d : X) → AllByRecursion P xs → (i : ℕ) → i < length xs → P (get_or xs i d)
all_at P [] d all i l = absurd (omega arith)
all_at P (x ∷ xs) d all zero l = all.0
all_at P (x ∷ xs) d all (suc i) l = all_at P xs d all.1 i (omega arith)

-- WIDTHS. Each declared width is one, and a file has addresses of 1 to 16 bits.
record IsSized (s : Slot) : Type 0 where
  width : IsWidth s.width
  address : s.address ≤ 16

width_right : (n : Num) → Unbroken (declared n) → IsWidth n.value
width_right n u =
    let both = and_parts (nat_le 1 n.value) (nat_le n.value 64) (answer_unbroken (is_width n.value) _ [] u).0 in
    record { positive = leb-true 1 n.value both.0; at_most = leb-true n.value 64 both.1 }

started_right : (n : Num) (l : Lit) → Unbroken (started_of n l) → IsWidth n.value
started_right n l u = width_right n (bind_unbroken (declared n) (λ w. start_of l w >>= (λ x. ok w)) u).0

addresses_right : (n : Num) → Unbroken (addresses_of n) → n.value ≤ 16
addresses_right n u = leb-true n.value 16 (and_parts (nat_le 1 n.value) (nat_le n.value 16) (answer_unbroken (nat_le 1 n.value && nat_le n.value 16) _ [] u).0).1

module _ (ds : List Decl) where
  -- a declaration that violates no rule, and those after it
  here_right : (i k : ℕ) (s : Scoped) (d : Decl) (rest : List Decl) → Unbroken (declarations_of ds i k s (d ∷ rest)) → Unbroken (after_name ds i k s d)
  here_right i k s d rest u =
      (answer_unbroken (not (is_some (find s (name_of d).name))) _ (after_name ds i k s d).asked
      (bind_unbroken (declaration_of ds i k s d) (λ x. declarations_of ds (i + 1) (k + functions_in d) x rest) u).0).1

  targets_right : (i k : ℕ) (s : Scoped) (rest : List Decl) → Unbroken (declarations_of ds i k s rest) → AllByRecursion IsSized (targets_of rest)
  targets_right i k s [] u = tt
  targets_right i k s (decls.Reg n width l ∷ rest) u = (record { width = started_right width l (bind_unbroken (started_of width l) (λ w. ok (declared_text s n.name (sense kinds.Reg w i))) (here_right i k s (decls.Reg n width l) rest u)).0; address = omega arith }, targets_right (i + 1) (k + functions_in (decls.Reg n width l)) (declaration_of ds i k s (decls.Reg n width l)).value rest (rest_right ds i k s (decls.Reg n width l) rest u))
  targets_right i k s (decls.File n width address ∷ rest) u =
      let both = bind_unbroken (declared width) (λ w. addresses_of address >>= (λ a. ok (declared_text s n.name (sense (kinds.File a) w i)))) (here_right i k s (decls.File n width address) rest u) in
      (record { width = width_right width both.0; address = addresses_right address (bind_unbroken (addresses_of address) (λ a. ok (declared_text s n.name (sense (kinds.File a) width.value i))) both.1).0 }, targets_right (i + 1) (k + functions_in (decls.File n width address)) (declaration_of ds i k s (decls.File n width address)).value rest (rest_right ds i k s (decls.File n width address) rest u))
  targets_right i k s (d ∷ rest) u = targets_right (i + 1) (k + functions_in d) (declaration_of ds i k s d).value rest (rest_right ds i k s d rest u)

  hints_right : (i k : ℕ) (s : Scoped) (rest : List Decl) → Unbroken (declarations_of ds i k s rest) → AllByRecursion IsSized (hints_of rest)
  hints_right i k s [] u = tt
  hints_right i k s (decls.Hint n width l ∷ rest) u = (record { width = started_right width l (bind_unbroken (started_of width l) (λ w. ok (declared_text s n.name (sense kinds.Hint w i))) (here_right i k s (decls.Hint n width l) rest u)).0; address = omega arith }, hints_right (i + 1) (k + functions_in (decls.Hint n width l)) (declaration_of ds i k s (decls.Hint n width l)).value rest (rest_right ds i k s (decls.Hint n width l) rest u))
  hints_right i k s (d ∷ rest) u = hints_right (i + 1) (k + functions_in d) (declaration_of ds i k s d).value rest (rest_right ds i k s d rest u)

-- The pipes and the samples have the widths that they are declared with.
apart_wide : (ss : List Slot) → Apart ss → (i : ℕ) → i < length ss → IsWidth (get_or ss i no_slot).width
apart_wide [] a i l = absurd (omega arith)
apart_wide (s ∷ ss) a zero l = record { positive = a.1; at_most = a.2 }
apart_wide (s ∷ ss) a (suc i) l = apart_wide ss a.3 i (omega arith)

-- The entry of a name has its width and its addresses.
module _ (q : List ℕ) where
  rest_in : (s : Slot) (ss : List Slot) → is_same_name q s.name ≡ false → IsIn (s ∷ ss) q → IsIn ss q
  rest_in s ss n h = let e : number_of (s ∷ ss) q ≡ suc (number_of ss q) = ap (λ b. cond b 0 (suc (number_of ss q))) n in omega (arith, e, h)

  pub width_there : (ss : List Slot) → IsIn ss q → (get_or ss (number_of ss q) no_slot).width ≡ width_of ss q
  width_there [] h = absurd (omega arith)
  width_there (s ∷ ss) h = by_test (is_same_name q s.name)
      (λ y. rw y refl)
      (λ n. let more = width_there ss (rest_in s ss n h) in rw n more)

  pub address_there : (ss : List Slot) → IsIn ss q → (get_or ss (number_of ss q) no_slot).address ≡ addresses ss q
  address_there [] h = absurd (omega arith)
  address_there (s ∷ ss) h = by_test (is_same_name q s.name)
      (λ y. rw y refl)
      (λ n. let more = address_there ss (rest_in s ss n h) in rw n more)

-- a register has no addresses
pub no_address : (kind : NameKind) → names.is_register kind ≡ true → address_width kind ≡ 0
no_address kinds.Reg e = refl
no_address (kinds.File a) e = cc
no_address kind e = refl

-- A guess is of a register of a width, and is made two stages or more before its write stage.
pub record IsGuess (job : Job) (g : GuessSlot) : Type 0 where
  pub width : IsWidth g.width
  pub early : g.stage + 2 ≤ g.write
  pub late : g.write < job.stages.value
  pub register : g.register < length (targets_of job.decls)
  pub index : g.index < length (guesses_of job)

in_time : (k : ℕ) (o : Option ℕ) → holds_of (λ w. nat_le (k + 2) w) o ≡ true → (w : ℕ) × ((o ≡ Some w) × (k + 2 ≤ w))
in_time k None e = cc
in_time k (Some w) e = (w, (refl, leb-true (k + 2) w e))

module _ (job : Job) (right : Unbroken (widths_of job)) (kept : broken_of job ≡ None) where
  abbrev facts : Facts
  facts = facts_of job

  abbrev targets : List Slot
  targets = targets_of job.decls

  abbrev pipes : List Slot
  pipes = pipes_of job.decls

  declarations : Unbroken (declarations_of job.decls 0 0 nothing job.decls)
  declarations = declared_right job right

  target_sized : (t : ℕ) → t < length targets → IsSized (target_at job t)
  target_sized t l = all_at IsSized targets no_slot (targets_right job.decls 0 0 nothing job.decls declarations) t l

  pipe_wide : (x : ℕ) → x < length pipes → IsWidth (pipe_at job x).width
  pipe_wide = apart_wide pipes (pipes_apart job.decls nothing declarations)

  -- RESULTS
  enable_fits : (o : Option Named) → PipeFits (text job right) 1 o → EnableFits job (pipe_number job o)
  enable_fits None h = tt
  enable_fits (Some n) h =
      let p = (placed job right n.name h.0 h.1).pipe h.2 in
      (p.inside, width_there n.name pipes p.inside ∙ p.width ∙ h.3)

  address_fits : (q : List ℕ) (m : Sense) (o : Option Named) → look_up (text job right) q ≡ Some m → cond (is_some o) names.is_file names.is_register m.kind ≡ true
      → PipeFits (text job right) (address_width m.kind) o → AddressFits job (number_of targets q) (pipe_number job o)
  address_fits q m None e k h =
      let s = (placed job right q m e).target (storage_kind false m.kind k) in
      let a : (target_at job (number_of targets q)).address ≡ 0 = address_there q targets s.inside ∙ s.address ∙ no_address m.kind k in
      eq-eqb _ 0 a
  address_fits q m (Some n) e k h =
      let s = (placed job right q m e).target (storage_kind true m.kind k) in
      let p = (placed job right n.name h.0 h.1).pipe h.2 in
      let a : (target_at job (number_of targets q)).address ≡ address_width m.kind = address_there q targets s.inside ∙ s.address in
      let w : (pipe_at job (number_of pipes n.name)).width ≡ address_width m.kind = width_there n.name pipes p.inside ∙ p.width ∙ h.3 in
      let positive : 1 ≤ (pipe_at job (number_of pipes n.name)).width = (pipe_wide (number_of pipes n.name) p.inside).positive in (
        false_from_ne_true _ (λ y. let z : (target_at job (number_of targets q)).address ≡ 0 = eqb-true _ 0 y in absurd (omega (arith, z, a, w, positive))),
        p.inside,
        w ∙ sym a,
      )

  result_fits : (t : ℕ) (o : Option ResultDecl) → result_for job t ≡ o → ResultFits job t (port_for job t o)
  result_fits t None e = tt
  result_fits t (Some r) e =
      let s = stands job right t r e in
      let f = results_fit job.decls 0 0 nothing job.decls refl declarations s.0.index r s.0.there in
      let w : nat_lt r.stage.value facts.stages ≡ true = answer_none _ _ (decl_kept facts job (rules_kept job kept) Rule.E15 s.0.index (decls.Target r) s.0.there) in (
        ltb-true r.stage.value job.stages.value w,
        enable_fits r.enable f.enable,
        subst (λ n. AddressFits job n (pipe_number job r.address)) s.1 (address_fits r.target.name f.sense r.address f.found f.stored f.address),
      )

  -- GUESSES
  guess_right : (k i : ℕ) (r : ReadStmt) (e : Expr) → r.guess ≡ Some e → may_guess facts k r ≡ true → i < length (guesses_of job) → IsGuess job (guess_slot job k i r)
  guess_right k i r e is may few =
      let there : is_some r.guess ≡ true = ap is_some is in
      let late : holds_of (λ w. nat_le (k + 2) w) (facts.written r.target.name) ≡ true =
      (and_parts (not (is_some r.address)) (holds_of (λ w. nat_le (k + 2) w) (facts.written r.target.name))
      (subst (λ b. (not b || (not (is_some r.address) && holds_of (λ w. nat_le (k + 2) w) (facts.written r.target.name))) ≡ true) there may)).1 in
      let w = in_time k (facts.written r.target.name) late in
      let q = written_by job.decls r.target.name w.0 w.1.0 in
      let inside : IsIn targets r.target.name = subst (λ n. IsIn targets n) q.1.1.0 (result_placed job right q.0 q.1.0).target in
      let stage : write_stage_of (result_for job (number_of targets r.target.name)) ≡ w.0 =
      ap (λ n. write_stage_of (result_for job (number_of targets n))) (sym q.1.1.0) ∙ ap write_stage_of (own job right kept q.0 q.1.0) ∙ q.1.1.1 in
      let after : k + 2 ≤ w.0 = w.1.1 in
      let e : nat_lt q.0.stage.value facts.stages ≡ true = answer_none _ _ (decl_kept facts job (rules_kept job kept) Rule.E15 q.1.0.index (decls.Target q.0) q.1.0.there) in
      let last : q.0.stage.value < job.stages.value = ltb-true q.0.stage.value job.stages.value e in
      record {
        width = subst (λ n. IsWidth n) (width_there r.target.name targets inside) (target_sized (number_of targets r.target.name) inside).width;
        early = omega (arith, stage, after);
        late = omega (arith, stage, q.1.1.1, last);
        register = inside;
        index = few;
      }

  abbrev Asked : ℕ → ℕ → StmtKind → Type 0
  Asked k j s = (rule : Rule) → ask_stmt facts rule k j s ≡ None

  -- n guessed reads precede these, and there are no more than those of the job
  abbrev Fit : ℕ → List GuessSlot → Type 0
  Fit n gs = n + length gs ≤ length (guesses_of job) → AllByRecursion (IsGuess job) gs

  guess_in : (k j i : ℕ) (r : ReadStmt) (o : Option Expr) (rest : ℕ → List GuessSlot) → r.guess ≡ o → Asked k j (stmts.Read r) → ((m : ℕ) → Fit m (rest m)) → Fit i (with_read job k i r o rest)
  guess_in k j i r None rest is asked more l = more i l
  guess_in k j i r (Some e) rest is asked more l =
      (guess_right k i r e is (answer_none (may_guess facts k r) _ (asked Rule.E23)) (omega (arith, l)), more (suc i) (omega (arith, l)))

  guess_of : (k j i : ℕ) (s : StmtKind) (rest : ℕ → List GuessSlot) → Asked k j s → ((m : ℕ) → Fit m (rest m)) → Fit i (with_guess job k i s rest)
  guess_of k j i (stmts.Read r) rest asked more = guess_in k j i r r.guess rest refl asked more
  guess_of k j i s rest asked more = more i

  guesses_right : (k j i : ℕ) (ss : List Stmt) → ((rule : Rule) → first (ask_stmts facts rule k j ss) ≡ None) → Fit i (guesses_in job k i ss)
  guesses_right k j i [] asked l = tt
  guesses_right k j i (s ∷ ss) asked l =
      guess_of k j i s.kind (λ m. guesses_in job k m ss) (λ rule. (first_none (ask_stmt facts rule k j s.kind) (ask_stmts facts rule k (j + 1) ss) (asked rule)).0)
      (λ m. guesses_right k (j + 1) m ss (λ rule. (first_none (ask_stmt facts rule k j s.kind) (ask_stmts facts rule k (j + 1) ss) (asked rule)).1)) l

  all_guesses_right : (k : ℕ) (bs : List Block) → ((i : ℕ) (rule : Rule) → first (ask_stmts facts rule (k + i) 0 (stmts_in (slice_get bs i))) ≡ None)
      → Fit 0 (guesses_from job k bs)
  all_guesses_right k [] asked l = tt
  all_guesses_right k (b ∷ bs) asked l =
      let here : k + 0 ≡ k = omega arith in
      let total = length-append (guesses_in job k 0 b.stmts) (guesses_from job (suc k) bs) in
      all-append (IsGuess job) (guesses_in job k 0 b.stmts) (guesses_from job (suc k) bs)
      (guesses_right k 0 0 b.stmts (λ rule. subst (λ m. first (ask_stmts facts rule m 0 b.stmts) ≡ None) here (asked 0 rule)) (omega (arith, l, total)))
      (all_guesses_right (suc k) bs (λ i rule.
      let next : k + suc i ≡ suc k + i = omega arith in
      subst (λ m. first (ask_stmts facts rule m 0 (stmts_in (slice_get bs i))) ≡ None) next (asked (suc i) rule)) (omega (arith, l, total)))

  every_guess : AllByRecursion (IsGuess job) (guesses_of job)
  unfolding guesses_of
  every_guess = all_guesses_right 0 job.blocks (λ i rule.
      let here : i ≡ 0 + i = omega arith in
      subst (λ m. first (ask_stmts facts rule m 0 (stmts_in (slice_get job.blocks i))) ≡ None) here (stmts_kept facts job (rules_kept job kept) rule i)) (omega arith)

  pub guess_there : (g : ℕ) → g < length (guesses_of job) → IsGuess job (guess_at job g)
  guess_there g l = all_at (IsGuess job) (guesses_of job) no_guess every_guess g l

  -- STAGES
  stages_right : (2 ≤ job.stages.value) × (job.stages.value ≤ 12)
  stages_right =
      let all = stages_kept facts job (rules_kept job kept) in
      (all.0, all.1)

  -- A job that violates no rule of names, widths and stages fits.
  pub fits : Fits job
  fits = record {
    at_least = stages_right.0;
    at_most = stages_right.1;
    targets = λ t l. (target_sized t l).width;
    addresses = λ t l. (target_sized t l).address;
    pipes = pipe_wide;
    hints = λ h l. (all_at IsSized (hints_of job.decls) no_slot (hints_right job.decls 0 0 nothing job.decls declarations) h l).width;
    samples = apart_wide (samples_of job.decls) (samples_apart job.decls nothing declarations);
    results = λ t l. result_fits t (result_for job t) refl;
    guess_widths = λ g l. (guess_there g l).width;
    guesses = λ g l. (guess_there g l).early;
    lasting = lasting job right;
    no_put = no_put job;
    no_set = no_set job right kept;
    aims = λ h l. let few : 2 ≤ job.stages.value = stages_right.0 in aims_inside job kept (omega (arith, few)) h;
  }
