-- The reads of a stage: the implementation records what the definition specifies.
use Rattle.std.proofs.Common.{◌≡◌, ◌∙◌, ℕ, ◌+◌, ◌^◌, ◌<◌, ◌≤◌, List, [], ◌∷◌, ◌++◌, Option, Some, None, Bool, true, false, ◌||◌, cond, length, refl, ap, sym, subst, arith, lit<}
use Rattle.std.proofs.{lemmas.Bool.eqb-true, lemmas.Bool.le-leb, Math.Pow.pow_mono}
use Rattle.std.specs.Prelude.{is_some, slice_get, not, nat_le, ◌&&◌, ◌==◌}
use Rattle.kp_base.specs.{First.first, Check.ok, Check.◌>>=◌, Check.wants}
use Rattle.kp_ast.specs.declared.tree.{Expr.Expr, ReadStmt.ReadStmt, Stmt.Stmt, StmtKind.StmtKind, Job.Job}
use Rattle.kp_ast.specs.declared.tree.StmtKind.TheVariants as stmts
use Rattle.kp_ast.specs.declared.widths.NameKind.TheVariants as kinds
use Rattle.kp_width.specs.Names.{Sense, sense, Names, Scoped, look_up, find, is_register, is_file, declared_local, passed}
use Rattle.kp_width.specs.Expressions.{width_of, part_of, value_of}
use Rattle.kp_width.specs.Declarations.{kept, storage_of, address_width}
use Rattle.kp_width.specs.{Faults.found_at, declared.fault.Position.Position}
use Rattle.kp_width.specs.declared.fault.WidthFault.TheVariants as faults
use Rattle.kp_width.specs.declared.fault.Destination.TheVariants as to
use Rattle.kp_width.specs.{Statements.when_of, Statements.address_of, Statements.read_of, Statements.statement_of, Statements.statements_of, Widths.widths_of}
use Rattle.kp_width.proofs.{Unbroken.Unbroken, Unbroken.bind_unbroken, Unbroken.answer_unbroken, Found.none_of_two, Found.storage_takes}
use Rattle.kp_stage.specs.{Facts.facts_of, Rules.ask_option, Rules.ask_values, Rules.ask_stmt, Rules.ask_stmts, Rules.all_rules}
use Rattle.kp_stage.proofs.Unbroken.{first_none}
use Rattle.kp_pipeline.specs.Sequential.{Instruction}
use Rattle.kp_machine.{specs.Slots.targets_of, specs.Slots.number_of, specs.Slots.width_of as width_of_target, specs.Trees.Progress, proofs.Widths.job_fine}
use Rattle.kp_machine.proofs.{Scopes.IsSlot, Scopes.found_sense, Scopes.storage_kind, Text.placed, Text.local_no, Text.found_where}
use Rattle.kp_machine.specs.Words.{state_in}
use Rattle.kp_seq.proofs.{Reading.number_get, Start.target_width, Stage.Named, Stage.value_found, Trees.next, Turns.holds_same, Turns.address_same}
use Rattle.kp_seq.proofs.{Blocks.Before, Blocks.Keyed, Blocks.one_turn, Blocks.values_free, Noted.put_reads, Noted.put_both, Noted.narrowed_is, Low.target_low}
use Rattle.kp_seq.specs.{Recorded.where_true, Recorded.read_recorded, Recorded.reads_recorded, inner.Tables.Laid}
use Rattle.kp_seq.specs.inner.{Steps.Under, Steps.holds, Steps.address_in, Steps.after_stmt, Fits.FitSlots, Ready.AreTables}
use Rattle.kp_seq.specs.inner.Notes.{Noted, is_wide, asked_in, narrow_address, with_read, note_stmt, note_stmts}
use Rattle.kp_machine.specs.Trees as trees

-- a number of at most 16 bits is not cut short
pub low_fits : (v w : ℕ) → w ≤ 16 → v < 2 ^ w → v < 2 ^ 32
low_fits v w l h =
    let p : 2 ^ w ≤ 2 ^ 16 = pow_mono l in
    let q : 2 ^ 16 < 2 ^ 32 = lit< tt in
    omega arith

module _ (job : Job) (unbroken : Unbroken (widths_of job)) (t : Laid) (tables : AreTables job t) (rule : _) (is25 : slice_get all_rules 10 ≡ Some rule) (k : ℕ) (s : Scoped) (done : Progress) (u : Under) (now : Named job unbroken t tables rule is25 k s done u) where
  -- an address is as wide as those of its file
  address_small : (address : Option Expr) (w file : ℕ) → w ≤ 16 → ask_option (facts_of job) rule k address ≡ None
      → Unbroken (kept address (λ e. address_of (part_of job.decls (length job.decls) s e) w file)) → trees.address_of job.decls done address < 2 ^ 32
  address_small None w file low free right = lit< tt
  address_small (Some e) w file low free right =
      let r = bind_unbroken (width_of job.decls (length job.decls) s e) (λ x. wants (x == w) (found_at (part_of job.decls (length job.decls) s e).at (faults.Address x w file)) passed) right in
      let is : (width_of job.decls (length job.decls) s e).value ≡ w =
      eqb-true _ w (answer_unbroken ((width_of job.decls (length job.decls) s e).value == w) _ [] r.1).0 in
      let f = value_found job unbroken t tables rule is25 k s done u now e free r.0 in
      low_fits (trees.value_of job.decls done e) w low (subst (λ n. trees.value_of job.decls done e < 2 ^ n) (f.has.width ∙ is) f.has.word.fits)

  cut : (b c : Bool) (x a : ℕ) → b ≡ c → x ≡ a → a < 2 ^ 32 → narrow_address (where_true b x) ≡ where_true c a
  cut b c x a e f l =
      ap (λ z. narrow_address (where_true z x)) e ∙ ap (λ z. narrow_address (where_true c z)) f ∙ kept_whole c a l
    where
      kept_whole : (c : Bool) (a : ℕ) → a < 2 ^ 32 → narrow_address (where_true c a) ≡ where_true c a
      kept_whole true a l = ap (λ z. Some z) (narrowed_is 32 a l)
      kept_whole false a l = refl

  read_asked : (r : ReadStmt) → ask_values (facts_of job) rule k (stmts.Read r) ≡ None → Unbroken (statement_of job.decls s (stmts.Read r))
      → (is_wide t r ≡ true) × (narrow_address (asked_in t u r) ≡ where_true (trees.holds job.decls done r.when) (trees.address_of job.decls done r.address))
  read_asked r free right =
      let b = none_of_two (ask_option (facts_of job) rule k r.address) (ask_option (facts_of job) rule k r.when) free in
      let a = answer_unbroken (not (is_some (find s r.name.name))) _ (read_of job.decls s r >>= (λ w. ok (declared_local s r.name.name (sense kinds.Read w 0)))).asked right in
      let x = (bind_unbroken (read_of job.decls s r) (λ w. ok (declared_local s r.name.name (sense kinds.Read w 0))) a.1).0 in
      let st = storage_of s r.target (is_some r.address) in
      let y = bind_unbroken st (λ z. kept r.address (λ e. address_of (part_of job.decls (length job.decls) s e) (address_width z.kind) z.from) >>= (λ v. when_of job.decls s r.when >>= (λ p. kept r.guess (λ e. value_of (part_of job.decls (length job.decls) s e) z.width (to.Named z.kind z.from)) >>= (λ q. ok z.width)))) x in
      let z = bind_unbroken (kept r.address (λ e. address_of (part_of job.decls (length job.decls) s e) (address_width st.value.kind) st.value.from)) (λ v. when_of job.decls s r.when >>= (λ p. kept r.guess (λ e. value_of (part_of job.decls (length job.decls) s e) st.value.width (to.Named st.value.kind st.value.from)) >>= (λ q. ok st.value.width))) y.1 in
      let w = (bind_unbroken (when_of job.decls s r.when) (λ p. kept r.guess (λ e. value_of (part_of job.decls (length job.decls) s e) st.value.width (to.Named st.value.kind st.value.from)) >>= (λ q. ok st.value.width)) z.1).0 in
      let f = found_sense s.here _ (cond (is_some r.address) Position.File Position.Register) r.target.at (find s r.target.name) y.0 in
      let kind = storage_kind (is_some r.address) f.0.kind (storage_takes (is_some r.address) s.here f.0.kind f.2) in
      let at : IsSlot (targets_of job.decls) r.target.name f.0.width (address_width f.0.kind) = found_where s r.target.name f.0 f.1
      (λ l. local_no (λ kind. is_register kind || is_file kind) refl refl f.0.kind (now.locals r.target.name f.0 l) kind)
      (λ n g. (placed job unbroken r.target.name f.0 (ap (λ (names : Names). look_up names r.target.name) (sym now.of_text) ∙ g)).target kind) in
      let wide : address_width f.0.kind ≡ address_width st.value.kind = ap (λ (m : Sense). address_width m.kind) f.3 in
      let low : address_width st.value.kind ≤ 16 = subst (λ n. n ≤ 16) wide (target_low job unbroken r.target.name f.0.width (address_width f.0.kind) at) in
      let tw : ℕ = width_of_target (targets_of job.decls) r.target.name in
      let number = number_get (targets_of job.decls) r.target.name at.inside in
      let bounds = target_width job.decls (number_of (targets_of job.decls) r.target.name) (job_fine job unbroken) at.inside in
      let least : 1 ≤ tw = subst (λ n. 1 ≤ n) number bounds.0 in
      let most : tw ≤ 64 = subst (λ n. n ≤ 64) number bounds.1 in
      let wide_enough : is_wide t r ≡ true =
      ap (λ ss. nat_le 1 (width_of_target ss r.target.name) && nat_le (width_of_target ss r.target.name) 64) tables.targets
      ∙ ap (λ b. b && nat_le tw 64) (le-leb 1 tw least) ∙ le-leb tw 64 most in (
        wide_enough,
        cut (holds t u r.when) (trees.holds job.decls done r.when) (address_in t u r.address) (trees.address_of job.decls done r.address)
            (holds_same job unbroken t tables rule is25 k s done u now r.when b.1 w)
            (address_same job unbroken t tables rule is25 k s done u now r.address (address_width st.value.kind) st.value.from b.0 z.0)
            (address_small r.address (address_width st.value.kind) st.value.from low b.0 z.0),
      )

-- the notes after these reads
abbrev pub after_reads : Noted → List (Option ℕ) → Noted
after_reads n os = record n { reads = (put_reads (n.reads, n.next) os).0; next = (put_reads (n.reads, n.next) os).1 }

after_both : (n : Noted) (xs ys : List (Option ℕ)) → after_reads (after_reads n xs) ys ≡ after_reads n (xs ++ ys)
after_both n xs ys = ap (λ (p : List (Option ℕ) × ℕ). record n { reads = p.0; next = p.1 }) (sym (put_both (n.reads, n.next) xs ys))

module _ (job : Job) (unbroken : Unbroken (widths_of job)) (t : Laid) (tables : AreTables job t) (rule : _) (is25 : slice_get all_rules 10 ≡ Some rule) (k : ℕ) (words : List (List ℕ)) (fit : FitSlots (targets_of job.decls) words) (c : Instruction) where
  one_asked : (s : Scoped) (done : Progress) (u : Under) (n : Noted) (x : StmtKind) → Named job unbroken t tables rule is25 k s done u
      → ask_values (facts_of job) rule k x ≡ None → Unbroken (statement_of job.decls s x) → note_stmt t u n x ≡ after_reads n (read_recorded job.decls done x)
  one_asked s done u n (stmts.Read r) now free right =
      let a = read_asked job unbroken t tables rule is25 k s done u now r free right in
      ap (λ b. cond b (with_read n (narrow_address (asked_in t u r))) n) a.0 ∙ ap (with_read n) a.1
  one_asked s done u n _ now free right = refl

  -- the statements of a stage, from the one of number j on
  pub all_asked : (s : Scoped) (done : Progress) (u : Under) (n : Noted) (j : ℕ) (xs : List Stmt) → Before job unbroken t tables rule is25 k words fit c s done u
      → first (ask_stmts (facts_of job) rule k j xs) ≡ None → Unbroken (statements_of job.decls s xs) → Keyed job unbroken t tables rule is25 k words fit c s xs
      → note_stmts t words u n xs ≡ after_reads n (reads_recorded job.decls (state_in words) done xs)
  all_asked s done u n j [] h free right keys = refl
  all_asked s done u n j (x ∷ xs) h free right keys =
      let f = first_none (ask_stmt (facts_of job) rule k j x.kind) (ask_stmts (facts_of job) rule k (j + 1) xs) free in
      let r = bind_unbroken (statement_of job.decls s x.kind) (λ z. statements_of job.decls z xs) right in
      let v = values_free job unbroken t tables rule is25 k words fit c j x.kind f.0 in
      let later = next job.decls (state_in words) done x.kind in
      let m = after_reads n (read_recorded job.decls done x.kind) in
      ap (λ y. note_stmts t words (after_stmt t words u x.kind) y xs) (one_asked s done u n x.kind h.named v r.0)
      ∙ all_asked (statement_of job.decls s x.kind).value later (after_stmt t words u x.kind) m (j + 1) xs
      (one_turn job unbroken t tables rule is25 k words fit c s done u x.kind h v r.0 keys.0) f.1 r.1 keys.1
      ∙ after_both n (read_recorded job.decls done x.kind) (reads_recorded job.decls (state_in words) later xs)
