-- The start of a stage: only the samples and the pipes have values, those that they have in the abstract machine.
use Rattle.std.proofs.Common.{◌≡◌, ◌∙◌, ℕ, suc, ◌+◌, ◌^◌, ◌<◌, List, [], ◌∷◌, ◌++◌, Option, Some, None, true, false, cond, length, get_or, replicate, refl, ap, sym, subst, arith}
use Rattle.std.proofs.lemmas.List.{length-replicate, Quantifiers.position-Some}
use Rattle.std.specs.{Prelude.slice_get, Prelude.slice_index, Prelude.unwrap_or, List.position, Cmp.Lexicographic.bytes_decides}
use Rattle.kp_bits.specs.{Word.Word, Word.word, Operators.no_word}
use Rattle.kp_ast.specs.{Expressions.is_same_name, Expressions.names_of, declared.tree.Decl.Decl, declared.tree.Job.Job, declared.widths.NameKind.NameKind}
use Rattle.kp_ast.specs.Expressions as values
use Rattle.kp_ast.specs.declared.tree.Decl.TheVariants as decls
use Rattle.kp_ast.specs.declared.widths.Scope.TheVariants as scopes
use Rattle.kp_ast.specs.declared.widths.NameKind.TheVariants as kinds
use Rattle.kp_width.specs.{Names.Sense, Names.Scoped, Names.nothing, Names.look_up, Names.is_pipe, Names.opened, Widths.widths_of, Soundness.HasWidth}
use Rattle.kp_width.proofs.{Unbroken.Unbroken, Calls.is_of_text, Found.Found}
use Rattle.kp_stage.specs.{Rules.all_rules, Start.AreSamples}
use Rattle.kp_pipeline.specs.Sequential.{Instruction}
use Rattle.kp_machine.specs.Slots.{Slot, targets_of, pipes_of, samples_of, number_of, width_of, words_from}
use Rattle.kp_machine.{specs.Machine.values_in, proofs.Names.IsIn, proofs.LookUp.or_else, proofs.LookUp.or_none, proofs.LookUp.look_up-append}
use Rattle.kp_machine.proofs.{Scopes.is_sample, Apart.has_name, Apart.Apart, Apart.pipes_apart, Apart.samples_apart, Apart.pipe_named, Apart.sample_named}
use Rattle.kp_machine.proofs.{Cases.by_test, Text.is_bound, Text.text, Text.placed, Text.declared_right, Text.calls_open}
use Rattle.kp_machine.specs.Trees as trees
use Rattle.kp_seq_plan.specs.{Names.at_place, Lowering.Holds, Lowering.AllSuit}
use Rattle.kp_seq.specs.inner.{Names.held, Tables.Laid, Steps.Under, Steps.fitted, Steps.pipe_words, Steps.with_name, Steps.with_pipes, Steps.with_row}
use Rattle.kp_seq.specs.inner.{Fits.FitSlots, Ready.AreTables}
use Rattle.kp_seq.specs.inner.Resolved.{Outline, Raw, IsShown, with_place, with_row_at, with_carried, entered_at, place_in, places_of, with_width, with_widths, entry_widths}
use Rattle.kp_seq.proofs.{Resolved.named, Resolved.none_suit, Lengths.row_same, Lengths.entered_same, Start.fitted_is, Changes.first_none, Binding.held_bound}
use Rattle.kp_seq.proofs.{Blocks.Before, Blocks.HasPlace, Written.Ended, Written.all_default}
use Rattle.kp_seq.proofs.Plain.{after_next, next_first, next_is, none_after, none_before, not_some, same_value, within}
use Rattle.kp_seq.specs.inner.Steps as steps

-- a row has the words of the entries from the one of number i on, which fit their widths
abbrev IsRow : (ℕ → ℕ) → ℕ → List Slot → List Word → Type 0
IsRow vs i [] row = Unit {0}
IsRow vs i (s ∷ ss) [] = ⊥
IsRow vs i (s ∷ ss) (w ∷ row) = (w ≡ word s.width (vs i)) × (vs i < 2 ^ s.width) × IsRow vs (suc i) ss row

-- a name that no entry has
none_there : (vs : ℕ → ℕ) (i : ℕ) (ss : List Slot) (q : List ℕ) → has_name ss q ≡ false → values.look_up (words_from i vs ss) q ≡ None
none_there vs i [] q e = refl
none_there vs i (s ∷ ss) q e = by_test (is_same_name q s.name)
    (λ y. let f : true ≡ false = sym (ap (λ b. cond b true (has_name ss q)) y) ∙ e in cc)
    (λ y.
    ap (λ b. cond b (Some (word s.width (vs i))) (values.look_up (words_from (suc i) vs ss) q)) y
    ∙ none_there vs (suc i) ss q (sym (ap (λ b. cond b true (has_name ss q)) y) ∙ e))

-- a name of an entry has a word of its width
word_there : (vs : ℕ → ℕ) (i : ℕ) (ss : List Slot) (row : List Word) (q : List ℕ) → Apart ss → IsRow vs i ss row → IsIn ss q
    → (w : Word) × (values.look_up (words_from i vs ss) q ≡ Some w) × HasWidth (width_of ss q) w
word_there vs i [] row q a f h = absurd (omega arith)
word_there vs i (s ∷ ss) [] q a f h = absurd f
word_there vs i (s ∷ ss) (w ∷ row) q a f h = by_test (is_same_name q s.name)
    (λ y. (
      word s.width (vs i),
      ap (λ b. cond b (Some (word s.width (vs i))) (values.look_up (words_from (suc i) vs ss) q)) y,
      record { word = record { positive = a.1; at_most = a.2; fits = f.1 }; width = sym (ap (λ b. cond b s.width (width_of ss q)) y) },
    ))
    (λ y.
    let l : suc (number_of ss q) < suc (length ss) = subst (λ b. cond b 0 (suc (number_of ss q)) < suc (length ss)) y h in
    let r = word_there vs (suc i) ss row q a.3 f.2 (omega arith) in (
      r.0,
      ap (λ b. cond b (Some (word s.width (vs i))) (values.look_up (words_from (suc i) vs ss) q)) y ∙ r.1,
      subst (λ n. HasWidth n r.0) (sym (ap (λ b. cond b s.width (width_of ss q)) y)) r.2,
    ))

-- the words of pipes are such a row
pipes_row : (vs : ℕ → ℕ) (pipes : List ℕ) (i : ℕ) (ss : List Slot) → Apart ss → ((p : ℕ) → slice_index pipes p ≡ vs p)
    → ((p : ℕ) (x : Slot) → slice_get ss p ≡ Some x → vs (i + p) < 2 ^ x.width) → IsRow vs i ss (pipe_words pipes i ss)
pipes_row vs pipes i [] a same fits = tt
pipes_row vs pipes i (s ∷ ss) a same fits =
    let z : i + 0 ≡ i = none_after i in
    let n : suc i ≡ i + 1 = next_is i in
    let f : vs i < 2 ^ s.width = subst (λ j. vs j < 2 ^ s.width) z (fits 0 s refl) in (
      ap (fitted s.width) (same i) ∙ fitted_is s.width (vs i) a.1 a.2 f,
      f,
      subst (λ j. IsRow vs (suc i) ss (pipe_words pipes j ss)) n
          (pipes_row vs pipes (suc i) ss a.3 same (λ p x e. let y : i + suc p ≡ suc i + p = next_first i p in subst (λ j. vs j < 2 ^ x.width) y (fits (suc p) x e))),
    )

none_held : (n : ℕ) (o : Option ℕ) → at_place (replicate n None) o ≡ None
none_held n None = refl
none_held n (Some i) = all_default n i None

module _ (t : Laid) where
  row_pipes : (u : Under) (ss : List Slot) (row : List Word) → (with_row t u ss row).pipes ≡ u.pipes
  row_pipes u [] row = refl
  row_pipes u (s ∷ ss) [] = refl
  row_pipes u (s ∷ ss) (w ∷ row) = row_pipes (with_name t u s.name w) ss row

  row_results : (u : Under) (ss : List Slot) (row : List Word) → (with_row t u ss row).results ≡ u.results
  row_results u [] row = refl
  row_results u (s ∷ ss) [] = refl
  row_results u (s ∷ ss) (w ∷ row) = row_results (with_name t u s.name w) ss row

  -- the names of these entries have their values, and all others what they had
  row_held : (vs : ℕ → ℕ) (u : Under) (i : ℕ) (ss : List Slot) (row : List Word) (q : List ℕ) → Apart ss → IsRow vs i ss row → ((p : ℕ) (x : Slot) → slice_get ss p ≡ Some x → (j : ℕ) × (position (is_same_name x.name) t.names ≡ Some j))
      → length u.names ≡ length t.names
      → held t.names (with_row t u ss row).names q ≡ or_else (values.look_up (words_from i vs ss) q) (held t.names u.names q)
  row_held vs u i [] row q a r f n = refl
  row_held vs u i (s ∷ ss) [] q a r f n = absurd r
  row_held vs u i (s ∷ ss) (w ∷ row) q a r f n =
      let next : Under = with_name t u s.name w in
      let at = f 0 s refl in
      let l = (position-Some (is_same_name s.name) t.names at.0 [] at.1).0 in
      let inside : at.0 < length u.names = within at.0 (length t.names) (length u.names) l n in
      let rest = row_held vs next (suc i) ss row q a.3 r.2 (λ p x e. f (suc p) x e) ((row_same t u (s ∷ []) (w ∷ [])).names ∙ n) in
      let later : Option Word = values.look_up (words_from (suc i) vs ss) q in
      let old : Option Word = held t.names u.names q in
      rest
      ∙ ap (or_else later) (held_bound t.names u.names s.name w at.0 at.1 inside q)
      ∙ by_test (is_same_name q s.name)
      (λ y.
      let e : s.name ≡ q = sym ((bytes_decides q s.name).0 y) in
      let none : later ≡ None = none_there vs (suc i) ss q (subst (λ x. has_name ss x ≡ false) e a.0) in
      ap (λ o. or_else o (cond (is_same_name q s.name) (Some w) old)) none
      ∙ ap (λ b. cond b (Some w) old) y
      ∙ ap Some r.0
      ∙ sym (ap (λ b. or_else (cond b (Some (word s.width (vs i))) later) old) y))
      (λ y.
      ap (λ b. or_else later (cond b (Some w) old)) y
      ∙ sym (ap (λ b. or_else (cond b (Some (word s.width (vs i))) later) old) y))

  -- as plain numbers too, if their widths are known
  row_shown : (vs : ℕ → ℕ) (i : ℕ) (ss : List Slot) (row : List Word) (ws : List (Option ℕ)) (u : Under) (r : Raw) → Apart ss → IsRow vs i ss row → IsShown ws u r
      → IsShown (with_widths t.names ws ss) (with_row t u ss row) (with_row_at r (places_of t.names ss) row)
  row_shown vs i [] row ws u r a is h = h
  row_shown vs i (s ∷ ss) [] ws u r a is h = absurd is
  row_shown vs i (s ∷ ss) (w ∷ row) ws u r a is h =
      let wide : w.width ≡ s.width = ap (λ (x : Word). x.width) is.0 in
      let value : vs i ≡ w.value = sym (ap (λ (x : Word). x.value) is.0) in
      let held_so : Holds (Some w) s.width w.value = record {
        there = λ j. Some (word (wide j) w.value);
        word = record { positive = a.1; at_most = a.2; fits = subst (λ n. n < 2 ^ s.width) value is.1 };
      } in
      row_shown vs (suc i) ss row (with_width ws (place_in t.names s) s.width) (with_name t u s.name w) (with_place r (place_in t.names s) w.value) a.3 is.2
      (named t ws u r s.name (place_in t.names s) w s.width w.value h refl held_so)

  carried_row : (values : List ℕ) (i : ℕ) (ss : List Slot) (r : Raw) → r.pipes ≡ values → Apart ss → ((p : ℕ) (x : Slot) → slice_get ss p ≡ Some x → slice_index values (i + p) < 2 ^ x.width)
      → with_carried r i (places_of t.names ss) ≡ with_row_at r (places_of t.names ss) (pipe_words values i ss)
  carried_row values i [] r e a f = refl
  carried_row values i (s ∷ ss) r e a f =
      let z : i + 0 ≡ i = none_after i in
      let v : ℕ = slice_index values i in
      let small : v < 2 ^ s.width = subst (λ n. slice_index values n < 2 ^ s.width) z (f 0 s refl) in
      let one : slice_index r.pipes i ≡ (fitted s.width v).value = ap (λ ps. slice_index ps i) e ∙ sym (ap (λ (x : Word). x.value) (fitted_is s.width v a.1 a.2 small)) in
      let next : Raw = with_place r (place_in t.names s) (fitted s.width v).value in
      ap (λ n. with_carried (with_place r (place_in t.names s) n) (i + 1) (places_of t.names ss)) one
      ∙ carried_row values (i + 1) ss next e a.3 (λ p x q. let y : i + suc p ≡ (i + 1) + p = after_next i p in subst (λ n. slice_index values n < 2 ^ x.width) y (f (suc p) x q))

-- of the names of the text, only the pipes and the samples have values
bound_kind : {G : Type 0} (kind : NameKind) → is_bound kind ≡ true → is_of_text kind ≡ true → (is_pipe kind ≡ true → G) → (is_sample kind ≡ true → G) → G
bound_kind kinds.Pipe b f pipe sample = pipe refl
bound_kind kinds.Sample b f pipe sample = sample refl
bound_kind _ b f pipe sample = cc

not_both : {G : Type 0} (kind : NameKind) → is_pipe kind ≡ true → is_sample kind ≡ true → G
not_both kinds.Pipe a b = cc
not_both _ a b = cc

-- a row as the values of its samples
values_from : (vs : ℕ → ℕ) (i : ℕ) (ds : List Decl) (row : List Word) → AreSamples ds row → ((p : ℕ) → vs (i + p) ≡ values_in row p) → IsRow vs i (samples_of ds) row
values_from vs i [] row h same = tt
values_from vs i (decls.Sample n width stage ∷ ds) [] h same = absurd h
values_from vs i (decls.Sample n width stage ∷ ds) (w ∷ row) h same =
    let z : i + 0 ≡ i = none_after i in
    let v : vs i ≡ w.value = subst (λ j. vs j ≡ w.value) z (same 0) in (
      (λ j. word (h.0 j) (sym v j)),
      subst (λ x. x < 2 ^ width.value) (sym v) (subst (λ x. w.value < 2 ^ x) h.0 h.1.fits),
      values_from vs (suc i) ds row h.2 (λ p. let y : suc i + p ≡ i + suc p = sym (next_first i p) in subst (λ j. vs j ≡ values_in row p) (sym y) (same (suc p))),
    )
values_from vs i (_ ∷ ds) row h same = values_from vs i ds row h same

module _ (job : Job) (unbroken : Unbroken (widths_of job)) (t : Laid) (tables : AreTables job t) (rule : _) (is25 : slice_get all_rules 10 ≡ Some rule) (k : ℕ) (words : List (List ℕ)) (fit : FitSlots (targets_of job.decls) words) (row : List Word) (fits : AreSamples job.decls row) where
  module _ (s : Scoped) (c : Instruction) (u : Under) where
    -- The contents of the instruction before a stage, the samples, and the indices of their names and of those of
    -- pipes yield the invariant before the first statement.
    pub enters : s.text ≡ text job unbroken → Ended job.decls c u → length u.names ≡ length t.names → length u.pipes ≡ length t.pipes → length u.results ≡ length t.targets
        → ((p : ℕ) (x : Slot) → slice_get (pipes_of job.decls) p ≡ Some x → HasPlace job unbroken t tables rule is25 k words fit c x.name)
        → ((p : ℕ) (x : Slot) → slice_get (samples_of job.decls) p ≡ Some x → HasPlace job unbroken t tables rule is25 k words fit c x.name)
        → Before job unbroken t tables rule is25 k words fit c (opened s (scopes.Stage k)) (trees.entered job.decls (values_in row) c.pipes) (steps.entered t row u)
    enters of_text h names pipes results place sample_place =
        let ss : List Slot = pipes_of job.decls in
        let xs : List Slot = samples_of job.decls in
        let q_values : ℕ → ℕ = values_in row in
        let none : Option Word = None in
        let start : Under = record u { names = replicate (length u.names) none } in
        let mid : Under = with_row t start t.samples row in
        let mid_pipes : mid.pipes ≡ u.pipes = row_pipes t start t.samples row in
        let right = declared_right job unbroken in
        let apart : Apart ss = pipes_apart job.decls nothing right in
        let apart_samples : Apart xs = samples_apart job.decls nothing right in
        let pipe_row : IsRow c.pipes 0 ss (pipe_words mid.pipes 0 ss) = pipes_row c.pipes mid.pipes 0 ss apart
        (λ p. ap (λ z. slice_index z p) mid_pipes ∙ h.pipes p)
        (λ p x e. let z : p ≡ 0 + p = sym (none_before p) in subst (λ n. c.pipes n < 2 ^ x.width) z (subst (λ v. v < 2 ^ x.width) (h.pipes p) (h.pipe_fits p x e))) in
        let is_row : IsRow q_values 0 xs row = values_from q_values 0 job.decls row fits (λ p. let z : 0 + p ≡ p = none_before p in ap q_values z) in
        let in_text : (q : List ℕ) → look_up s.text q ≡ look_up (text job unbroken) q = λ q. ap (λ x. look_up x q) of_text in
        let mid_names : length mid.names ≡ length t.names = (row_same t start t.samples row).names ∙ length-replicate (length u.names) none ∙ names in
        let same_pipes : (steps.entered t row u).pipes ≡ u.pipes = row_pipes t mid t.pipes (pipe_words mid.pipes 0 t.pipes) ∙ mid_pipes in
        let same_results : (steps.entered t row u).results ≡ u.results = row_results t mid t.pipes (pipe_words mid.pipes 0 t.pipes) ∙ row_results t start t.samples row in
        let of_pipes : values.Values = words_from 0 c.pipes ss in
        let of_samples : values.Values = words_from 0 q_values xs in
        let both : (q : List ℕ) → values.look_up (of_pipes ++ of_samples) q ≡ or_else (values.look_up of_pipes q) (values.look_up of_samples q) =
        look_up-append of_pipes of_samples in
        let found_word : (q : List ℕ) (m : Sense) (w : Word) (n : ℕ) → values.look_up (of_pipes ++ of_samples) q ≡ Some w → n ≡ m.width → HasWidth n w
        → Found m.width (values.look_up (of_pipes ++ of_samples) q) (names_of (of_pipes ++ of_samples) q) =
        λ q m w n there e has.
        let v : w ≡ names_of (of_pipes ++ of_samples) q = sym (ap (λ z. unwrap_or z no_word) there) in
        record { there = there ∙ ap Some v; has = subst (HasWidth m.width) v (subst (λ z. HasWidth z w) e has) } in
        record {
          named = record {
            of_text = of_text;
            here = refl;
            locals = λ q m e. not_some m (sym e);
            same = λ q.
                ap (λ zs. held t.names (with_pipes t mid 0 zs).names q) tables.pipes
                ∙ row_held t c.pipes mid 0 ss (pipe_words mid.pipes 0 ss) q apart pipe_row place mid_names
                ∙ ap (or_else (values.look_up of_pipes q))
                (ap (λ zs. held t.names (with_row t start zs row).names q) tables.samples
                ∙ row_held t q_values start 0 xs row q apart_samples is_row sample_place (length-replicate (length u.names) none ∙ names)
                ∙ ap (or_else (values.look_up of_samples q)) (none_held (length u.names) (position (is_same_name q) t.names))
                ∙ or_none (values.look_up of_samples q))
                ∙ sym (both q);
            known = λ q m e b.
                let f : look_up (text job unbroken) q ≡ Some m = sym (in_text q) ∙ e in
                let at = placed job unbroken q m f in
                bound_kind m.kind b ((calls_open job unbroken).fits.of_text q m f)
                (λ is.
                let r = word_there c.pipes 0 ss (pipe_words mid.pipes 0 ss) q apart pipe_row (at.pipe is).inside in
                found_word q m r.0 (width_of ss q) (both q ∙ ap (λ o. or_else o (values.look_up of_samples q)) r.1) (at.pipe is).width r.2)
                (λ is.
                let r = word_there q_values 0 xs row q apart_samples is_row (at.sample is).inside in
                let no : has_name ss q ≡ false = by_test (has_name ss q)
                (λ y.
                let p = pipe_named job.decls nothing right q y in
                let same : p.0 ≡ m = same_value p.0 m (sym p.1 ∙ f) in
                not_both m.kind (subst (λ (z : Sense). is_pipe z.kind ≡ true) same p.2) is)
                (λ y. y) in
                found_word q m r.0 (width_of xs q) (both q ∙ ap (λ o. or_else o (values.look_up of_samples q)) (none_there c.pipes 0 ss q no) ∙ r.1) (at.sample is).width r.2);
            only = λ q e.
                let gone : look_up (text job unbroken) q ≡ None = sym (in_text q) ∙ e in
                both q
                ∙ ap (λ o. or_else o (values.look_up of_samples q)) (by_test (has_name ss q)
                (λ y. let p = pipe_named job.decls nothing right q y in not_some p.0 (sym p.1 ∙ gone))
                (λ y. none_there c.pipes 0 ss q y))
                ∙ by_test (has_name xs q)
                (λ y. let p = sample_named job.decls nothing right q y in not_some p.0 (sym p.1 ∙ gone))
                (λ y. none_there q_values 0 xs q y);
          };
          lists = record {
            pipes = λ p. ap (λ z. slice_index z p) same_pipes ∙ h.pipes p;
            results = λ r. ap (λ z. get_or z r None) same_results ∙ h.results r ∙ sym (first_none (c.results r));
            pipe_fits = λ p x e. subst (λ z. slice_index z p < 2 ^ x.width) (sym same_pipes) (h.pipe_fits p x e);
            result_fits = λ r x v e is. h.result_fits r x v e (sym (ap (λ z. get_or z r None) same_results) ∙ is);
            pipe_count = ap length same_pipes ∙ pipes ∙ ap length tables.pipes;
            result_count = ap length same_results ∙ results ∙ ap length tables.targets;
          };
          places = (entered_same t row u).names ∙ names;
        }

    -- So it is in numbers.
    pub shown : Ended job.decls c u → length u.names ≡ length t.names → (o : Outline) → o.samples ≡ places_of t.names t.samples → o.pipes ≡ places_of t.names t.pipes → (r : Raw) → length r.names ≡ length t.names
        → r.pipes ≡ u.pipes → r.results ≡ u.results → IsShown (entry_widths t) (steps.entered t row u) (entered_at o row r)
    shown h names o samples pipes r room same_pipes same_results =
        let none : Option Word = None in
        let none_known : Option ℕ = None in
        let q_values : ℕ → ℕ = values_in row in
        let start : Under = record u { names = replicate (length u.names) none } in
        let mid : Under = with_row t start t.samples row in
        let start_raw : Raw = with_row_at r (places_of t.names t.samples) row in
        let mid_pipes : mid.pipes ≡ u.pipes = row_pipes t start t.samples row in
        let right = declared_right job unbroken in
        let apart : Apart t.pipes = subst Apart (sym tables.pipes) (pipes_apart job.decls nothing right) in
        let apart_samples : Apart t.samples = subst Apart (sym tables.samples) (samples_apart job.decls nothing right) in
        let fit_pipe : (p : ℕ) (x : Slot) → slice_get t.pipes p ≡ Some x → slice_index mid.pipes (0 + p) < 2 ^ x.width = λ p x e.
        let z : p ≡ 0 + p = sym (none_before p) in
        subst (λ n. slice_index mid.pipes n < 2 ^ x.width) z (subst (λ ps. slice_index ps p < 2 ^ x.width) (sym mid_pipes) (h.pipe_fits p x (ap (λ ss. slice_get ss p) (sym tables.pipes) ∙ e))) in
        let pipe_row : IsRow (λ p. slice_index mid.pipes p) 0 t.pipes (pipe_words mid.pipes 0 t.pipes) = pipes_row (λ p. slice_index mid.pipes p) mid.pipes 0 t.pipes apart (λ p. refl) fit_pipe in
        let is_row : IsRow q_values 0 t.samples row = subst (λ xs. IsRow q_values 0 xs row) (sym tables.samples) (values_from q_values 0 job.decls row fits (λ p. let z : 0 + p ≡ p = none_before p in ap q_values z)) in
        let before : IsShown (replicate (length t.names) none_known) start r = record {
          names = subst (λ n. AllSuit (replicate (length t.names) none_known) (replicate n none) r.names) (sym names) (none_suit (length t.names) r.names room);
          pipes = same_pipes;
          results = same_results;
        } in
        let sampled = row_shown t q_values 0 t.samples row (replicate (length t.names) none_known) start r apart_samples is_row before in
        let piped = row_shown t (λ p. slice_index mid.pipes p) 0 t.pipes (pipe_words mid.pipes 0 t.pipes) (with_widths t.names (replicate (length t.names) none_known) t.samples) mid start_raw apart pipe_row sampled in
        let e : entered_at o row r ≡ with_row_at start_raw (places_of t.names t.pipes) (pipe_words mid.pipes 0 t.pipes) =
        ap (λ ps. with_carried (with_row_at r ps row) 0 o.pipes) samples ∙ ap (with_carried start_raw 0) pipes ∙ carried_row t mid.pipes 0 t.pipes start_raw sampled.pipes apart fit_pipe in
        subst (IsShown (entry_widths t) (steps.entered t row u)) (sym e) piped
