-- The words that are collected for each sample are those that the instructions of the run read.
use Rattle.std.proofs.Common.{◌≡◌, ◌∙◌, ℕ, zero, suc, ◌+◌, ◌<◌, ◌≤◌, List, [], ◌∷◌, ◌++◌, length, get_or, drop, Bool, true, false, cond, eqb, eq-eqb, refl, ap, sym, subst, arith}
use Rattle.std.proofs.{Math.Path.fun_ext, lemmas.Bool.ltb-true, lemmas.Bool.ltb-false, lemmas.Bool.cond-true, lemmas.Bool.cond-false, lemmas.Bool.ne_eqb}
use Rattle.std.proofs.lemmas.{Nat.pow_pos, List.get_or-map, List.length-map, List.append_assoc, List.drop_more, List.get_or_past}
use Rattle.std.specs.Prelude.{nat_lt, ◌&&◌, if◌then◌else◌}
use Rattle.kp_base.specs.declared.row.Row as masks
use Rattle.kp_bits.specs.{Word.Word, Word.word, Operators.no_word}
use Rattle.kp_ast.specs.declared.tree.Job.{Job}
use Rattle.kp_pipeline.specs.{Machine.Machine, Pipeline.Inputs, Rows.Row, Rows.bit, Rows.bits, Rows.one_if, Rows.taken, Rows.taken_from}
use Rattle.kp_stage.specs.Start.{input, AreSamples}
use Rattle.kp_machine.specs.{Machine.machine_of, Machine.inputs_from, Machine.values_in, Slots.sample_stages}
use Rattle.kp_sched.specs.Rows.{bit_of, rows_seen}
use Rattle.kp_run.specs.Columns.{Taken, word_taken, row_taken, words_taken, no_column, HasColumn, AreColumns}
use Rattle.kp_run.proofs.Samples.{IsOf, many, width_at, word_at, fit_when, value_at, value_past}

-- ---- all words of a column

chosen : (P : Word → Type 0) (b : Bool) (w : Word) (ws : List Word) (none : Word) → P w → ((i : ℕ) → P (get_or ws i none)) → (i : ℕ) → P (get_or (if b then w ∷ ws else ws) i none)
chosen P true w ws none here more zero = here
chosen P true w ws none here more (suc i) = more i
chosen P false w ws none here more i = more i

each_word : (P : Word → Type 0) (given : ℕ → List Word) (x k : ℕ) (none : Word) → P none → ((cycle : ℕ) → P (get_or (given cycle) x no_word))
    → (rows : List Row) (cycle i : ℕ) → P (get_or (words_taken given x k cycle rows) i none)
each_word P given x k none last all [] cycle i = last
each_word P given x k none last all (r ∷ rows) cycle i =
    chosen P (bit r.ue k) (get_or (given cycle) x no_word) (words_taken given x k (suc cycle) rows) none (all cycle)
    (each_word P given x k none last all rows (suc cycle)) i

-- ---- one sample

-- instruction i, which is number j after those that have left the stage
step : (b : Bool) (w : Word) (ws : List Word) (none : Word) (u i j v rest : ℕ) → i ≡ u + j → w.value ≡ v
    → ((l : ℕ) → i ≡ one_if b + u + l → (get_or ws l none).value ≡ rest)
    → (get_or (if b then w ∷ ws else ws) j none).value ≡ cond (b && eqb u i) v rest
step false w ws none u i j v rest e same more = more j (omega (arith, e))
step true w ws none u i zero v rest e same more = same ∙ sym (cond-true (eqb u i) v rest (eq-eqb u i (omega (arith, e))))
step true w ws none u i (suc j) v rest e same more =
    more j (omega (arith, e)) ∙ sym (cond-false (eqb u i) v rest (ne_eqb u i (λ h. absurd (omega (arith, e, h)))))

takes : (m : Machine) (job : Job) (x : ℕ) (none : Word) → none.value ≡ 0 → ((cycle : ℕ) → x < length (input job cycle))
    → (rows : List Row) (cycle : ℕ) (updates : ℕ → ℕ) (i j : ℕ) → i ≡ updates (m.sample_stage x) + j
    → (get_or (words_taken (input job) x (m.sample_stage x) cycle rows) j none).value ≡ taken_from m updates (inputs_from job cycle (length rows)) rows i x
takes m job x none z there [] cycle updates i j e = z
takes m job x none z there (r ∷ rows) cycle updates i j e =
    step (bit r.ue (m.sample_stage x)) (get_or (input job cycle) x no_word) (words_taken (input job) x (m.sample_stage x) (suc cycle) rows) none
    (updates (m.sample_stage x)) i j (values_in (input job cycle) x) _ e (sym (value_at (input job cycle) x (there cycle)))
    (λ l next. takes m job x none z there rows (suc cycle) (λ k. one_if (bit r.ue k) + updates k) i l next)

-- ---- no sample

pub bit_past : (f : ℕ → Bool) (n j k : ℕ) → n ≤ k → bit (bits f n j) k ≡ false
bit_past f zero j k h = refl
bit_past f (suc n) j zero h = absurd (omega (arith, h))
bit_past f (suc n) j (suc k) h = bit_past f n (suc j) k (omega (arith, h))

nothing : (m : Machine) (n x : ℕ) → n ≤ m.sample_stage x → (rows : List masks.Row) (ins : List Inputs) (updates : ℕ → ℕ) (i : ℕ)
    → taken_from m updates ins (rows_seen n rows) i x ≡ 0
nothing m n x h rows [] updates i = refl
nothing m n x h [] (j ∷ ins) updates i = refl
nothing m n x h (r ∷ rows) (j ∷ ins) updates i =
    let none : bit (bits (bit_of r.ue) n 0) (m.sample_stage x) ≡ false = bit_past (bit_of r.ue) n 0 (m.sample_stage x) h in
    ap (λ (b : Bool). cond (b && eqb (updates (m.sample_stage x)) i) (j.samples x) (taken_from m (λ k. one_if (bit (bits (bit_of r.ue) n 0) k) + updates k) ins (rows_seen n rows) i x)) none
    ∙ nothing m n x h rows ins (λ k. one_if (bit (bits (bit_of r.ue) n 0) k) + updates k) i

-- ---- all samples

module _ (job : Job) (rows : List masks.Row) (columns : List Taken) (given : (cycle : ℕ) → AreSamples job.decls (input job cycle)) (are : AreColumns job rows columns) where
  abbrev seen : List Row
  seen = rows_seen job.stages.value rows

  stage : (x : ℕ) → (machine_of job).sample_stage x ≡ get_or (sample_stages job.decls) x job.stages.value
  unfolding machine_of
  stage x = refl

  there : (x : ℕ) → x < length columns → (cycle : ℕ) → x < length (input job cycle)
  there x h cycle = omega (arith, h, are.count, many job.decls (input job cycle) (given cycle))

  row_at : (x i : ℕ) → x < length columns → get_or (row_taken columns i) x no_word ≡ word_taken (get_or columns x no_column) i
  row_at x i h = get_or-map (λ (c : Taken). word_taken c i) columns x no_column no_word h

  wide : (i : ℕ) → length (row_taken columns i) ≡ length columns
  wide i = length-map columns (λ (c : Taken). word_taken c i)

  column_at : (x i : ℕ) → x < length columns → word_taken (get_or columns x no_column) i
      ≡ get_or (words_taken (input job) x (get_or (sample_stages job.decls) x job.stages.value) 0 seen) i (word (get_or (input job 0) x no_word).width 0)
  column_at x i h = λ k. get_or ((are.each x h).words k) i ((are.each x h).none k)

  none_fits : (x : ℕ) → x < length columns → IsOf job.decls x (word (get_or (input job 0) x no_word).width 0)
  none_fits x h =
      let w = word_at job.decls (input job 0) (given 0) x (there x h 0) in
      (width_at job.decls (input job 0) (given 0) x (there x h 0), record { positive = w.positive; at_most = w.at_most; fits = pow_pos (get_or (input job 0) x no_word).width })

  -- each input vector is one of the samples
  pub rows_fit_taken : (i : ℕ) → AreSamples job.decls (row_taken columns i)
  rows_fit_taken i =
      fit_when job.decls (row_taken columns i) (wide i ∙ are.count)
      (λ x h.
      let low : x < length columns = omega (arith, h, wide i) in
      subst (IsOf job.decls x) (sym (row_at x i low ∙ column_at x i low))
      (each_word (IsOf job.decls x) (input job) x (get_or (sample_stages job.decls) x job.stages.value) (word (get_or (input job 0) x no_word).width 0) (none_fits x low)
      (λ cycle. (width_at job.decls (input job cycle) (given cycle) x (there x low cycle), word_at job.decls (input job cycle) (given cycle) x (there x low cycle)))
      seen 0 i))

  value_is : (i x : ℕ) → values_in (row_taken columns i) x ≡ taken (machine_of job) (inputs_from job 0 (length seen)) seen i x
  value_is i x = go (nat_lt x (length columns)) refl
    where
      go : (b : Bool) → nat_lt x (length columns) ≡ b → values_in (row_taken columns i) x ≡ taken (machine_of job) (inputs_from job 0 (length seen)) seen i x
      go true e =
          let low : x < length columns = ltb-true x (length columns) e in
          value_at (row_taken columns i) x (omega (arith, low, wide i))
          ∙ ap (λ (w : Word). w.value) (row_at x i low ∙ column_at x i low)
          ∙ ap (λ (k : ℕ). (get_or (words_taken (input job) x k 0 seen) i (word (get_or (input job 0) x no_word).width 0)).value) (sym (stage x))
          ∙ takes (machine_of job) job x (word (get_or (input job 0) x no_word).width 0) refl (there x low) seen 0 (λ k. 0) i i (let e : i ≡ 0 + i = omega arith in e)
      go false e =
          let high : length columns ≤ x = ltb-false x (length columns) e in
          value_past (row_taken columns i) x (omega (arith, high, wide i))
          ∙ sym (nothing (machine_of job) job.stages.value x
          (let at : (machine_of job).sample_stage x ≡ job.stages.value = stage x ∙ get_or_past (sample_stages job.decls) x job.stages.value (omega (arith, high, are.count)) in omega (arith, at))
          rows (inputs_from job 0 (length seen)) (λ k. 0) i)

  -- and its values are those that the instruction reads
  pub taken_is : (λ (i : ℕ). values_in (row_taken columns i)) ≡ taken (machine_of job) (inputs_from job 0 (length seen)) seen
  taken_is = fun_ext (λ i. fun_ext (value_is i))

-- ---- the loops

words_more : (b : Bool) (w : Word) (ws rest : List Word) → (if b then ws ++ w ∷ [] else ws) ++ rest ≡ ws ++ (if b then w ∷ rest else rest)
words_more true w ws rest = append_assoc ws (w ∷ []) rest
words_more false w ws rest = refl

module _ (given : ℕ → List Word) (x k n cycle : ℕ) (rows : List masks.Row) (d : masks.Row) (low : cycle < length rows) (ws total : List Word)
    (kept : ws ++ words_taken given x k cycle (rows_seen n (drop cycle rows)) ≡ total) where
  abbrev rest : List Word
  rest = words_taken given x k (cycle + 1) (rows_seen n (drop (cycle + 1) rows))

  abbrev updates : Bool
  updates = bit (bits (bit_of (get_or rows cycle d).ue) n 0) k

  one_row : (if updates then ws ++ get_or (given cycle) x no_word ∷ [] else ws) ++ rest ≡ total
  one_row =
      words_more updates (get_or (given cycle) x no_word) ws rest
      ∙ ap (λ (c : ℕ). ws ++ (if updates then get_or (given cycle) x no_word ∷ words_taken given x k c (rows_seen n (drop (cycle + 1) rows)) else words_taken given x k c (rows_seen n (drop (cycle + 1) rows)))) (let e : cycle + 1 ≡ suc cycle = omega arith in e)
      ∙ ap (λ (l : List masks.Row). ws ++ words_taken given x k cycle (rows_seen n l)) (sym (drop_more rows cycle d low))
      ∙ kept

  pub one_taken : (w : Word) → updates ≡ true → w ≡ get_or (given cycle) x no_word → (ws ++ w ∷ []) ++ rest ≡ total
  one_taken w e is =
      ap (λ (v : Word). (ws ++ v ∷ []) ++ rest) is
      ∙ ap (λ (b : Bool). (if b then ws ++ get_or (given cycle) x no_word ∷ [] else ws) ++ rest) (sym e)
      ∙ one_row

  pub none_taken : updates ≡ false → ws ++ rest ≡ total
  none_taken e = ap (λ (b : Bool). (if b then ws ++ get_or (given cycle) x no_word ∷ [] else ws) ++ rest) (sym e) ∙ one_row
