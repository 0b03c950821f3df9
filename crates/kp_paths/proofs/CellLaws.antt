-- WHAT THE CELLS SAY.
use Rattle.std.proofs.Common.{◌≡◌, ◌∙◌, ◌⊎◌, ℕ, ◌<◌, Bool, true, false, ◌||◌, ◌&&◌, not, eqb, inl, inr, refl, sym, ⊎_elim, arith, eq-eqb}
use Rattle.std.proofs.lemmas.Bool.{and_from, and_parts, both_ways, eqb-true, lt-ltb, or_cases, or_parts}
use Rattle.std.specs.{Prelude.is_some, Prelude.nat_lt, Prelude.if◌then◌else◌, List.list_any}
use Rattle.kp_ast.specs.declared.tree.{ReadStmt.ReadStmt, Job.Job}
use Rattle.kp_pipeline.specs.{Machine.Machine, Nearest.IsNearestHit, Pipeline.PipelineState, Pipeline.hits, Pipeline.intent_known, Pipeline.is_candidate}
use Rattle.kp_pipeline.proofs.Nearest.{nearest-forwarded}
use Rattle.kp_machine.specs.Machine.{machine_of}
use Rattle.kp_paths.specs.declared.cell.Cell.{Cell}
use Rattle.kp_paths.specs.declared.cell.Cell.TheVariants.{Reads, Empty, Wait, Guess, Maybe, Bypass}
use Rattle.kp_paths.specs.{Cells.unmet, Claims.ArePaths, Claims.HasNoValue, Claims.HasValue, Claims.state_at}
use Rattle.kp_paths.specs.Table.{cell_at, is_set_by, is_surely_set_by, sets_of, target_read}
use Rattle.kp_paths.proofs.{Setting.sets_always, Setting.sets_never, Valid.gives, Valid.gives_none, Valid.hits_all}

-- a cell from its tests
abbrev picked : (own inside known had set guessed : Bool) → Cell
picked own inside known had set guessed =
    if own then Reads
    else (if not inside then Empty
    else (if not known then unmet guessed
    else (if had then Bypass
    else (if set then Maybe
    else unmet guessed))))

picked_bypass : (own inside known had set guessed : Bool) → picked own inside known had set guessed ≡ Bypass → (known ≡ true) × (had ≡ true)
picked_bypass false true true true set guessed h = (refl, refl)
picked_bypass false true true false false true h = cc
picked_bypass false true false had set true h = cc
picked_bypass _ _ _ _ _ _ h = cc

abbrev IsUnmet : Cell → Type 0
IsUnmet c = (c ≡ Wait) ⊎ (c ≡ Guess)

picked_unmet : (own inside known had set guessed : Bool) → IsUnmet (picked own inside known had set guessed)
    → (inside ≡ true) × ((known ≡ false) ⊎ ((had ≡ false) × (set ≡ false)))
picked_unmet true inside known had set guessed h = ⊎_elim (λ (e : Reads ≡ Wait). cc) (λ (e : Reads ≡ Guess). cc) h
picked_unmet false false known had set guessed h = ⊎_elim (λ (e : Empty ≡ Wait). cc) (λ (e : Empty ≡ Guess). cc) h
picked_unmet false true false had set guessed h = (refl, inl refl)
picked_unmet false true true true set guessed h = ⊎_elim (λ (e : Bypass ≡ Wait). cc) (λ (e : Bypass ≡ Guess). cc) h
picked_unmet false true true false true guessed h = ⊎_elim (λ (e : Maybe ≡ Wait). cc) (λ (e : Maybe ≡ Guess). cc) h
picked_unmet false true true false false guessed h = (refl, inr (refl, refl))

picked_empty : (own inside known had set guessed : Bool) → (picked own inside known had set guessed ≡ Reads) ⊎ (picked own inside known had set guessed ≡ Empty)
    → (own ≡ true) ⊎ (inside ≡ false)
picked_empty true inside known had set guessed h = inl refl
picked_empty false false known had set guessed h = inr refl
picked_empty false true false had set true h = ⊎_elim (λ (e : Guess ≡ Reads). cc) (λ (e : Guess ≡ Empty). cc) h
picked_empty false true false had set false h = ⊎_elim (λ (e : Wait ≡ Reads). cc) (λ (e : Wait ≡ Empty). cc) h
picked_empty false true true true set guessed h = ⊎_elim (λ (e : Bypass ≡ Reads). cc) (λ (e : Bypass ≡ Empty). cc) h
picked_empty false true true false true guessed h = ⊎_elim (λ (e : Maybe ≡ Reads). cc) (λ (e : Maybe ≡ Empty). cc) h
picked_empty false true true false false true h = ⊎_elim (λ (e : Guess ≡ Reads). cc) (λ (e : Guess ≡ Empty). cc) h
picked_empty false true true false false false h = ⊎_elim (λ (e : Wait ≡ Reads). cc) (λ (e : Wait ≡ Empty). cc) h

module _ (job : Job) (r : ReadStmt) (k j : ℕ) where
  abbrev m : Machine
  m = machine_of job

  abbrev t : ℕ
  t = target_read job r

  abbrev inside : Bool
  inside = nat_lt k j && is_candidate m j t

  abbrev some : Bool
  some = list_any (is_set_by t j) (sets_of job)

  abbrev had : Bool
  had = list_any (is_surely_set_by t j) (sets_of job) || eqb j (m.write_stage t)

  abbrev as_picked : Cell
  as_picked = picked (eqb j k) inside (intent_known m j t) had some (is_some r.guess)

  cell_is : cell_at job r k j ≡ as_picked
  unfolding cell_at
  cell_is = refl

  has_value : cell_at job r k j ≡ Bypass → HasValue m t j
  has_value e =
      let p = picked_bypass (eqb j k) inside (intent_known m j t) had some (is_some r.guess) (sym cell_is ∙ e) in
      record {
        known = p.0;
        set = ⊎_elim
            (λ (y : list_any (is_surely_set_by t j) (sets_of job) ≡ true). inr (sets_always job t j y))
            (λ (y : eqb j (m.write_stage t) ≡ true). inl (eqb-true j (m.write_stage t) y))
            (or_cases (list_any (is_surely_set_by t j) (sets_of job)) (eqb j (m.write_stage t)) p.1);
      }

  unmet_parts : (cell_at job r k j ≡ Wait) ⊎ (cell_at job r k j ≡ Guess) → (inside ≡ true) × ((intent_known m j t ≡ false) ⊎ ((had ≡ false) × (some ≡ false)))
  unmet_parts e =
      picked_unmet (eqb j k) inside (intent_known m j t) had some (is_some r.guess)
      (⊎_elim (λ (y : cell_at job r k j ≡ Wait). inl (sym cell_is ∙ y)) (λ (y : cell_at job r k j ≡ Guess). inr (sym cell_is ∙ y)) e)

  has_no_value : (cell_at job r k j ≡ Wait) ⊎ (cell_at job r k j ≡ Guess) → HasNoValue m t j
  has_no_value e = ⊎_elim
      (λ (u : intent_known m j t ≡ false). inl u)
      (λ (p : (had ≡ false) × (some ≡ false)). inr (
        λ (same : j ≡ m.write_stage t). let z : true ≡ false = sym (eq-eqb j (m.write_stage t) same) ∙ (or_parts (list_any (is_surely_set_by t j) (sets_of job)) (eqb j (m.write_stage t)) p.0).1 in cc,
        sets_never job t j p.1,
      ))
      (unmet_parts e).1

  -- the nearest hit is a full candidate
  hit_parts : (st : PipelineState) (a : ℕ) → IsNearestHit m st k t a j → (is_candidate m j t ≡ true) × ((st.stage j).full ≡ true)
  hit_parts st a h =
      let p = and_parts (is_candidate m j t) (hits m st j t a) h.2 in
      (p.0, (and_parts (st.stage j).full _ p.1).0)

  no_hit : (st : PipelineState) (a : ℕ) → (cell_at job r k j ≡ Reads) ⊎ (cell_at job r k j ≡ Empty) → IsNearestHit m st k t a j → ⊥
  no_hit st a e h =
      let above : k < j = h.0 in
      ⊎_elim
      (λ (y : eqb j k ≡ true). let same : j ≡ k = eqb-true j k y in absurd (omega arith))
      (λ (y : inside ≡ false). both_ways inside y (and_from (nat_lt k j) (is_candidate m j t) (lt-ltb k j above) (hit_parts st a h).0))
      (picked_empty (eqb j k) inside (intent_known m j t) had some (is_some r.guess)
      (⊎_elim (λ (y : cell_at job r k j ≡ Reads). inl (sym cell_is ∙ y)) (λ (y : cell_at job r k j ≡ Empty). inr (sym cell_is ∙ y)) e))

-- THE LAW.
pub are_paths : (job : Job) → ArePaths job
are_paths job = record {
  bypass = λ s hints ins T inputs r k j a e h w.
      let v = gives (machine_of job) s hints ins T inputs (target_read job r) j (has_value job r k j e) (hit_parts job r k j (state_at (machine_of job) s hints ins T) a h).1 w in
      (v.0, nearest-forwarded (machine_of job) (state_at (machine_of job) s hints ins T) inputs k (target_read job r) a j h ∙ v.1);
  unmet = λ s hints ins T inputs r k j a e h.
      nearest-forwarded (machine_of job) (state_at (machine_of job) s hints ins T) inputs k (target_read job r) a j h
      ∙ gives_none (machine_of job) s hints ins T inputs (target_read job r) j (has_no_value job r k j e);
  empty = λ st r k j a e h. no_hit job r k j st a e h;
  unknown = λ st r k j a e u f.
      hits_all (machine_of job) st (target_read job r) j a (and_parts (nat_lt k j) _ (unmet_parts job r k j e).0).1 u f;
}
