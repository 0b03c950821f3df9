-- What is reported of an instruction has its size.
use Rattle.std.proofs.Common.{◌≡◌, ◌∙◌, ℕ, zero, suc, ◌^◌, ◌<◌, ◌≤◌, List, [], ◌∷◌, length, get_or, set, take, drop, ◌++◌, refl, ap, sym, subst, arith, None, ⊎_elim}
use Rattle.std.proofs.{Math.Seq.take-append_seam, lemmas.Bool.cases_lt}
use Rattle.std.proofs.lemmas.List.{length-append, length-map, length-set, get_or_append_left, get_or_push, Sums.sum_by-cons}
use Rattle.std.specs.Prelude.{sum_by}
use Rattle.kp_ast.specs.declared.tree.{Decl.Decl, Job.Job}
use Rattle.kp_ast.specs.declared.tree.Decl.TheVariants as decls
use Rattle.kp_stage.specs.Counts.{summary_of, results_in}
use Rattle.kp_seq.{specs.Recorded.Recorded, specs.Recorded.results_of, specs.Recorded.setting_recorded, specs.Recorded.record_of, proofs.Recording.all_recorded}
use Rattle.kp_sites.specs.{Reports.HasRoom, Sites.writer_at, Sites.writers_to}

results_count : (ds : List Decl) → length (results_of ds) ≡ sum_by results_in ds
results_count [] = refl
results_count (decls.Target r ∷ ds) = let p = sum_by-cons results_in (decls.Target r) ds in let q = results_count ds in omega (arith, p, q)
results_count (d ∷ ds) = let p = sum_by-cons results_in d ds in let q = results_count ds in omega (arith, p, q)

pub record_room : (job : Job) (s : ℕ → ℕ → ℕ) (q : ℕ → ℕ) → length job.blocks ≡ job.stages.value → HasRoom job (record_of job s q)
unfolding record_of summary_of
record_room job s q e = record {
  reads = all_recorded job s q e;
  writes = length-map (results_of job.decls) _ ∙ results_count job.decls;
  settings = length-map (results_of job.decls) (setting_recorded job s q) ∙ results_count job.decls;
}

-- so what was reported before can be replaced by a new report
pub record FitsIn (recorded last : Recorded) : Type 0 where
  pub reads : length recorded.reads ≡ length last.reads
  pub writes : length recorded.writes ≡ length last.writes
  pub settings : length recorded.settings ≡ length last.settings
  pub few_reads : length recorded.reads < 2 ^ 32
  pub few_writes : length recorded.writes < 2 ^ 32
  pub few_settings : length recorded.settings < 2 ^ 32

pub record_fits : (job : Job) (s : ℕ → ℕ → ℕ) (q : ℕ → ℕ) (recorded last : Recorded) → length job.blocks ≡ job.stages.value → (summary_of job).reads < 2 ^ 32
    → (summary_of job).results < 2 ^ 32 → HasRoom job recorded → last ≡ record_of job s q → FitsIn recorded last
record_fits job s q recorded last count reads results room e =
    let there = subst (HasRoom job) (sym e) (record_room job s q count) in
    record {
      reads = room.reads ∙ sym there.reads;
      writes = room.writes ∙ sym there.writes;
      settings = room.settings ∙ sym there.settings;
      few_reads = subst (λ n. n < 2 ^ 32) (sym room.reads) reads;
      few_writes = subst (λ n. n < 2 ^ 32) (sym room.writes) results;
      few_settings = subst (λ n. n < 2 ^ 32) (sym room.settings) results;
    }

-- A list, of which a place is set through a slice, is written back.
pub set_back : {X : Type 0} (n p : ℕ) (x : X) (slice new items : List X) → new ≡ set slice p x → length slice ≡ n → slice ≡ items → take n (new ++ drop (length new) items) ≡ set items p x
set_back n p x slice new items written many is =
    let long : length new ≡ n = ap length written ∙ length-set slice p x ∙ many in
    ap (λ k. take k (new ++ drop (length new) items)) (sym long) ∙ take-append_seam new (drop (length new) items) ∙ written ∙ ap (λ l. set l p x) is

-- the table of writers
pub writers_many : (job : Job) (t : ℕ) → length (writers_to job t) ≡ t
writers_many job zero = refl
writers_many job (suc t) =
    let e : length (writers_to job t) ≡ t = writers_many job t in
    length-append (writers_to job t) _ ∙ (omega (arith, e))

pub writer_get : (job : Job) (n t : ℕ) → t < n → get_or (writers_to job n) t None ≡ writer_at job t
writer_get job zero t b = absurd (omega (arith, b))
writer_get job (suc n) t b = ⊎_elim
    (λ (lt : t < n). get_or_append_left (writers_to job n) (writer_at job n ∷ []) None t (let m = writers_many job n in omega (arith, lt, m)) ∙ writer_get job n t lt)
    (λ (ge : n ≤ t).
    let same : n ≡ t = omega (arith, ge, b) in
    get_or_push (writers_to job n) (writer_at job n) None t (writers_many job n ∙ same) ∙ ap (writer_at job) same)
    (cases_lt t n)
