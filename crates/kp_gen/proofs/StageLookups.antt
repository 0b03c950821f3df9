-- The look-ups of the rules of stages among the declarations of a generated job.
use Rattle.std.proofs.Common.{◌≡◌, ◌∙◌, ℕ, ◌+◌, ◌-◌, ◌<◌, ◌≤◌, List, [], ◌∷◌, ◌++◌, length, map, Option, None, Some, true, false, refl, ap, arith, append_assoc}
use Rattle.std.specs.Prelude.{codes}
use Rattle.kp_base.specs.First.{first}
use Rattle.kp_ast.specs.{Expressions.is_same_name, declared.tree.Decl.Decl, declared.tree.Named.Named, declared.tree.Num.Num}
use Rattle.kp_stage.specs.Facts.{where_same, hint_at, hints_of, result_at, results_of, stage_at, sample_at}
use Rattle.kp_gen.specs.declared.draws.Route.{Route}
use Rattle.kp_gen.specs.Generated.{register_name, result_name, result_of, for_each, all_decls}
use Rattle.kp_gen.proofs.{Forms.register, Forms.pipe, Forms.file, Forms.pipe_AF, Forms.pipe_VF, Forms.file_result, Lookups.other_number, Lookups.same_true}
use Rattle.kp_gen.proofs.{Texts.no_number, Finds.AllFrom, Finds.Any, Finds.all_any, Finds.each_found, Finds.Skips, Finds.to_results, Finds.to_last}
use Rattle.kp_ast.specs.declared.tree.Decl.TheVariants as decls

-- names that are equal, and names that are not
pub is_where : {X : Type 0} (a b : List ℕ) (x : X) → is_same_name a b ≡ true → where_same a b x ≡ Some x
is_where a b x e = rw e refl

pub is_nowhere : {X : Type 0} (a b : List ℕ) (x : X) → is_same_name a b ≡ false → where_same a b x ≡ None
is_nowhere a b x e = rw e refl

-- a look-up that registers, the file and pipes don't match
unmatched : {X : Type 0} (ask : List ℕ → ℕ → Decl → Option X) (m : ℕ) (q : List ℕ) → ((x i : ℕ) (r : Route) → ask q x (register i r) ≡ None) → ((x : ℕ) → ask q x file ≡ None)
    → ((x : ℕ) (n : Named) (w : Num) → ask q x (decls.Pipe n w) ≡ None) → Skips ask Any m q
unmatched ask m q registers files pipes = record {
  registers = λ i r h a. registers (0 + i) i r;
  file_skipped = files (0 + m);
  pipes = λ i r h a. pipes ((m + 1) + i) _ _;
  address = pipes ((m + 1) + m) _ _;
  value = pipes (((m + 1) + m) + 1) _ _;
}

module _ (n : ℕ) (rs : List Route) where
  -- no hint and no sample is declared
  pub no_hint : (q : List ℕ) → first (hints_of q 0 (all_decls n rs)) ≡ None
  no_hint q =
      to_last hint_at hints_of (λ q i d ds. refl) Any n rs (all_any 0 rs) q (unmatched hint_at (length rs) q (λ x i r. refl) (λ x. refl) (λ x n w. refl)) (λ i r h a. refl)

  pub no_sample : (q : List ℕ) → first (map (sample_at q) (all_decls n rs)) ≡ None
  no_sample q =
      to_last (λ q i d. sample_at q d) (λ q i ds. map (sample_at q) ds) (λ q i d ds. refl) Any n rs (all_any 0 rs) q
      (unmatched (λ q i d. sample_at q d) (length rs) q (λ x i r. refl) (λ x. refl) (λ x n w. refl)) (λ i r h a. refl)

  module _ (few : length rs ≤ 35) where
    -- the first result of each target is its own
    pub results_found : AllFrom (λ i r. first (results_of (register_name i) 0 (all_decls n rs)) ≡ Some ((length rs + length rs + 3) + i)) 0 rs
    results_found =
        each_found result_at results_of (λ q i d ds. refl) register_name result_of (λ i r. (length rs + length rs + 3) + i) (length rs) (length rs + length rs + 3)
        (λ i r h. is_where (register_name i) (register_name i) ((length rs + length rs + 3) + i) (same_true (register_name i)))
        (λ x i j r h l. is_nowhere (register_name i) (register_name j) x (other_number 82 i j (omega arith) (omega arith) (λ e. omega (arith, e, h))))
        (λ q. first (results_of q 0 (all_decls n rs))) 0 rs (file_result n ∷ []) (omega arith)
        (λ i h l. to_results result_at results_of (λ q i d ds. refl) Any n rs (all_any 0 rs) (register_name i)
        (unmatched result_at (length rs) (register_name i) (λ x i r. refl) (λ x. refl) (λ x n w. refl)))

    pub file_result_found : first (results_of (codes "F") 0 (all_decls n rs)) ≡ Some ((length rs + length rs + 3) + length rs)
    file_result_found =
        to_last result_at results_of (λ q i d ds. refl) Any n rs (all_any 0 rs) (codes "F")
        (unmatched result_at (length rs) (codes "F") (λ x i r. refl) (λ x. refl) (λ x n w. refl)) (λ i r h a. refl)

    -- the write stage of a result
    pub stages_found : AllFrom (λ i r. first (map (stage_at (result_name i)) (all_decls n rs)) ≡ Some r.write) 0 rs
    stages_found =
        each_found (λ q i d. stage_at q d) (λ q i ds. map (stage_at q) ds) (λ q i d ds. refl) result_name result_of (λ i r. r.write) (length rs) (length rs + length rs + 3)
        (λ i r h. is_where (result_name i) (result_name i) r.write (same_true (result_name i)))
        (λ x i j r h l. is_nowhere (result_name i) (result_name j) r.write (other_number 67 i j (omega arith) (omega arith) (λ e. omega (arith, e, h))))
        (λ q. first (map (stage_at q) (all_decls n rs))) 0 rs (file_result n ∷ []) (omega arith)
        (λ i h l. to_results (λ q i d. stage_at q d) (λ q i ds. map (stage_at q) ds) (λ q i d ds. refl) Any n rs (all_any 0 rs) (result_name i)
        (unmatched (λ q i d. stage_at q d) (length rs) (result_name i) (λ x i r. refl) (λ x. refl) (λ x n w. refl)))

    pub file_stage_found : first (map (stage_at (codes "CF")) (all_decls n rs)) ≡ Some (n - 1)
    file_stage_found =
        to_last (λ q i d. stage_at q d) (λ q i ds. map (stage_at q) ds) (λ q i d ds. refl) Any n rs (all_any 0 rs) (codes "CF")
        (unmatched (λ q i d. stage_at q d) (length rs) (codes "CF") (λ x i r. refl) (λ x. refl) (λ x n w. refl))
        (λ i r h a. is_nowhere (codes "CF") (result_name i) r.write (no_number i (omega arith)))
