-- One row more in a monitor.
use Rattle.std.proofs.Common.{◌≡◌, ◌∙◌, ℕ, zero, suc, ◌+◌, ◌-◌, ◌<◌, List, [], ◌∷◌, ◌++◌, length, get_or, Bool, true, false, refl, ap, sym, arith, min, length-append}
use Rattle.std.specs.Prelude.{cond, nat_le}
use Rattle.kp_base.specs.declared.row.Row.{Row}
use Rattle.kp_pipeline.specs.Rows as law
use Rattle.kp_pipeline.specs.Rows.{bit, bits, count_after, count_moved, counts, passed, one_if}
use Rattle.kp_pipeline.proofs.{Lists.bit-at, Counts.counts-more, Counts.passed-more}
use Rattle.kp_sched.specs.{Rows.bit_of, Rows.row_seen, Rows.rows_seen, Monitors.Kept, Monitors.HasSeen, inner.Counting.count_next}

pub seen_more : (n : ℕ) (rows : List Row) (r : Row) → rows_seen n (rows ++ r ∷ []) ≡ rows_seen n rows ++ row_seen n r ∷ []
seen_more n [] r = refl
seen_more n (x ∷ rows) r = ap (λ (more : List law.Row). row_seen n x ∷ more) (seen_more n rows r)

pub seen_length : (n : ℕ) (rows : List Row) → length (rows_seen n rows) ≡ length rows
seen_length n [] = refl
seen_length n (x ∷ rows) = ap suc (seen_length n rows)

moved_alike : (f g : ℕ → ℕ) (n k : ℕ) → k < n → ((j : ℕ) → j < n → f j ≡ g j) → count_moved f k ≡ count_moved g k
moved_alike f g n zero h same = ap suc (same 0 h)
moved_alike f g n (suc k) h same = same k (omega arith)

choice_alike : (b : Bool) (x y u v : ℕ) → x ≡ u → y ≡ v → cond b x y ≡ cond b u v
choice_alike true x y u v p q = p
choice_alike false x y u v p q = q

-- if the counts before agree, those after the row do
next_alike : (n : ℕ) (r : Row) (f g : ℕ → ℕ) (k : ℕ) → k < n → ((j : ℕ) → j < n → f j ≡ g j) → count_next n r f k ≡ count_next n r g k
next_alike n r f g k h same =
    choice_alike (nat_le (min r.back n) k) _ _ _ _
    (choice_alike (bit_of r.ue k) _ _ _ _ (moved_alike f g n k h same) (same k h))
    (same (min r.back n - 1) (omega arith))

next_is : (n : ℕ) (r : Row) (f : ℕ → ℕ) (k : ℕ) → k < n → count_next n r f k ≡ count_after n (row_seen n r) f k
next_is n r f k h =
    ap (λ (b : Bool). cond (nat_le (min r.back n) k) (cond b (count_moved f k) (f k)) (f (min r.back n - 1))) (sym (bit-at (bit_of r.ue) n k h))

pub one_more : (old new : Kept) (rows : List Row) (r : Row) → new.stages ≡ old.stages → new.cycles ≡ old.cycles + 1
    → ((k : ℕ) → k < old.stages → get_or new.counts k 0 ≡ count_next old.stages r (λ j. get_or old.counts j 0) k)
    → ((k : ℕ) → k < old.stages → get_or new.passed k 0 ≡ one_if (bit_of r.ue k) + get_or old.passed k 0)
    → HasSeen old rows → HasSeen new (rows ++ r ∷ [])
one_more old new rows r same_stages cycles new_counts new_passed seen =
    let n = old.stages in
    let all = rows_seen n rows in
    let many : length (rows ++ r ∷ []) ≡ suc (length rows) = simp length-append (omega arith) in
    let last : length all ≡ length rows = seen_length n rows in
    record {
      cycles = cycles ∙ (let e : old.cycles + 1 ≡ suc (length rows) = omega (arith, seen.cycles) in e) ∙ sym many;
      counts = λ k h.
          let there : k < n = omega arith in
          rw same_stages (
          new_counts k there
          ∙ next_alike n r _ (counts n all (length rows)) k there seen.counts
          ∙ next_is n r (counts n all (length rows)) k there
          ∙ ap (λ (m : ℕ). count_after n (row_seen n r) (counts n all m) k) (sym last)
          ∙ ap (λ (f : ℕ → ℕ). f k) (sym (counts-more n (λ j. 0) all (row_seen n r)))
          ∙ ap (λ (m : ℕ). counts n (all ++ row_seen n r ∷ []) m k) (ap suc last ∙ sym many)
          ∙ ap (λ (l : List law.Row). counts n l (length (rows ++ r ∷ [])) k) (sym (seen_more n rows r))
          );
      passed = λ k h.
          let there : k < n = omega arith in
          rw same_stages (
          new_passed k there
          ∙ ap (λ (m : ℕ). one_if (bit_of r.ue k) + m) (seen.passed k there)
          ∙ ap (λ (b : Bool). one_if b + passed all k (length rows)) (sym (bit-at (bit_of r.ue) n k there))
          ∙ ap (λ (m : ℕ). one_if (bit (bits (bit_of r.ue) n 0) k) + passed all k m) (sym last)
          ∙ (let e : one_if (bit (bits (bit_of r.ue) n 0) k) + passed all k (length all) ≡ passed all k (length all) + one_if (bit (bits (bit_of r.ue) n 0) k) = omega arith in e)
          ∙ sym (passed-more all (row_seen n r) k)
          ∙ ap (λ (m : ℕ). passed (all ++ row_seen n r ∷ []) k m) (ap suc last ∙ sym many)
          ∙ ap (λ (l : List law.Row). passed l k (length (rows ++ r ∷ []))) (sym (seen_more n rows r))
          );
    }
