-- The least numbers of cycles in which instructions retire.
use Rattle.std.proofs.Common.{◌≡◌, ◌∙◌, ℕ, zero, suc, ◌+◌, ◌-◌, ◌<◌, ◌≤◌, List, [], ◌∷◌, length, get_or, refl, ap, sym, subst, arith}
use Rattle.kp_ast.specs.declared.tree.Job.{Job}
use Rattle.kp_net.specs.Netlist.{Net}
use Rattle.kp_until_run.specs.{Ending.retired_in, inner.Races.AreReached, inner.Races.IsReached}
use Rattle.kp_until_run.proofs.Reaching.{Agree, more_later, none_at_first, no_fewer, one_at_most}

module _ (job : Job) (net : Net) (agree : Agree job net) where
  pub reached_first : (reached : List ℕ) → length reached ≡ 5 → get_or reached 0 0 ≡ 0 → AreReached job 0 reached
  reached_first reached many first = record {
    many = many;
    each = λ q h l.
        let z = none_at_first job net agree in
        let e : q ≡ 0 = omega (arith, l, z) in
        subst (λ (k : ℕ). IsReached job 0 (retired_in job 0 - k) (get_or reached k 0)) (sym e) (record {
          within = omega (arith, first);
          reached = ap (retired_in job) first;
          least = λ m low. absurd (omega (arith, low, first));
        });
  }

  -- no instruction retires in a cycle
  pub reached_still : (n : ℕ) (reached : List ℕ) → retired_in job (n + 1) ≤ retired_in job n → AreReached job n reached → AreReached job (n + 1) reached
  reached_still n reached still are =
      let up = no_fewer job net agree n in
      let same : retired_in job n ≡ retired_in job (n + 1) = omega (arith, still, up) in
      record {
        many = are.many;
        each = λ q h l.
            let r = are.each q h (omega (arith, l, same)) in record {
              within = let w = r.within in omega (arith, w);
              reached = r.reached ∙ ap (λ (k : ℕ). k - q) same;
              least = λ m low. let b = r.least m low in omega (arith, b, same);
            };
      }

  -- one does
  one_more : (n : ℕ) (reached : List ℕ) → retired_in job n < retired_in job (n + 1) → AreReached job n reached → (q : ℕ) → q < 5 → q ≤ retired_in job (n + 1)
      → IsReached job (n + 1) (retired_in job (n + 1) - q) (get_or ((n + 1) ∷ get_or reached 0 0 ∷ get_or reached 1 0 ∷ get_or reached 2 0 ∷ get_or reached 3 0 ∷ []) q 0)
  one_more n reached up are zero h l = record {
    within = omega arith;
    reached = let e : retired_in job (n + 1) ≡ retired_in job (n + 1) - 0 = omega arith in e;
    least = λ m low. let e = more_later job net agree m n (omega (arith, low)) in omega (arith, e, up);
  }
  one_more n reached up are (suc q) h l = shifted q h l
    where
      one : retired_in job (n + 1) ≡ retired_in job n + 1
      one = let o = one_at_most job net agree n in omega (arith, o, up)

      before : (k : ℕ) → k < 4 → suc k ≤ retired_in job (n + 1) → IsReached job (n + 1) (retired_in job (n + 1) - suc k) (get_or reached k 0)
      before k f l2 =
          let r = are.each k (omega (arith, f)) (omega (arith, l2, one)) in
          let same : retired_in job n - k ≡ retired_in job (n + 1) - suc k = omega (arith, one) in record {
            within = let w = r.within in omega (arith, w);
            reached = r.reached ∙ same;
            least = λ m low. let b = r.least m low in omega (arith, b, same);
          }

      shifted : (k : ℕ) → suc k < 5 → suc k ≤ retired_in job (n + 1)
          → IsReached job (n + 1) (retired_in job (n + 1) - suc k) (get_or (get_or reached 0 0 ∷ get_or reached 1 0 ∷ get_or reached 2 0 ∷ get_or reached 3 0 ∷ []) k 0)
      shifted zero f l2 = before 0 (omega arith) l2
      shifted (suc zero) f l2 = before 1 (omega arith) l2
      shifted (suc (suc zero)) f l2 = before 2 (omega arith) l2
      shifted (suc (suc (suc zero))) f l2 = before 3 (omega arith) l2
      shifted (suc (suc (suc (suc k)))) f l2 = absurd (omega (arith, f))

  pub reached_more : (n : ℕ) (reached new : List ℕ) → retired_in job n < retired_in job (n + 1) → AreReached job n reached
      → new ≡ (n + 1) ∷ get_or reached 0 0 ∷ get_or reached 1 0 ∷ get_or reached 2 0 ∷ get_or reached 3 0 ∷ [] → AreReached job (n + 1) new
  reached_more n reached new up are is = subst (AreReached job (n + 1)) (sym is) (record { many = refl; each = one_more n reached up are })
