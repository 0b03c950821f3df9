-- The end of a run, where a condition holds or at the limit.
use Rattle.std.proofs.Common.{◌≡◌, ◌∙◌, ℕ, ◌+◌, ◌-◌, ◌<◌, ◌≤◌, List, get_or, refl, ap, sym, subst, arith, ⊎_elim}
use Rattle.std.proofs.lemmas.Bool.{cases_lt}
use Rattle.kp_ast.specs.declared.tree.Job.{Job}
use Rattle.kp_net.specs.Netlist.{Net}
use Rattle.kp_pipeline.specs.Machine.{State}
use Rattle.kp_until.specs.Untils.{AreSame, Holds}
use Rattle.kp_until.specs.declared.until.Until.{Until, TheVariants.Halt}
use Rattle.kp_until_run.specs.Ending.{CountsFor, IsLimit, IsMet, retired_in, states_in}
use Rattle.kp_until_run.specs.inner.{Pasts.IsFoundAt, Pasts.NoneAt, Pasts.NoneBelow, Races.AreReached}
use Rattle.kp_until_run.specs.declared.hunt.Found.{Found}
use Rattle.kp_until_run.proofs.Reaching.{Agree, more_later, none_at_first, one_at_most}

module _ (job : Job) (net : Net) (agree : Agree job net) (limit : ℕ) (untils : List Until) where
  abbrev s : ℕ → ℕ → ℕ → ℕ
  s = states_in job limit

  pub none_first : NoneBelow job s untils (retired_in job 0)
  none_first i m h = let z = none_at_first job net agree in absurd (omega (arith, h, z))

  pub none_next : (n : ℕ) → NoneBelow job s untils (retired_in job n) → NoneAt job s untils (retired_in job n) → NoneBelow job s untils (retired_in job (n + 1))
  none_next n below here i m h low holds = ⊎_elim
      (λ (l : i < retired_in job n). below i m l low holds)
      (λ (l : retired_in job n ≤ i).
      let one = one_at_most job net agree n in
      let e : i ≡ retired_in job n = omega (arith, h, l, one) in
      here m low (subst (λ (k : ℕ). Holds job s k (get_or untils m Halt)) e holds))
      (cases_lt i (retired_in job n))

  pub met_at : (n : ℕ) (f : Found) (retired cycles : ℕ) (state : State) (reached : List ℕ) → n ≤ limit → NoneBelow job s untils (retired_in job n) → IsFoundAt job s untils (retired_in job n) f
      → AreReached job n reached → retired ≡ retired_in job n - f.back → cycles ≡ get_or reached f.back 0 → AreSame job state (s retired)
      → IsMet job untils limit f.which retired cycles state
  met_at n f retired cycles state reached within below found are is at same =
      let r = are.each f.back (let w = found.count.few in omega (arith, w)) found.count.within in
      record {
        looked = limit;
        within = omega arith;
        seen = retired_in job n;
        first = record { which = found.which; holds = found.holds; earlier = λ i m h low holds. below i m h low holds; before = found.before };
        count = subst (λ (k : ℕ). CountsFor job s (get_or untils f.which Halt) (retired_in job n) k) (sym is) found.count.counts;
        ran = more_later job net agree n limit within;
        reached = ap (retired_in job) at ∙ r.reached ∙ sym is;
        least = λ m h. let l = r.least m (omega (arith, h, at)) in omega (arith, l, is);
        same = same;
      }

  pub limit_at : (retired : ℕ) (state : State) → NoneBelow job s untils (retired_in job limit) → NoneAt job s untils (retired_in job limit) → retired ≡ retired_in job limit → AreSame job state (s retired)
      → IsLimit job untils limit retired limit state
  limit_at retired state below here is same = record {
    all = refl;
    reached = is;
    none = λ i m h low holds. ⊎_elim
        (λ (l : i < retired_in job limit). below i m l low holds)
        (λ (l : retired_in job limit ≤ i). let e : i ≡ retired_in job limit = omega (arith, h, l, is) in here m low (subst (λ (k : ℕ). Holds job s k (get_or untils m Halt)) e holds))
        (cases_lt i (retired_in job limit));
    same = same;
  }
