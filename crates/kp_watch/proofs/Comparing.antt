-- The steps of a comparison.
use Rattle.std.proofs.Common.{◌≡◌, ◌≢◌, ◌∙◌, ℕ, ◌+◌, ◌<◌, ◌≤◌, ◌⊎◌, inl, inr, Bool, true, false, eqb, Option, Some, None, refl, ap, sym, subst, arith, below_more}
use Rattle.std.proofs.lemmas.Bool.{ltb-true, ltb-false, eqb-true, eq-eqb, both_ways}
use Rattle.std.specs.Prelude.{nat_lt, if◌then◌else◌}
use Rattle.kp_bits.specs.Word.{word}
use Rattle.kp_ast.specs.declared.tree.Job.{Job}
use Rattle.kp_net.specs.Netlist.{Net, State}
use Rattle.kp_machine.specs.Words.{HasWord, target}
use Rattle.kp_implements.specs.Naming.{value_shown}
use Rattle.kp_run.specs.declared.difference.Difference.{Difference}
use Rattle.kp_watch.specs.inner.Comparing.{IsFirstAt, IsOneAt, ComparesWord, ComparesTarget, lower, AgreeBelow, IsFirstIn}

-- ---- one address

module _ (job : Job) (shown owed : ℕ → ℕ) (cycle t : ℕ) where
  -- the first of all addresses, if the lower ones agree
  pub first_at : (a : ℕ) (d : Difference) → IsOneAt job shown owed cycle t d × (Some a ≡ Some d.address) → ((b : ℕ) → b < a → shown b ≡ owed b) → IsFirstAt job shown owed cycle t d
  first_at a d one kept = record { one = one.0; before = λ b low there. kept b (let at : a ≡ d.address = cc in omega (arith, at, low)) }

  -- ---- two addresses

  by_address : (G : Type 0) (o : Option ℕ) (a : ℕ) → (o ≡ Some a → G) → (o ≢ Some a → G) → G
  by_address G None a same_one another = another (λ e. cc)
  by_address G (Some u) a same_one another = go (eqb u a) refl
    where
      go : (b : Bool) → eqb u a ≡ b → G
      go true e = same_one (ap Some (eqb-true u a e))
      go false e = another (λ z. let same : u ≡ a = cc in both_ways (eqb u a) e (eq-eqb u a same))

  module _ (p q : Option ℕ) (elsewhere : (a : ℕ) → HasWord job t a → p ≢ Some a → q ≢ Some a → shown a ≡ owed a) where
    agree : (a : ℕ) → HasWord job t a → (p ≡ Some a → shown a ≡ owed a) → (q ≡ Some a → shown a ≡ owed a) → shown a ≡ owed a
    agree a there at_p at_q = by_address (shown a ≡ owed a) p a at_p (λ np. by_address (shown a ≡ owed a) q a at_q (λ nq. elsewhere a there np nq))

    -- an address isn't below one that it equals
    not_below : (o : Option ℕ) (c b : ℕ) → o ≡ Some c → b < c → o ≡ Some b → shown b ≡ owed b
    not_below o c b is low at = let same : c ≡ b = cc in absurd (omega (arith, same, low))

    not_under : (o : Option ℕ) (c d b : ℕ) → o ≡ Some c → d ≤ c → b < d → o ≡ Some b → shown b ≡ owed b
    not_under o c d b is above low at = not_below o c b is (omega (arith, above, low)) at

    -- of two differences the lower one is the first
    pub lower_first : (x y : Option Difference) → ComparesWord job shown owed cycle t p x → ComparesWord job shown owed cycle t q y → ComparesTarget job shown owed cycle t (lower x y)
    lower_first None None x y = λ a there. agree a there (x a there) (y a there)
    lower_first None (Some e) x y = record { one = y.0; before = λ b low there. agree b there (x b there) (not_below q e.address b y.1 low) }
    lower_first (Some d) None x y = record { one = x.0; before = λ b low there. agree b there (not_below p d.address b x.1 low) (y b there) }
    lower_first (Some d) (Some e) x y = go (nat_lt e.address d.address) refl
      where
        go : (c : Bool) → nat_lt e.address d.address ≡ c → ComparesTarget job shown owed cycle t (if c then Some e else Some d)
        go true is =
            let below : e.address < d.address = ltb-true e.address d.address is in
            record { one = y.0; before = λ b low there. agree b there (not_under p d.address e.address b x.1 (omega (arith, below)) low) (not_below q e.address b y.1 low) }
        go false is =
            let above : d.address ≤ e.address = ltb-false e.address d.address is in
            record { one = x.0; before = λ b low there. agree b there (not_below p d.address b x.1 low) (not_under q e.address d.address b y.1 above low) }

-- comparing with the job of a machine is comparing with the job
module _ (net : Net) (st : State) (job other : Job) (cycle t : ℕ) (owed due : ℕ → ℕ) (same : other ≡ job) (is : due ≡ owed) where
  pub first_at_alike : (d : Difference) → IsFirstAt other (value_shown other net st t) owed cycle t d → IsFirstAt job (value_shown job net st t) due cycle t d
  first_at_alike d first =
      subst (λ (f : ℕ → ℕ). IsFirstAt job (value_shown job net st t) f cycle t d) (sym is)
      (subst (λ (j : Job). IsFirstAt j (value_shown j net st t) owed cycle t d) same first)

  pub agree_alike : ((a : ℕ) → HasWord other t a → value_shown other net st t a ≡ owed a) → (a : ℕ) → HasWord job t a → value_shown job net st t a ≡ due a
  agree_alike agree a there =
      subst (λ (j : Job). HasWord j t a → value_shown j net st t a ≡ owed a) same (agree a) there
      ∙ ap (λ (f : ℕ → ℕ). f a) (sym is)

  pub target_alike : (result : Option Difference) → ComparesTarget other (value_shown other net st t) owed cycle t result → ComparesTarget job (value_shown job net st t) due cycle t result
  target_alike None agree = agree_alike agree
  target_alike (Some d) first = first_at_alike d first

module _ (job : Job) (shown owed : ℕ → ℕ → ℕ) (t : ℕ) (kept : AgreeBelow job shown owed t) where
  -- one target more
  pub target_more : ((a : ℕ) → HasWord job t a → shown t a ≡ owed t a) → AgreeBelow job shown owed (t + 1)
  target_more last s b h there = below_more (λ (i : ℕ). (c : ℕ) → HasWord job i c → shown i c ≡ owed i c) t (λ i low c. kept i c low) last s h b there

  -- the first difference of a target, if the targets before it have none
  pub first_in : (cycle : ℕ) (d : Difference) → IsFirstAt job (shown t) (owed t) cycle t d → IsFirstIn job shown owed cycle d
  first_in cycle d first = record {
    cycle_is = first.one.cycle_is;
    there = subst (λ (s : ℕ). HasWord job s d.address) (sym first.one.target_is) first.one.there;
    differs = subst (λ (s : ℕ). shown s d.address ≢ owed s d.address) (sym first.one.target_is) first.one.differs;
    before = λ s b there. cases s b there;
    found_is = subst (λ (s : ℕ). d.found ≡ word (target job s).width (shown s d.address)) (sym first.one.target_is) first.one.found_is;
    due_is = subst (λ (s : ℕ). d.due ≡ word (target job s).width (owed s d.address)) (sym first.one.target_is) first.one.due_is;
  }
    where
      cases : (s b : ℕ) → HasWord job s b → (s < d.target) ⊎ ((s ≡ d.target) × (b < d.address)) → shown s b ≡ owed s b
      cases s b there (inl lower) = kept s b (subst (λ (u : ℕ). s < u) first.one.target_is lower) there
      cases s b there (inr (same, lower)) =
          let at : s ≡ t = same ∙ first.one.target_is in
          subst (λ (i : ℕ). shown i b ≡ owed i b) (sym at) (first.before b lower (subst (λ (i : ℕ). HasWord job i b) at there))
