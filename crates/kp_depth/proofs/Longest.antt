-- No path is longer than the time of its end, and the operands that are there last make one of that length.
use Rattle.std.proofs.Common.{◌≡◌, ◌∙◌, ◌+◌, ◌<◌, ◌≤◌, ℕ, zero, suc, Bool, true, false, cond, leb, List, [], ◌∷◌, ◌++◌, Option, Some, None, fold, length, All, refl, sym, ap, subst, arith, inl, inr, ⊎_elim}
use Rattle.std.specs.Prelude.{◌⊎◌, Contains, unwrap_or}
use Rattle.std.proofs.lemmas.Bool.{leb-true, leb-false}
use Rattle.std.proofs.lemmas.List.{append_assoc, append-nil}
use Rattle.std.proofs.lemmas.List.Elements.{All-nil, All-cons, All-contains, Contains-append_left, Contains-append_right, Contains-push}
use Rattle.kp_net.specs.declared.node.{NodeId.NodeId, Node.Node, Kind.Kind}
use Rattle.kp_net.specs.Widths.{AllRight}
use Rattle.kp_depth.specs.declared.time.{Input.Input, Chain.Chain, Time.Time}
use Rattle.kp_depth.specs.Times.{there, no_chain, joined_at, joined, chain_of, known_time, time_of, time_at, times_of}
use Rattle.kp_depth.specs.Delay.{delay_of}
use Rattle.kp_depth.specs.Paths.{kind_at, inputs_at, delay, IsPath, below, path_length, NoneLonger}
use Rattle.kp_depth.specs.inner.Descent.{LeadsTo}
use Rattle.kp_depth.proofs.Arrivals.{time_there, operands_before, chain_there}

-- THE CHAIN: its latest time is that of an operand, and no operand is later.
latest_grows : (t : ℕ → Time) (c : Chain) (xs : List Input) → c.latest ≤ (fold (joined t) c xs).latest
latest_grows t c [] = omega arith
latest_grows t c (x ∷ xs) = omega (arith, latest_grows t (joined_at (t x.node.0) c x) xs)

none_later : (t : ℕ → Time) (c : Chain) (xs : List Input) → All (λ (x : Input). there (t x.node.0) x ≤ (fold (joined t) c xs).latest) xs
none_later t c [] = All-nil (λ (x : Input). there (t x.node.0) x ≤ c.latest)
none_later t c (x ∷ xs) =
    let d : Chain = joined_at (t x.node.0) c x in
    All-cons (λ (y : Input). there (t y.node.0) y ≤ (fold (joined t) d xs).latest) x xs (omega (arith, latest_grows t d xs)) (none_later t d xs)

-- an operand that is there last is in the list, or was there before
abbrev Was : Chain → Chain → Input → Type 0
Was c e x = (c.last ≡ Some x) × (e.latest ≡ c.latest)

abbrev Leads : (ℕ → Time) → List Input → Chain → Input → Type 0
Leads t xs e x = Contains xs x × (e.latest ≡ there (t x.node.0) x)

same_some : (x y : Input) → Some x ≡ Some y → x ≡ y
same_some x y e = ap (λ (o : Option Input). unwrap_or o x) e

none_some : (x : Input) → None ≡ Some x → ⊥
none_some x e = cc e

some_none : (x : Input) → Some x ≡ None → ⊥
some_none x e = cc e

first_of : (y : Input) (ys : List Input) → Contains (y ∷ ys) y
first_of y ys = Contains-append_left (y ∷ []) ys y (Contains-push [] y)

step_leads : (v : Time) (c : Chain) (y x : Input) → (joined_at v c y).last ≡ Some x
    → Was c (joined_at v c y) x ⊎ ((y ≡ x) × ((joined_at v c y).latest ≡ there v y))
step_leads v c y x h = go (leb c.latest (there v y)) refl
  where
    go : (b : Bool) → leb c.latest (there v y) ≡ b → Was c (joined_at v c y) x ⊎ ((y ≡ x) × ((joined_at v c y).latest ≡ there v y))
    go true e = let l = leb-true c.latest (there v y) e in inr (same_some y x (subst (λ (b : Bool). cond b (Some y) c.last ≡ Some x) e h), omega (arith, l))
    go false e = let l = leb-false c.latest (there v y) e in inl (subst (λ (b : Bool). cond b (Some y) c.last ≡ Some x) e h, omega (arith, l))

last_leads : (t : ℕ → Time) (c : Chain) (xs : List Input) (x : Input) → (fold (joined t) c xs).last ≡ Some x
    → Was c (fold (joined t) c xs) x ⊎ Leads t xs (fold (joined t) c xs) x
last_leads t c [] x h = inl (h, refl)
last_leads t c (y ∷ ys) x h =
    let d : Chain = joined_at (t y.node.0) c y in
    let e : Chain = fold (joined t) d ys in
    ⊎_elim
    (λ (w : Was d e x). ⊎_elim
    (λ (v : Was c d x). inl (v.0, w.1 ∙ v.1))
    (λ (v : (y ≡ x) × (d.latest ≡ there (t y.node.0) y)).
    inr (subst (λ (z : Input). Contains (y ∷ ys) z) v.0 (first_of y ys), w.1 ∙ v.1 ∙ ap (λ (z : Input). there (t z.node.0) z) v.0))
    (step_leads (t y.node.0) c y x w.0))
    (λ (w : Leads t ys e x). inr (Contains-append_right (y ∷ []) ys x w.0, w.1))
    (last_leads t d ys x h)

no_last : (v : Time) (c : Chain) (y : Input) → ((c.last ≡ None) → c.latest ≡ 0) → (joined_at v c y).last ≡ None → (joined_at v c y).latest ≡ 0
no_last v c y s h = go (leb c.latest (there v y)) refl
  where
    go : (b : Bool) → leb c.latest (there v y) ≡ b → (joined_at v c y).latest ≡ 0
    go true e = absurd (some_none y (subst (λ (b : Bool). cond b (Some y) c.last ≡ None) e h))
    go false e =
        let z : c.latest ≡ 0 = s (subst (λ (b : Bool). cond b (Some y) c.last ≡ None) e h) in
        let l = leb-false c.latest (there v y) e in
        omega (arith, l, z)

none_last : (t : ℕ → Time) (c : Chain) (xs : List Input) → ((c.last ≡ None) → c.latest ≡ 0) → (fold (joined t) c xs).last ≡ None → (fold (joined t) c xs).latest ≡ 0
none_last t c [] s h = s h
none_last t c (x ∷ xs) s h = none_last t (joined_at (t x.node.0) c x) xs (no_last (t x.node.0) c x s) h

module _ (ns : List Node) (inside : Bool) (right : AllRight ns) where
  abbrev t : ℕ → Time
  t = time_at ns inside

  arrival_is : (i : ℕ) → (t i).arrival ≡ (t i).chain.latest + delay ns inside i
  arrival_is i =
      ap (λ (v : Time). v.arrival) (time_there ns inside right i)
      ∙ ap (λ (c : Chain). c.latest + delay_of ns inside c.count (kind_at ns i)) (sym (chain_there ns inside right i))

  -- an operand is there before its node
  pub operand_first : (i : ℕ) (x : Input) → Contains (inputs_at ns inside i) x → there (t x.node.0) x ≤ (t i).chain.latest
  operand_first i x h =
      let c : Chain = chain_of ns inside t (kind_at ns i) in
      subst (λ (d : Chain). there (t x.node.0) x ≤ d.latest) (sym (chain_there ns inside right i))
      (All-contains (λ (y : Input). there (t y.node.0) y ≤ c.latest) (inputs_at ns inside i) x (none_later t no_chain (inputs_at ns inside i)) h)

  step : (x : Input) (d : ℕ) → d ≤ (t x.node.0).chain.latest → cond x.within 0 (delay ns inside x.node.0) + d ≤ there (t x.node.0) x
  step x d h = go x.within
    where
      go : (b : Bool) → cond b 0 (delay ns inside x.node.0) + d ≤ cond b (t x.node.0).chain.latest (t x.node.0).arrival
      go true = omega (arith, h)
      go false = omega (arith, h, arrival_is x.node.0)

  reaches : (x : Input) (d : ℕ) → d ≡ (t x.node.0).chain.latest → cond x.within 0 (delay ns inside x.node.0) + d ≡ there (t x.node.0) x
  reaches x d h = go x.within
    where
      go : (b : Bool) → cond b 0 (delay ns inside x.node.0) + d ≡ cond b (t x.node.0).chain.latest (t x.node.0).arrival
      go true = omega (arith, h)
      go false = omega (arith, h, arrival_is x.node.0)

  below_bound : (i : ℕ) (path : List Input) → IsPath ns inside i path → below ns inside path ≤ (t i).chain.latest
  below_bound i [] h = omega arith
  below_bound i (x ∷ path) h =
      let a = step x (below ns inside path) (below_bound x.node.0 path h.1) in
      let b = operand_first i x h.0 in
      omega (arith, a, b)

  pub none_longer : (i : ℕ) → NoneLonger ns inside i (t i).arrival
  none_longer i = record { bound = λ path h. omega (arith, below_bound i path h, arrival_is i) }

  -- the operand that is there last
  pub last_operand : (i : ℕ) (x : Input) → (t i).chain.last ≡ Some x
      → Contains (inputs_at ns inside i) x × ((t i).chain.latest ≡ there (t x.node.0) x) × (x.node.0 < i)
  last_operand i x h =
      let c : Chain = chain_of ns inside t (kind_at ns i) in
      let same = chain_there ns inside right i in
      let l : c.last ≡ Some x = sym (ap (λ (d : Chain). d.last) same) ∙ h in
      let r : Leads t (inputs_at ns inside i) c x =
      ⊎_elim (λ (w : Was no_chain c x). absurd (none_some x w.0)) (λ (w : Leads t (inputs_at ns inside i) c x). w)
      (last_leads t no_chain (inputs_at ns inside i) x l) in
      (r.0, ap (λ (d : Chain). d.latest) same ∙ r.1, All-contains (λ (y : Input). y.node.0 < i) (inputs_at ns inside i) x (operands_before ns inside right i) r.0)

  pub no_operand : (i : ℕ) → (t i).chain.last ≡ None → (t i).chain.latest ≡ 0
  no_operand i h =
      let same = chain_there ns inside right i in
      ap (λ (d : Chain). d.latest) same ∙ none_last t no_chain (inputs_at ns inside i) (λ e. refl) (sym (ap (λ (d : Chain). d.last) same) ∙ h)

  -- a part of a longest path: none, one more operand, and the end
  pub leads_none : (from : ℕ) → LeadsTo ns inside from from []
  leads_none from = record { leads = λ rest h. h; reaches = λ rest h. h }

  pub leads_more : (from here : ℕ) (path : List Input) (x : Input) → (t here).chain.last ≡ Some x → LeadsTo ns inside from here path
      → LeadsTo ns inside from x.node.0 (path ++ x ∷ [])
  leads_more from here path x h l =
      let (there_is, last_is, low) = last_operand here x h in record {
        leads = λ rest p. subst (λ (q : List Input). IsPath ns inside from q) (sym (append_assoc path (x ∷ []) rest)) (l.leads (x ∷ rest) (there_is, p));
        reaches = λ rest e. ap (below ns inside) (append_assoc path (x ∷ []) rest) ∙ l.reaches (x ∷ rest) (reaches x (below ns inside rest) e ∙ sym last_is);
      }

  pub leads_all : (from here : ℕ) (path : List Input) → (t here).chain.last ≡ None → LeadsTo ns inside from here path
      → IsPath ns inside from path × (path_length ns inside from path ≡ (t from).arrival)
  leads_all from here path h l =
      let same : path ++ [] ≡ path = append-nil path in
      let low : below ns inside (path ++ []) ≡ (t from).chain.latest = l.reaches [] (sym (no_operand here h)) in
      let b : below ns inside path ≡ (t from).chain.latest = sym (ap (below ns inside) same) ∙ low in
      (subst (λ (q : List Input). IsPath ns inside from q) same (l.leads [] tt), omega (arith, b, arrival_is from))

-- the same by the list of all times
module _ (ns : List Node) (inside : Bool) (times : List Time) (right : AllRight ns) (same : times ≡ times_of ns inside) where
  at_last : (here : ℕ) (x : Option Input) → (known_time times here).chain.last ≡ x → (time_at ns inside here).chain.last ≡ x
  unfolding time_at
  at_last here x h = ap (λ (ts : List Time). (known_time ts here).chain.last) (sym same) ∙ h

  pub descend_more : (from here : ℕ) (path : List Input) (x : Input) → (known_time times here).chain.last ≡ Some x → LeadsTo ns inside from here path
      → LeadsTo ns inside from x.node.0 (path ++ x ∷ [])
  descend_more from here path x h l = leads_more ns inside right from here path x (at_last here (Some x) h) l

  pub descend_lower : (here : ℕ) (x : Input) → (known_time times here).chain.last ≡ Some x → x.node.0 < here
  descend_lower here x h = (last_operand ns inside right here x (at_last here (Some x) h)).2

  pub path_found : (from here : ℕ) (path : List Input) → (known_time times here).chain.last ≡ None → LeadsTo ns inside from here path → IsPath ns inside from path
  path_found from here path h l = (leads_all ns inside right from here path (at_last here None h) l).0

  pub length_found : (from here : ℕ) (path : List Input) → (known_time times here).chain.last ≡ None → LeadsTo ns inside from here path
      → path_length ns inside from path ≡ (time_at ns inside from).arrival
  length_found from here path h l = (leads_all ns inside right from here path (at_last here None h) l).1
