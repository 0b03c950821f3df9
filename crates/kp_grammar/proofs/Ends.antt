-- The machine terminates, if no name leads back to itself before a token is read.
use Rattle.std.proofs.Common.{ℕ, zero, suc, ◌≡◌, ◌==◌, ◌<◌, ◌≤◌, List, [], ◌∷◌, ◌++◌, length, Bool, true, false, not, cond, ◌||◌, ◌&&◌, Option, Some, None, refl, sym, subst, arith}
use Rattle.std.proofs.lemmas.Bool.{eqb-true, eq-eqb, ltb-true, and_parts, and_from, not-true}
use Rattle.std.specs.Prelude.{nat_lt}
use Rattle.kp_grammar.specs.Machine.{Outcome, Accepts, Stops, Exceeds, Leads, accept, more, goes, take, make, wrong, lost, exceed, look}
use Rattle.kp_grammar.specs.Grammar.{Symbol, Terminal, Nonterminal, Action, Rules, alternatives, Has, here, there, Grammar}
use Rattle.kp_grammar.specs.Tables.{Tables, END_OF_TEXT, empty_of, vanishes, pick}
use Rattle.kp_grammar.specs.Ranks.{Ranks, front_below, is_within_text, bodies_below, ranks_fit}
use Rattle.kp_grammar.proofs.{Conditions.Decides, TableTests.implied, TableTests.picks_rule}

-- what the test says of the alternatives of a name
below_step : {W B : Type 0} → (t : Tables) (rank : Ranks) (m n : ℕ) (b rest : List (List (Symbol W B))) (a : Bool) → (m == n) ≡ a → bodies_below t rank (rank m) b ≡ true → bodies_below t rank (rank n) rest ≡ true
    → bodies_below t rank (rank n) (cond a b rest) ≡ true
below_step t rank m n b rest true e p q = subst (λ (k : ℕ). bodies_below t rank (rank k) b ≡ true) (eqb-true m n e) p
below_step t rank m n b rest false e p q = q

alternatives_below : {W B : Type 0} → (t : Tables) (rank : Ranks) (rs : Rules W B) (n : ℕ) → ranks_fit t rank rs ≡ true → bodies_below t rank (rank n) (alternatives rs n) ≡ true
alternatives_below t rank [] n h = refl
alternatives_below t rank (r ∷ rs) n h =
    let p = and_parts (bodies_below t rank (rank r.0) r.1) (ranks_fit t rank rs) h in
    below_step t rank r.0 n r.1 (alternatives rs n) (r.0 == n) refl p.0 (alternatives_below t rank rs n p.1)

body_below : {W B : Type 0} → (t : Tables) (rank : Ranks) (r : ℕ) (b : List (Symbol W B)) (bs : List (List (Symbol W B))) → Has b bs → bodies_below t rank r bs ≡ true
    → (front_below t rank r b && is_within_text b) ≡ true
body_below t rank r b [] m h = elim m [ ]
body_below t rank r b (c ∷ bs) here h = (and_parts (front_below t rank r c && is_within_text c) (bodies_below t rank r bs) h).0
body_below t rank r b (c ∷ bs) (there m) h = body_below t rank r b bs m (and_parts (front_below t rank r c && is_within_text c) (bodies_below t rank r bs) h).1

within_append : {W B : Type 0} → (a b : List (Symbol W B)) → is_within_text a ≡ true → is_within_text b ≡ true → is_within_text (a ++ b) ≡ true
within_append [] b h k = k
within_append (Terminal c way ∷ a) b h k =
    let p = and_parts (not (c == END_OF_TEXT)) (is_within_text a) h in
    and_from (not (c == END_OF_TEXT)) (is_within_text (a ++ b)) p.0 (within_append a b p.1 k)
within_append (x ∷ a) b h k = within_append a b h k

module _ {W B X S : Type 0} (g : Grammar W B X S) (t : Tables) (rank : Ranks) (decide : Decides g.rules t) (fits : ranks_fit t rank g.rules ≡ true) (over : S → Bool) where
  abbrev Ends : List (Symbol W B) → S → List X → Type 0
  Ends s v ts = (o : Outcome S) × Leads g over t s v ts o

  taken : (c : ℕ) (way : W) (s : List (Symbol W B)) (v : S) (x : X) (xs : List X) (a : Bool) → over (g.reads way x v) ≡ a → g.class x ≡ c → Ends s (g.reads way x v) xs → Ends (Terminal c way ∷ s) v (x ∷ xs)
  taken c way s v x xs true e same rest = (Exceeds (length (x ∷ xs)), exceed same e)
  taken c way s v x xs false e same rest = (rest.0, take same e rest.1)

  read : (c : ℕ) (way : W) (s : List (Symbol W B)) (v : S) (x : X) (xs : List X) (a : Bool) → (g.class x == c) ≡ a → Ends s (g.reads way x v) xs → Ends (Terminal c way ∷ s) v (x ∷ xs)
  read c way s v x xs true e rest = taken c way s v x xs (over (g.reads way x v)) refl (eqb-true (g.class x) c e) rest
  read c way s v x xs false e rest = (Stops (length (x ∷ xs)), wrong (λ same. cc (eq-eqb (g.class x) c same, e)))

  ended : (c : ℕ) (way : W) (s : List (Symbol W B)) (v : S) → (c == END_OF_TEXT) ≡ false → Ends (Terminal c way ∷ s) v []
  ended c way s v e = (Stops 0, wrong (λ same. cc (eq-eqb c END_OF_TEXT (sym same), e)))

  -- a name, if each of its alternatives terminates
  expand : (m : ℕ) (s : List (Symbol W B)) (v : S) (ts : List X) → ((b : List (Symbol W B)) → Has b (alternatives g.rules m) → Ends (b ++ s) v ts) → Ends (Nonterminal m ∷ s) v ts
  expand m s v ts inner = picked (pick g.rules t m (look g ts)) refl
    where
      picked : (p : Option (List (Symbol W B))) → pick g.rules t m (look g ts) ≡ p → Ends (Nonterminal m ∷ s) v ts
      picked None e = (Stops (length ts), lost e)
      picked (Some b) e = let r = inner b (picks_rule g.rules t m (look g ts) b e) in (r.0, goes b e r.1)

  -- with all that ends on fewer than n tokens
  module _ (n : ℕ) (shorter : (s : List (Symbol W B)) → is_within_text s ≡ true → (v : S) (ts : List X) → length ts < n → Ends s v ts) where
    terminal : (ts : List X) → length ts ≤ n → (c : ℕ) (way : W) (s : List (Symbol W B)) → (c == END_OF_TEXT) ≡ false → is_within_text s ≡ true → (v : S) → Ends (Terminal c way ∷ s) v ts
    terminal [] h c way s e k v = ended c way s v e
    terminal (x ∷ xs) h c way s e k v = read c way s v x xs (g.class x == c) refl (shorter s k (g.reads way x v) xs (omega arith))

    finish : (ts : List X) (v : S) → Ends [] v ts
    finish [] v = (Accepts v, accept)
    finish (x ∷ xs) v = (Stops (length (x ∷ xs)), more)

    module _ (ts : List X) (few : length ts ≤ n) where
      -- A body whose front has names of lower rank terminates, if the rest after it terminates in the case that the body reads nothing.
      body : (k r : ℕ) → r ≤ k → (b s : List (Symbol W B)) → front_below t rank r b ≡ true → is_within_text b ≡ true → is_within_text s ≡ true
          → (vanishes t b ≡ true → (w : S) → Ends s w ts) → (v : S) → Ends (b ++ s) v ts
      body k r h [] s f wb ws go v = go refl v
      body k r h (Terminal c way ∷ b) s f wb ws go v =
          let p = and_parts (not (c == END_OF_TEXT)) (is_within_text b) wb in
          terminal ts few c way (b ++ s) (not-true (c == END_OF_TEXT) p.0) (within_append b s p.1 ws) v
      body k r h (Action a ∷ b) s f wb ws go v = let e = body k r h b s f wb ws go (g.builds a v) in (e.0, make e.1)
      body zero r h (Nonterminal m ∷ b) s f wb ws go v =
          let p = and_parts (nat_lt (rank m) r) (not (empty_of t m) || front_below t rank r b) f in
          let lower : rank m < r = ltb-true (rank m) r p.0 in
          absurd (omega arith)
      body (suc k) r h (Nonterminal m ∷ b) s f wb ws go v =
          let p = and_parts (nat_lt (rank m) r) (not (empty_of t m) || front_below t rank r b) f in
          let lower : rank m < r = ltb-true (rank m) r p.0 in
          let within : rank m ≤ k = omega arith in
          expand m (b ++ s) v ts
          (λ c has.
          let q = and_parts (front_below t rank (rank m) c) (is_within_text c) (body_below t rank (rank m) c (alternatives g.rules m) has (alternatives_below t rank g.rules m fits)) in
          body k (rank m) within c (b ++ s) q.0 q.1 (within_append b s wb ws)
          (λ nothing w.
          let empty = decide.empties m c has nothing in
          body (suc k) r h b s (implied (empty_of t m) (front_below t rank r b) p.1 empty) wb ws (λ e. go (and_from (empty_of t m) (vanishes t b) empty e)) w)
          v)

      run : (s : List (Symbol W B)) → is_within_text s ≡ true → (v : S) → Ends s v ts
      run [] w v = finish ts v
      run (Terminal c way ∷ s) w v =
          let p = and_parts (not (c == END_OF_TEXT)) (is_within_text s) w in
          terminal ts few c way s (not-true (c == END_OF_TEXT) p.0) p.1 v
      run (Action a ∷ s) w v = let e = run s w (g.builds a v) in (e.0, make e.1)
      run (Nonterminal m ∷ s) w v =
          expand m s v ts
          (λ c has.
          let q = and_parts (front_below t rank (rank m) c) (is_within_text c) (body_below t rank (rank m) c (alternatives g.rules m) has (alternatives_below t rank g.rules m fits)) in
          let self : rank m ≤ rank m = omega arith in
          body (rank m) (rank m) self c s q.0 q.1 w (λ nothing u. run s w u) v)

  all_end : (n : ℕ) (s : List (Symbol W B)) → is_within_text s ≡ true → (v : S) (ts : List X) → length ts < n → Ends s v ts
  all_end zero s w v ts h = absurd (omega arith)
  all_end (suc n) s w v ts h = let few : length ts ≤ n = omega arith in run n (all_end n) ts few s w v

  pub ends : (n : ℕ) (v : S) (ts : List X) → Ends (Nonterminal n ∷ []) v ts
  ends n v ts = let few : length ts < suc (length ts) = omega arith in all_end (suc (length ts)) (Nonterminal n ∷ []) refl v ts few
