-- A call of the last function of a name: what its plan means.
use Rattle.std.proofs.Common.{◌≡◌, ◌≢◌, ◌∙◌, ℕ, suc, ◌+◌, ◌<◌, ◌≤◌, List, [], ◌∷◌, ◌++◌, Option, Some, None, Bool, true, false, cond, not, length, map, take, get_or, refl, ap, sym, subst, arith, ⊎_elim}
use Rattle.std.proofs.lemmas.Bool.{cases_lt, cond-true, cond-false, eq-eqb, ne_eqb, le-ltb, lt-ltb}
use Rattle.std.proofs.lemmas.List.{map_push, take_more, length-map, length_push, Sums.fold-append, Sums.sum_by_push}
use Rattle.std.specs.{Prelude.◌==◌, Prelude.nat_lt, Option.option_map, Option.option_and_then, List.position, List.position_or_len}
use Rattle.kp_bits.specs.Word.{Word}
use Rattle.kp_ast.specs.declared.tree.{Param.Param, FuncDecl.FuncDecl, Decl.Decl, Expr.Expr}
use Rattle.kp_ast.specs.Expressions.{is_same_name, is_function, look_up, arguments_of}
use Rattle.kp_ast.specs.Checked.{checked, checked_call, checked_calls_after, checked_calls_of, all_there}
use Rattle.kp_ast.specs.Size.{size, size_with, bodies_of, bodies_after, body_size_of, no_bodies}
use Rattle.kp_ast.specs.declared.tree.Decl.TheVariants as decls
use Rattle.kp_seq_plan.specs.{declared.plan.Plan.Plan, declared.resolve.Scope.Scope, Names.at_place, Names.place_of}
use Rattle.kp_seq_plan.specs.Plans.{Slots, meaning, meaning_level, space, space_level, known_by, Means, AllMean, MeansCall, MeansBody}
use Rattle.kp_seq_plan.proofs.{Levels.fold-Word, Meaning.V, Meaning.at, Meaning.meaning_call, Meaning.space_call}
use Rattle.kp_seq_plan.specs.declared.plan.Plan.TheVariants as ends
use Rattle.kp_seq_plan.specs.declared.plan.Plan.TheViews as plans

-- no value of the arguments helps if there is no function
abbrev nothing : List Word → Option Word
nothing vs = None

none_then : (o : Option (List Word)) → None ≡ option_and_then nothing o
none_then None = refl
none_then (Some vs) = refl

same_then : (o : Option (List Word)) (f g : List Word → Option Word) → ((vs : List Word) → o ≡ Some vs → f vs ≡ g vs) → option_and_then f o ≡ option_and_then g o
same_then None f g h = refl
same_then (Some vs) f g h = h vs refl

there_length : (os : List (Option Word)) (vs : List Word) → all_there os ≡ Some vs → length vs ≡ length os
there_length [] vs e = let n : vs ≡ [] = cc in ap length n
there_length (None ∷ os) vs e = cc
there_length (Some x ∷ os) vs e = longer (all_there os) vs e (λ ws h. there_length os ws h)
  where
    longer : (o : Option (List Word)) (vs : List Word) → option_map (λ xs. x ∷ xs) o ≡ Some vs → ((ws : List Word) → o ≡ Some ws → length ws ≡ length os) → length vs ≡ suc (length os)
    longer None vs e h = cc
    longer (Some ws) vs e h = let n : vs ≡ x ∷ ws = cc in ap length n ∙ ap (λ k. suc k) (h ws refl)

module _ {X : Type 0} (p : X → Bool) where
  shift : (c : Bool) (i : ℕ) → cond c (Some (suc i)) None ≡ option_map (λ n. suc n) (cond c (Some i) None)
  shift true i = refl
  shift false i = refl

  same_lt : (a n : ℕ) → nat_lt (1 + a) (suc n) ≡ nat_lt a n
  same_lt a n = ⊎_elim (λ (h : a < n). lt-ltb (1 + a) (suc n) (omega arith) ∙ sym (lt-ltb a n h)) (λ (h : n ≤ a). le-ltb (1 + a) (suc n) (omega arith) ∙ sym (le-ltb a n h)) (cases_lt a n)

  stepped : (b : Bool) (xs : List X) → cond (nat_lt (cond (not b) (1 + position_or_len p xs) 0) (suc (length xs))) (Some (cond (not b) (1 + position_or_len p xs) 0)) None
      ≡ cond b (Some 0) (option_map (λ n. suc n) (position p xs))
  stepped true xs = ap (λ b. cond b (Some 0) None) (lt-ltb 0 (suc (length xs)) (omega arith))
  stepped false xs =
      let i = position_or_len p xs in
      let e : 1 + i ≡ suc i = omega arith in
      ap (λ b. cond b (Some (1 + i)) None) (same_lt i (length xs)) ∙ ap (λ k. cond (nat_lt i (length xs)) (Some k) None) e ∙ shift (nat_lt i (length xs)) i

  pub position_step : (x : X) (xs : List X) → position p (x ∷ xs) ≡ cond (p x) (Some 0) (option_map (λ n. suc n) (position p xs))
  position_step x xs = stepped (p x) xs

none_at : (o : Option ℕ) → at_place [] o ≡ None
none_at None = refl
none_at (Some i) = refl

-- a parameter has the value of the corresponding argument
args_at : (q : List ℕ) (ps : List Param) (vs : List Word) → at_place (map Some vs) (position (λ p. is_same_name q p.name.name) ps) ≡ look_up (arguments_of ps vs) q
args_at q [] vs = refl
args_at q (p ∷ ps) [] = none_at (position (λ x. is_same_name q x.name.name) (p ∷ ps))
args_at q (p ∷ ps) (v ∷ vs) =
    let test : Param → Bool = λ x. is_same_name q x.name.name in
    ap (at_place (map Some (v ∷ vs))) (position_step test p ps) ∙ found (test p) (position test ps) (args_at q ps vs)
  where
    past : (o : Option ℕ) → at_place (Some v ∷ map Some vs) (option_map (λ n. suc n) o) ≡ at_place (map Some vs) o
    past None = refl
    past (Some i) = refl

    found : (b : Bool) (o : Option ℕ) → at_place (map Some vs) o ≡ look_up (arguments_of ps vs) q
        → at_place (Some v ∷ map Some vs) (cond b (Some 0) (option_map (λ n. suc n) o)) ≡ cond b (Some v) (look_up (arguments_of ps vs) q)
    found true o h = refl
    found false o h = past o ∙ h

module _ (earlier : List Decl) (args : List Plan) where
  abbrev given : Slots → Option (List Word)
  given s = all_there (map (λ a. meaning a s) args)

  -- what is no function has no value
  no_value : (d : Decl) → ((f : FuncDecl) → d ≡ decls.Func f → ⊥) → (o : Option (List Word)) → None ≡ option_and_then (checked_call (checked_calls_of earlier) d) o
  no_value (decls.Func f) h o = absurd (h f refl)
  no_value _ h o = none_then o

  pub no_function : (d : Decl) → ((f : FuncDecl) → d ≡ decls.Func f → ⊥) → MeansBody earlier d args (ends.Word None)
  no_function d h = record {
    value = λ s. at (fold-Word V meaning_level None) s ∙ no_value d h (given s);
    space = omega (arith, fold-Word ℕ space_level None);
  }

  module _ (d : Decl) (f : FuncDecl) (is : d ≡ decls.Func f) (ps : List Param) (params : ps ≡ f.params) where
    abbrev counted : List Word → Bool
    counted vs = length vs == length f.params

    count_of : (s : Slots) (vs : List Word) → given s ≡ Some vs → length vs ≡ length args
    count_of s vs e = there_length (map (λ a. meaning a s) args) vs e ∙ length-map args (λ a. meaning a s)

    called : (vs : List Word) → checked_call (checked_calls_of earlier) d vs
        ≡ cond (counted vs) (checked (record { names = look_up (arguments_of f.params vs); calls = checked_calls_of earlier }) f.body) None
    called vs = ap (λ x. checked_call (checked_calls_of earlier) x vs) is

    -- another number of arguments than there are parameters
    pub wrong_count : length args ≢ length ps → MeansBody earlier d args (ends.Word None)
    wrong_count h = record {
      value = λ s.
          at (fold-Word V meaning_level None) s
          ∙ none_then (given s)
          ∙ same_then (given s) nothing (checked_call (checked_calls_of earlier) d) (λ vs e.
          let c : counted vs ≡ false = ne_eqb (length vs) (length f.params) (λ same. h (sym (count_of s vs e) ∙ same ∙ ap length (sym params))) in
          sym (called vs ∙ cond-false (counted vs) _ None c));
      space = omega (arith, fold-Word ℕ space_level None);
    }

    -- and as many
    pub right_count : (body : Plan) → length args ≡ length ps → (scope : Scope) → ((q : List ℕ) → place_of scope q ≡ position (λ p. is_same_name q p.name.name) ps) → Means earlier scope f.body body
        → MeansBody earlier d args (plans.Call args body)
    right_count body h scope at_params m = record {
      value = λ s.
          meaning_call args body s
          ∙ same_then (given s) (λ vs. meaning body (map Some vs)) (checked_call (checked_calls_of earlier) d) (λ vs e.
          let n : length vs ≡ length f.params = count_of s vs e ∙ h ∙ ap length params in
          let names : (q : List ℕ) → at_place (map Some vs) (place_of scope q) ≡ look_up (arguments_of f.params vs) q = λ q. ap (at_place (map Some vs)) (at_params q ∙ ap (position (λ p. is_same_name q p.name.name)) params) ∙ args_at q f.params vs in
          m.value (map Some vs)
          ∙ (λ i. checked (record { names = λ q. names q i; calls = checked_calls_of earlier }) f.body)
          ∙ sym (called vs ∙ cond-true (counted vs) _ None (eq-eqb (length vs) (length f.params) n)));
      space =
          let sz : body_size_of (bodies_of earlier) d ≡ size earlier f.body = ap (body_size_of (bodies_of earlier)) is in
          omega (arith, space_call args body, m.space, sz);
    }

module _ (ds earlier : List Decl) (d : Decl) (all : ds ≡ earlier ++ d ∷ []) (q : List ℕ) (args : List Plan) (p : Plan) where
  calls_last : checked_calls_of ds ≡ checked_calls_after (checked_calls_of earlier) d
  calls_last = ap checked_calls_of all ∙ fold-append checked_calls_after (λ name vs. None) earlier (d ∷ [])

  bodies_last : bodies_of ds ≡ bodies_after (bodies_of earlier) d
  bodies_last = ap bodies_of all ∙ fold-append bodies_after no_bodies earlier (d ∷ [])

  pub called_here : is_function q d ≡ true → MeansBody earlier d args p → MeansCall ds q args p
  called_here h m =
      let c : checked_calls_of ds q ≡ checked_call (checked_calls_of earlier) d =
      ap (λ (calls : List ℕ → List Word → Option Word). calls q) calls_last
      ∙ ap (λ b. λ (vs : List Word). cond b (checked_call (checked_calls_of earlier) d vs) (checked_calls_of earlier q vs)) h in
      let n : bodies_of ds q ≡ body_size_of (bodies_of earlier) d = ap (λ (b : List ℕ → ℕ). b q) bodies_last ∙ ap (λ b. cond b (body_size_of (bodies_of earlier) d) (bodies_of earlier q)) h in
      record {
        value = λ s. m.value s ∙ ap (λ (f : List Word → Option Word). option_and_then f (given earlier args s)) (sym c);
        space = omega (arith, n, m.space);
      }

  pub called_before : is_function q d ≡ false → MeansCall earlier q args p → MeansCall ds q args p
  called_before h m =
      let c : checked_calls_of ds q ≡ checked_calls_of earlier q =
      ap (λ (calls : List ℕ → List Word → Option Word). calls q) calls_last
      ∙ ap (λ b. λ (vs : List Word). cond b (checked_call (checked_calls_of earlier) d vs) (checked_calls_of earlier q vs)) h in
      let n : bodies_of ds q ≡ bodies_of earlier q = ap (λ (b : List ℕ → ℕ). b q) bodies_last ∙ ap (λ b. cond b (body_size_of (bodies_of earlier) d) (bodies_of earlier q)) h in
      record {
        value = λ s. m.value s ∙ ap (λ (f : List Word → Option Word). option_and_then f (given earlier args s)) (sym c);
        space = omega (arith, n, m.space);
      }

pub called_nowhere : (ds : List Decl) → length ds ≡ 0 → (q : List ℕ) (args : List Plan) → MeansCall ds q args (ends.Word None)
called_nowhere [] e q args = record {
  value = λ s. at (fold-Word V meaning_level None) s ∙ none_then (given [] args s);
  space = omega (arith, fold-Word ℕ space_level None);
}
called_nowhere (d ∷ ds) e q args = absurd (omega arith)

-- the plans of some expressions, and of one more
pub none_mean : (ds : List Decl) (scope : Scope) → AllMean ds scope [] []
none_mean ds scope = record { values = λ s. refl; space = omega arith }

pub more_mean : (ds : List Decl) (scope : Scope) (es : List Expr) (i : ℕ) (e : Expr) (ps : List Plan) (p : Plan) → i < length es → e ≡ get_or es i e
    → AllMean ds scope (take i es) ps → Means ds scope e p → AllMean ds scope (take (i + 1) es) (ps ++ p ∷ [])
more_mean ds scope es i e ps p l is m one =
    subst (λ xs. AllMean ds scope xs (ps ++ p ∷ [])) (sym (take_more es i e l ∙ ap (λ x. take i es ++ x ∷ []) (sym is))) (joined (take i es) ps m)
  where
    joined : (xs : List Expr) (ps : List Plan) → AllMean ds scope xs ps → AllMean ds scope (xs ++ e ∷ []) (ps ++ p ∷ [])
    joined xs ps m = record {
      values = λ s.
          map_push (λ a. meaning a s) ps p
          ∙ ap (λ ws. ws ++ meaning p s ∷ []) (m.values s)
          ∙ ap (λ w. map (checked (known_by ds scope s)) xs ++ w ∷ []) (one.value s)
          ∙ sym (map_push (checked (known_by ds scope s)) xs e);
      space = omega (arith, m.space, one.space, sum_by_push space ps p, sum_by_push (size_with (bodies_of ds)) xs e, length_push ps p);
    }
