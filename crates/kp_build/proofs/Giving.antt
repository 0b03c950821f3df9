-- The meaning of nodes in terms of expressions, as the pool grows and from parts to the expression.
use Rattle.std.proofs.Common.{◌≡◌, ◌∙◌, ℕ, ◌<◌, true, List, Option, Some, None, length, refl, ap, sym}
use Rattle.std.specs.{Prelude.is_some, Option.option_map, Option.option_and_then}
use Rattle.kp_bits.specs.Word.{Word}
use Rattle.kp_ast.specs.{declared.tree.Expr.Expr, Checked.checked}
use Rattle.kp_net.specs.{declared.node.NodeId.NodeId, Nodes.Cells, Nodes.word_at, Growth.Held, Growth.Grown}
use Rattle.kp_build.specs.Names.{Scope, AreInside, IsSound, Gives}
use Rattle.kp_build.specs.inner.Showing.{IsThere, Shows, AllShow, words_at, value_in, values_in}
use Rattle.kp_build.proofs.Names.{same_known}

-- what comes of a value that is there
pub first_there : {X Y : Type 0} (f : X → Option Y) (o : Option X) → is_some (option_and_then f o) ≡ true → is_some o ≡ true
first_there f None h = h
first_there f (Some u) h = refl

pub mapped_there : {X Y : Type 0} (f : X → Y) (o : Option X) → is_some (option_map f o) ≡ true → is_some o ≡ true
mapped_there f None h = h
mapped_there f (Some u) h = refl

pub second_there : {X Y Z : Type 0} (g : X → Y → Option Z) (o : Option X) (r : Option Y) → is_some (option_and_then (λ u. option_and_then (g u) r) o) ≡ true → is_some r ≡ true
second_there g None r h = cc
second_there g (Some u) r h = first_there (g u) r h

pub third_there : {W X Y Z : Type 0} (g : W → X → Y → Option Z) (i : Option W) (o : Option X) (r : Option Y)
    → is_some (option_and_then (λ t. option_and_then (λ u. option_and_then (g t u) r) o) i) ≡ true → (is_some o ≡ true) × (is_some r ≡ true)
third_there g None o r h = cc
third_there g (Some t) o r h = (first_there (λ u. option_and_then (g t u) r) o h, second_there (g t) o r h)

module _ (p q : Held) (k : ℕ) (g : Grown p q k) (env : Scope) (inside : AreInside p env) where
  value_same : (e : Expr) (c : Cells) → value_in q env e c ≡ value_in p env e c
  value_same e c = ap (λ known. checked known e) (same_known p q k env g inside c)

  pub sound_later : (e : Expr) → IsSound p env e → IsSound q env e
  unfolding IsSound
  sound_later e h = λ c. ap is_some (value_same e c) ∙ h c

  pub gives_earlier : (e : Expr) (r : Held) (n : NodeId) → Gives q env e r n → Gives p env e r n
  unfolding Gives
  gives_earlier e r n h = λ c. sym (value_same e c) ∙ h c

pub gives_later : (p : Held) (env : Scope) (e : Expr) (q r : Held) (k : ℕ) (n : NodeId) → Grown q r k → n.0 < length q.nodes → Gives p env e q n → Gives p env e r n
unfolding Gives
gives_later p env e q r k n g l h = λ c. h c ∙ ap Some (sym (g.kept.words c n.0 l))

-- an expression by its parts
module _ (p : Held) (env : Scope) (e : Expr) where
  module _ (f : Cells → Option Word) (same : (c : Cells) → value_in p env e c ≡ f c) where
    pub fit_by : IsSound p env e → IsThere f
    unfolding IsSound IsThere
    fit_by h = λ c. sym (ap is_some (same c)) ∙ h c

    pub gives_by : (r : Held) (n : NodeId) → Shows r n f → Gives p env e r n
    unfolding Gives Shows
    gives_by r n h = λ c. same c ∙ h c

  pub sound_by : (x : Expr) → ((c : Cells) → is_some (value_in p env e c) ≡ true → is_some (value_in p env x c) ≡ true) → IsSound p env e → IsSound p env x
  unfolding IsSound
  sound_by x h s = λ c. h c (s c)

  -- of one part, which must be there
  module _ (f : Word → Option Word) (x : Expr) (value : (c : Cells) → value_in p env e c ≡ option_and_then f (value_in p env x c)) where
    pub one_sound : IsSound p env e → IsSound p env x
    one_sound = sound_by x (λ c s. first_there f (value_in p env x c) (sym (ap is_some (value c)) ∙ s))

    module _ (q : Held) (n : NodeId) (g : Gives p env x q n) where
      one_same : (c : Cells) → value_in p env e c ≡ f (word_at c q.nodes n.0)
      unfolding Gives
      one_same c = value c ∙ ap (option_and_then f) (g c)

      pub one_fits : IsSound p env e → IsThere (λ c. f (word_at c q.nodes n.0))
      one_fits = fit_by (λ c. f (word_at c q.nodes n.0)) one_same

      pub one_gives : (r : Held) (u : NodeId) → Shows r u (λ c. f (word_at c q.nodes n.0)) → Gives p env e r u
      one_gives = gives_by (λ c. f (word_at c q.nodes n.0)) one_same

  -- of several parts, whose nodes occur in two lists that are equal
  module _ (F : List Word → Option Word) (xs : List Expr) (value : (c : Cells) → value_in p env e c ≡ option_and_then F (values_in p env xs c)) where
    pub all_sound : IsSound p env e → IsThere (values_in p env xs)
    unfolding IsSound IsThere
    all_sound s = λ c. first_there F (values_in p env xs c) (sym (ap is_some (value c)) ∙ s c)

    module _ (q : Held) (ns ms : List NodeId) (is : ms ≡ ns) (g : AllShow q ns (values_in p env xs)) where
      all_same : (c : Cells) → value_in p env e c ≡ F (words_at c q ms)
      unfolding AllShow
      all_same c = value c ∙ ap (option_and_then F) (g c) ∙ ap (λ zs. F (words_at c q zs)) (sym is)

      pub all_fits : IsSound p env e → IsThere (λ c. F (words_at c q ms))
      all_fits = fit_by (λ c. F (words_at c q ms)) all_same

      pub all_gives : (r : Held) (u : NodeId) → Shows r u (λ c. F (words_at c q ms)) → Gives p env e r u
      all_gives = gives_by (λ c. F (words_at c q ms)) all_same
