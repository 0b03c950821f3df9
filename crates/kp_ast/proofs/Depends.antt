-- The value of an expression depends only on the names that occur in it.
use Rattle.std.proofs.Common.{◌≡◌, ◌∙◌, ℕ, List, [], ◌∷◌, ◌++◌, map, refl, ap, sym, subst, arith}
use Rattle.std.{proofs.lemmas.List.Elements.Contains-append_left, proofs.lemmas.List.Elements.Contains-append_right, specs.Prelude.Contains}
use Rattle.std.specs.List.{flat_map}
use Rattle.kp_bits.specs.{Word.not_of, Word.mux_of, Word.slice_of, Word.zext_of, Word.sext_of, Operators.joined_of, Operators.binary_of}
use Rattle.kp_ast.specs.declared.tree.Expr.{Expr}
use Rattle.kp_ast.specs.Expressions.{Env, eval, names_in, names_in_kind, names_in_level, IsSameAt}
use Rattle.kp_ast.proofs.Levels.{fold-Lit, fold-Name, fold-Not, fold-Binary, fold-Mux, fold-Concat, fold-Slice, fold-Zext, fold-Sext, fold-Call}
use Rattle.kp_ast.proofs.Induction.{Every, induction}

-- two environments are the same at each of these names
abbrev pub AreSameOn : Env → Env → List (List ℕ) → Type 0
AreSameOn a b names = (q : List ℕ) → Contains names q → IsSameAt a b q

first : (q : List ℕ) (qs : List (List ℕ)) → Contains (q ∷ qs) q
first q qs = (0, omega arith, refl)

module _ (a b : Env) where
  on_left : (xs ys : List (List ℕ)) → AreSameOn a b (xs ++ ys) → AreSameOn a b xs
  on_left xs ys h q member = h q (Contains-append_left xs ys q member)

  on_right : (xs ys : List (List ℕ)) → AreSameOn a b (xs ++ ys) → AreSameOn a b ys
  on_right xs ys h q member = h q (Contains-append_right xs ys q member)

  abbrev Holds : Expr → Type 0
  Holds e = AreSameOn a b (names_in e) → eval a e ≡ eval b e

  abbrev all_names : List Expr → List (List ℕ)
  all_names es = flat_map (λ names. names) (map names_in es)

  parts : (es : List Expr) → Every Holds es → AreSameOn a b (all_names es) → map (eval a) es ≡ map (eval b) es
  parts [] h same = refl
  parts (e ∷ es) h same =
      let one = h.0 (on_left (names_in e) (all_names es) same) in
      let others = parts es h.1 (on_right (names_in e) (all_names es) same) in
      cc

  at : (xs ys : List (List ℕ)) → xs ≡ ys → AreSameOn a b xs → AreSameOn a b ys
  at xs ys e h = subst (AreSameOn a b) e h

  pub depends : (e : Expr) → Holds e
  depends = induction Holds (record {
    literal = λ p l same. fold-Lit _ _ _ _ p l ∙ sym (fold-Lit _ _ _ _ p l);
    name = λ p q same. fold-Name _ _ _ _ p q ∙ (at _ _ (fold-Name _ _ names_in_kind names_in_level p q) same q (first q [])).value ∙ sym (fold-Name _ _ _ _ p q);
    not_ = λ p x h same. fold-Not _ _ _ _ p x ∙ ap not_of (h (at _ _ (fold-Not _ _ names_in_kind names_in_level p x) same)) ∙ sym (fold-Not _ _ _ _ p x);
    binary = λ p op x y h k same.
        let names = at _ _ (fold-Binary _ _ names_in_kind names_in_level p op x y) same in
        let left = h (on_left (names_in x) (names_in y) names) in
        let right = k (on_right (names_in x) (names_in y) names) in
        fold-Binary _ _ _ _ p op x y ∙ ap (λ v. binary_of op v (eval a y)) left ∙ ap (λ v. binary_of op (eval b x) v) right ∙ sym (fold-Binary _ _ _ _ p op x y);
    mux = λ p t x y g h k same.
        let names = at _ _ (fold-Mux _ _ names_in_kind names_in_level p t x y) same in
        let test = g (on_left (names_in t) (names_in x ++ names_in y) names) in
        let rest = on_right (names_in t) (names_in x ++ names_in y) names in
        let left = h (on_left (names_in x) (names_in y) rest) in
        let right = k (on_right (names_in x) (names_in y) rest) in
        fold-Mux _ _ _ _ p t x y ∙ ap (λ v. mux_of v (eval a x) (eval a y)) test ∙ ap (λ v. mux_of (eval b t) v (eval a y)) left ∙ ap (λ v. mux_of (eval b t) (eval b x) v) right ∙ sym (fold-Mux _ _ _ _ p t x y);
    concat = λ p es h same. fold-Concat _ _ _ _ p es ∙ ap joined_of (parts es h (at _ _ (fold-Concat _ _ names_in_kind names_in_level p es) same)) ∙ sym (fold-Concat _ _ _ _ p es);
    slice = λ p x hi lo h same. fold-Slice _ _ _ _ p x hi lo ∙ ap (λ v. slice_of v hi lo) (h (at _ _ (fold-Slice _ _ names_in_kind names_in_level p x hi lo) same)) ∙ sym (fold-Slice _ _ _ _ p x hi lo);
    zext = λ p x width h same. fold-Zext _ _ _ _ p x width ∙ ap (λ v. zext_of v width.value) (h (at _ _ (fold-Zext _ _ names_in_kind names_in_level p x width) same)) ∙ sym (fold-Zext _ _ _ _ p x width);
    sext = λ p x width h same. fold-Sext _ _ _ _ p x width ∙ ap (λ v. sext_of v width.value) (h (at _ _ (fold-Sext _ _ names_in_kind names_in_level p x width) same)) ∙ sym (fold-Sext _ _ _ _ p x width);
    call = λ p f args h same.
        let names = at _ _ (fold-Call _ _ names_in_kind names_in_level p f args) same in
        let values = parts args h (on_right (f ∷ []) (all_names args) names) in
        fold-Call _ _ _ _ p f args ∙ (names f (first f (all_names args))).call (map (eval a) args) ∙ ap (λ vs. b.calls f vs) values ∙ sym (fold-Call _ _ _ _ p f args);
  })
