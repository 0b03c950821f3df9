-- Checks of the names in expressions that pass.
use Rattle.std.proofs.Common.{◌≡◌, ◌∙◌, ℕ, zero, suc, ◌<◌, List, [], ◌∷◌, ◌++◌, map, length, get_or, Option, Some, None, Bool, true, false, refl, ap, sym, subst, arith}
use Rattle.std.{proofs.lemmas.Bool.or_left, proofs.lemmas.Bool.or_right, specs.Prelude.◌||◌, specs.Prelude.Contains, specs.List.list_any}
use Rattle.std.specs.Cmp.Lexicographic.{bytes_decides}
use Rattle.kp_base.specs.{First.first, declared.place.Place.Place}
use Rattle.kp_bits.specs.{Word.Word, Word.not_of, Word.mux_of, Word.slice_of, Word.zext_of, Word.sext_of, Operators.binary_of, Operators.joined_of}
use Rattle.kp_ast.specs.{Expressions.Env, Expressions.eval, Expressions.value_of_kind, Expressions.value_of_level, declared.tree.Expr.Expr}
use Rattle.kp_ast.specs.declared.tree.StmtKind.{StmtKind}
use Rattle.kp_ast.proofs.Levels.{fold-Lit, fold-Name, fold-Not, fold-Binary, fold-Mux, fold-Concat, fold-Slice, fold-Zext, fold-Sext, fold-Call}
use Rattle.kp_ast.proofs.Induction.{Every, induction}
use Rattle.kp_ast.specs.declared.tree.StmtKind.TheVariants as stmts
use Rattle.kp_stage.specs.{Findings.Answer, declared.rules.Rule.Rule, Facts.Facts}
use Rattle.kp_stage.specs.Rules.{ask_name, ask_kind, ask_level, ask_expr, ask_option, ask_values, ask_guesses}
use Rattle.kp_stage.specs.Uses.{listed, plain_in, guessed_in, exprs_in, uses, uses_in_kind, uses_in_level}
use Rattle.kp_stage.proofs.Unbroken.{first_none, none_of_two}

pub either : {G : Type 0} (a b : Bool) → (a || b) ≡ true → (a ≡ true → G) → (b ≡ true → G) → G
either true b e left right = left refl
either false b e left right = right e

-- environments that agree on each name that an expression uses, and on each call
module _ (a b : Env) (calls : (q : List ℕ) (args : List Word) → a.calls q args ≡ b.calls q args) where
  -- on the names that pass a test
  abbrev Agree : (List ℕ → Bool) → Type 0
  Agree test = (q : List ℕ) → test q ≡ true → a.names q ≡ b.names q

  on_left : (f g : List ℕ → Bool) → Agree (λ q. f q || g q) → Agree f
  on_left f g h q u = h q (or_left (f q) (g q) u)

  on_right : (f g : List ℕ → Bool) → Agree (λ q. f q || g q) → Agree g
  on_right f g h q u = h q (or_right (f q) (g q) u)

  abbrev used : Expr → List ℕ → Bool
  used e q = uses q e

  abbrev some_used : List Expr → List ℕ → Bool
  some_used es q = list_any (λ x. x) (map (uses q) es)

  abbrev Same : Expr → Type 0
  Same e = Agree (used e) → eval a e ≡ eval b e

  all_same : (es : List Expr) → Every Same es → Agree (some_used es) → map (eval a) es ≡ map (eval b) es
  all_same [] hs n = refl
  all_same (e ∷ es) hs n =
      let here = hs.0 (on_left (used e) (some_used es) n) in
      let more = all_same es hs.1 (on_right (used e) (some_used es) n) in
      λ i. here i ∷ more i

  pub same_value : (e : Expr) → Same e
  same_value = induction Same (record {
    literal = λ p l n. fold-Lit _ _ (value_of_kind a) value_of_level p l ∙ sym (fold-Lit _ _ (value_of_kind b) value_of_level p l);
    name = λ p q n.
        fold-Name _ _ (value_of_kind a) value_of_level p q ∙ n q (fold-Name _ _ (uses_in_kind q) uses_in_level p q ∙ (bytes_decides q q).1 refl)
        ∙ sym (fold-Name _ _ (value_of_kind b) value_of_level p q);
    not_ = λ p x h n.
        fold-Not _ _ (value_of_kind a) value_of_level p x ∙ ap not_of (h (λ q u. n q (fold-Not _ _ (uses_in_kind q) uses_in_level p x ∙ u)))
        ∙ sym (fold-Not _ _ (value_of_kind b) value_of_level p x);
    binary = λ p op x y h g n.
        let both : Agree (λ q. uses q x || uses q y) = λ q u. n q (fold-Binary _ _ (uses_in_kind q) uses_in_level p op x y ∙ u) in
        fold-Binary _ _ (value_of_kind a) value_of_level p op x y ∙ (λ i. binary_of op (h (on_left (used x) (used y) both) i) (g (on_right (used x) (used y) both) i))
        ∙ sym (fold-Binary _ _ (value_of_kind b) value_of_level p op x y);
    mux = λ p t x y f h g n.
        let rest : List ℕ → Bool = λ q. uses q x || uses q y in
        let all : Agree (λ q. uses q t || rest q) = λ q u. n q (fold-Mux _ _ (uses_in_kind q) uses_in_level p t x y ∙ u) in
        let both : Agree rest = on_right (used t) rest all in
        fold-Mux _ _ (value_of_kind a) value_of_level p t x y
        ∙ (λ i. mux_of (f (on_left (used t) rest all) i) (h (on_left (used x) (used y) both) i) (g (on_right (used x) (used y) both) i))
        ∙ sym (fold-Mux _ _ (value_of_kind b) value_of_level p t x y);
    concat = λ p es hs n.
        fold-Concat _ _ (value_of_kind a) value_of_level p es ∙ ap joined_of (all_same es hs (λ q u. n q (fold-Concat _ _ (uses_in_kind q) uses_in_level p es ∙ u)))
        ∙ sym (fold-Concat _ _ (value_of_kind b) value_of_level p es);
    slice = λ p x hi lo h n.
        fold-Slice _ _ (value_of_kind a) value_of_level p x hi lo
        ∙ ap (λ (z : Word). slice_of z hi lo) (h (λ q u. n q (fold-Slice _ _ (uses_in_kind q) uses_in_level p x hi lo ∙ u)))
        ∙ sym (fold-Slice _ _ (value_of_kind b) value_of_level p x hi lo);
    zext = λ p x w h n.
        fold-Zext _ _ (value_of_kind a) value_of_level p x w
        ∙ ap (λ (z : Word). zext_of z w.value) (h (λ q u. n q (fold-Zext _ _ (uses_in_kind q) uses_in_level p x w ∙ u)))
        ∙ sym (fold-Zext _ _ (value_of_kind b) value_of_level p x w);
    sext = λ p x w h n.
        fold-Sext _ _ (value_of_kind a) value_of_level p x w
        ∙ ap (λ (z : Word). sext_of z w.value) (h (λ q u. n q (fold-Sext _ _ (uses_in_kind q) uses_in_level p x w ∙ u)))
        ∙ sym (fold-Sext _ _ (value_of_kind b) value_of_level p x w);
    call = λ p f es hs n.
        fold-Call _ _ (value_of_kind a) value_of_level p f es
        ∙ ap (a.calls f) (all_same es hs (λ q u. n q (fold-Call _ _ (uses_in_kind q) uses_in_level p f es ∙ u)))
        ∙ calls f (map (eval b) es)
        ∙ sym (fold-Call _ _ (value_of_kind b) value_of_level p f es);
  })

module _ (facts : Facts) (rule : Rule) (k : ℕ) where
  abbrev asked : Expr → Answer
  asked = ask_expr facts rule k

  -- a rule that each name keeps
  pub no_name : ((q : List ℕ) (at : Place) → ask_name facts rule k q at ≡ None) → (e : Expr) → asked e ≡ None
  no_name none = induction (λ e. asked e ≡ None) (record {
    literal = λ p l. fold-Lit _ _ (ask_kind facts rule k) ask_level p l;
    name = λ p q. fold-Name _ _ (ask_kind facts rule k) ask_level p q ∙ none q p;
    not_ = λ p a h. fold-Not _ _ (ask_kind facts rule k) ask_level p a ∙ h;
    binary = λ p op a b h g. fold-Binary _ _ (ask_kind facts rule k) ask_level p op a b ∙ (λ i. first (h i ∷ g i ∷ []));
    mux = λ p t a b f h g. fold-Mux _ _ (ask_kind facts rule k) ask_level p t a b ∙ (λ i. first (f i ∷ h i ∷ g i ∷ []));
    concat = λ p es hs. fold-Concat _ _ (ask_kind facts rule k) ask_level p es ∙ each es hs;
    slice = λ p a hi lo h. fold-Slice _ _ (ask_kind facts rule k) ask_level p a hi lo ∙ h;
    zext = λ p a n h. fold-Zext _ _ (ask_kind facts rule k) ask_level p a n ∙ h;
    sext = λ p a n h. fold-Sext _ _ (ask_kind facts rule k) ask_level p a n ∙ h;
    call = λ p f es hs. fold-Call _ _ (ask_kind facts rule k) ask_level p f es ∙ each es hs;
  })
    where
      each : (es : List Expr) → Every (λ e. asked e ≡ None) es → first (map asked es) ≡ None
      each [] hs = refl
      each (e ∷ es) hs = ap (λ x. first (x ∷ map asked es)) hs.0 ∙ each es hs.1

  -- a name that an expression uses
  module _ (q : List ℕ) where
    abbrev Unanswered : Type 0
    Unanswered = (at : Place) × (ask_name facts rule k q at ≡ None)

    abbrev IsAsked : Expr → Type 0
    IsAsked e = uses q e ≡ true → asked e ≡ None → Unanswered

    some_asked : (es : List Expr) → Every IsAsked es → list_any (λ x. x) (map (uses q) es) ≡ true → first (map asked es) ≡ None → Unanswered
    some_asked [] hs u n = cc
    some_asked (e ∷ es) hs u n =
        let both = first_none (asked e) (map asked es) n in
        either (uses q e) (list_any (λ x. x) (map (uses q) es)) u (λ y. hs.0 y both.0) (λ y. some_asked es hs.1 y both.1)

    pub name_asked : (e : Expr) → IsAsked e
    name_asked = induction IsAsked (record {
      literal = λ p l u n. let no : false ≡ true = sym (fold-Lit _ _ (uses_in_kind q) uses_in_level p l) ∙ u in cc;
      name = λ p name u n.
          let same : q ≡ name = (bytes_decides q name).0 (sym (fold-Name _ _ (uses_in_kind q) uses_in_level p name) ∙ u) in
          (p, ap (λ x. ask_name facts rule k x p) same ∙ sym (fold-Name _ _ (ask_kind facts rule k) ask_level p name) ∙ n);
      not_ = λ p a h u n. h (sym (fold-Not _ _ (uses_in_kind q) uses_in_level p a) ∙ u) (sym (fold-Not _ _ (ask_kind facts rule k) ask_level p a) ∙ n);
      binary = λ p op a b h g u n.
          let both = none_of_two (asked a) (asked b) (sym (fold-Binary _ _ (ask_kind facts rule k) ask_level p op a b) ∙ n) in
          either (uses q a) (uses q b) (sym (fold-Binary _ _ (uses_in_kind q) uses_in_level p op a b) ∙ u) (λ y. h y both.0) (λ y. g y both.1);
      mux = λ p t a b f h g u n.
          let all = first_none (asked t) (asked a ∷ asked b ∷ []) (sym (fold-Mux _ _ (ask_kind facts rule k) ask_level p t a b) ∙ n) in
          let both = none_of_two (asked a) (asked b) all.1 in
          either (uses q t) (uses q a || uses q b) (sym (fold-Mux _ _ (uses_in_kind q) uses_in_level p t a b) ∙ u)
          (λ y. f y all.0)
          (λ y. either (uses q a) (uses q b) y (λ z. h z both.0) (λ z. g z both.1));
      concat = λ p es hs u n. some_asked es hs (sym (fold-Concat _ _ (uses_in_kind q) uses_in_level p es) ∙ u) (sym (fold-Concat _ _ (ask_kind facts rule k) ask_level p es) ∙ n);
      slice = λ p a hi lo h u n. h (sym (fold-Slice _ _ (uses_in_kind q) uses_in_level p a hi lo) ∙ u) (sym (fold-Slice _ _ (ask_kind facts rule k) ask_level p a hi lo) ∙ n);
      zext = λ p a w h u n. h (sym (fold-Zext _ _ (uses_in_kind q) uses_in_level p a w) ∙ u) (sym (fold-Zext _ _ (ask_kind facts rule k) ask_level p a w) ∙ n);
      sext = λ p a w h u n. h (sym (fold-Sext _ _ (uses_in_kind q) uses_in_level p a w) ∙ u) (sym (fold-Sext _ _ (ask_kind facts rule k) ask_level p a w) ∙ n);
      call = λ p name es hs u n. some_asked es hs (sym (fold-Call _ _ (uses_in_kind q) uses_in_level p name es) ∙ u) (sym (fold-Call _ _ (ask_kind facts rule k) ask_level p name es) ∙ n);
    })

  -- the expressions of a statement
  none_append : (xs ys : List Expr) → first (map asked xs) ≡ None → first (map asked ys) ≡ None → first (map asked (xs ++ ys)) ≡ None
  none_append [] ys e f = f
  none_append (x ∷ xs) ys e f =
      let both = first_none (asked x) (map asked xs) e in
      ap (λ o. first (o ∷ map asked (xs ++ ys))) both.0 ∙ none_append xs ys both.1 f

  none_listed : (o : Option Expr) → ask_option facts rule k o ≡ None → first (map asked (listed o)) ≡ None
  none_listed None e = refl
  none_listed (Some x) e = ap (λ o. first (o ∷ [])) e

  pub plain_asked : (s : StmtKind) → ask_values facts rule k s ≡ None → first (map asked (plain_in s)) ≡ None
  plain_asked (stmts.Read r) e =
      let both = none_of_two (ask_option facts rule k r.address) (ask_option facts rule k r.when) e in
      none_append (listed r.address) (listed r.when) (none_listed r.address both.0) (none_listed r.when both.1)
  plain_asked (stmts.Set n x when) e =
      let both = none_of_two (asked x) (ask_option facts rule k when) e in
      ap (λ o. first (o ∷ map asked (listed when))) both.0 ∙ none_listed when both.1
  plain_asked (stmts.Aim n x) e = refl
  plain_asked x e = ap (λ o. first (o ∷ [])) e

  guessed_asked : (s : StmtKind) → ask_guesses facts rule k s ≡ None → first (map asked (guessed_in s)) ≡ None
  guessed_asked (stmts.Read r) e = none_listed r.guess e
  guessed_asked (stmts.Aim n x) e = ap (λ o. first (o ∷ [])) e
  guessed_asked x e = refl

  pub exprs_asked : (s : StmtKind) → first (ask_values facts rule k s ∷ ask_guesses facts rule k s ∷ []) ≡ None → first (map asked (exprs_in s)) ≡ None
  exprs_asked s e =
      let both = none_of_two (ask_values facts rule k s) (ask_guesses facts rule k s) e in
      none_append (plain_in s) (guessed_in s) (plain_asked s both.0) (guessed_asked s both.1)

  none_at : (es : List Expr) (e : Expr) (i : ℕ) → i < length es → get_or es i e ≡ e → first (map asked es) ≡ None → asked e ≡ None
  none_at [] e i l is n = absurd (omega arith)
  none_at (x ∷ es) e zero l is n = subst (λ y. asked y ≡ None) is (first_none (asked x) (map asked es) n).0
  none_at (x ∷ es) e (suc i) l is n = none_at es e i (omega arith) is (first_none (asked x) (map asked es) n).1

  -- each of them
  pub one_asked : (es : List Expr) (e : Expr) → Contains es e → first (map asked es) ≡ None → asked e ≡ None
  one_asked es e c n = none_at es e c.0 c.1 c.2 n
