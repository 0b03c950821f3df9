-- The value and the size of an expression by those of its parts.
use Rattle.std.proofs.{Common.◌≡◌, Common.◌∙◌, Common.ℕ, Common.◌+◌, Common.List, Common.map, Common.Option, Common.ap, Common.sym, lemmas.List.Sums.sum-map}
use Rattle.std.specs.{Prelude.sum_by, Option.option_map, Option.option_and_then}
use Rattle.kp_bits.specs.Word.{Word, not_of}
use Rattle.kp_bits.specs.Checked.{checked_literal, checked_binary, checked_mux, checked_joined, checked_slice, checked_zext, checked_sext}
use Rattle.kp_bits.specs.declared.{literal.Literal.Literal, operator.BinOp.BinOp}
use Rattle.kp_ast.specs.declared.tree.{Num.Num, Expr.Expr, ExprKind.ExprKind}
use Rattle.kp_ast.specs.Checked.{Known, checked, checked_kind, checked_level, all_there}
use Rattle.kp_ast.specs.Size.{Bodies, size_with, size_of_kind, size_of_level}
use Rattle.kp_ast.proofs.Levels.{fold-Lit, fold-Name, fold-Not, fold-Binary, fold-Mux, fold-Concat, fold-Slice, fold-Zext, fold-Sext, fold-Call}
use Rattle.kp_ast.specs.declared.tree.ExprKind.TheVariants as leaf
use Rattle.kp_ast.specs.declared.tree.ExprKind.TheViews as kind

module _ (e : Expr) where
  abbrev of_kind : ExprKind → Expr
  of_kind k = record { place = e.place; kind = k }

  module _ (known : Known) where
    abbrev v : Expr → Option Word
    v = checked known

    pub value_Lit : (l : Literal) → e.kind ≡ leaf.Lit l → v e ≡ checked_literal l
    value_Lit l is = ap (λ k. v (of_kind k)) is ∙ fold-Lit _ _ (checked_kind known) checked_level e.place l

    pub value_Name : (q : List ℕ) → e.kind ≡ leaf.Name q → v e ≡ known.names q
    value_Name q is = ap (λ k. v (of_kind k)) is ∙ fold-Name _ _ (checked_kind known) checked_level e.place q

    pub value_Not : (a x : Expr) → e.kind ≡ kind.Not a → x ≡ a → v e ≡ option_map not_of (v x)
    value_Not a x is h = ap (λ k. v (of_kind k)) is ∙ fold-Not _ _ (checked_kind known) checked_level e.place a ∙ ap (λ z. option_map not_of (v z)) (sym h)

    pub value_Binary : (op : BinOp) (a b x y : Expr) → e.kind ≡ kind.Binary op a b → x ≡ a → y ≡ b → v e ≡ option_and_then (λ u. option_and_then (λ w. checked_binary op u w) (v y)) (v x)
    value_Binary op a b x y is h k =
        ap (λ k. v (of_kind k)) is ∙ fold-Binary _ _ (checked_kind known) checked_level e.place op a b
        ∙ (λ j. option_and_then (λ u. option_and_then (λ w. checked_binary op u w) (v (sym k j))) (v (sym h j)))

    pub value_Mux : (t a b s x y : Expr) → e.kind ≡ kind.Mux t a b → s ≡ t → x ≡ a → y ≡ b
        → v e ≡ option_and_then (λ i. option_and_then (λ u. option_and_then (λ w. checked_mux i u w) (v y)) (v x)) (v s)
    value_Mux t a b s x y is g h k =
        ap (λ k. v (of_kind k)) is ∙ fold-Mux _ _ (checked_kind known) checked_level e.place t a b
        ∙ (λ j. option_and_then (λ i. option_and_then (λ u. option_and_then (λ w. checked_mux i u w) (v (sym k j))) (v (sym h j))) (v (sym g j)))

    pub value_Concat : (es xs : List Expr) → e.kind ≡ kind.Concat es → xs ≡ es → v e ≡ option_and_then checked_joined (all_there (map v xs))
    value_Concat es xs is h =
        ap (λ k. v (of_kind k)) is ∙ fold-Concat _ _ (checked_kind known) checked_level e.place es ∙ ap (λ zs. option_and_then checked_joined (all_there (map v zs))) (sym h)

    pub value_Slice : (a x : Expr) (hi lo : ℕ) → e.kind ≡ kind.Slice a hi lo → x ≡ a → v e ≡ option_and_then (λ w. checked_slice hi lo w) (v x)
    value_Slice a x hi lo is h =
        ap (λ k. v (of_kind k)) is ∙ fold-Slice _ _ (checked_kind known) checked_level e.place a hi lo ∙ ap (λ z. option_and_then (λ w. checked_slice hi lo w) (v z)) (sym h)

    pub value_Zext : (a x : Expr) (n : Num) → e.kind ≡ kind.Zext a n → x ≡ a → v e ≡ option_and_then (λ w. checked_zext n.value w) (v x)
    value_Zext a x n is h =
        ap (λ k. v (of_kind k)) is ∙ fold-Zext _ _ (checked_kind known) checked_level e.place a n ∙ ap (λ z. option_and_then (λ w. checked_zext n.value w) (v z)) (sym h)

    pub value_Sext : (a x : Expr) (n : Num) → e.kind ≡ kind.Sext a n → x ≡ a → v e ≡ option_and_then (λ w. checked_sext n.value w) (v x)
    value_Sext a x n is h =
        ap (λ k. v (of_kind k)) is ∙ fold-Sext _ _ (checked_kind known) checked_level e.place a n ∙ ap (λ z. option_and_then (λ w. checked_sext n.value w) (v z)) (sym h)

    pub value_Call : (q : List ℕ) (es xs : List Expr) → e.kind ≡ kind.Call q es → xs ≡ es → v e ≡ option_and_then (known.calls q) (all_there (map v xs))
    value_Call q es xs is h =
        ap (λ k. v (of_kind k)) is ∙ fold-Call _ _ (checked_kind known) checked_level e.place q es ∙ ap (λ zs. option_and_then (known.calls q) (all_there (map v zs))) (sym h)

  -- given these sizes of the bodies of functions
  module _ (bodies : Bodies) where
    abbrev s : Expr → ℕ
    s = size_with bodies

    abbrev all : List Expr → ℕ
    all xs = sum_by (size_with bodies) xs

    pub size_Lit : (l : Literal) → e.kind ≡ leaf.Lit l → s e ≡ 1
    size_Lit l is = ap (λ k. s (of_kind k)) is ∙ fold-Lit _ _ (size_of_kind bodies) size_of_level e.place l

    pub size_Name : (q : List ℕ) → e.kind ≡ leaf.Name q → s e ≡ 1
    size_Name q is = ap (λ k. s (of_kind k)) is ∙ fold-Name _ _ (size_of_kind bodies) size_of_level e.place q

    pub size_Not : (a x : Expr) → e.kind ≡ kind.Not a → x ≡ a → s e ≡ 1 + s x
    size_Not a x is h = ap (λ k. s (of_kind k)) is ∙ fold-Not _ _ (size_of_kind bodies) size_of_level e.place a ∙ ap (λ z. 1 + s z) (sym h)

    pub size_Binary : (op : BinOp) (a b x y : Expr) → e.kind ≡ kind.Binary op a b → x ≡ a → y ≡ b → s e ≡ 1 + (s x + s y)
    size_Binary op a b x y is h k =
        ap (λ k. s (of_kind k)) is ∙ fold-Binary _ _ (size_of_kind bodies) size_of_level e.place op a b ∙ (λ j. 1 + (s (sym h j) + s (sym k j)))

    pub size_Mux : (t a b i x y : Expr) → e.kind ≡ kind.Mux t a b → i ≡ t → x ≡ a → y ≡ b → s e ≡ 1 + (s i + (s x + s y))
    size_Mux t a b i x y is g h k =
        ap (λ k. s (of_kind k)) is ∙ fold-Mux _ _ (size_of_kind bodies) size_of_level e.place t a b ∙ (λ j. 1 + (s (sym g j) + (s (sym h j) + s (sym k j))))

    pub size_Concat : (es xs : List Expr) → e.kind ≡ kind.Concat es → xs ≡ es → s e ≡ 1 + all xs
    size_Concat es xs is h =
        ap (λ k. s (of_kind k)) is ∙ fold-Concat _ _ (size_of_kind bodies) size_of_level e.place es ∙ ap (λ n. 1 + n) (sum-map s es) ∙ ap (λ zs. 1 + all zs) (sym h)

    pub size_Slice : (a x : Expr) (hi lo : ℕ) → e.kind ≡ kind.Slice a hi lo → x ≡ a → s e ≡ 1 + s x
    size_Slice a x hi lo is h = ap (λ k. s (of_kind k)) is ∙ fold-Slice _ _ (size_of_kind bodies) size_of_level e.place a hi lo ∙ ap (λ z. 1 + s z) (sym h)

    pub size_Zext : (a x : Expr) (n : Num) → e.kind ≡ kind.Zext a n → x ≡ a → s e ≡ 1 + s x
    size_Zext a x n is h = ap (λ k. s (of_kind k)) is ∙ fold-Zext _ _ (size_of_kind bodies) size_of_level e.place a n ∙ ap (λ z. 1 + s z) (sym h)

    pub size_Sext : (a x : Expr) (n : Num) → e.kind ≡ kind.Sext a n → x ≡ a → s e ≡ 1 + s x
    size_Sext a x n is h = ap (λ k. s (of_kind k)) is ∙ fold-Sext _ _ (size_of_kind bodies) size_of_level e.place a n ∙ ap (λ z. 1 + s z) (sym h)

    pub size_Call : (q : List ℕ) (es xs : List Expr) → e.kind ≡ kind.Call q es → xs ≡ es → s e ≡ 1 + (bodies q + all xs)
    size_Call q es xs is h =
        ap (λ k. s (of_kind k)) is
        ∙ fold-Call _ _ (size_of_kind bodies) size_of_level e.place q es
        ∙ ap (λ n. 1 + (bodies q + n)) (sum-map s es)
        ∙ ap (λ zs. 1 + (bodies q + all zs)) (sym h)
