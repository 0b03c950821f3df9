-- A plan of each form, by the codes of its parts.
use Rattle.std.proofs.Common.{◌≡◌, ◌∙◌, ℕ, ◌+◌, ◌≤◌, List, Option, Some, None, Result, refl, ap, sym, subst, arith}
use Rattle.std.specs.{Prelude.sum_by, Option.option_map, Option.option_and_then, Option.option_zip}
use Rattle.kp_bits.specs.{Word.Word, Word.not_of, Checked.checked_slice, Checked.checked_zext, Checked.checked_sext, declared.operator.BinOp.BinOp}
use Rattle.kp_seq_plan.specs.declared.{plan.Plan.Plan, code.Typed.Typed, lowering.Missing.Missing}
use Rattle.kp_seq_plan.specs.{Plans.Slots, Plans.meaning, Plans.meaning_level, Plans.space, Plans.space_level, Lowering.IsTyped}
use Rattle.kp_seq_plan.specs.inner.Parts.{Lacks, Yields, GivesOne, GivesTwo, GivesMux, GivesWord, binary_found, mux_found, both_found, joined_found, call_found, call_space}
use Rattle.kp_seq_plan.proofs.Levels.{fold-Word, fold-Not, fold-Binary, fold-Mux, fold-Slice, fold-Zext, fold-Sext}
use Rattle.kp_seq_plan.proofs.{Meaning.V, Meaning.at, Meaning.meaning_parts, Meaning.meaning_call, Meaning.space_parts, Meaning.space_call, Typing.gives_same}
use Rattle.kp_seq_plan.specs.declared.plan.Plan.TheVariants as ends
use Rattle.kp_seq_plan.specs.declared.plan.Plan.TheViews as plans

-- a plan whose value is computed from that of a part
pub record HasPart (plan : Plan) (g : Option Word → Option Word) (p : Plan) : Type 0 where
  pub value : (s : Slots) → meaning plan s ≡ g (meaning p s)
  pub none : g None ≡ None
  pub space : space p ≤ space plan

module _ {plan p : Plan} where
  pub as_not : plan ≡ plans.Not p → HasPart plan (option_map not_of) p
  as_not is = subst (λ q. HasPart q (option_map not_of) p) (sym is) (record { value = λ s. at (fold-Not V meaning_level p) s; none = refl; space = omega (arith, fold-Not ℕ space_level p) })

  pub as_slice : {hi lo : ℕ} → plan ≡ plans.Slice p hi lo → HasPart plan (option_and_then (checked_slice hi lo)) p
  as_slice {hi} {lo} is = subst (λ q. HasPart q (option_and_then (checked_slice hi lo)) p) (sym is)
      (record { value = λ s. at (fold-Slice V meaning_level p hi lo) s; none = refl; space = omega (arith, fold-Slice ℕ space_level p hi lo) })

  pub as_zext : {n : ℕ} → plan ≡ plans.Zext p n → HasPart plan (option_and_then (checked_zext n)) p
  as_zext {n} is = subst (λ q. HasPart q (option_and_then (checked_zext n)) p) (sym is)
      (record { value = λ s. at (fold-Zext V meaning_level p n) s; none = refl; space = omega (arith, fold-Zext ℕ space_level p n) })

  pub as_sext : {n : ℕ} → plan ≡ plans.Sext p n → HasPart plan (option_and_then (checked_sext n)) p
  as_sext {n} is = subst (λ q. HasPart q (option_and_then (checked_sext n)) p) (sym is)
      (record { value = λ s. at (fold-Sext V meaning_level p n) s; none = refl; space = omega (arith, fold-Sext ℕ space_level p n) })

none_right : (op : BinOp) (o p : Option Word) → option_zip o p ≡ None → binary_found op o p ≡ None
none_right op None p e = refl
none_right op (Some x) None e = refl
none_right op (Some x) (Some y) e = cc

none_test : (t o p : Option Word) → t ≡ None → mux_found t o p ≡ None
none_test t o p e = ap (λ c. mux_found c o p) e

none_either : (t o p : Option Word) → option_zip o p ≡ None → mux_found t o p ≡ None
none_either None o p e = refl
none_either (Some c) None p e = refl
none_either (Some c) (Some x) None e = refl
none_either (Some c) (Some x) (Some y) e = cc

chosen : {plan : Plan} (t p q : Plan) → plan ≡ plans.Mux t p q → (s : Slots) → meaning plan s ≡ mux_found (meaning t s) (meaning p s) (meaning q s)
chosen t p q is s = ap (λ u. meaning u s) is ∙ at (fold-Mux V meaning_level t p q) s

zipped : (ws : List (Option ℕ)) {e : Missing} {p q x y : Plan} → x ≡ p → y ≡ q → Lacks ws (both_found x y) e → Lacks ws (both_found p q) e
zipped ws {e} {p} {q} {x} {y} seen seen_b m = subst (λ z. Lacks ws (both_found z q) e) seen (subst (λ z. Lacks ws (both_found x z) e) seen_b m)

module _ (ws : List (Option ℕ)) {plan : Plan} where
  same : (r : Result Typed Missing) (f : Slots → Option Word) (n : ℕ) (p : Plan) → plan ≡ p → ((s : Slots) → meaning p s ≡ f s) → n ≤ space p → Yields ws f n r → Yields ws (meaning plan) (space plan) r
  same r f n p is e l h = subst (λ q. Yields ws (meaning q) (space q) r) (sym is) (gives_same ws f (meaning p) n (space p) r e l h)

  pub arm_word : (r : Result Typed Missing) (w : Option Word) → plan ≡ ends.Word w → GivesWord w r → Yields ws (meaning plan) (space plan) r
  arm_word r w is h = same r (λ s. w) 0 (ends.Word w) is (λ s. at (fold-Word V meaning_level w) s) (omega arith) (h ws)

  pub lost_test : (p q : Plan) {t z : Plan} {e : Missing} → z ≡ t → plan ≡ plans.Mux t p q → Lacks ws (meaning z) e → Lacks ws (meaning plan) e
  lost_test p q {t} seen is m = λ k s vs suit. chosen t p q is s ∙ none_test (meaning t s) (meaning p s) (meaning q s) (ap (λ u. meaning u s) (sym seen) ∙ m k s vs suit)

  module _ {g : Option Word → Option Word} {p x : Plan} (has : HasPart plan g p) (seen : x ≡ p) where
    pub arm_one : {a : Typed} (r : Result Typed Missing) → IsTyped ws (meaning x) (space x) a → GivesOne g a r → Yields ws (meaning plan) (space plan) r
    arm_one {a} r m h = gives_same ws (λ s. g (meaning p s)) (meaning plan) (space p) (space plan) r has.value has.space (h ws (meaning p) (space p) (subst (λ q. IsTyped ws (meaning q) (space q) a) seen m))

    pub lost_one : {e : Missing} → Lacks ws (meaning x) e → Lacks ws (meaning plan) e
    lost_one m = λ q s vs suit. has.value s ∙ ap (λ y. g (meaning y s)) (sym seen) ∙ ap g (m q s vs suit) ∙ has.none

  module _ {p q x y : Plan} (seen : x ≡ p) (seen_b : y ≡ q) where
    pub arm_binary : {a b : Typed} (r : Result Typed Missing) (op : BinOp) → plan ≡ plans.Binary op p q → IsTyped ws (meaning x) (space x) a × IsTyped ws (meaning y) (space y) b
        → GivesTwo (binary_found op) a b r → Yields ws (meaning plan) (space plan) r
    arm_binary {a} {b} r op is m h = same r (λ s. binary_found op (meaning p s) (meaning q s)) (space p + space q) (plans.Binary op p q) is (λ s. at (fold-Binary V meaning_level op p q) s)
        (omega (arith, fold-Binary ℕ space_level op p q))
        (h ws (meaning p) (meaning q) (space p) (space q) (subst (λ z. IsTyped ws (meaning z) (space z) a) seen m.0) (subst (λ z. IsTyped ws (meaning z) (space z) b) seen_b m.1))

    pub lost_binary : {e : Missing} (op : BinOp) → plan ≡ plans.Binary op p q → Lacks ws (both_found x y) e → Lacks ws (meaning plan) e
    lost_binary op is m = λ k s vs suit. ap (λ z. meaning z s) is ∙ at (fold-Binary V meaning_level op p q) s ∙ none_right op (meaning p s) (meaning q s) (zipped ws seen seen_b m k s vs suit)

    module _ {t z : Plan} (seen_t : z ≡ t) (is : plan ≡ plans.Mux t p q) where
      pub arm_mux : {a b c : Typed} (r : Result Typed Missing) → IsTyped ws (meaning z) (space z) c → IsTyped ws (meaning x) (space x) a × IsTyped ws (meaning y) (space y) b
          → GivesMux c a b r → Yields ws (meaning plan) (space plan) r
      arm_mux {a} {b} {c} r l m h = same r (λ s. mux_found (meaning t s) (meaning p s) (meaning q s)) (space t + (space p + space q)) (plans.Mux t p q) is
          (λ s. at (fold-Mux V meaning_level t p q) s) (omega (arith, fold-Mux ℕ space_level t p q))
          (h ws (meaning t) (meaning p) (meaning q) (space t) (space p) (space q) (subst (λ u. IsTyped ws (meaning u) (space u) c) seen_t l)
          (subst (λ u. IsTyped ws (meaning u) (space u) a) seen m.0) (subst (λ u. IsTyped ws (meaning u) (space u) b) seen_b m.1))

      pub lost_either : {e : Missing} → Lacks ws (both_found x y) e → Lacks ws (meaning plan) e
      lost_either m = λ k s vs suit. chosen t p q is s ∙ none_either (meaning t s) (meaning p s) (meaning q s) (zipped ws seen seen_b m k s vs suit)

  pub arm_concat : {ps xs : List Plan} (r : Result Typed Missing) → plan ≡ plans.Concat ps → xs ≡ ps → Yields ws (joined_found xs) (sum_by space xs) r → Yields ws (meaning plan) (space plan) r
  arm_concat {ps} r is seen h =
      same r (joined_found ps) (sum_by space ps) (plans.Concat ps) is (meaning_parts ps) (omega (arith, space_parts ps)) (subst (λ ys. Yields ws (joined_found ys) (sum_by space ys) r) seen h)

  pub arm_call : {ps xs : List Plan} {p x : Plan} (r : Result Typed Missing) → plan ≡ plans.Call ps p → xs ≡ ps → x ≡ p → Yields ws (call_found xs (meaning x)) (call_space xs (space x)) r
      → Yields ws (meaning plan) (space plan) r
  arm_call {ps} {xs} {p} r is seen seen_p h =
      same r (call_found ps (meaning p)) (call_space ps (space p)) (plans.Call ps p) is (meaning_call ps p) (omega (arith, space_call ps p))
      (subst (λ ys. Yields ws (call_found ys (meaning p)) (call_space ys (space p)) r) seen (subst (λ y. Yields ws (call_found xs (meaning y)) (call_space xs (space y)) r) seen_p h))
