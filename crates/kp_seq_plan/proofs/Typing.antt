-- A code of each form has the values of a plan of that form, if its parts do.
use Rattle.std.proofs.Common.{◌≡◌, ◌≢◌, ◌∙◌, ℕ, zero, suc, ◌+◌, ◌-◌, ◌/◌, ◌%◌, ◌^◌, ◌<◌, ◌≤◌, ◌==◌, List, [], ◌∷◌, ◌++◌, Option, Some, None, Bool, true, false, cond, length, get_or, take, drop, map, refl, ap, sym, subst, arith, ⊎_elim, ◌⊎◌, ◌||◌, Result, Ok, Err, IfOk, IsErrAnd, MatchResult}
use Rattle.std.proofs.lemmas.Bool.{cond_both}
use Rattle.std.proofs.lemmas.List.{take_more, drop_more, drop_all, get_or_past, length-map, get_or-map, Sums.sum_by-cons}
use Rattle.std.{proofs.lemmas.Result.err_from_is_err_and, specs.Prelude.sum_by, specs.Prelude.slice_index, specs.Prelude.nat_le}
use Rattle.std.specs.Option.{option_map, option_and_then, option_zip}
use Rattle.kp_base.specs.declared.outside.NoMemory.{NoMemory}
use Rattle.kp_bits.specs.{Word.Word, Word.word, Word.IsWord, Word.not_of, Word.concat_of, Operators.is_shift, Operators.is_comparison, Operators.result_width}
use Rattle.kp_bits.specs.Checked.{checked_join, checked_joined, checked_slice, checked_zext, checked_sext}
use Rattle.kp_bits.specs.declared.operator.BinOp.{BinOp}
use Rattle.kp_ast.specs.Checked.{all_there}
use Rattle.kp_seq_plan.specs.inner.Parts.{AreTyped, Absent, Lacks, Yields, IsCode, GivesOne, GivesTwo, GivesMux, GivesWord, JoinedYet, Replaces, IsMask, binary_found, mux_found, join_found, both_found, values_in, joined_found, joined_below, call_found, call_space}
use Rattle.kp_seq_plan.proofs.Numbers.{binary_held, binary_fails, mux_held, mux_narrow, mux_other, join_held, join_fails, slice_held, slice_fails, zext_held, zext_fails, sext_held, sext_fails, not_held, top_is, more_is}
use Rattle.kp_seq_plan.specs.{declared.plan.Plan.Plan, declared.code.Code.Code, declared.code.Typed.Typed, declared.lowering.Missing.Missing, Names.at_place}
use Rattle.kp_seq_plan.specs.{Plans.Slots, Plans.meaning, Plans.space, Codes.value_of, Codes.value_level, Codes.space_of, Codes.space_level}
use Rattle.kp_seq_plan.specs.Lowering.{Holds, Suits, AllSuit, IsTyped}
use Rattle.kp_seq_plan.proofs.CodeCalls.{N, at, space_called, value_called}
use Rattle.kp_seq_plan.proofs.CodeLevels.{code-Word, code-Name, code-Not, code-Binary, code-Mux, code-Join, code-Slice, code-Sext}
use Rattle.kp_seq_plan.specs.declared.code.Code.TheVariants as leaf
use Rattle.kp_seq_plan.specs.declared.code.Code.TheViews as codes
use Rattle.kp_seq_plan.specs.declared.lowering.Missing.TheVariants as missing

abbrev pub typed : Code → ℕ → Typed
typed c w = record { code = c; width = w }

-- a number that a code has is held
pub held_as : (o : Option Word) (w a b : ℕ) → a ≡ b → Holds o w b → Holds o w a
held_as o w a b e h = subst (Holds o w) (sym e) h

-- a code that replaces another, with its width
pub made : (ws : List (Option ℕ)) (f : Slots → Option Word) (n : ℕ) (d : Code) (w : ℕ) (code : Result Code NoMemory) (r : Result Typed Missing)
    → IfOk code (λ c. Replaces c d) → IsCode code w r → IsTyped ws f n (typed d w) → Yields ws f n r
made ws f n d w code (Ok t) h k is =
    let one : Replaces t.code d = subst (λ x. IfOk x (λ c. Replaces c d)) k.0 h in
    subst (λ m. IsTyped ws f n (typed t.code m)) (sym k.1) (record {
      positive = is.positive;
      at_most = is.at_most;
      value = λ s vs suit. held_as (f s) w _ _ (one.values vs) (is.value s vs suit);
      space = let x = one.space in let y = is.space in omega (arith, x, y);
    })
made ws f n d w code (Err e) h k is = λ q. absurd (cc (k, q))

-- one part
one_fails : (g : Option Word → Option Word) (a : Typed) → ((o : Option Word) (x : ℕ) → Holds o a.width x → g o ≡ None) → GivesOne g a (Err missing.Value)
one_fails g a h = λ ws f n t q s vs suit. h (f s) (value_of a.code vs) (t.value s vs suit)

-- what has the values of an operation on a part
abbrev MakesOne : (Option Word → Option Word) → Typed → Typed → Type 0
MakesOne g a c = (ws : List (Option ℕ)) (f : Slots → Option Word) (n : ℕ) → IsTyped ws f n a → IsTyped ws (λ s. g (f s)) n c

one_held : (g : Option Word → Option Word) (a c : Typed) → (1 ≤ a.width → 1 ≤ c.width) → (a.width ≤ 64 → c.width ≤ 64) → space_of c.code ≤ space_of a.code
    → ((o : Option Word) (vs : List ℕ) → Holds o a.width (value_of a.code vs) → Holds (g o) c.width (value_of c.code vs)) → MakesOne g a c
one_held g a c low high room h = λ ws f n t. record {
  positive = low t.positive;
  at_most = high t.at_most;
  value = λ s vs suit. h (f s) vs (t.value s vs suit);
  space = let r = t.space in omega (arith, r, room);
}

pub not_gives : (x : Typed) (m : ℕ) → IsMask x.width m → MakesOne (option_map not_of) x (typed (codes.Not x.code m) x.width)
not_gives x m k =
    one_held (option_map not_of) x (typed (codes.Not x.code m) x.width) (λ l. l) (λ l. l) (omega (arith, code-Not ℕ space_level x.code m))
    (λ o vs h. held_as (option_map not_of o) x.width _ _ (at (code-Not N value_level x.code m) vs) (not_held o x.width (value_of x.code vs) m h (k h.word.positive h.word.at_most)))

pub slice_wrong : (hi lo : ℕ) (x : Typed) → (hi < lo) ⊎ (x.width ≤ hi) → GivesOne (option_and_then (checked_slice hi lo)) x (Err missing.Value)
slice_wrong hi lo x l = one_fails (option_and_then (checked_slice hi lo)) x (λ o v held. slice_fails o x.width v hi lo held l)

pub slice_gives : (hi lo : ℕ) (x : Typed) (w m : ℕ) → lo ≤ hi → hi < x.width → w ≡ hi - lo + 1 → IsMask w m → MakesOne (option_and_then (checked_slice hi lo)) x (typed (codes.Slice x.code lo m) w)
slice_gives hi lo x w m l k more mask =
    let is : w ≡ hi + 1 - lo = omega (arith, more, l) in
    subst (λ n. MakesOne (option_and_then (checked_slice hi lo)) x (typed (codes.Slice x.code lo m) n)) (sym is)
    (one_held (option_and_then (checked_slice hi lo)) x (typed (codes.Slice x.code lo m) (hi + 1 - lo)) (λ z. omega arith) (λ z. omega arith) (omega (arith, code-Slice ℕ space_level x.code lo m))
    (λ o vs h.
    let most = h.word.at_most in
    let b : m ≡ 2 ^ (hi + 1 - lo) - 1 = mask (omega arith) (omega arith) ∙ ap (λ n. 2 ^ n - 1) is in
    held_as (option_and_then (checked_slice hi lo) o) (hi + 1 - lo) _ _ (at (code-Slice N value_level x.code lo m) vs) (slice_held o x.width (value_of x.code vs) hi lo m h l k b)))

pub zext_wrong : (n : ℕ) (x : Typed) → (n < x.width) ⊎ (64 < n) → GivesOne (option_and_then (checked_zext n)) x (Err missing.Value)
zext_wrong n x l = one_fails (option_and_then (checked_zext n)) x (λ o v held. zext_fails o x.width v n held l)

pub zext_gives : (n : ℕ) (x : Typed) → x.width ≤ n → n ≤ 64 → GivesOne (option_and_then (checked_zext n)) x (Ok (typed x.code n))
zext_gives n x l k =
    one_held (option_and_then (checked_zext n)) x (typed x.code n) (λ z. omega arith) (λ z. k) (omega arith) (λ o vs h. zext_held o x.width (value_of x.code vs) n h l k)

pub sext_wrong : (n : ℕ) (x : Typed) → (n < x.width) ⊎ (64 < n) → GivesOne (option_and_then (checked_sext n)) x (Err missing.Value)
sext_wrong n x l = one_fails (option_and_then (checked_sext n)) x (λ o v held. sext_fails o x.width v n held l)

pub sext_gives : (n : ℕ) (x : Typed) (narrow wide top more : ℕ) → x.width ≤ n → n ≤ 64 → IsMask x.width narrow → IsMask n wide
    → top ≡ narrow / 2 → more ≡ (wide + (2 ^ 64 - narrow)) % 2 ^ 64 → MakesOne (option_and_then (checked_sext n)) x (typed (codes.Sext x.code top more) n)
sext_gives n x narrow wide top more l k u v t m =
    one_held (option_and_then (checked_sext n)) x (typed (codes.Sext x.code top more) n) (λ z. omega arith) (λ z. k) (omega (arith, code-Sext ℕ space_level x.code top more))
    (λ o vs h.
    let low = h.word.positive in
    let b : narrow ≡ 2 ^ x.width - 1 = u low h.word.at_most in
    let c : wide ≡ 2 ^ n - 1 = v (omega arith) k in
    held_as (option_and_then (checked_sext n) o) n _ _ (at (code-Sext N value_level x.code top more) vs)
    (sext_held o x.width (value_of x.code vs) n top more h l k (t ∙ top_is x.width narrow low b) (m ∙ more_is x.width n wide narrow l k c b)))

-- two parts
two_fails : (g : Option Word → Option Word → Option Word) (a b : Typed) → ((o p : Option Word) (x y : ℕ) → Holds o a.width x → Holds p b.width y → g o p ≡ None) → GivesTwo g a b (Err missing.Value)
two_fails g a b e = λ ws f h n m s t q slots vs suit. e (f slots) (h slots) (value_of a.code vs) (value_of b.code vs) (s.value slots vs suit) (t.value slots vs suit)

abbrev MakesTwo : (Option Word → Option Word → Option Word) → Typed → Typed → Typed → Type 0
MakesTwo g a b c =
    (ws : List (Option ℕ)) (f h : Slots → Option Word) (n m : ℕ) → IsTyped ws f n a → IsTyped ws h m b → IsTyped ws (λ s. g (f s) (h s)) (n + m) c

two_held : (g : Option Word → Option Word → Option Word) (a b c : Typed) → (1 ≤ a.width → 1 ≤ c.width) → (a.width ≤ 64 → c.width ≤ 64) → space_of c.code ≤ space_of a.code + space_of b.code
    → ((o p : Option Word) (vs : List ℕ) → Holds o a.width (value_of a.code vs) → Holds p b.width (value_of b.code vs) → Holds (g o p) c.width (value_of c.code vs))
    → MakesTwo g a b c
two_held g a b c low high room e = λ ws f h n m s t. record {
  positive = low s.positive;
  at_most = high s.at_most;
  value = λ slots vs suit. e (f slots) (h slots) vs (s.value slots vs suit) (t.value slots vs suit);
  space = let q = s.space in let r = t.space in omega (arith, q, r, room);
}

pub binary_wrong : (op : BinOp) (x y : Typed) → (is_shift op || x.width == y.width) ≡ false → GivesTwo (binary_found op) x y (Err missing.Value)
binary_wrong op x y n = two_fails (binary_found op) x y (λ o p u v h k. binary_fails op o p x.width y.width u v h k n)

low_width : (op : BinOp) (w : ℕ) → 1 ≤ w → 1 ≤ result_width op w
low_width op w h = cond_both (is_comparison op) 1 w (λ x. 1 ≤ x) (λ _. omega arith) (λ _. h)

high_width : (op : BinOp) (w : ℕ) → w ≤ 64 → result_width op w ≤ 64
high_width op w h = cond_both (is_comparison op) 1 w (λ x. x ≤ 64) (λ _. omega arith) (λ _. h)

pub binary_gives : (op : BinOp) (x y : Typed) (m : ℕ) → (is_shift op || x.width == y.width) ≡ true → IsMask x.width m
    → MakesTwo (binary_found op) x y (typed (codes.Binary op x.code y.code x.width m) (result_width op x.width))
binary_gives op x y m same mask =
    let c : Code = codes.Binary op x.code y.code x.width m in
    two_held (binary_found op) x y (typed c (result_width op x.width)) (low_width op x.width) (high_width op x.width) (omega (arith, code-Binary ℕ space_level op x.code y.code x.width m))
    (λ o p vs h k.
    held_as (binary_found op o p) (result_width op x.width) _ _ (at (code-Binary N value_level op x.code y.code x.width m) vs)
    (binary_held o p x.width y.width (value_of x.code vs) (value_of y.code vs) m h k (mask h.word.positive h.word.at_most) op same))

pub join_over : (x y : Typed) → (64 < x.width) ⊎ (64 - x.width < y.width) → GivesTwo join_found x y (Err missing.Value)
join_over x y l =
    two_fails join_found x y (λ o p u v h k. join_fails o p x.width y.width u v h k (⊎_elim (λ (m : 64 < x.width). omega arith) (λ (m : 64 - x.width < y.width). omega arith) l))

pub join_gives : (x y : Typed) → x.width ≤ 64 → y.width ≤ 64 - x.width → MakesTwo join_found x y (typed (codes.Join x.code y.code y.width) (x.width + y.width))
join_gives x y one two =
    two_held join_found x y (typed (codes.Join x.code y.code y.width) (x.width + y.width)) (λ z. omega arith) (λ z. omega arith) (omega (arith, code-Join ℕ space_level x.code y.code y.width))
    (λ o p vs h k.
    held_as (join_found o p) (x.width + y.width) _ _ (at (code-Join N value_level x.code y.code y.width) vs)
    (join_held o p x.width y.width (value_of x.code vs) (value_of y.code vs) h k (omega arith)))

-- a choice
pub mux_wrong : (z x y : Typed) → (z.width ≢ 1) ⊎ (x.width ≢ y.width) → GivesMux z x y (Err missing.Value)
mux_wrong z x y k = λ ws f g h l n m u v w e s vs suit. ⊎_elim
    (λ (q : z.width ≢ 1). mux_narrow (f s) (g s) (h s) z.width x.width y.width (value_of z.code vs) (value_of x.code vs) (value_of y.code vs) (u.value s vs suit) (v.value s vs suit) (w.value s vs suit) q)
    (λ (q : x.width ≢ y.width). mux_other (f s) (g s) (h s) z.width x.width y.width (value_of z.code vs) (value_of x.code vs) (value_of y.code vs) (u.value s vs suit) (v.value s vs suit) (w.value s vs suit) q) k

pub mux_gives : (z x y : Typed) → z.width ≡ 1 → x.width ≡ y.width → (ws : List (Option ℕ)) (t f g : Slots → Option Word) (l n m : ℕ) → IsTyped ws t l z → IsTyped ws f n x → IsTyped ws g m y
    → IsTyped ws (λ s. mux_found (t s) (f s) (g s)) (l + (n + m)) (typed (codes.Mux z.code x.code y.code) x.width)
mux_gives z x y one same ws f g h l n m u v w = record {
  positive = v.positive;
  at_most = v.at_most;
  value = λ s vs suit.
      held_as (mux_found (f s) (g s) (h s)) x.width _ _ (at (code-Mux N value_level z.code x.code y.code) vs)
      (mux_held (f s) (g s) (h s) z.width x.width y.width (value_of z.code vs) (value_of x.code vs) (value_of y.code vs) (u.value s vs suit) (v.value s vs suit) (w.value s vs suit) one same);
  space = let i = u.space in let j = v.space in let k = w.space in omega (arith, i, j, k, code-Mux ℕ space_level z.code x.code y.code);
}

-- a word, and a name
pub word_gives : (w : Word) (v n : ℕ) → IsWord w → v ≡ w.value → n ≡ w.width → GivesWord (Some w) (Ok (typed (leaf.Word v) n))
word_gives w v n h e k = λ ws. record {
  positive = let p = h.positive in omega (arith, k, p);
  at_most = let p = h.at_most in omega (arith, k, p);
  value = λ s vs suit. held_as (Some w) n _ _ (at (code-Word N value_level v) vs ∙ e)
      (subst (λ m. Holds (Some w) m w.value) (sym k) (record { there = refl; word = h }));
  space = omega (arith, code-Word ℕ space_level v);
}

suits_at : (ws : List (Option ℕ)) (slots : Slots) (vs : List ℕ) (i : ℕ) → AllSuit ws slots vs → Suits (get_or ws i None) (get_or slots i None) (slice_index vs i)
suits_at [] slots vs i h = ap (λ s. get_or s i None) h.0
suits_at (w ∷ ws) (s ∷ slots) (v ∷ vs) zero h = h.0
suits_at (w ∷ ws) (s ∷ slots) (v ∷ vs) (suc i) h = suits_at ws slots vs i h.1
suits_at _ _ _ i h = absurd h

pub word_nowhere : (w : Option Word) → w ≡ None → GivesWord w (Err missing.Value)
word_nowhere w e = λ ws q s vs suit. e

pub name_gives : (ws : List (Option ℕ)) (o : Option ℕ) (i w : ℕ) → o ≡ Some i → get_or ws i None ≡ Some w → 1 ≤ w → w ≤ 64
    → IsTyped ws (λ s. at_place s o) 0 (typed (leaf.Name i) w)
name_gives ws o i w e is l k = subst (λ p. IsTyped ws (λ s. at_place s p) 0 (typed (leaf.Name i) w)) (sym e) (record {
  positive = l;
  at_most = k;
  value = λ s vs suit.
      let h : Suits (Some w) (get_or s i None) (slice_index vs i) = subst (λ x. Suits x (get_or s i None) (slice_index vs i)) is (suits_at ws s vs i suit) in
      held_as (get_or s i None) w _ _ (at (code-Name N value_level i) vs) h;
  space = omega (arith, code-Name ℕ space_level i);
})

pub name_nowhere : (ws : List (Option ℕ)) (o : Option ℕ) → o ≡ None → Absent ws (λ s. at_place s o)
name_nowhere ws o e = λ s vs suit. ap (at_place s) e

pub name_unknown : (ws : List (Option ℕ)) (o : Option ℕ) (i : ℕ) → o ≡ Some i → get_or ws i None ≡ None → Absent ws (λ s. at_place s o)
name_unknown ws o i e is = λ s vs suit. ap (at_place s) e ∙ subst (λ x. Suits x (get_or s i None) (slice_index vs i)) is (suits_at ws s vs i suit)

pub name_past : (ws : List (Option ℕ)) (o : Option ℕ) (i : ℕ) → o ≡ Some i → length ws ≤ i → Absent ws (λ s. at_place s o)
name_past ws o i e l = name_unknown ws o i e (get_or_past ws i None l)

-- no word has such a width
pub name_wrong : (ws : List (Option ℕ)) (o : Option ℕ) (i w : ℕ) → o ≡ Some i → get_or ws i None ≡ Some w → (w ≡ 0) ⊎ (64 < w) → Absent ws (λ s. at_place s o)
name_wrong ws o i w e is bad = λ s vs suit.
    let h : Suits (Some w) (get_or s i None) (slice_index vs i) = subst (λ x. Suits x (get_or s i None) (slice_index vs i)) is (suits_at ws s vs i suit) in
    let least = h.word.positive in let most = h.word.at_most in
    absurd (⊎_elim (λ (z : w ≡ 0). omega arith) (λ (z : 64 < w). omega arith) bad)

-- concatenations
join_more : (a b : Word) (vs : List Word) → checked_join a (b ∷ vs) ≡ option_and_then (λ x. checked_join x vs) (checked_join a (b ∷ []))
join_more a b vs = choose (nat_le (a.width + b.width) 64)
  where
    choose : (c : Bool) → cond c (checked_join (concat_of a b) vs) None ≡ option_and_then (λ x. checked_join x vs) (cond c (Some (concat_of a b)) None)
    choose true = refl
    choose false = refl

nothing_below : (o : Option Word) → option_and_then (λ (x : Word). option_and_then (checked_join x) None) o ≡ None
nothing_below None = refl
nothing_below (Some x) = refl

below_by : (a b : Word) (os : Option (List Word)) → option_and_then (checked_join a) (option_map (λ xs. b ∷ xs) os) ≡ option_and_then (λ x. option_and_then (checked_join x) os) (checked_join a (b ∷ []))
below_by a b None = sym (nothing_below (checked_join a (b ∷ [])))
below_by a b (Some vs) = join_more a b vs

below_more : (o p : Option Word) (os : List (Option Word)) → option_and_then (λ a. option_and_then (checked_join a) (all_there (p ∷ os))) o ≡ option_and_then (λ x. option_and_then (checked_join x) (all_there os)) (join_found o p)
below_more None p os = refl
below_more (Some a) None os = refl
below_more (Some a) (Some b) os = below_by a b (all_there os)

pub gives_same : (ws : List (Option ℕ)) (f g : Slots → Option Word) (n m : ℕ) (r : Result Typed Missing) → ((s : Slots) → g s ≡ f s) → n ≤ m → Yields ws f n r → Yields ws g m r
gives_same ws f g n m (Err x) e l h = λ q s vs suit. e s ∙ h q s vs suit
gives_same ws f g n m (Ok c) e l h = record {
  positive = h.positive;
  at_most = h.at_most;
  value = λ s vs suit. subst (λ o. Holds o c.width (value_of c.code vs)) (sym (e s)) (h.value s vs suit);
  space = let r = h.space in omega (arith, r, l);
}

-- what the exit of a `?` returns
pub out : {T X : Type 0} (ws : List (Option ℕ)) {e : Missing} (R : T → Type 0) (f : Slots → Option X) (r : Result T Missing) → IsErrAnd r (λ y. y ≡ e) → Lacks ws f e → MatchResult r R (Lacks ws f)
out ws R f r h m = let p = err_from_is_err_and r h in rw (p.1, p.2) m

none_more : (o : Option Word) → option_and_then (λ (a : Word). Some a) o ≡ o
none_more None = refl
none_more (Some a) = refl

first_below : (o : Option Word) (os : Option (List Word)) → option_and_then checked_joined (option_and_then (λ x. option_map (λ xs. x ∷ xs) os) o) ≡ option_and_then (λ a. option_and_then (checked_join a) os) o
first_below None os = refl
first_below (Some x) None = refl
first_below (Some x) (Some vs) = refl

first_there : (o : Option Word) (os : List (Option Word)) → option_and_then checked_joined (all_there (o ∷ os)) ≡ option_and_then (λ a. option_and_then (checked_join a) (all_there os)) o
first_there None os = refl
first_there (Some x) os = first_below (Some x) (all_there os)

none_below : (o : Option Word) → join_found o None ≡ None
none_below None = refl
none_below (Some w) = refl

-- a part that has no value
none_joined : (o : Option Word) (os : Option (List Word)) → o ≡ None → option_and_then (λ a. option_and_then (checked_join a) os) o ≡ None
none_joined o os e = ap (option_and_then (λ a. option_and_then (checked_join a) os)) e

-- the first part
module _ (ws : List (Option ℕ)) {ps : List Plan} {p : Plan} {rest : List Plan} (first : ps ≡ p ∷ rest) where
  pub joined_first : {c : Typed} → IsTyped ws (meaning p) (space p) c → JoinedYet ws ps rest c
  joined_first {c} h = subst (λ xs. JoinedYet ws xs rest c) (sym first) (record {
    found = meaning p;
    room = space p;
    typed = h;
    same = λ s. first_there (meaning p s) (map (λ q. meaning q s) rest);
    few = omega (arith, sum_by-cons space p rest);
  })

  pub first_lacks : {e : Missing} → Lacks ws (meaning p) e → Lacks ws (joined_found ps) e
  first_lacks k = λ q s vs suit. ap (λ xs. joined_found xs s) first ∙ first_there (meaning p s) (map (λ x. meaning x s) rest) ∙ none_joined _ _ (k q s vs suit)

-- from one part to the next
module _ {ws : List (Option ℕ)} {ps : List Plan} {all : Typed} (rest : List Plan) (i : ℕ) (h : JoinedYet ws ps (drop i rest) all) where
  module _ (p : Plan) (l : i < length rest) (here : p ≡ get_or rest i p) where
    abbrev both : Slots → Option Word
    both s = join_found (h.found s) (meaning p s)

    left : drop i rest ≡ p ∷ drop (i + 1) rest
    left = drop_more rest i p l ∙ ap (λ x. x ∷ drop (i + 1) rest) (sym here)

    step : (s : Slots) → joined_found ps s ≡ joined_below both (drop (i + 1) rest) s
    step s = h.same s ∙ ap (λ xs. joined_below h.found xs s) left ∙ below_more (h.found s) (meaning p s) (map (λ q. meaning q s) (drop (i + 1) rest))

    pub joined_lacks : {e : Missing} → Lacks ws (meaning p) e → Lacks ws (joined_found ps) e
    joined_lacks k = λ q s vs suit. step s ∙ none_joined _ _ (ap (join_found (h.found s)) (k q s vs suit) ∙ none_below (h.found s))

    module _ {low : Typed} (part : IsTyped ws (meaning p) (space p) low) where
      pub joined_next : {c : Typed} → GivesTwo join_found all low (Ok c) → JoinedYet ws ps (drop (i + 1) rest) c
      joined_next two = record {
        found = both;
        room = h.room + space p;
        typed = two ws h.found (meaning p) h.room (space p) h.typed part;
        same = step;
        few = let m = h.few in omega (arith, m, ap (sum_by space) left, sum_by-cons space p (drop (i + 1) rest));
      }

      pub joined_over : {e : Missing} → GivesTwo join_found all low (Err e) → Lacks ws (joined_found ps) e
      joined_over two = λ q s vs suit. step s ∙ none_joined _ _ (two ws h.found (meaning p) h.room (space p) h.typed part q s vs suit)

  pub joined_all : length rest ≤ i → IsTyped ws (joined_found ps) (sum_by space ps) all
  joined_all l = gives_same ws h.found (joined_found ps) h.room (sum_by space ps) (Ok all)
      (λ s. h.same s ∙ ap (λ xs. joined_below h.found xs s) (drop_all i rest l) ∙ none_more (h.found s)) (let m = h.few in omega (arith, m)) h.typed

typed_last : (ws : List (Option ℕ)) (ps : List Plan) (p : Plan) (cs : List Code) (ks : List (Option ℕ)) (c : Typed) → AreTyped ws ps cs ks → IsTyped ws (meaning p) (space p) c
    → AreTyped ws (ps ++ p ∷ []) (cs ++ c.code ∷ []) (ks ++ Some c.width ∷ [])
typed_last ws [] p [] [] c h one = (one, (refl, refl))
typed_last ws [] p [] (k ∷ ks) c h one = let e = h.1 in cc
typed_last ws [] p (d ∷ cs) ks c h one = let e = h.0 in cc
typed_last ws (q ∷ ps) p (d ∷ cs) (Some k ∷ ks) c h one = (h.0, typed_last ws ps p cs ks c h.1 one)
typed_last ws _ p _ _ c h one = absurd h

pub typed_more : (ws : List (Option ℕ)) (ps : List Plan) (i : ℕ) (p : Plan) (cs : List Code) (ks : List (Option ℕ)) (c : Typed) → i < length ps → p ≡ get_or ps i p
    → AreTyped ws (take i ps) cs ks → IsTyped ws (meaning p) (space p) c → AreTyped ws (take (i + 1) ps) (cs ++ c.code ∷ []) (ks ++ Some c.width ∷ [])
typed_more ws ps i p cs ks c l is h one =
    subst (λ xs. AreTyped ws xs (cs ++ c.code ∷ []) (ks ++ Some c.width ∷ [])) (sym (take_more ps i p l ∙ ap (λ x. take i ps ++ x ∷ []) (sym is))) (typed_last ws (take i ps) p cs ks c h one)

-- the values of arguments, which suit the body
record Given (ps : List Plan) (cs : List Code) (ks : List (Option ℕ)) (s : Slots) (vs : List ℕ) : Type 0 where
  pub words : List Word
  pub there : values_in ps s ≡ Some words
  pub suit : AllSuit ks (map Some words) (map (λ c. value_of c vs) cs)

given : (ws : List (Option ℕ)) (ps : List Plan) (cs : List Code) (ks : List (Option ℕ)) (s : Slots) (vs : List ℕ) → AreTyped ws ps cs ks → AllSuit ws s vs → Given ps cs ks s vs
given ws [] [] [] s vs h suit = record { words = []; there = refl; suit = (refl, refl) }
given ws [] [] (k ∷ ks) s vs h suit = let e = h.1 in cc
given ws [] (c ∷ cs) ks s vs h suit = let e = h.0 in cc
given ws (p ∷ ps) (c ∷ cs) (Some k ∷ ks) s vs h suit =
    let one = h.0.value s vs suit in
    let rest = given ws ps cs ks s vs h.1 suit in
    record {
      words = word k (value_of c vs) ∷ rest.words;
      there = ap (λ o. all_there (o ∷ map (λ q. meaning q s) ps)) one.there ∙ ap (option_map (λ xs. word k (value_of c vs) ∷ xs)) rest.there;
      suit = (record { there = refl; word = one.word }, rest.suit);
    }
given ws _ _ _ s vs h suit = absurd h

spaces : (ws : List (Option ℕ)) (ps : List Plan) (cs : List Code) (ks : List (Option ℕ)) → AreTyped ws ps cs ks → (length cs ≡ length ps) × (sum_by space_of cs ≤ sum_by space ps)
spaces ws [] [] ks h = (refl, omega arith)
spaces ws [] (c ∷ cs) ks h = let e = h.0 in cc
spaces ws (p ∷ ps) (c ∷ cs) (Some k ∷ ks) h =
    let r = spaces ws ps cs ks h.1 in
    let one = h.0.space in
    (ap (λ n. suc n) r.0, (let l = r.1 in omega (arith, l, one, sum_by-cons space_of c cs, sum_by-cons space p ps)))
spaces ws _ _ _ h = absurd h

pub args_missing : (ws : List (Option ℕ)) (ps : List Plan) {e : Missing} (f : Slots → Option Word) → Lacks ws (values_in ps) e → Lacks ws (call_found ps f) e
args_missing ws ps f k = λ q s vs suit. ap (option_and_then (λ us. f (map Some us))) (k q s vs suit)

pub call_lacks : (ws ks ls : List (Option ℕ)) (ps : List Plan) (cs : List Code) (f : Slots → Option Word) {e : Missing} → AreTyped ws ps cs ks → ls ≡ ks → Lacks ls f e → Lacks ws (call_found ps f) e
call_lacks ws ks ls ps cs f h same b = λ q s vs suit.
    let g = given ws ps cs ks s vs h suit in
    ap (option_and_then (λ us. f (map Some us))) g.there ∙ b q (map Some g.words) (map (λ c. value_of c vs) cs) (subst (λ l. AllSuit l (map Some g.words) (map (λ c. value_of c vs) cs)) (sym same) g.suit)

pub call_gives : (ws ks : List (Option ℕ)) (ps : List Plan) (cs : List Code) (f : Slots → Option Word) (n : ℕ) {ls : List (Option ℕ)} {b : Typed} → AreTyped ws ps cs ks → ls ≡ ks → IsTyped ls f n b
    → IsTyped ws (call_found ps f) (call_space ps n) (typed (codes.Call cs b.code) b.width)
call_gives ws ks ps cs f n {b = b} h same t = record {
  positive = t.positive;
  at_most = t.at_most;
  value = λ s vs suit.
      let g = given ws ps cs ks s vs h suit in
      let r = t.value (map Some g.words) (map (λ c. value_of c vs) cs) (subst (λ l. AllSuit l (map Some g.words) (map (λ c. value_of c vs) cs)) (sym same) g.suit) in
      held_as (call_found ps f s) b.width _ _ (value_called cs b.code vs)
      (subst (λ o. Holds o b.width (value_of b.code (map (λ c. value_of c vs) cs))) (sym (ap (option_and_then (λ us. f (map Some us))) g.there)) r);
  space =
      let l = spaces ws ps cs ks h in
      let i = l.0 in
      let j = l.1 in
      let k = t.space in
      omega (arith, i, j, k, space_called cs b.code);
}

-- one that has none
there_none : (os : List (Option Word)) (i : ℕ) → i < length os → get_or os i None ≡ None → all_there os ≡ None
there_none [] i l e = absurd (omega arith)
there_none (None ∷ os) i l e = refl
there_none (Some x ∷ os) zero l e = cc
there_none (Some x ∷ os) (suc i) l e = ap (option_map (λ xs. x ∷ xs)) (there_none os i (omega arith) e)

-- arguments of which one has no value
fills_none : {X : Type 0} (f : X → Option Word) (es : List X) (i : ℕ) (e : X) → i < length es → e ≡ get_or es i e → f e ≡ None → all_there (map f es) ≡ None
fills_none f es i e l is h =
    there_none (map f es) i (omega (arith, length-map es f)) (get_or-map f es i e None l ∙ ap f (sym is) ∙ h)

pub args_lack : (ws : List (Option ℕ)) {e : Missing} (ps : List Plan) (i : ℕ) (p : Plan) → i < length ps → p ≡ get_or ps i p → Lacks ws (meaning p) e → Lacks ws (values_in ps) e
args_lack ws ps i p l here h = λ q s vs suit. fills_none (λ x. meaning x s) ps i p l here (h q s vs suit)
