-- An expression that violates no rule has a value that an executable function computes: each operation in it has
-- operands of the required widths. A check of the names may be added: if no name in the expression fails it, only the
-- names that pass need to be known.
use Rattle.std.proofs.Common.{◌≡◌, ◌≤◌, ◌<◌, ◌+◌, ℕ, List, [], ◌∷◌, map, min, fold, Option, Some, None, Ok, Err, Bool, true, false, cond, length, drop, is_some, not, ◌==◌, ◌||◌, refl, ap, sym, subst, ◌∙◌, arith}
use Rattle.std.proofs.lemmas.Bool.{cond_both, eq-eqb, le-leb, lt-ltb, eqb-true, leb-true, ltb-true, and_from, and_parts}
use Rattle.std.{proofs.lemmas.List.length-map, specs.Option.option_map, specs.Option.option_and_then, specs.Result.result_ok}
use Rattle.kp_base.specs.{First.first, Check.Check, Check.Answer, Check.answer, Check.ok, Check.◌>>=◌, Check.wants, declared.place.Place.Place}
use Rattle.kp_bits.specs.Word.{Word, IsWord, not_of, concat_of}
use Rattle.kp_bits.specs.{declared.literal.LiteralFault.TheVariants.TooBig, declared.literal.LiteralFault.TheVariants.BadWidth, Operators.is_shift}
use Rattle.kp_bits.specs.Checked.{where_so, checked_join, checked_joined, checked_binary, checked_mux, checked_slice, is_extension, checked_zext, checked_sext}
use Rattle.kp_bits.proofs.Words.{not_word, concat_word, slice_word, zext_word, sext_word}
use Rattle.kp_ast.specs.declared.tree.{Num.Num, Decl.Decl, Expr.Expr, ExprKind.TheOpen.ExprKind-F, ExprKind.TheOpen.Expr-F, ExprKind.TheFolds.fold-Expr}
use Rattle.kp_ast.specs.{Expressions.Env, Expressions.eval, Checked.Known, Checked.checked, Checked.checked_kind, Checked.checked_level, Checked.all_there}
use Rattle.kp_ast.specs.declared.tree.Param.{Param}
use Rattle.kp_ast.proofs.Levels.{fold-Lit, fold-Name, fold-Not, fold-Binary, fold-Mux, fold-Concat, fold-Slice, fold-Zext, fold-Sext, fold-Call}
use Rattle.kp_ast.proofs.Induction.{Every, induction}
use Rattle.kp_ast.specs.declared.tree.ExprKind.TheOpen as level
use Rattle.kp_bits.specs.Operators as operators
use Rattle.kp_width.specs.Expressions.{Part, is_width, extension_of, params_of, part_of, width_of, sum_of, arguments_of, is_declared, callee_of, called_of, width_at, value_of}
use Rattle.kp_width.proofs.Unbroken.{Unbroken, first_split, bind_unbroken, answer_unbroken, width-Lit, width-Name, width-Not, width-Binary, width-Mux, width-Concat, width-Slice, width-Zext, width-Sext, width-Call}
use Rattle.kp_ast.specs.declared.widths.{Scope.Scope, NameKind.NameKind}
use Rattle.kp_width.specs.declared.fault.WidthFault.TheVariants as faults
use Rattle.kp_width.specs.declared.fault.Destination.TheVariants as to
use Rattle.kp_width.specs.{Faults.WidthFinding, Faults.found_at, declared.fault.Position.Position}
use Rattle.kp_width.specs.Names.{Sense, is_value_in, is_callee, is_file, is_register, takes, Scoped, find, used, used_as}
use Rattle.kp_width.{specs.Soundness.HasWidth, specs.Soundness.FitFrom, specs.Soundness.Suits, specs.Soundness.AreArguments, proofs.Parts.given_parts}
use Rattle.kp_width.proofs.Sound.{binary_width}

-- the first violation of a check of each name that is used as a value, from left to right
abbrev pub name_kind : {F : Type 0} → (List ℕ → Place → Option F) → ExprKind-F (Place → Option F) (Option F) → Place → Option F
name_kind ask (level.Lit l) at = None
name_kind ask (level.Name name) at = ask name at
name_kind ask (level.Not a) at = a
name_kind ask (level.Binary op a b) at = first (a ∷ b ∷ [])
name_kind ask (level.Mux test a b) at = first (test ∷ a ∷ b ∷ [])
name_kind ask (level.Concat parts) at = first parts
name_kind ask (level.Slice a hi lo) at = a
name_kind ask (level.Zext a width) at = a
name_kind ask (level.Sext a width) at = a
name_kind ask (level.Call name args) at = first args

abbrev pub name_level : {F : Type 0} → Expr-F (Place → Option F) (Option F) → Option F
name_level e = e.kind e.place

abbrev pub first_name : {F : Type 0} → (List ℕ → Place → Option F) → Expr → Option F
first_name {F = F} ask = fold-Expr (Place → Option F) (Option F) (name_kind ask) name_level

-- a value that is found, and its width
pub record Found (w : ℕ) (o : Option Word) (v : Word) : Type 0 where
  pub there : o ≡ Some v
  pub has : HasWidth w v

-- what is known has the values of the environment, for the names that are not answered and for all calls
pub record Meets {F : Type 0} (ds : List Decl) (s : Scoped) (known : Known) (env : Env) (ask : List ℕ → Place → Option F) : Type 0 where
  pub names : (q : List ℕ) (m : Sense) (at : Place) → find s q ≡ Some m → is_value_in s.here m.kind ≡ true → ask q at ≡ None → Found m.width (known.names q) (env.names q)
  pub calls : (q : List ℕ) (m : Sense) → find s q ≡ Some m → is_callee m.kind ≡ true → (vs : List Word) → AreArguments (params_of ds m.from) vs → Found m.width (known.calls q vs) (env.calls q vs)

-- an expression that computes by one level, in each of three folds
by_level : (c d : Check WidthFinding ℕ) (o p : Option Word) (x y : Word) → c ≡ d → o ≡ p → x ≡ y → (Unbroken d → Found d.value p y) → Unbroken c → Found c.value o x
by_level c d o p x y e f g found u =
    let h = found (subst (λ x. Unbroken x) e u) in
    let w : c.value ≡ d.value = ap (λ c. c.value) e in
    record { there = f ∙ h.there ∙ ap Some (sym g); has = record { word = rw g h.has.word; width = rw (g, w) h.has.width } }

width_bounds : (w : ℕ) → is_width w ≡ true → (1 ≤ w) × (w ≤ 64)
width_bounds w e = let b = and_parts _ _ e in (leb-true 1 w b.0, leb-true w 64 b.1)

-- a name in scope, of a kind that its position accepts
pub used_parts : (here : Scope) (bound : Option ℕ) (position : Position) (p : Place) (o : Option Sense) → Unbroken (used_as here bound position p o)
    → (o ≡ Some (used_as here bound position p o).value) × (takes position here (used_as here bound position p o).value.kind ≡ true)
used_parts here bound position p None h = cc
used_parts here bound position p (Some m) h =
    let wrong = found_at p (faults.WrongKind m.kind m.from position here) in
    let known = answer_unbroken (not m.doubtful) (found_at p faults.Doubtful) (answer (takes position here m.kind) wrong ∷ []) h in
    (refl, (answer_unbroken (takes position here m.kind) wrong [] known.1).0)

-- a target, with an address or without
pub storage_takes : (addressed : Bool) (here : Scope) (kind : NameKind) → takes (cond addressed Position.File Position.Register) here kind ≡ true → cond addressed is_file is_register kind ≡ true
storage_takes true here kind e = e
storage_takes false here kind e = e

or_left : (a b : Bool) → (a || b) ≡ true → a ≡ false → b ≡ true
or_left true b h e = cc
or_left false b h e = h

-- an extension of a value of this width
wider : (w : ℕ) (o : Option Word) (v : Word) (n : Num) (p : Place) → Found w o v → Unbroken (extension_of n p w) → (is_extension n.value v ≡ true) × (v.width ≤ n.value) × (n.value ≤ 64)
wider w o v n p f u =
    let t = answer_unbroken _ _ _ u in
    let most = (width_bounds _ t.0).1 in
    let wide : v.width ≤ n.value = rw f.has.width (leb-true _ _ (answer_unbroken _ _ _ t.1).0) in
    (and_from _ _ (le-leb _ _ wide) (le-leb _ _ most), wide, most)

pub none_of_two : {F : Type 0} (a b : Option F) → first (a ∷ b ∷ []) ≡ None → (a ≡ None) × (b ≡ None)
none_of_two None None e = (refl, refl)
none_of_two None (Some r) e = cc
none_of_two (Some r) b e = cc

none_of_three : {F : Type 0} (a b c : Option F) → first (a ∷ b ∷ c ∷ []) ≡ None → (a ≡ None) × (b ≡ None) × (c ≡ None)
none_of_three None b c e = let h = none_of_two b c e in (refl, h.0, h.1)
none_of_three (Some r) b c e = cc

none_of_more : {F : Type 0} (a : Option F) (more : List (Option F)) → first (a ∷ more) ≡ None → (a ≡ None) × (first more ≡ None)
none_of_more None more e = (refl, e)
none_of_more (Some r) more e = cc

so_there : (test : Bool) (w : Word) → test ≡ true → where_so test w ≡ Some w
so_there true w e = refl
so_there false w e = cc

fits_there : (a b : Bool) (w : Word) → a ≡ true → b ≡ true → result_ok (cond a (cond b (Ok w) (Err TooBig)) (Err BadWidth)) ≡ Some w
fits_there true true w e f = refl
fits_there true false w e f = cc
fits_there false b w e f = cc

one_passes : (a b : Bool) → (a ≡ false → b ≡ true) → (a || b) ≡ true
one_passes true b h = refl
one_passes false b h = h refl

join_on : (acc b : Word) (rest : List Word) → acc.width + b.width ≤ 64 → checked_join acc (b ∷ rest) ≡ checked_join (concat_of acc b) rest
join_on acc b rest l = ap (λ t. cond t (checked_join (concat_of acc b) rest) None) (le-leb _ _ l)

two : (f : Word → Word → Option Word) (o p : Option Word) (x y : Word) → o ≡ Some x → p ≡ Some y → option_and_then (λ v. option_and_then (f v) p) o ≡ f x y
two f o p x y e g = ap (λ a. option_and_then (λ v. option_and_then (f v) p) a) e ∙ ap (option_and_then (f x)) g

cons_there : (o : Option Word) (v : Word) (os : List (Option Word)) (vs : List Word) → o ≡ Some v → all_there os ≡ Some vs → all_there (o ∷ os) ≡ Some (v ∷ vs)
cons_there o v os vs e f = ap (λ x. all_there (x ∷ os)) e ∙ ap (option_map (λ xs. v ∷ xs)) f

-- a check of names that each name passes
pub none_asked : {F : Type 0} (ask : List ℕ → Place → Option F) → ((q : List ℕ) (at : Place) → ask q at ≡ None) → (e : Expr) → first_name ask e ≡ None
none_asked ask none = induction (λ e. first_name ask e ≡ None) (record {
  literal = λ p l. fold-Lit _ _ (name_kind ask) name_level p l;
  name = λ p q. fold-Name _ _ (name_kind ask) name_level p q ∙ none q p;
  not_ = λ p a h. fold-Not _ _ (name_kind ask) name_level p a ∙ h;
  binary = λ p op a b h k. fold-Binary _ _ (name_kind ask) name_level p op a b ∙ (λ i. first (h i ∷ k i ∷ []));
  mux = λ p t a b g h k. fold-Mux _ _ (name_kind ask) name_level p t a b ∙ (λ i. first (g i ∷ h i ∷ k i ∷ []));
  concat = λ p es hs. fold-Concat _ _ (name_kind ask) name_level p es ∙ each es hs;
  slice = λ p a hi lo h. fold-Slice _ _ (name_kind ask) name_level p a hi lo ∙ h;
  zext = λ p a n h. fold-Zext _ _ (name_kind ask) name_level p a n ∙ h;
  sext = λ p a n h. fold-Sext _ _ (name_kind ask) name_level p a n ∙ h;
  call = λ p q es hs. fold-Call _ _ (name_kind ask) name_level p q es ∙ each es hs;
})
  where
    each : (es : List Expr) → Every (λ e. first_name ask e ≡ None) es → first (map (first_name ask) es) ≡ None
    each [] hs = refl
    each (e ∷ es) hs = ap (λ x. first (x ∷ map (first_name ask) es)) hs.0 ∙ each es hs.1

abbrev pub no_question : List ℕ → Place → Answer
no_question q at = None

pub no_answer : (e : Expr) → first_name no_question e ≡ None
no_answer = none_asked no_question (λ q at. refl)

module _ {F : Type 0} (ds : List Decl) (done : ℕ) (s : Scoped) (known : Known) (env : Env) (ask : List ℕ → Place → Option F) (meets : Meets ds s known env ask) where
  abbrev width : Expr → Check WidthFinding ℕ
  width = width_of ds done s

  abbrev value : Expr → Word
  value = eval env

  abbrev there : Expr → Option Word
  there = checked known

  abbrev asked : Expr → Option F
  asked = first_name ask

  abbrev part : Expr → Part
  part = part_of ds done s

  abbrev Holds : Expr → Type 0
  Holds e = asked e ≡ None → Unbroken (width e) → Found (width e).value (there e) (value e)

  sum_grows : (sum : ℕ) (es : List Expr) → sum ≤ 65 → sum ≤ (sum_of sum (map part es)).value
  sum_grows sum [] l = omega arith
  sum_grows sum (e ∷ es) l = let g = sum_grows (min (sum + (width e).value) 65) es (omega arith) in omega arith

  -- the parts of a concatenation, after bits that there are already
  joined : (acc : Word) (es : List Expr) → IsWord acc → Every Holds es → first (map asked es) ≡ None → Unbroken (sum_of acc.width (map part es)) → (sum_of acc.width (map part es)).value ≤ 64
      → Found (sum_of acc.width (map part es)).value (checked_join acc (map value es)) (fold concat_of acc (map value es))
  joined acc [] h hs a u l = record { there = refl; has = record { word = h; width = refl } }
  joined acc (e ∷ es) h hs a u l =
      let n = none_of_more (asked e) (map asked es) a in
      let p = first_split (width e).asked _ u in
      let v = (hs.0 n.0 p.0).has in
      let vw : (value e).width ≡ (width e).value = v.width in
      let g = sum_grows (min (acc.width + (width e).value) 65) es (omega arith) in
      let same : min (acc.width + (width e).value) 65 ≡ acc.width + (value e).width = omega arith in
      let fits : acc.width + (value e).width ≤ 64 = omega arith in
      let c = concat_word acc (value e) h v.word fits in
      let more = joined (concat_of acc (value e)) es c hs.1 n.1 (subst (λ n. Unbroken (sum_of n (map part es))) same p.1) (subst (λ n. (sum_of n (map part es)).value ≤ 64) same l) in
      record {
        there = join_on acc (value e) (map value es) fits ∙ more.there;
        has = subst (λ n. HasWidth (sum_of n (map part es)).value (fold concat_of (concat_of acc (value e)) (map value es))) (sym same) more.has;
      }

  concat_found : (es : List Expr) → Every Holds es → first (map asked es) ≡ None → Unbroken (sum_of 0 (map part es)) → 1 ≤ (sum_of 0 (map part es)).value → (sum_of 0 (map part es)).value ≤ 64
      → Found (sum_of 0 (map part es)).value (checked_joined (map value es)) (operators.joined_of (map value es))
  concat_found [] hs a u l k = absurd (omega arith)
  concat_found (e ∷ es) hs a u l k =
      let n = none_of_more (asked e) (map asked es) a in
      let p = first_split (width e).asked _ u in
      let v = (hs.0 n.0 p.0).has in
      let vw : (value e).width ≡ (width e).value = v.width in
      let b : (value e).width ≤ 64 = v.word.at_most in
      let same : min (0 + (width e).value) 65 ≡ (value e).width = omega arith in
      let more = joined (value e) es v.word hs.1 n.1 (subst (λ n. Unbroken (sum_of n (map part es))) same p.1) (subst (λ n. (sum_of n (map part es)).value ≤ 64) same k) in
      record { there = more.there; has = subst (λ n. HasWidth (sum_of n (map part es)).value (fold concat_of (value e) (map value es))) (sym same) more.has }

  -- each part of a concatenation is found
  all_found : (n : ℕ) (es : List Expr) → Every Holds es → first (map asked es) ≡ None → Unbroken (sum_of n (map part es)) → all_there (map there es) ≡ Some (map value es)
  all_found n [] hs a u = refl
  all_found n (e ∷ es) hs a u =
      let b = none_of_more (asked e) (map asked es) a in
      let p = first_split (width e).asked _ u in
      cons_there (there e) (value e) (map there es) (map value es) (hs.0 b.0 p.0).there (all_found (min (n + (width e).value) 65) es hs.1 b.1 p.1)

  -- and each argument of a call, which fits its parameter
  arguments_found : (function : ℕ) (ps : List Param) (i : ℕ) (es : List Expr) → Every Holds es → first (map asked es) ≡ None → Unbroken (arguments_of function ps i (map part es))
      → FitFrom ps i (map value es) × (all_there (map there es) ≡ Some (map value es))
  arguments_found function ps i [] hs a u = (tt, refl)
  arguments_found function ps i (e ∷ es) hs a u =
      let b = none_of_more (asked e) (map asked es) a in
      let p = first_split (value_of (part e) (width_at ps i) (to.Parameter function i)).asked _ u in
      let g = given_parts ds done s e (width_at ps i) (to.Parameter function i) p.0 in
      let f = hs.0 b.0 g.0 in
      let more = arguments_found function ps (i + 1) es hs.1 b.1 p.1 in
      ((subst (λ w. HasWidth w (value e)) g.1 f.has, more.0), cons_there (there e) (value e) (map there es) (map value es) f.there more.1)

  pub found : (e : Expr) → Holds e
  found = induction Holds (record {
    literal = λ p l a. by_level _ _ _ _ _ _ (width-Lit ds done s p l) (fold-Lit _ _ (checked_kind known) checked_level p l) (fold-Lit _ _ _ _ p l) (λ u.
        let x = answer_unbroken _ _ _ u in
        let y = answer_unbroken _ _ _ x.1 in
        let b = width_bounds l.width x.0 in
        record { there = fits_there _ _ _ x.0 y.0; has = record { word = record { positive = b.0; at_most = b.1; fits = ltb-true _ _ y.0 }; width = refl } });
    name = λ p q a. by_level _ _ _ _ _ _ (width-Name ds done s p q) (fold-Name _ _ (checked_kind known) checked_level p q) (fold-Name _ _ _ _ p q) (λ u.
        let n = used_parts s.here _ Position.Value p (find s q) (first_split (used s Position.Value q p).asked _ u).0 in
        meets.names q (used s Position.Value q p).value p n.0 n.1 (sym (fold-Name _ _ (name_kind ask) name_level p q) ∙ a));
    not_ = λ p x h a. by_level _ _ _ _ _ _ (width-Not ds done s p x) (fold-Not _ _ (checked_kind known) checked_level p x) (fold-Not _ _ _ _ p x) (λ u.
        let f = h (sym (fold-Not _ _ (name_kind ask) name_level p x) ∙ a) u in
        record { there = ap (option_map not_of) f.there; has = record { word = not_word (value x) f.has.word; width = f.has.width } });
    binary = λ p op x y h k a. by_level _ _ _ _ _ _ (width-Binary ds done s p op x y) (fold-Binary _ _ (checked_kind known) checked_level p op x y) (fold-Binary _ _ _ _ p op x y) (λ u.
        let b = none_of_two (asked x) (asked y) (sym (fold-Binary _ _ (name_kind ask) name_level p op x y) ∙ a) in
        let l = first_split (width x).asked _ u in
        let r = first_split (width y).asked _ l.1 in
        let f = h b.0 l.0 in
        let g = k b.1 r.0 in
        let same : is_shift op ≡ false → (value x).width ≡ (value y).width = λ e. f.has.width ∙ eqb-true _ _ (or_left (is_shift op) _ (answer_unbroken _ _ _ r.1).0 e) ∙ sym g.has.width in
        record {
          there = two (checked_binary op) (there x) (there y) (value x) (value y) f.there g.there
              ∙ so_there _ _ (one_passes (is_shift op) ((value x).width == (value y).width) (λ e. eq-eqb _ _ (same e)));
          has = subst (λ w. HasWidth (operators.result_width op w) (operators.binary_of op (value x) (value y))) f.has.width (binary_width op (value x) (value y) f.has.word g.has.word same);
        });
    mux = λ p t x y g h k a. by_level _ _ _ _ _ _ (width-Mux ds done s p t x y) (fold-Mux _ _ (checked_kind known) checked_level p t x y) (fold-Mux _ _ _ _ p t x y) (λ u.
        let b = none_of_three (asked t) (asked x) (asked y) (sym (fold-Mux _ _ (name_kind ask) name_level p t x y) ∙ a) in
        let ut = first_split (width t).asked _ u in
        let ux = first_split (width x).asked _ ut.1 in
        let uy = first_split (width y).asked _ ux.1 in
        let one = answer_unbroken _ _ _ uy.1 in
        let same : (width x).value ≡ (width y).value = eqb-true _ _ (answer_unbroken _ _ _ one.1).0 in
        let ft = g b.0 ut.0 in
        let fx = h b.1 ux.0 in
        let fy = k b.2 uy.0 in
        record {
          there = ap (λ o. option_and_then (λ v. option_and_then (λ w. option_and_then (checked_mux v w) (there y)) (there x)) o) ft.there
              ∙ two (checked_mux (value t)) (there x) (there y) (value x) (value y) fx.there fy.there
              ∙ so_there _ _ (and_from _ _ (eq-eqb _ _ (ft.has.width ∙ eqb-true _ _ one.0)) (eq-eqb _ _ (fx.has.width ∙ same ∙ sym fy.has.width)));
          has = cond_both ((value t).value == 1) (value x) (value y) (HasWidth (width x).value) (λ _. fx.has) (λ _. subst (λ w. HasWidth w (value y)) (sym same) fy.has);
        });
    concat = λ p es hs a. by_level _ _ _ _ _ _ (width-Concat ds done s p es) (fold-Concat _ _ (checked_kind known) checked_level p es) (fold-Concat _ _ _ _ p es) (λ u.
        let b : first (map asked es) ≡ None = sym (fold-Concat _ _ (name_kind ask) name_level p es) ∙ a in
        let parts = first_split (sum_of 0 (map part es)).asked _ u in
        let w = width_bounds _ (answer_unbroken _ _ _ parts.1).0 in
        let f = concat_found es hs b parts.0 w.0 w.1 in
        record { there = ap (option_and_then checked_joined) (all_found 0 es hs b parts.0) ∙ f.there; has = f.has });
    slice = λ p x hi lo h a. by_level _ _ _ _ _ _ (width-Slice ds done s p x hi lo) (fold-Slice _ _ (checked_kind known) checked_level p x hi lo) (fold-Slice _ _ _ _ p x hi lo) (λ u.
        let part = first_split (width x).asked _ u in
        let t = and_parts _ _ (answer_unbroken _ _ _ part.1).0 in
        let f = h (sym (fold-Slice _ _ (name_kind ask) name_level p x hi lo) ∙ a) part.0 in
        let o : lo ≤ hi = leb-true _ _ t.0 in
        let i : hi < (value x).width = rw f.has.width (ltb-true _ _ t.1) in
        record {
          there = ap (option_and_then (checked_slice hi lo)) f.there ∙ so_there _ _ (and_from _ _ t.0 (lt-ltb _ _ i));
          has = record { word = slice_word (value x) hi lo f.has.word o i; width = omega arith };
        });
    zext = λ p x n h a. by_level _ _ _ _ _ _ (width-Zext ds done s p x n) (fold-Zext _ _ (checked_kind known) checked_level p x n) (fold-Zext _ _ _ _ p x n) (λ u.
        let part = first_split (width x).asked _ u in
        let f = h (sym (fold-Zext _ _ (name_kind ask) name_level p x n) ∙ a) part.0 in
        let w = wider _ _ _ n p f part.1 in
        record { there = ap (option_and_then (checked_zext n.value)) f.there ∙ so_there _ _ w.0; has = record { word = zext_word (value x) n.value f.has.word w.1 w.2; width = refl } });
    sext = λ p x n h a. by_level _ _ _ _ _ _ (width-Sext ds done s p x n) (fold-Sext _ _ (checked_kind known) checked_level p x n) (fold-Sext _ _ _ _ p x n) (λ u.
        let part = first_split (width x).asked _ u in
        let f = h (sym (fold-Sext _ _ (name_kind ask) name_level p x n) ∙ a) part.0 in
        let w = wider _ _ _ n p f part.1 in
        record { there = ap (option_and_then (checked_sext n.value)) f.there ∙ so_there _ _ w.0; has = record { word = sext_word (value x) n.value f.has.word w.1 w.2; width = refl } });
    call = λ p q es hs a. by_level _ _ _ _ _ _ (width-Call ds done s p q es) (fold-Call _ _ (checked_kind known) checked_level p q es) (fold-Call _ _ _ _ p q es) (λ u.
        let b : first (map asked es) ≡ None = sym (fold-Call _ _ (name_kind ask) name_level p q es) ∙ a in
        let m = (used s Position.Callee q p).value in
        let head = bind_unbroken (called_of ds done s q (length (map part es)) p) (λ m. arguments_of m.from (params_of ds m.from) 0 (map part es) >>= (λ x. ok m.width)) u in
        let name = bind_unbroken (callee_of ds done s q p) (λ m. wants (length (map part es) == length (params_of ds m.from)) (found_at p (faults.ArgumentCount (length (map part es)) (length (params_of ds m.from)) m.from)) (ok m)) head.0 in
        let n = used_parts s.here _ Position.Callee p (find s q)
        (answer_unbroken (is_some (find s q) || not (is_declared (drop done ds) q)) (found_at p (faults.CalledEarly done)) (used s Position.Callee q p).asked name.0).1 in
        let count : length (map part es) ≡ length (params_of ds m.from) = eqb-true _ _ (answer_unbroken _ _ _ name.1).0 in
        let args = arguments_found m.from (params_of ds m.from) 0 es hs b (first_split (arguments_of m.from (params_of ds m.from) 0 (map part es)).asked _ head.1).0 in
        let f = meets.calls q m n.0 n.1 (map value es) (record { count = length-map es value ∙ sym (length-map es part) ∙ count; fit = args.0 }) in
        record { there = ap (option_and_then (known.calls q)) args.1 ∙ f.there; has = f.has });
  })

-- if each name and each call has a word of its width, so has an expression that violates no rule
pub sound : (ds : List Decl) (done : ℕ) (s : Scoped) (env : Env) → Suits ds s env → (e : Expr) → Unbroken (width_of ds done s e) → HasWidth (width_of ds done s e).value (eval env e)
sound ds done s env suits e u =
    let known : Known = record { names = λ q. Some (env.names q); calls = λ q vs. Some (env.calls q vs) } in
    let meets : Meets ds s known env (λ q at. None) = record {
      names = λ q m at f k a. record { there = refl; has = suits.names q m f k };
      calls = λ q m f k vs h. record { there = refl; has = suits.calls q m f k vs h };
    } in
    (found ds done s known env (λ q at. None) meets e (no_answer e) u).has
