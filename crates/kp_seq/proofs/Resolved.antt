-- What an instruction does by the resolved job, in numbers, is what it does by the job.
use Rattle.std.proofs.Common.{◌≡◌, ◌∙◌, ℕ, zero, suc, ◌+◌, ◌^◌, ◌<◌, ◌≤◌, List, [], ◌∷◌, ◌++◌, Option, Some, None, Bool, true, false, cond, length, set, take, get_or, replicate, refl, ap, sym, subst, arith}
use Rattle.std.proofs.lemmas.{Bool.and_parts, Bool.cond_both, Bool.leb-true, Nat.pow_pos, List.take_more, List.Elements.All-nil, List.Elements.All-cons}
use Rattle.std.proofs.lemmas.List.Sums.{sum_by-cons, sum_by_push}
use Rattle.std.specs.Prelude.{All, sum_by, is_some, nat_le, nat_lt, ◌&&◌, unwrap_or, ◌==◌}
use Rattle.std.specs.{Option.option_map, List.position}
use Rattle.kp_bits.specs.Word.{Word, word, IsWord}
use Rattle.kp_ast.specs.{Expressions.is_same_name, declared.tree.Expr.Expr, declared.tree.ReadStmt.ReadStmt, declared.tree.ResultDecl.ResultDecl}
use Rattle.kp_ast.specs.{declared.tree.Stmt.Stmt, declared.tree.StmtKind.StmtKind, declared.tree.Block.Block, Checked.checked, Checked.checked_calls_of}
use Rattle.kp_ast.specs.declared.tree.Named as tree
use Rattle.kp_ast.specs.declared.tree.StmtKind.TheVariants as stmts
use Rattle.kp_stage.specs.Sizes.{size_of_stmt, size_of_block}
use Rattle.kp_pipeline.specs.Sequential.{first_value}
use Rattle.kp_machine.{specs.Slots.Slot, specs.Slots.number_of, specs.Slots.width_of, specs.Slots.result_named, proofs.Cases.by_test, specs.Words.state_in}
use Rattle.kp_seq_plan.specs.declared.{plan.Plan.Plan, code.Code.Code, code.Typed.Typed, resolve.Scope.Scope}
use Rattle.kp_seq_plan.specs.{Names.at_place, Names.place_of, Plans.Slots, Plans.Means, Plans.meaning, Plans.space}
use Rattle.kp_seq_plan.specs.{Codes.value_of, Codes.value_level, Codes.space_level, Lowering.Holds, Lowering.Suits, Lowering.AllSuit, Lowering.Gives}
use Rattle.kp_seq_plan.proofs.CodeLevels.{code-Word}
use Rattle.kp_seq_plan.specs.declared.code.Code.TheVariants as leaf
use Rattle.kp_seq.specs.inner.Resolved.{Raw, AllDo, DoesAll, DoesStage, Does, DoesRead, IsShown, IsCode, IsOptionCode, IsReading, value_or, unnamed, holds_at, value_at, note_step, note_steps, put_place, with_place, with_target, with_width, after_step, after_steps, steps_space, step_space}
use Rattle.kp_seq.specs.{declared.program.Reading.Reading, declared.program.Step.Step, declared.program.Made.Made, inner.Names.set_place, inner.Fits.FitSlots}
use Rattle.kp_seq.specs.inner.Tables.{Laid}
use Rattle.kp_seq.specs.inner.Steps.{Under, zero_bit, fitted, word_in, holds, address_in, address_read, value_read, with_name, with_result, after_stmt, after_stmts}
use Rattle.kp_seq.specs.Recorded.{where_true}
use Rattle.kp_seq.specs.inner.Notes.{Noted, narrow_address, with_read, asked_in, note_stmt, note_stmts}
use Rattle.kp_seq.proofs.Start.{fitted_is}
use Rattle.kp_seq.specs.declared.program.Step.TheVariants as moves

-- an index that gets a value of a width
suits_set : (ws : List (Option ℕ)) (slots : Slots) (vs : List ℕ) (i : ℕ) (w : Option ℕ) (s : Option Word) (v : ℕ) → AllSuit ws slots vs → Suits w s v → AllSuit (set ws i w) (set slots i s) (set vs i v)
suits_set [] slots vs i w s v h one = (ap (λ x. set x i s) h.0, ap (λ x. set x i v) h.1)
suits_set (x ∷ ws) (y ∷ slots) (z ∷ vs) zero w s v h one = (one, h.1)
suits_set (x ∷ ws) (y ∷ slots) (z ∷ vs) (suc i) w s v h one = (h.0, suits_set ws slots vs i w s v h.1 one)
suits_set _ _ _ i w s v h one = absurd h

suits_place : (ws : List (Option ℕ)) (slots : Slots) (vs : List ℕ) (o : Option ℕ) (w : ℕ) (x : Word) (v : ℕ) → AllSuit ws slots vs → Holds (Some x) w v
    → AllSuit (with_width ws o w) (set_place slots o x) (put_place vs o v)
suits_place ws slots vs None w x v h one = h
suits_place ws slots vs (Some i) w x v h one = suits_set ws slots vs i (Some w) (Some x) v h one

pub suits_length : (ws : List (Option ℕ)) (slots : Slots) (vs : List ℕ) → AllSuit ws slots vs → length vs ≡ length slots
suits_length [] slots vs h = ap length h.1 ∙ sym (ap length h.0)
suits_length (x ∷ ws) (y ∷ slots) (z ∷ vs) h = ap (λ n. suc n) (suits_length ws slots vs h.1)
suits_length _ _ _ h = absurd h

-- if no index has a value, all numbers suit
pub none_suit : (n : ℕ) (vs : List ℕ) → length vs ≡ n → AllSuit (replicate n None) (replicate n None) vs
none_suit zero [] e = (refl, refl)
none_suit (suc n) (v ∷ vs) e = (refl, none_suit n vs (omega (arith, e)))
none_suit _ _ e = absurd (omega (arith, e))

-- the number of a word that is held
number : (x : Word) (w v : ℕ) → Holds (Some x) w v → v ≡ x.value
number x w v h = sym (ap (λ o. (unwrap_or o zero_bit).value) h.there)

bit_word : IsWord zero_bit
bit_word = record { positive = omega arith; at_most = omega arith; fits = omega arith }

zero_held : Holds (Some zero_bit) 1 0
zero_held = record { there = refl; word = bit_word }

-- the words of a target fit it
words_fit : (ss : List Slot) (words : List (List ℕ)) → FitSlots ss words → (q : List ℕ) (a : ℕ) → state_in words (number_of ss q) a < 2 ^ width_of ss q
words_fit [] words h q a = let e : words ≡ [] = h in let z : state_in words 0 a ≡ 0 = ap (λ x. state_in x 0 a) e in omega (arith, z, pow_pos 0)
words_fit (s ∷ ss) [] h q a = absurd h
words_fit (s ∷ ss) (w ∷ words) h q a = by_test (is_same_name q s.name)
    (λ y. subst (λ b. state_in (w ∷ words) (cond b 0 (suc (number_of ss q))) a < 2 ^ cond b s.width (width_of ss q)) (sym y) (h.0.fits a))
    (λ y. subst (λ b. state_in (w ∷ words) (cond b 0 (suc (number_of ss q))) a < 2 ^ cond b s.width (width_of ss q)) (sym y) (words_fit ss words h.1 q a))

-- if a width is invalid, one bit of 0 replaces the word
no_fit : (w v : ℕ) → (nat_le 1 w && nat_le w 64) ≡ false → fitted w v ≡ zero_bit
no_fit w v h = ap (λ b. cond (b && nat_lt v (2 ^ w)) (word w v) zero_bit) h

module _ (t : Laid) where
  -- the scratch space of all stages suffices for each
  pub enough : (ws : List (Option ℕ)) (bs : List Block) (ss : List (List Step)) (r : ℕ) → AllDo t ws bs ss → sum_by (size_of_block t.decls) bs ≤ r → All (λ s. steps_space s ≤ r) ss
  enough ws [] ss r d l = subst (All (λ s. steps_space s ≤ r)) (sym d) (All-nil (λ s. steps_space s ≤ r))
  enough ws (b ∷ bs) [] r d l = absurd d
  enough ws (b ∷ bs) (s ∷ ss) r d l =
      let n = sum_by-cons (size_of_block t.decls) b bs in
      let m = d.0.1.space in
      All-cons (λ x. steps_space x ≤ r) s ss (omega arith) (enough ws bs ss r d.1 (omega arith))

  module _ (ws : List (Option ℕ)) where
    -- an expression
    module _ (scope : Scope) (e : Expr) (p : Plan) (places : (q : List ℕ) → place_of scope q ≡ position (is_same_name q) t.names) (m : Means t.decls scope e p) where
      found : (u : Under) → word_in t u e ≡ unwrap_or (meaning p u.names) zero_bit
      found u = sym (ap (λ o. unwrap_or o zero_bit) (m.value u.names ∙ (λ i. checked (record { names = λ q. at_place u.names (places q i); calls = checked_calls_of t.decls }) e)))

      pub code_is : (o : Option Typed) (c : Typed) → o ≡ Some c → Gives ws (meaning p) (space p) o → IsCode t ws e c
      code_is o c is h =
          let g = subst (λ x. Gives ws (meaning p) (space p) x) is h in
          record {
            value = λ u vs suit.
                let k = g.value u.names vs suit in
                record { there = ap Some (found u ∙ ap (λ x. unwrap_or x zero_bit) k.there); word = k.word };
            space = let a = g.space in let b = m.space in omega (arith, a, b);
          }

      pub code_none : (o : Option Typed) (c : Typed) → o ≡ None → Gives ws (meaning p) (space p) o → c ≡ record { code = leaf.Word 0; width = 1 } → IsCode t ws e c
      code_none o c is h z =
          let g = subst (λ x. Gives ws (meaning p) (space p) x) is h in
          subst (IsCode t ws e) (sym z) (record {
            value = λ u vs suit. record {
              there = ap Some (found u ∙ ap (λ x. unwrap_or x zero_bit) (g u.names vs suit)) ∙ sym (ap (λ (f : List ℕ → ℕ). Some (word 1 (f vs))) (code-Word (List ℕ → ℕ) value_level 0));
              word = subst (λ n. IsWord (word 1 n)) (sym (ap (λ (f : List ℕ → ℕ). f vs) (code-Word (List ℕ → ℕ) value_level 0))) bit_word;
            };
            space = omega (arith, code-Word ℕ space_level 0);
          })

    pub none_is : (n : ℕ) → IsOptionCode t ws n None (leaf.Word n)
    none_is n = record { value = λ u r suit. ap (λ (f : List ℕ → ℕ). f r.names) (code-Word (List ℕ → ℕ) value_level n); space = omega (arith, code-Word ℕ space_level n) }

    pub some_is : (n : ℕ) (e : Expr) (c : Typed) → IsCode t ws e c → IsOptionCode t ws n (Some e) c.code
    some_is n e c m = record { value = λ u r suit. number (word_in t u e) c.width (value_of c.code r.names) (m.value u r.names suit); space = m.space }

    -- a condition that is omitted holds, and an address that is omitted is 0
    holds_or : (u : Under) (e : Option Expr) → (value_or t u 1 e == 1) ≡ holds t u e
    holds_or u None = refl
    holds_or u (Some e) = refl

    address_or : (u : Under) (e : Option Expr) → value_or t u 0 e ≡ address_in t u e
    address_or u None = refl
    address_or u (Some e) = refl

    condition_is : (e : Option Expr) (c : Code) (u : Under) (r : Raw) → IsOptionCode t ws 1 e c → AllSuit ws u.names r.names → holds_at r c ≡ holds t u e
    condition_is e c u r h suit = ap (λ n. n == 1) (h.value u r suit) ∙ holds_or u e

    -- a read
    addressed : (u : Under) (r : ReadStmt) (guess : Option Expr) (a : ℕ) → a ≡ address_in t u r.address → cond (is_some guess) 0 a ≡ address_read t u r guess
    addressed u r None a e = e
    addressed u r (Some g) a e = refl

    pub reading_is : (r : ReadStmt) (s : Reading) → s.place ≡ position (is_same_name r.name.name) t.names → s.target ≡ number_of t.targets r.target.name
        → s.is_guessed ≡ is_some r.guess → IsOptionCode t ws 0 r.address s.address → IsOptionCode t ws 1 r.when s.when → IsReading t ws r s
    reading_is r s place target guessed address when =
        let test : (u : Under) (x : Raw) → AllSuit ws u.names x.names → holds_at x s.when ≡ holds t u r.when = λ u x suit. condition_is r.when s.when u x when suit in
        let at : (u : Under) (x : Raw) → AllSuit ws u.names x.names → value_of s.address x.names ≡ address_in t u r.address = λ u x suit. address.value u x suit ∙ address_or u r.address in
        record {
          place = place;
          asked = λ u x suit. ap (λ b. where_true b (value_of s.address x.names)) (test u x suit) ∙ ap (where_true (holds t u r.when)) (at u x suit);
          value = λ words u x suit.
              ap (λ b. cond b (state_in words s.target (cond s.is_guessed 0 (value_of s.address x.names))) 0) (test u x suit)
              ∙ ap (λ i. cond (holds t u r.when) (state_in words i (cond s.is_guessed 0 (value_of s.address x.names))) 0) target
              ∙ ap (λ b. cond (holds t u r.when) (state_in words (number_of t.targets r.target.name) (cond b 0 (value_of s.address x.names))) 0) guessed
              ∙ ap (λ a. cond (holds t u r.when) (state_in words (number_of t.targets r.target.name) a) 0) (addressed u r r.guess (value_of s.address x.names) (at u x suit));
          space = let a = address.space in let b = when.space in omega (arith, a, b);
        }

    -- a name that gets its value
    pub named : (u : Under) (r : Raw) (n : List ℕ) (o : Option ℕ) (x : Word) (w v : ℕ) → IsShown ws u r → o ≡ position (is_same_name n) t.names → Holds (Some x) w v
        → IsShown (with_width ws o w) (with_name t u n x) (with_place r o v)
    named u r n o x w v h is one = record {
      names = subst (λ p. AllSuit (with_width ws o w) (set_place u.names p x) (put_place r.names o v)) is (suits_place ws u.names r.names o w x v h.names one);
      pipes = h.pipes;
      results = h.results;
    }

    pub does_read : (r : ReadStmt) (s : Reading) (o : Option ℕ) (w : ℕ) → o ≡ position (is_same_name r.name.name) t.names
        → w ≡ width_of t.targets r.target.name → (nat_le 1 w && nat_le w 64) ≡ true → IsReading t ws r s → DoesRead t ws r (record { step = moves.Read s; place = o; width = w })
    does_read r s o w place width test h = record {
      after = λ words u x fit shown.
          let in_range = and_parts (nat_le 1 w) (nat_le w 64) test in
          let low : 1 ≤ w = leb-true 1 w in_range.0 in
          let high : w ≤ 64 = leb-true w 64 in_range.1 in
          let v : ℕ = value_read t words u r in
          let tw : ℕ = width_of t.targets r.target.name in
          let small : v < 2 ^ tw = cond_both (holds t u r.when) (state_in words (number_of t.targets r.target.name) (address_read t u r r.guess)) 0 (λ n. n < 2 ^ tw)
          (λ _. words_fit t.targets words fit r.target.name (address_read t u r r.guess)) (λ _. pow_pos tw) in
          let small_w : v < 2 ^ w = subst (λ n. v < 2 ^ n) (sym width) small in
          let f : fitted tw v ≡ word w v = ap (λ n. fitted n v) (sym width) ∙ fitted_is w v low high small_w in
          let one : Holds (Some (fitted tw v)) w (value_at words x s) =
          subst (Holds (Some (fitted tw v)) w) (sym (h.value words u x shown.names)) (record { there = ap Some f; word = record { positive = low; at_most = high; fits = small_w } }) in
          subst (λ p. IsShown (with_width ws o w) (with_name t u r.name.name (fitted tw v)) (with_place x p (value_at words x s))) (place ∙ sym h.place)
          (named u x r.name.name o (fitted tw v) w (value_at words x s) shown place one);
      noted = λ u x n shown.
          ap (λ a. with_read n (narrow_address a)) (h.asked u x shown.names)
          ∙ sym (ap (λ b. cond b (with_read n (narrow_address (asked_in t u r))) n) (sym (ap (λ v. nat_le 1 v && nat_le v 64) width) ∙ test));
      space = let a = h.space in omega (arith, a);
    }

    pub does_nowhere : (r : ReadStmt) (o : Option ℕ) (w : ℕ) → o ≡ position (is_same_name r.name.name) t.names
        → w ≡ width_of t.targets r.target.name → (nat_le 1 w && nat_le w 64) ≡ false → DoesRead t ws r (record { step = moves.Let o (leaf.Word 0); place = o; width = 1 })
    does_nowhere r o w place width bad = record {
      after = λ words u x fit shown.
          let v : ℕ = value_read t words u r in
          let f : fitted (width_of t.targets r.target.name) v ≡ zero_bit = ap (λ n. fitted n v) (sym width) ∙ no_fit w v bad in
          let z : value_of (leaf.Word 0) x.names ≡ 0 = ap (λ (g : List ℕ → ℕ). g x.names) (code-Word (List ℕ → ℕ) value_level 0) in
          subst (λ y. IsShown (with_width ws o 1) (with_name t u r.name.name y) (with_place x o (value_of (leaf.Word 0) x.names))) (sym f)
          (named u x r.name.name o zero_bit 1 (value_of (leaf.Word 0) x.names) shown place (subst (Holds (Some zero_bit) 1) (sym z) zero_held));
      noted = λ u x n shown. sym (ap (λ b. cond b (with_read n (narrow_address (asked_in t u r))) n) (sym (ap (λ v. nat_le 1 v && nat_le v 64) width) ∙ bad));
      space = omega (arith, code-Word ℕ space_level 0);
    }

    pub does_let : (k : StmtKind) (n : tree.Named) (e : Expr) (o : Option ℕ) (c : Typed) → k ≡ stmts.Let n e
        → o ≡ position (is_same_name n.name) t.names → IsCode t ws e c → Does t ws k (record { step = moves.Let o c.code; place = o; width = c.width })
    does_let k n e o c is place h = subst (λ x. Does t ws x (record { step = moves.Let o c.code; place = o; width = c.width })) (sym is) (record {
      after = λ words u r fit shown. named u r n.name o (word_in t u e) c.width (value_of c.code r.names) shown place (h.value u r.names shown.names);
      noted = λ u r n shown. refl;
      space = h.space;
    })

    pub does_put : (k : StmtKind) (n : tree.Named) (e : Expr) (m : Made) (i : ℕ) (c : Typed) → k ≡ stmts.Put n e → m ≡ unnamed (moves.Put i c.code) → i ≡ number_of t.pipes n.name → IsCode t ws e c → Does t ws k m
    does_put k n e m i c is made place h = subst (λ x. Does t ws x m) (sym is) (subst (λ x. Does t ws (stmts.Put n e) x) (sym made) (record {
      after = λ words u r fit shown. record {
        names = shown.names;
        pipes =
            ap (λ ps. set ps i (value_of c.code r.names)) shown.pipes
            ∙ ap (λ j. set u.pipes j (value_of c.code r.names)) place
            ∙ ap (set u.pipes (number_of t.pipes n.name)) (number (word_in t u e) c.width (value_of c.code r.names) (h.value u r.names shown.names));
        results = shown.results;
      };
      noted = λ u r n shown. refl;
      space = h.space;
    }))

    target_shown : (u : Under) (r : Raw) (o : Option ResultDecl) (v : ℕ) → IsShown ws u r
        → IsShown ws (with_result t u o v) (with_target r (option_map (λ x. number_of t.targets x.target.name) o) v)
    target_shown u r None v h = h
    target_shown u r (Some x) v h = record {
      names = h.names;
      pipes = h.pipes;
      results = ap (λ rs. set rs (number_of t.targets x.target.name) (first_value (get_or rs (number_of t.targets x.target.name) None) (Some v))) h.results;
    }

    either_shown : (b : Bool) (u v : Under) (r s : Raw) → IsShown ws u r → IsShown ws v s → IsShown ws (cond b v u) (cond b s r)
    either_shown true u v r s h k = k
    either_shown false u v r s h k = h

    pub does_set : (k : StmtKind) (n : tree.Named) (e : Expr) (when : Option Expr) (m : Made) (i : Option ℕ) (c : Typed) (w : Code) → k ≡ stmts.Set n e when → m ≡ unnamed (moves.Set i c.code w)
        → i ≡ option_map (λ x. number_of t.targets x.target.name) (result_named t.decls n.name) → IsCode t ws e c → IsOptionCode t ws 1 when w → Does t ws k m
    does_set k n e when m i c w is made place h g = subst (λ x. Does t ws x m) (sym is) (subst (λ x. Does t ws (stmts.Set n e when) x) (sym made) (record {
      after = λ words u r fit shown.
          let v : ℕ = value_of c.code r.names in
          let x : ℕ = (word_in t u e).value in
          let same : v ≡ x = number (word_in t u e) c.width v (h.value u r.names shown.names) in
          let there : IsShown ws (with_result t u (result_named t.decls n.name) x) (with_target r i v) =
          subst (λ j. IsShown ws (with_result t u (result_named t.decls n.name) x) (with_target r j v)) (sym place)
          (subst (λ y. IsShown ws (with_result t u (result_named t.decls n.name) x) (with_target r (option_map (λ z. number_of t.targets z.target.name) (result_named t.decls n.name)) y)) (sym same)
          (target_shown u r (result_named t.decls n.name) x shown)) in
          subst (λ b. IsShown ws (cond (holds t u when) (with_result t u (result_named t.decls n.name) x) u) (cond b (with_target r i v) r)) (sym (condition_is when w u r g shown.names))
          (either_shown (holds t u when) u (with_result t u (result_named t.decls n.name) x) r (with_target r i v) shown there);
      noted = λ u r n shown. refl;
      space = let a = h.space in let b = g.space in omega (arith, a, b);
    }))

    pub does_nothing : (k : StmtKind) (n : tree.Named) (e : Expr) (m : Made) → k ≡ stmts.Aim n e → m ≡ unnamed moves.Nothing → Does t ws k m
    does_nothing k n e m is made = subst (λ x. Does t ws x m) (sym is) (subst (λ x. Does t ws (stmts.Aim n e) x) (sym made) (record { after = λ words u r fit shown. shown; noted = λ u r n shown. refl; space = omega arith }))

  -- some steps, and one more
  pub no_steps : (ws : List (Option ℕ)) → DoesAll t ws [] [] ws
  no_steps ws = record { shown = λ words u r fit h. h; noted = λ words u r n fit h. refl; space = omega arith }

  steps_last : (words : List (List ℕ)) (r : Raw) (ss : List Step) (s : Step) → after_steps words r (ss ++ s ∷ []) ≡ after_step words (after_steps words r ss) s
  steps_last words r [] s = refl
  steps_last words r (x ∷ ss) s = steps_last words (after_step words r x) ss s

  stmts_last : (words : List (List ℕ)) (u : Under) (xs : List Stmt) (x : Stmt) → after_stmts t words u (xs ++ x ∷ []) ≡ after_stmt t words (after_stmts t words u xs) x.kind
  stmts_last words u [] x = refl
  stmts_last words u (y ∷ xs) x = stmts_last words (after_stmt t words u y.kind) xs x

  steps_noted : (words : List (List ℕ)) (r : Raw) (n : Noted) (ss : List Step) (s : Step)
      → note_steps words r n (ss ++ s ∷ []) ≡ note_step (after_steps words r ss) (note_steps words r n ss) s
  steps_noted words r n [] s = refl
  steps_noted words r n (x ∷ ss) s = steps_noted words (after_step words r x) (note_step r n x) ss s

  stmts_noted : (words : List (List ℕ)) (u : Under) (n : Noted) (xs : List Stmt) (x : Stmt)
      → note_stmts t words u n (xs ++ x ∷ []) ≡ note_stmt t (after_stmts t words u xs) (note_stmts t words u n xs) x.kind
  stmts_noted words u n [] x = refl
  stmts_noted words u n (y ∷ xs) x = stmts_noted words (after_stmt t words u y.kind) (note_stmt t u n y.kind) xs x

  more : (ws : List (Option ℕ)) (xs : List Stmt) (x : Stmt) (ss : List Step) (mid : List (Option ℕ)) (m : Made) → DoesAll t ws xs ss mid → Does t mid x.kind m
      → DoesAll t ws (xs ++ x ∷ []) (ss ++ m.step ∷ []) (with_width mid m.place m.width)
  more ws xs x ss mid m h one = record {
    shown = λ words u r fit shown.
        subst (λ y. IsShown (with_width mid m.place m.width) y (after_steps words r (ss ++ m.step ∷ []))) (sym (stmts_last words u xs x))
        (subst (λ y. IsShown (with_width mid m.place m.width) (after_stmt t words (after_stmts t words u xs) x.kind) y) (sym (steps_last words r ss m.step))
        (one.after words (after_stmts t words u xs) (after_steps words r ss) fit (h.shown words u r fit shown)));
    noted = λ words u r n fit shown.
        steps_noted words r n ss m.step
        ∙ ap (λ y. note_step (after_steps words r ss) y m.step) (h.noted words u r n fit shown)
        ∙ one.noted (after_stmts t words u xs) (after_steps words r ss) (note_stmts t words u n xs) (h.shown words u r fit shown)
        ∙ sym (stmts_noted words u n xs x);
    space = let a = h.space in let b = one.space in omega (arith, a, b, sum_by_push step_space ss m.step, sum_by_push (size_of_stmt t.decls) xs x);
  }

  pub more_steps : (ws : List (Option ℕ)) (xs : List Stmt) (i : ℕ) (x : Stmt) (ss : List Step) (mid : List (Option ℕ)) (m : Made) → i < length xs → x ≡ get_or xs i x → DoesAll t ws (take i xs) ss mid
      → Does t mid x.kind m → DoesAll t ws (take (i + 1) xs) (ss ++ m.step ∷ []) (with_width mid m.place m.width)
  more_steps ws xs i x ss mid m l is h one =
      subst (λ ys. DoesAll t ws ys (ss ++ m.step ∷ []) (with_width mid m.place m.width)) (sym (take_more xs i x l ∙ ap (λ y. take i xs ++ y ∷ []) (sym is))) (more ws (take i xs) x ss mid m h one)

  -- some stages, and one more
  do_more : (ws : List (Option ℕ)) (bs : List Block) (b : Block) (ss : List (List Step)) (s : List Step) → AllDo t ws bs ss → DoesStage t ws b.stmts s → AllDo t ws (bs ++ b ∷ []) (ss ++ s ∷ [])
  do_more ws [] b ss s d one = subst (λ xs. AllDo t ws (b ∷ []) (xs ++ s ∷ [])) (sym d) (one, refl)
  do_more ws (x ∷ bs) b [] s d one = absurd d
  do_more ws (x ∷ bs) b (y ∷ ss) s d one = (d.0, do_more ws bs b ss s d.1 one)

  pub more_stages : (ws : List (Option ℕ)) (bs : List Block) (i : ℕ) (b : Block) (ss : List (List Step)) (s : List Step) → i < length bs → b ≡ get_or bs i b → AllDo t ws (take i bs) ss
      → DoesStage t ws b.stmts s → AllDo t ws (take (i + 1) bs) (ss ++ s ∷ [])
  more_stages ws bs i b ss s l is d one =
      subst (λ ys. AllDo t ws ys (ss ++ s ∷ [])) (sym (take_more bs i b l ∙ ap (λ y. take i bs ++ y ∷ []) (sym is))) (do_more ws (take i bs) b ss s d one)
