-- Binding a name to a value, in the list of values by index.
use Rattle.std.proofs.Common.{◌≡◌, ◌≢◌, ◌∙◌, ℕ, ◌<◌, List, [], Option, Some, None, true, false, cond, get_or, set, length, ap, sym}
use Rattle.std.{proofs.lemmas.List.get_or-set_same, proofs.lemmas.List.get_or-set_other, proofs.lemmas.List.Quantifiers.position-Some, specs.List.position}
use Rattle.std.specs.Cmp.Lexicographic.{bytes_decides}
use Rattle.kp_bits.specs.Word.{Word}
use Rattle.kp_ast.specs.Expressions.{is_same_name}
use Rattle.kp_machine.proofs.Cases.{by_test, by_option}
use Rattle.kp_seq_plan.specs.Names.{at_place}
use Rattle.kp_seq.specs.inner.Names.{held, set_place, bound}

module _ (keys : List (List ℕ)) (vs : List (Option Word)) (n : List ℕ) (w : Word) (i : ℕ) (is : position (is_same_name n) keys ≡ Some i) (inside : i < length vs) where
  bound_is : bound keys vs n w ≡ set vs i (Some w)
  bound_is = ap (λ o. set_place vs o w) is

  -- the name itself, and any other
  held_same : held keys (bound keys vs n w) n ≡ Some w
  held_same = ap (λ xs. held keys xs n) bound_is ∙ ap (at_place (set vs i (Some w))) is ∙ get_or-set_same vs i (Some w) None inside

  held_other : (q : List ℕ) → is_same_name q n ≡ false → held keys (bound keys vs n w) q ≡ held keys vs q
  held_other q other = ap (λ xs. held keys xs q) bound_is ∙ by_option (position (is_same_name q) keys)
      (λ none. ap (at_place (set vs i (Some w))) none ∙ sym (ap (at_place vs) none))
      (λ j some.
      let a = position-Some (is_same_name q) keys j [] some in
      let b = position-Some (is_same_name n) keys i [] is in
      let apart : j ≢ i = λ e.
      let x : q ≡ get_or keys j [] = (bytes_decides q (get_or keys j [])).0 a.1 in
      let y : n ≡ get_or keys i [] = (bytes_decides n (get_or keys i [])).0 b.1 in
      let z : q ≡ n = x ∙ ap (λ k. get_or keys k []) e ∙ sym y in
      let f : is_same_name q n ≡ true = (bytes_decides q n).1 z in
      let g : true ≡ false = sym f ∙ other in cc in
      ap (at_place (set vs i (Some w))) some ∙ get_or-set_other vs i j (Some w) None apart ∙ sym (ap (at_place vs) some))

  pub held_bound : (q : List ℕ) → held keys (bound keys vs n w) q ≡ cond (is_same_name q n) (Some w) (held keys vs q)
  held_bound q = by_test (is_same_name q n)
      (λ y.
      let e : q ≡ n = (bytes_decides q n).0 y in
      ap (λ x. held keys (bound keys vs n w) x) e ∙ held_same ∙ sym (ap (λ b. cond b (Some w) (held keys vs q)) y))
      (λ y. held_other q y ∙ sym (ap (λ b. cond b (Some w) (held keys vs q)) y))
