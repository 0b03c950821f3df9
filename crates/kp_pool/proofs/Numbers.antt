-- The index of a pool, and a node that is appended to the pool's list.
use Rattle.std.proofs.Common.{◌≡◌, ◌∙◌, ℕ, ◌+◌, ◌<◌, ◌≤◌, Bool, true, false, cond, List, [], ◌∷◌, ◌++◌, length, get_or, length-append, refl, sym, ap, subst, arith, ⊎_elim, Option, None, Some, MatchOption, Result, Ok, Err, IfOk, OnOk, OnErr}
use Rattle.std.proofs.{Math.ListN.get_or-append, Math.Seq.get_or-append_seam, lemmas.Bool.cases_lt, lemmas.Bool.false≢true}
use Rattle.std.specs.{Prelude.if◌then◌else◌, Option.is_some, Map.lookup}
use Rattle.kp_net.{specs.declared.node.Node.Node, specs.Widths.no_node, specs.inner.Lookup.LacksBelow, proofs.Found.is, proofs.Same.node_from_eq, proofs.Same.node_eq_itself}
use Rattle.kp_pool.specs.inner.Numbers.{Numbered, Has, IsIndex}

module _ (ns : List Node) (n : Node) where
  -- the list with the node
  abbrev more : List Node
  more = ns ++ n ∷ []

  count : length more ≡ length ns + 1
  count = length-append ns (n ∷ [])

  -- what was said of the list is so of the longer one
  says : (q : Node) (k : ℕ) (o : Option ℕ) → k ≤ length ns → MatchOption o (LacksBelow ns q k) (Has ns q) → MatchOption o (LacksBelow more q k) (Has more q)
  says q k None l h = λ i m e. h i m (sym (get_or-append ns (n ∷ []) no_node i (omega (arith, l, m))) ∙ e)
  says q k (Some i) l h = (omega (arith, h.0, count), get_or-append ns (n ∷ []) no_node i h.0 ∙ h.1)

  -- the node isn't added to the index
  pub stays : (t : Numbered) → IsIndex t ns → IsIndex t more
  stays t h = record { within = omega (arith, h.within, count); each = λ q. says q (length t) (lookup (is q) t) h.within (h.each q) }

  last : get_or more (length ns) no_node ≡ n
  last = get_or-append_seam ns n [] no_node

  -- it is added to an index of all nodes
  pub added : (t u : Numbered) → IsIndex t ns → length t ≡ length ns → length u ≤ length t + 1
      → ((q : Node) → lookup (is q) u ≡ cond (is n q) (Some (length ns)) (lookup (is q) t)) → IsIndex u more
  added t u h all one put = record {
    within = omega (arith, all, one, count);
    each = λ q. by q (is n q) refl;
  }
    where
      further : (q : Node) (o : Option ℕ) → is n q ≡ false → MatchOption o (LacksBelow more q (length t)) (Has more q) → MatchOption o (LacksBelow more q (length u)) (Has more q)
      further q (Some i) e g = g
      further q None e g = λ i m f. ⊎_elim
          (λ (l : i < length t). g i l f)
          (λ (l : length t ≤ i).
          let z : length ns ≡ i = omega (arith, l, m, one, all) in
          let same : n ≡ q = sym last ∙ ap (λ j. get_or more j no_node) z ∙ f in
          false≢true (sym e ∙ ap (is n) (sym same) ∙ node_eq_itself n))
          (cases_lt i (length t))

      by : (q : Node) (b : Bool) → is n q ≡ b → MatchOption (lookup (is q) u) (LacksBelow more q (length u)) (Has more q)
      by q true e = subst (λ (o : Option ℕ). MatchOption o (LacksBelow more q (length u)) (Has more q))
          (sym (put q ∙ ap (λ b. cond b (Some (length ns)) (lookup (is q) t)) e))
          (omega (arith, count), last ∙ node_from_eq n q e)
      by q false e = subst (λ (o : Option ℕ). MatchOption o (LacksBelow more q (length u)) (Has more q))
          (sym (put q ∙ ap (λ b. cond b (Some (length ns)) (lookup (is q) t)) e))
          (further q (lookup (is q) t) e (says q (length t) (lookup (is q) t) h.within (h.each q)))

  -- the index after an insertion, which may fail
  pub inserted : {E : Type 0} (t u : Numbered) (r : Result (Option ℕ) E) (i : ℕ) → IsIndex t ns → length t ≡ length ns → i ≡ length ns
      → OnOk r ((q : Node) → lookup (is q) u ≡ cond (is n q) (Some i) (lookup (is q) t))
      → IfOk r (λ old. length u ≡ length t + (if is_some old then 0 else 1)) → OnErr r (u ≡ t) → IsIndex u more
  inserted t u (Ok None) i h all e put one same = added t u h all (omega (arith, one)) (λ q. put q ∙ ap (λ j. cond (is n q) (Some j) (lookup (is q) t)) e)
  inserted t u (Ok (Some _)) i h all e put one same = added t u h all (omega (arith, one)) (λ q. put q ∙ ap (λ j. cond (is n q) (Some j) (lookup (is q) t)) e)
  inserted t u (Err x) i h all e put one same = subst (λ (x : Numbered). IsIndex x more) (sym same) (stays t h)
