use Rattle.std.proofs.Common.{◌≡◌, ◌<◌, ◌≤◌, ℕ, Bool, true, false, [], ◌∷◌, ◌++◌, length, get_or, map, All, refl, sym, subst, ap, ◌∙◌, arith, ⊎_elim}
use Rattle.std.proofs.lemmas.{Bool.cases_lt, List.Elements.All-append}
use Rattle.kp_base.specs.{Lines.is_break, Lines.piece_of, Lines.IsWithin}
use Rattle.kp_base.proofs.Splitting.{between, lines_more, lines_last, run_within}
use Rattle.kp_base.proofs.run.lines_in.Goals as goal

either : {A : Type 0} (b : Bool) → (b ≡ true → A) → (b ≡ false → A) → A
either true f g = f refl
either false f g = g refl

pub loop-i-preserved : goal.loop-i-preserved
loop-i-preserved c =
    let text = c.args.text.now in
    let a = c.loop-i.at in
    let i = c.loop-i.i in
    let e = c.args.run.end in
    let old = c.loop-i.lines.items in
    let new = c.end_line.new.lines.items in
    let inv = c.loop-i.invariant in
    let ends = c.in_ok-at.ensures.ends in
    let goes_on = c.in_ok-at.ensures.goes_on in
    let inside : i < e = c.loop-i-test.true in
    let within : e ≤ length text = c.requires.within.1 in
    let b : Bool = is_break (get_or text i 0) in
    record {
      lines = either b
          (λ on. ap (λ (n : ℕ). map (piece_of text) new ++ between is_break text n e) (ends on).0
          ∙ lines_more text a i e old new inv.after inside within inv.clean on (ends on).1 ∙ inv.lines)
          (λ off. (λ j. map (piece_of text) ((goes_on off).1 j) ++ between is_break text ((goes_on off).0 j) e) ∙ inv.lines);
      within = either b
          (λ on. subst (All (IsWithin text)) (sym (ends on).1)
          (All-append (IsWithin text) old (record { at = a; end = i } ∷ []) inv.within (run_within text a i inv.after (omega (arith, inside, within)))))
          (λ off. subst (All (IsWithin text)) (sym (goes_on off).1) inv.within);
      after = either b (λ on. omega (arith, (ends on).0)) (λ off. omega (arith, (goes_on off).0, inv.after));
      clean = either b
          (λ on k x y. absurd (omega (arith, (ends on).0, x, y)))
          (λ off k x y. ⊎_elim
          (λ (l : k < i). inv.clean k (omega (arith, (goes_on off).0, x)) l)
          (λ (l : i ≤ k). let z : k ≡ i = omega (arith, l, y) in ap (λ (n : ℕ). is_break (get_or text n 0)) z ∙ off)
          (cases_lt k i));
    }

pub returns-clause-lines : goal.returns-clause-lines
returns-clause-lines c =
    let inv = c.loop-i.invariant in
    let before : c.args.run.at ≤ c.args.run.end = c.requires.within.0 in
    let end : c.loop-i.i ≤ c.args.run.end = omega (arith, c.loop-i.auto.i-end, before) in
    lines_last c.args.text.now c.loop-i.at c.args.run.end c.loop-i.lines.items c.push.new.self.items (omega (arith, inv.after, end)) c.requires.within.1
    (λ k x y. inv.clean k x (omega (arith, y, c.loop-i-test.false))) c.in_ok-push.ensures.items
    ∙ inv.lines

pub returns-clause-within : goal.returns-clause-within
returns-clause-within c =
    let inv = c.loop-i.invariant in
    let text = c.args.text.now in
    let before : c.args.run.at ≤ c.args.run.end = c.requires.within.0 in
    let end : c.loop-i.i ≤ c.args.run.end = omega (arith, c.loop-i.auto.i-end, before) in
    subst (All (IsWithin text)) (sym c.in_ok-push.ensures.items)
    (All-append (IsWithin text) c.loop-i.lines.items (record { at = c.loop-i.at; end = c.args.run.end } ∷ []) inv.within
    (run_within text c.loop-i.at c.args.run.end (omega (arith, inv.after, end)) c.requires.within.1))
