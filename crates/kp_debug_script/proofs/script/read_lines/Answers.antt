use Rattle.std.proofs.Common.{◌≡◌, ◌+◌, ◌<◌, ◌≤◌, ℕ, Bool, true, false, List, length, get_or, [], refl, sym, ap, ◌∙◌, arith, ⊎_elim}
use Rattle.std.proofs.lemmas.{Bool.cases_lt, Result.err_from_is_err_and}
use Rattle.kp_ast.specs.declared.tree.Decl.{Decl}
use Rattle.kp_debug_script.specs.{declared.command.Command.Command, inner.Reading.behind}
use Rattle.kp_debug_script.proofs.Turns.{left_from, all_left, line_more, line_last, this_line, breaks, last_line}
use Rattle.kp_base.specs.Lines.{is_break}
use Rattle.kp_debug_script.proofs.script.read_lines.Goals as goal

either : {A : Type 0} (b : Bool) → (b ≡ true → A) → (b ≡ false → A) → A
either true f g = f refl
either false f g = g refl

pub loop-i-init : goal.loop-i-init
loop-i-init c =
    let text = c.args.text.now in
    let ds : List Decl = c.args.decls.now in
    let from = c.args.script.at in
    let within : from ≤ length text = omega (arith, c.requires.order, c.requires.end) in
    record {
      commands = ap (λ (cs : List Command). behind cs (left_from text ds from)) c.requires.none ∙ ap (behind []) (all_left text ds from within);
      after = omega arith;
      clean = λ k x y. absurd (omega (arith, x, y));
    }

pub loop-i-preserved : goal.loop-i-preserved
loop-i-preserved c =
    let text = c.args.text.now in
    let ds : List Decl = c.args.decls.now in
    let a = c.loop-i.at in
    let i = c.loop-i.i in
    let old = c.loop-i.commands.items in
    let new = c.end_line.new.commands.items in
    let inv = c.loop-i.invariant in
    let ends = c.in_ok-at.ensures.ends in
    let goes_on = c.in_ok-at.ensures.goes_on in
    let inside : i < length text = omega (arith, c.loop-i-test.true, c.requires.end) in
    let b : Bool = is_break (get_or text i 0) in
    record {
      commands = either b
          (λ on. ap (λ (n : ℕ). behind new (left_from text ds n)) (ends on).0
          ∙ sym ((ends on).1 (left_from text ds (i + 1)))
          ∙ ap (behind old) (sym (line_more text ds a i inv.after inside inv.clean on))
          ∙ inv.commands)
          (λ off. (λ j. behind ((goes_on off).1 j) (left_from text ds ((goes_on off).0 j))) ∙ inv.commands);
      after = either b (λ on. omega (arith, (ends on).0)) (λ off. omega (arith, (goes_on off).0, inv.after));
      clean = either b
          (λ on k x y. absurd (omega (arith, (ends on).0, x, y)))
          (λ off k x y. ⊎_elim
          (λ (l : k < i). inv.clean k (omega (arith, (goes_on off).0, x)) l)
          (λ (l : i ≤ k). let z : k ≡ i = omega (arith, l, y) in ap (λ (n : ℕ). is_break (get_or text n 0)) z ∙ off)
          (cases_lt k i));
    }

pub returns-in_err-at : goal.returns-in_err-at
returns-in_err-at c =
    let text = c.args.text.now in
    let ds : List Decl = c.args.decls.now in
    let a = c.loop-i.at in
    let i = c.loop-i.i in
    let inv = c.loop-i.invariant in
    let inside : i < length text = omega (arith, c.loop-i-test.true, c.requires.end) in
    let broken = c.in_err-at.ensures.broken in
    let p = err_from_is_err_and c.from_residual.result c.from_residual.ensures.1 in
    rw (p.1, p.2) (breaks text (this_line text ds a i) c.loop-i.commands.items (left_from text ds a) (left_from text ds (i + 1)) _ _ _ inv.commands
    (line_more text ds a i inv.after inside inv.clean broken.0) broken.1)

pub returns : goal.returns
returns c =
    let text = c.args.text.now in
    let ds : List Decl = c.args.decls.now in
    let a = c.loop-i.at in
    let e = c.args.script.end in
    let inv = c.loop-i.invariant in
    let end : c.loop-i.i ≤ e = omega (arith, c.loop-i.auto.i-end, c.requires.order) in
    let split = line_last text ds a e (omega (arith, inv.after, end)) c.requires.end (λ k x y. inv.clean k x (omega (arith, y, c.loop-i-test.false))) in
    last_line text (this_line text ds a e) c.loop-i.commands.items c.read_line.new.commands.items (left_from text ds a) _ _ inv.commands split c.read_line.ensures.added c.read_line.ensures.broken
