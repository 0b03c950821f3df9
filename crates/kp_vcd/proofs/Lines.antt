-- The lines of a list, in order.
use Rattle.std.proofs.Common.{◌≡◌, ◌∙◌, ℕ, ◌+◌, ◌<◌, ◌≤◌, List, [], ◌∷◌, ◌++◌, length, get_or, drop, ap, sym, subst}
use Rattle.std.{proofs.lemmas.List.drop_more, proofs.lemmas.List.drop_all, specs.declared.option.Option.Option}
use Rattle.kp_base.specs.inner.Bytes.{WrittenUpTo}
use Rattle.kp_vcd.specs.declared.dump.{Signal.Signal, Change.Change, Moment.Moment}
use Rattle.kp_vcd.specs.Text.{signal_line, signal_lines, change_line, change_lines, time_line, moment_lines}

-- the text that is left is the same
pub left_is : (whole rest same : List ℕ) (a b : Option (List ℕ)) → rest ≡ same → WrittenUpTo whole rest a b → WrittenUpTo whole same a b
left_is whole rest same a b e written = subst (λ (text : List ℕ). WrittenUpTo whole text a b) e written

pub signals_next : (ss : List Signal) (i : ℕ) (x : Signal) → i < length ss → x ≡ get_or ss i x
    → signal_lines i (drop i ss) ≡ signal_line i x ++ signal_lines (i + 1) (drop (i + 1) ss)
signals_next ss i x h is = ap (signal_lines i) (drop_more ss i x h ∙ ap (λ (y : Signal). y ∷ drop (i + 1) ss) (sym is))

pub changes_next : (cs : List Change) (i : ℕ) (x : Change) → i < length cs → x ≡ get_or cs i x
    → change_lines (drop i cs) ≡ change_line x ++ change_lines (drop (i + 1) cs)
changes_next cs i x h is = ap change_lines (drop_more cs i x h ∙ ap (λ (y : Change). y ∷ drop (i + 1) cs) (sym is))

pub moments_next : (ms : List Moment) (i : ℕ) (x : Moment) → i < length ms → x ≡ get_or ms i x
    → moment_lines (drop i ms) ≡ (time_line x.at ++ change_lines x.changes) ++ moment_lines (drop (i + 1) ms)
moments_next ms i x h is = ap moment_lines (drop_more ms i x h ∙ ap (λ (y : Moment). y ∷ drop (i + 1) ms) (sym is))
