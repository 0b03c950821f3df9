use Rattle.std.proofs.Common.{◌≡◌, ◌≤◌, List, ℕ, ◌++◌, drop}
use Rattle.std.specs.Fmt.{HasWritten, IsPlainFormatter}
use Rattle.kp_view_help.specs.Phrases.{phrase_text, terms_texts}
use Rattle.kp_view_help.proofs.phrase.write_phrase.Given as goal

abbrev pub invariant-loop-byte : goal.invariant-loop-byte
invariant-loop-byte g l =
    let terms = terms_texts l.terms in
    (l.number ≤ l.byte-index)
    × (IsPlainFormatter l.initial.f → (done : List ℕ) × HasWritten g.W.Write.write_str_gives l.initial.f done l.f
    × (done ++ phrase_text (drop l.byte-index l.byte-items) (drop l.number terms) ≡ phrase_text l.byte-items terms))
