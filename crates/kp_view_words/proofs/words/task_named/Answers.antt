use Rattle.std.proofs.Common.{◌≡◌, ◌∙◌, sym, ap, map, string_bytes, List}
use Rattle.std.specs.Prelude.{option_map, option_and_then}
use Rattle.kp_command_line.specs.Words.{Name, matched_in, matched_seen, name_seen}
use Rattle.kp_view_words.{specs.inner.Matching.names, specs.inner.Matching.task_matched, proofs.Matching.matched}
use Rattle.kp_view_words.proofs.words.task_named.Goals as goal

pub returns-in-Some : goal.returns-in-Some
returns-in-Some c =
    let texts = map string_bytes c.args.words.now in
    let table : map name_seen c.as_slice.result.now ≡ names = ap (map name_seen) c.as_slice.ensures in
    c.task_matched.ensures
    ∙ ap (option_and_then task_matched) (sym (ap (option_map matched_seen) c.in-Some.is) ∙ c.in_ok-matched.ensures ∙ ap (λ (l : List Name). matched_in l 0 texts) table)
    ∙ matched texts

pub returns-in-None : goal.returns-in-None
returns-in-None c =
    let texts = map string_bytes c.args.words.now in
    let table : map name_seen c.as_slice.result.now ≡ names = ap (map name_seen) c.as_slice.ensures in
    ap (option_and_then task_matched) (sym (ap (option_map matched_seen) c.in-None.is) ∙ c.in_ok-matched.ensures ∙ ap (λ (l : List Name). matched_in l 0 texts) table)
    ∙ matched texts
