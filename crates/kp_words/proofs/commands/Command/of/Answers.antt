use Rattle.std.proofs.Common.{◌≡◌, ◌∙◌, sym, ap, map, string_bytes, List}
use Rattle.std.specs.Prelude.{option_map, option_and_then}
use Rattle.kp_command_line.{specs.Words.Name, specs.Words.matched_in, specs.Words.matched_seen, specs.Words.name_seen, proofs.Parses.any_text}
use Rattle.kp_words.{specs.Commands.is_barred, specs.inner.Matching.command_matched, specs.inner.Matching.names, proofs.Matching.matched, proofs.Matching.free, proofs.Matching.barred_none}
use Rattle.kp_words.proofs.commands.Command.of.Goals as goal

pub match_words-requires : goal.match_words-requires
match_words-requires c =
    free (map string_bytes c.args.words.now) (sym (any_text string_bytes is_barred c.args.words.now) ∙ sym c.has_barred.ensures ∙ c.if-has_barred.false)

pub returns-then-has_barred-clause-command : goal.returns-then-has_barred-clause-command
returns-then-has_barred-clause-command c =
    sym (barred_none (map string_bytes c.args.words.now) (sym (any_text string_bytes is_barred c.args.words.now) ∙ sym c.has_barred.ensures ∙ c.if-has_barred.true))

pub returns-in-Some-clause-command : goal.returns-in-Some-clause-command
returns-in-Some-clause-command c =
    let texts = map string_bytes c.args.words.now in
    let table : map name_seen c.as_slice.result.now ≡ names = ap (map name_seen) c.as_slice.ensures in
    c.of_matched.ensures
    ∙ ap (option_and_then command_matched) (sym (ap (option_map matched_seen) c.in-Some.is) ∙ c.in_ok-matched.ensures ∙ ap (λ (l : List Name). matched_in l 0 texts) table)
    ∙ matched texts

pub returns-in-None-clause-command : goal.returns-in-None-clause-command
returns-in-None-clause-command c =
    let texts = map string_bytes c.args.words.now in
    let table : map name_seen c.as_slice.result.now ≡ names = ap (map name_seen) c.as_slice.ensures in
    ap (option_and_then command_matched) (sym (ap (option_map matched_seen) c.in-None.is) ∙ c.in_ok-matched.ensures ∙ ap (λ (l : List Name). matched_in l 0 texts) table)
    ∙ matched texts
