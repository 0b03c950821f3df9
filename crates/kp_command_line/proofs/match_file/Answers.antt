use Rattle.std.proofs.Common.{◌∙◌, sym, ap, map, string_bytes}
use Rattle.std.specs.Prelude.{Some, option_map, slice_get}
use Rattle.kp_command_line.{specs.Words.Matched, specs.Words.is_flag, specs.Words.matched_seen, specs.Words.source_in, proofs.Parses.any_text, proofs.Parses.flagged, proofs.Parses.filed}
use Rattle.kp_command_line.proofs.match_file.Goals as goal

pub returns-then-has_flag : goal.returns-then-has_flag
returns-then-has_flag c =
    flagged (map string_bytes c.args.words.now) (sym (any_text string_bytes is_flag c.args.words.now) ∙ sym c.has_flag.ensures ∙ c.if-has_flag.true)

pub match_words-requires : goal.match_words-requires
match_words-requires c = sym (any_text string_bytes is_flag c.args.words.now) ∙ sym c.has_flag.ensures ∙ c.if-has_flag.false

pub returns-in-Some : goal.returns-in-Some
returns-in-Some c =
    let free = sym (any_text string_bytes is_flag c.args.words.now) ∙ sym c.has_flag.ensures ∙ c.if-has_flag.false in
    ap Some c.of.ensures ∙ ap (option_map (λ (m : Matched). source_in (slice_get m.rest 0))) (sym (ap (option_map matched_seen) c.in-Some.is) ∙ c.in_ok-matched.ensures)
    ∙ filed (map string_bytes c.args.words.now) free

pub returns-in-None : goal.returns-in-None
returns-in-None c =
    let free = sym (any_text string_bytes is_flag c.args.words.now) ∙ sym c.has_flag.ensures ∙ c.if-has_flag.false in
    ap (option_map (λ (m : Matched). source_in (slice_get m.rest 0))) (sym (ap (option_map matched_seen) c.in-None.is) ∙ c.in_ok-matched.ensures)
    ∙ filed (map string_bytes c.args.words.now) free
