use Rattle.std.proofs.Common.{◌≡◌, ◌∙◌, sym, ap, cond, map, string_bytes, Bool, List, Option, None}
use Rattle.std.specs.Prelude.{option_map, option_and_then}
use Rattle.kp_command_line.{specs.Words.Name, specs.Words.is_flag, specs.Words.has_flag, specs.Words.matched_in, specs.Words.matched_seen, specs.Words.name_seen, proofs.Parses.any_text}
use Rattle.kp_view_explain.specs.Words.{Asked, order_matched, subject_names}
use Rattle.kp_view_explain.proofs.words.Order.with_subject.Goals as goal

pub match_words-requires : goal.match_words-requires
match_words-requires c = sym (any_text string_bytes is_flag c.args.words.now) ∙ sym c.has_flag.ensures ∙ c.if-has_flag.false

pub returns-then-has_flag : goal.returns-then-has_flag
returns-then-has_flag c =
    let texts = map string_bytes c.args.words.now in
    ap (λ (b : Bool). cond b None (option_and_then order_matched (matched_in subject_names 1 texts)))
    (sym c.if-has_flag.true ∙ c.has_flag.ensures ∙ any_text string_bytes is_flag c.args.words.now)

pub returns-in-Some : goal.returns-in-Some
returns-in-Some c =
    let texts = map string_bytes c.args.words.now in
    let table : map name_seen c.as_slice.result.now ≡ subject_names = ap (map name_seen) c.as_slice.ensures in
    c.of_matched.ensures
    ∙ ap (option_and_then order_matched) (sym (ap (option_map matched_seen) c.in-Some.is) ∙ c.in_ok-matched.ensures ∙ ap (λ (l : List Name). matched_in l 1 texts) table)
    ∙ ap (λ (b : Bool). cond b None (option_and_then order_matched (matched_in subject_names 1 texts)))
    (sym c.if-has_flag.false ∙ c.has_flag.ensures ∙ any_text string_bytes is_flag c.args.words.now)

pub returns-in-None : goal.returns-in-None
returns-in-None c =
    let texts = map string_bytes c.args.words.now in
    let table : map name_seen c.as_slice.result.now ≡ subject_names = ap (map name_seen) c.as_slice.ensures in
    ap (option_and_then order_matched) (sym (ap (option_map matched_seen) c.in-None.is) ∙ c.in_ok-matched.ensures ∙ ap (λ (l : List Name). matched_in l 1 texts) table)
    ∙ ap (λ (b : Bool). cond b None (option_and_then order_matched (matched_in subject_names 1 texts)))
    (sym c.if-has_flag.false ∙ c.has_flag.ensures ∙ any_text string_bytes is_flag c.args.words.now)
