use Rattle.std.proofs.{Common.refl, Common.ap, Common.◌∙◌, Common.length, Common.arith, lemmas.List.length-map}
use Rattle.kp_lex.proofs.Counted.{tokens_within}
use Rattle.kp_parse_grammar.specs.Tokens.{lexeme_of, lexemes}
use Rattle.kp_parse.specs.Sentence.{Breaks}
use Rattle.kp_parse.proofs.Text.{spelled_all, is_tree, is_only, is_wrong, is_too_deep, no_tree_wrong, no_tree_deep}
use Rattle.kp_parse.proofs.job.parse.Goals as goal

pub new-requires : goal.new-requires
new-requires c = rw c.as_slice-all.ensures (spelled_all c.args.text.now c.args.lexed.now c.requires.lexed)

pub returns-in-Ok-clause-answer : goal.returns-in-Ok-clause-answer
returns-in-Ok-clause-answer c =
    let all = c.new.ensures ∙ ap (lexemes c.args.text.now) c.as_slice-all.ensures in
    (is_tree _ _ _ (rw all at c.in-Ok.ensures.goes), refl)

pub returns-in-Ok-clause-only : goal.returns-in-Ok-clause-only
returns-in-Ok-clause-only c = λ j tree.
    let all = c.new.ensures ∙ ap (lexemes c.args.text.now) c.as_slice-all.ensures in
    is_only _ _ _ j (rw all at c.in-Ok.ensures.goes) tree

pub returns-in-Err-Wrong-clause-answer : goal.returns-in-Err-Wrong-clause-answer
returns-in-Err-Wrong-clause-answer c =
    let all = c.new.ensures ∙ ap (lexemes c.args.text.now) c.as_slice-all.ensures in
    let stops = rw c.in-Err-Wrong.field-0-is at c.in-Err-Wrong.ensures.goes in
    rw c.e.ensures (Breaks.wrong_token (is_wrong _ _ c.in-Err-Wrong.at _ (rw c.as_slice-all.ensures at c.place.ensures) (rw all at stops)))

pub returns-in-Err-Wrong-clause-only : goal.returns-in-Err-Wrong-clause-only
returns-in-Err-Wrong-clause-only c = λ j tree.
    let all = c.new.ensures ∙ ap (lexemes c.args.text.now) c.as_slice-all.ensures in
    let stops = rw c.in-Err-Wrong.field-0-is at c.in-Err-Wrong.ensures.goes in
    absurd (no_tree_wrong _ _ c.in-Err-Wrong.at j (rw all at stops) tree)

pub returns-in-Err-TooDeep-clause-answer : goal.returns-in-Err-TooDeep-clause-answer
returns-in-Err-TooDeep-clause-answer c =
    let all = c.new.ensures ∙ ap (lexemes c.args.text.now) c.as_slice-all.ensures in
    let exceeds = rw c.in-Err-TooDeep.field-0-is at c.in-Err-TooDeep.ensures.goes in
    rw c.e-in-Err-TooDeep.ensures (Breaks.too_deep (is_too_deep _ _ c.in-Err-TooDeep.at _ (rw c.as_slice-all.ensures at c.place-in-Err-TooDeep.ensures) (rw all at exceeds)))

pub returns-in-Err-TooDeep-clause-only : goal.returns-in-Err-TooDeep-clause-only
returns-in-Err-TooDeep-clause-only c = λ j tree.
    let all = c.new.ensures ∙ ap (lexemes c.args.text.now) c.as_slice-all.ensures in
    let exceeds = rw c.in-Err-TooDeep.field-0-is at c.in-Err-TooDeep.ensures.goes in
    absurd (no_tree_deep _ _ c.in-Err-TooDeep.at j (rw all at exceeds) tree)

pub returns-in-Ok-clause-few : goal.returns-in-Ok-clause-few
returns-in-Ok-clause-few c =
    let all = c.new.ensures ∙ ap (lexemes c.args.text.now) c.as_slice-all.ensures in
    let count = ap length all ∙ length-map c.args.lexed.now.tokens (lexeme_of c.args.text.now) in
    let most = tokens_within c.args.text.now c.args.lexed.now c.requires.lexed in
    (omega (arith, c.in-Ok.ensures.few), omega (arith, c.in-Ok.ensures.few))
