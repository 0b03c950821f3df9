use Rattle.std.proofs.Common.{◌≡◌, ◌∙◌, ap, arith, length, string_bytes, sym}
use Rattle.kp_command_line.specs.Words.{is_flag}
use Rattle.kp_view_words.proofs.Flags.{dash_found, dash_later, dash_nowhere}
use Rattle.kp_view_words.proofs.labels.undashed.Goals as goal

pub returns-then-is_flag-clause-count : goal.returns-then-is_flag-clause-count
returns-then-is_flag-clause-count c =
    dash_found string_bytes c.args.words.now c.loop-i.i _ _ c.loop-i-test.true c.index-words-i.is
    (ap is_flag (sym c.as_bytes.ensures.value) ∙ sym c.is_flag.ensures ∙ c.if-is_flag.true) c.loop-i.invariant

pub loop-i-preserved : goal.loop-i-preserved
loop-i-preserved c =
    dash_later string_bytes c.args.words.now c.loop-i.i _ _ c.loop-i-test.true c.index-words-i.is
    (ap is_flag (sym c.as_bytes.ensures.value) ∙ sym c.is_flag.ensures ∙ c.if-is_flag.false) c.loop-i.invariant

pub returns-clause-count : goal.returns-clause-count
returns-clause-count c =
    let all : length c.args.words.now ≡ c.loop-i.i = omega arith in
    all ∙ dash_nowhere string_bytes c.args.words.now c.loop-i.i (sym all) c.loop-i.invariant
