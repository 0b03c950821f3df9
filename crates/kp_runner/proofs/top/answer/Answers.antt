use Rattle.std.proofs.Common.{ap, refl, map}
use Rattle.kp_runner.{specs.Words.asked, specs.Words.bad_words, specs.Words.help, specs.Words.version, specs.Reading.file_seen, proofs.Outcomes.fixed}
use Rattle.kp_runner.proofs.top.answer.Goals as goal

pub returns-in_ok-fixed-in-BadWords-clause-due : goal.returns-in_ok-fixed-in-BadWords-clause-due
returns-in_ok-fixed-in-BadWords-clause-due g c =
    let made = c.in_ok-fixed-in-BadWords in
    fixed (asked c.args.request.now) bad_words (map file_seen c.args.files.now) (g.S.Source.left c.args.source.now) made.field-0.status made.field-0.text.items
    (ap asked c.in-BadWords.is) refl (made.ensures.status, made.ensures.text)

pub returns-in_ok-fixed-in-Help-clause-due : goal.returns-in_ok-fixed-in-Help-clause-due
returns-in_ok-fixed-in-Help-clause-due g c =
    let made = c.in_ok-fixed-in-Help in
    fixed (asked c.args.request.now) help (map file_seen c.args.files.now) (g.S.Source.left c.args.source.now) made.field-0.status made.field-0.text.items
    (ap asked c.in-Help.is) refl (made.ensures.status, made.ensures.text)

pub returns-in_ok-fixed-in-Version-clause-due : goal.returns-in_ok-fixed-in-Version-clause-due
returns-in_ok-fixed-in-Version-clause-due g c =
    let made = c.in_ok-fixed-in-Version in
    fixed (asked c.args.request.now) version (map file_seen c.args.files.now) (g.S.Source.left c.args.source.now) made.field-0.status made.field-0.text.items
    (ap asked c.in-Version.is) refl (made.ensures.status, made.ensures.text)
