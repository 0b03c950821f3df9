use Rattle.std.proofs.Common.{◌∙◌, map}
use Rattle.std.proofs.lemmas.{List.get_or_default, List.Elements.All-push}
use Rattle.kp_base.specs.Lines.{piece_of}
use Rattle.kp_diagram_labels.{specs.Labels.IsLabel, specs.Labels.labels_from, proofs.Reading.label_read}
use Rattle.kp_diagram_labels.proofs.label.labels_of.Goals as goal

pub loop-word-preserved : goal.loop-word-preserved
loop-word-preserved c =
    let job = c.args.layout.now in
    let text = c.args.text.now in
    let words = c.args.words.now in
    let i = c.loop-word.word-index in
    let kept = c.loop-word.invariant in
    record {
      read = label_read job text words (labels_from job (map (piece_of text) words)) i _ c.loop-word-test.true (get_or_default words i _ _ c.loop-word-test.true)
          (c.requires i _ c.loop-word-test.true) c.in-Some.label c.loop-word.labels.items _ c.in-Some.ensures.label c.in_ok-push-in-Some.ensures.items kept.read;
      fits = rw c.in_ok-push-in-Some.ensures.items (All-push (IsLabel job text) c.loop-word.labels.items c.in-Some.label kept.fits c.in-Some.ensures.fits);
    }
