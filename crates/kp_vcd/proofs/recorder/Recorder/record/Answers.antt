use Rattle.std.proofs.Common.{◌≡◌, ◌∙◌, ℕ, ◌+◌, ◌++◌, ◌∷◌, [], None, Some, ap, ap₂, sym, refl, List}
use Rattle.std.proofs.lemmas.List.{append-nil}
use Rattle.kp_vcd.specs.{declared.dump.Moment.Moment, Recording.Record, Recording.changes_from, Recording.moment_of}
use Rattle.kp_vcd.proofs.{Recorded.recorded_next, recorder.Recorder.record.Goals.in-Some+in_ok-push, recorder.Recorder.record.Goals.in_default}
use Rattle.kp_vcd.proofs.recorder.Recorder.record.Goals as goal

pub returns : goal.returns
returns c values T has is =
    let old = c.args.self.now in
    let changes = c.in_ok-changes.changes.items in
    let view = c.self.view_is in
    let made : changes ≡ changes_from 0 old.before c.args.now.items =
    c.in_ok-changes.ensures ∙ ap₂ (changes_from 0) (c.as_slice.ensures.value ∙ ap (λ (r : Record). r.before) view) c.as_slice-2.ensures.value in
    let last = ap (λ (r : Record). r.last) view in
    let at = ap (λ (r : Record). r.at) view in
    let moments = ap (λ (r : Record). r.moments) view in
    let next = ap (λ (t : ℕ). t + 1) at in
    let reported = ap₂ (λ (n t : ℕ). moment_of n t changes) last at in
    elim c.match-moment_of.branch [
      | in-Some+in_ok-push w ↦
          rw w.self-inside-is
          (recorded_next values T old _ c.args.now.items (Some w.in-Some.moment) changes has is made (w.in-Some.ensures ∙ reported) last next refl
          (w.in_ok-push.ensures.items ∙ ap (λ (ms : List Moment). ms ++ w.in-Some.moment ∷ []) moments))
      | in_default w ↦
          rw w.self-inside-is
          (recorded_next values T old _ c.args.now.items None changes has is made (w.in_default.ensures ∙ reported) last next refl
          (moments ∙ sym (append-nil old.moments)))
    ]
