use Rattle.std.{proofs.Common.◌∙◌, proofs.Common.ap, proofs.Common.sym, specs.List.position}
use Rattle.kp_ast.specs.Expressions.{is_same_name}
use Rattle.kp_machine.specs.Slots.{width_of}
use Rattle.kp_seq.{specs.inner.Tables.Laid, proofs.Resolved.does_read, proofs.Resolved.does_nowhere}
use Rattle.kp_seq.proofs.program.read_of.Goals as goal

pub returns-then-not-is_width : goal.returns-then-not-is_width
returns-then-not-is_width c =
    let r = c.args.read.now in
    let place = c.place-place.ensures.place ∙ ap (position (is_same_name r.name.name)) c.requires in
    let width = c.width_of-width.ensures ∙ ap (λ ss. width_of ss r.target.name) c.as_slice.ensures.value ∙ ap (λ (x : Laid). width_of x.targets r.target.name) c.tables.view_is in
    does_nowhere c.args.tables.now c.args.widths.now r c.place-place.result c.width_of-width.result place width (sym c.is_width.ensures ∙ c.if-not-is_width.true)

pub returns : goal.returns
returns c =
    let r = c.args.read.now in
    let place = c.place-place.ensures.place ∙ ap (position (is_same_name r.name.name)) c.requires in
    let width = c.width_of-width.ensures ∙ ap (λ ss. width_of ss r.target.name) c.as_slice.ensures.value ∙ ap (λ (x : Laid). width_of x.targets r.target.name) c.tables.view_is in
    does_read c.args.tables.now c.args.widths.now r c.in_ok-reading.reading c.place-place.result c.width_of-width.result place width (sym c.is_width.ensures ∙ c.if-not-is_width.false) c.in_ok-reading.ensures
