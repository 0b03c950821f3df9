use Rattle.std.proofs.{Common.◌∙◌, Common.Some, Common.ap, lemmas.Result.err_from_is_err_and}
use Rattle.kp_asm.specs.Image.{image_text_of}
use Rattle.kp_words.specs.declared.commands.Command.TheVariants.{Assemble}
use Rattle.kp_tool.{specs.Due.DueFor, proofs.Ends.said, proofs.Programs.program_is_due, proofs.Programs.refused_program}
use Rattle.kp_tool.proofs.asm.asm.Goals as goal

pub returns-in_err-words : goal.returns-in_err-words
returns-in_err-words g c =
    let p = err_from_is_err_and c.from_residual.result c.from_residual.ensures.1 in
    rw p.1 (refused_program g.K.Sink.held g.K.Sink.faults _ c.args.input.now c.requires c.args.sink.now c.in_err-words.field-0.0 p.0 p.2 c.in_err-words.ensures.words)

pub returns : goal.returns
returns g c =
    said g.K.Sink.held g.K.Sink.faults (DueFor (Some Assemble) c.args.input.now) 0 c.in_ok-section.section.items
    (program_is_due c.args.input.now c.in_ok-words.words.items c.in_ok-section.section.items c.requires c.in_ok-words.ensures.words
    (c.in_ok-section.ensures ∙ ap image_text_of c.deref.ensures.value)) _ _ _ c.finish.ensures
