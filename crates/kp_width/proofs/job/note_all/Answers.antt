use Rattle.std.proofs.Common.{◌∙◌, ap}
use Rattle.kp_width.specs.Widths.{after_decls, decl_answers, after_blocks, block_answers}
use Rattle.kp_width.proofs.Listed.{both, room_before}
use Rattle.kp_width.proofs.job.note_all.Goals as goal

pub returns-clause-found : goal.returns-clause-found
returns-clause-found c =
    let ds = c.args.decls.now in
    let bs = c.args.blocks.now in
    let s = c.args.names.now in
    c.in_ok-note_blocks.ensures.found
    ∙ both c.args.found.now c.note_decls.new.found (decl_answers ds 0 0 s ds) (λ t. block_answers ds 0 t bs) c.note_decls.new.names (after_decls ds 0 0 s ds)
    c.in_ok-note_decls.ensures.found c.in_ok-note_decls.ensures.names

pub returns-clause-names : goal.returns-clause-names
returns-clause-names c =
    let ds = c.args.decls.now in
    let bs = c.args.blocks.now in λ room.
    c.in_ok-note_blocks.ensures.names room
    ∙ ap (λ t. after_blocks ds 0 t bs)
    (c.in_ok-note_decls.ensures.names (room_before c.note_decls.new.found c.note_blocks.new.found (block_answers ds 0 c.note_decls.new.names bs) c.in_ok-note_blocks.ensures.found room))
