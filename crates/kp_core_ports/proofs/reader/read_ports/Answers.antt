use Rattle.std.proofs.{Common.◌∙◌, Common.Err, Common.ap, lemmas.Result.err_from_is_err_and}
use Rattle.kp_core_ports.proofs.Turns.{all_read, not_read}
use Rattle.kp_core_ports.proofs.reader.read_ports.Goals as goal

pub returns-in_err-add_lines-clause-ports : goal.returns-in_err-add_lines-clause-ports
returns-in_err-add_lines-clause-ports c =
    let p = err_from_is_err_and c.from_residual-in_err-add_lines.result c.from_residual-in_err-add_lines.ensures.1 in
    not_read c.args.layout.now c.args.text.now c.args.from c.in_ok-lines.lines.items c.as_slice.result.now c.in_err-add_lines.field-0.0 c.add_lines.new.ports.items
    c.from_residual-in_err-add_lines.result
    (λ ports. ports.items) (p.1 ∙ ap Err p.2) c.requires.within c.in_ok-lines.ensures.lines c.as_slice.ensures.value c.in_err-add_lines.ensures.ports

pub returns-clause-ports : goal.returns-clause-ports
returns-clause-ports c =
    all_read c.args.layout.now c.args.text.now c.args.from c.in_ok-lines.lines.items c.as_slice.result.now c.add_lines.new.ports.items c.requires.within
    c.in_ok-lines.ensures.lines c.as_slice.ensures.value c.in_ok-add_lines.ensures.ports
