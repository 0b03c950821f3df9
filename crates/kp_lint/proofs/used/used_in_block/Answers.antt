use Rattle.std.{proofs.Common.◌∙◌, proofs.Common.ap, specs.List.flat_map}
use Rattle.kp_lint.specs.{Tables.value_of, Used.names_in_block, Used.names_in_stmt, inner.Noted.noted}
use Rattle.kp_lint.proofs.Noting.{has_names}
use Rattle.kp_lint.proofs.used.used_in_block.Goals as goal

pub returns : goal.returns
returns c =
    has_names c.new-used.result.entries c.add_stmts.new.used.entries (names_in_block c.args.block.now) c.new-used.ensures.empty
    (c.in_ok-add_stmts.ensures ∙ ap (λ ss. noted (value_of c.new-used.result.entries) (flat_map names_in_stmt ss)) c.as_slice.ensures)
