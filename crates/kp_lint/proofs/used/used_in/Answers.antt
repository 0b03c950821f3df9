use Rattle.std.specs.List.{flat_map}
use Rattle.kp_lint.{specs.Used.names_in_block, specs.Used.names_in_decl, proofs.Noting.has_both}
use Rattle.kp_lint.proofs.used.used_in.Goals as goal

pub returns : goal.returns
returns c =
    has_both c.new-used.result.entries c.add_decls.new.used.entries c.add_blocks.new.used.entries (flat_map names_in_decl c.args.decls.now) (flat_map names_in_block c.args.blocks.now)
    c.new-used.ensures.empty c.in_ok-add_decls.ensures c.in_ok-add_blocks.ensures
