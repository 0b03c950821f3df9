use Rattle.std.proofs.Common.{◌∙◌}
use Rattle.kp_lint.specs.Tables.{value_of}
use Rattle.kp_lint.{specs.Used.names_in_decl, proofs.Noting.more}
use Rattle.kp_lint.proofs.used.add_decls.Goals as goal

pub loop-decl-preserved : goal.loop-decl-preserved
loop-decl-preserved c =
    more names_in_decl (value_of c.loop-decl.used.entries) (value_of c.add_decl.new.used.entries) c.args.decls.now c.loop-decl.decl-index c.decl-item.result c.loop-decl-test.true c.decl-item.is c.in_ok-add_decl.ensures
    ∙ c.loop-decl.invariant
