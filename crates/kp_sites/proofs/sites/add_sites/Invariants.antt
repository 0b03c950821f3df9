use Rattle.std.proofs.Common.{◌≡◌, ◌++◌, drop}
use Rattle.kp_machine.specs.Slots.{targets_of}
use Rattle.kp_sites.specs.Sites.{sites_in}
use Rattle.kp_sites.proofs.sites.add_sites.Given as goal

abbrev pub invariant-loop-stmt : goal.invariant-loop-stmt
invariant-loop-stmt l = l.sites.items ++ sites_in (targets_of l.decls) l.k (drop l.stmt-index l.stmts) ≡ l.initial.sites.items ++ sites_in (targets_of l.decls) l.k l.stmts
