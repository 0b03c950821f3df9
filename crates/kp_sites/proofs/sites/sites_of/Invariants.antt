use Rattle.std.proofs.Common.{◌≡◌, ◌++◌, drop}
use Rattle.kp_machine.specs.Slots.{targets_of}
use Rattle.kp_sites.specs.Sites.{sites_from}
use Rattle.kp_sites.proofs.sites.sites_of.Given as goal

abbrev pub invariant-loop-k : goal.invariant-loop-k
invariant-loop-k l = l.sites.items ++ sites_from (targets_of l.decls) l.k (drop l.k l.blocks) ≡ sites_from (targets_of l.decls) 0 l.blocks
