use Rattle.std.proofs.Common.{◌≡◌, ◌-◌, drop, length}
use Rattle.kp_synth_stage.specs.inner.Standing.{names_with}
use Rattle.kp_synth_stage.proofs.block.bind_all.Given as goal

abbrev pub invariant-loop-i : goal.invariant-loop-i
invariant-loop-i l = record {
  decls : l.env.decls ≡ l.fn.env.decls;
  names : l.env.names ≡ names_with l.fn.env.names (drop (length l.slots - l.i) l.slots) (drop (length l.slots - l.i) l.nodes);
}
