-- What the lines of a netlist are written from: the keys of a job, and its names that have values, by number.
use Rattle.std.specs.Prelude.{◌≡◌, List}
use Rattle.kp_ast.specs.declared.tree.Job.{Job}
use Rattle.kp_machine.specs.Slots.{hints_of, pipes_of, targets_of}
use Rattle.kp_synth_registers.specs.{declared.key.Key.Key, Keys.keys_of}
use Rattle.kp_core_ports.specs.{Names.names_of, declared.names.Names.Names}

pub record IsSource (job : Job) (list : List Key) (names : Names) : Type 0 where
  pub keys : list ≡ keys_of job
  pub targets : names.targets.items ≡ names_of (targets_of job.decls)
  pub pipes : names.pipes.items ≡ names_of (pipes_of job.decls)
  pub hints : names.hints.items ≡ names_of (hints_of job.decls)
