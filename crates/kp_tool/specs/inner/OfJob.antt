-- That the register of a command is one of its job is a proposition.
use Rattle.std.proofs.Props.{props}
use Rattle.kp_ast.specs.declared.tree.Job.{Job}
use Rattle.kp_debug_script.specs.declared.command.Command.{Command}
use Rattle.kp_debug.specs.Inspecting.{IsOfTargets}
use Rattle.kp_debug_script.specs.declared.command.Command.TheVariants as commands

pub of_targets-prop : (job : Job) (command : Command) → IsProp (IsOfTargets job command)
of_targets-prop job (commands.Step n) = Prim.hlevel props
of_targets-prop job (commands.Back n) = Prim.hlevel props
of_targets-prop job (commands.Until t v n) = Prim.hlevel props
of_targets-prop job commands.Show = Prim.hlevel props
of_targets-prop job commands.Row = Prim.hlevel props
