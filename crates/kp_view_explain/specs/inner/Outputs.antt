-- What a sentence prints of a result.
use Rattle.std.specs.Prelude.{◌≡◌, Option}
use Rattle.kp_ast.specs.declared.tree.Decl.{Decl}
use Rattle.kp_view_explain.specs.Warned.{has_address, result_name, target_name, write_stage}
use Rattle.kp_view_explain.specs.declared.warning.Output.{Output}

pub record IsOutput (d : Option Decl) (o : Output) : Type 0 where
  pub name : o.name.0.now ≡ result_name d
  pub target : o.target.0.now ≡ target_name d
  pub file : o.file ≡ has_address d
  pub stage : o.stage ≡ write_stage d
