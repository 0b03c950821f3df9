use Rattle.std.proofs.Common.{◌≡◌, ◌++◌, List, ℕ, ap, map, string_bytes}
use Rattle.kp_ast.specs.declared.tree.Job.{Job}
use Rattle.kp_base.proofs.Writing.{wrote_as}
use Rattle.kp_paths.specs.Text.{head_text, label_width, legend, paths_text, rows_from}
use Rattle.kp_paths.proofs.text.put_paths.Goals as goal

table_is : (names : List (List ℕ)) (job : Job) (width : ℕ) → width ≡ label_width job → head_text names job width ++ (rows_from names job width 0 job.blocks ++ legend) ≡ paths_text names job
unfolding paths_text
table_is names job width is = ap (λ (w : ℕ). head_text names job w ++ (rows_from names job w 0 job.blocks ++ legend)) is

pub returns : goal.returns
returns g c = wrote_as _ _ _ _ (table_is (map string_bytes c.args.names.now) c.args.paths.now c.width.result c.width.ensures.value) c.write_table.ensures
