-- The status and the line of a verdict.
use Rattle.std.specs.Prelude.{ℕ, ◌<◌, List, ◌++◌, length, codes}
use Rattle.kp_ast.specs.declared.tree.Job.{Job}
use Rattle.kp_machine.specs.{Slots.targets_of, Words.target}
use Rattle.kp_same.specs.declared.{comparison.Verdict.Verdict, difference.Difference.Difference, difference.Part.Part}
use Rattle.kp_same.specs.declared.comparison.Verdict.TheVariants.{Alike, Targets, Samples, Start, NotShown}
use Rattle.kp_same.specs.declared.difference.Part.TheVariants as parts

abbrev pub verdict_status : Verdict → ℕ
verdict_status Alike = 0
verdict_status _ = 7

abbrev pub part_text : Part → List ℕ
part_text parts.Result = codes ": result\n"
part_text parts.Address = codes ": address\n"
part_text parts.Enable = codes ": enable\n"
part_text parts.Value = codes ": value\n"

-- as `not shown: PC: value`
abbrev pub difference_text : Job → Difference → List ℕ
difference_text job d = codes "not shown: " ++ ((target job d.target).name ++ part_text d.part)

abbrev pub verdict_text : Job → Verdict → List ℕ
verdict_text job Alike = codes "same\n"
verdict_text job Targets = codes "not shown: targets\n"
verdict_text job Samples = codes "not shown: samples\n"
verdict_text job Start = codes "not shown: start\n"
verdict_text job (NotShown d) = difference_text job d

-- the target that it names, if it names one, is one of the job
abbrev pub IsOfJob : Job → Verdict → Type 0
IsOfJob job (NotShown d) = d.target < length (targets_of job.decls)
IsOfJob job _ = Unit {0}
