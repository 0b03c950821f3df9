use Rattle.kp_view_explain.proofs.Inputs.{accepted_program, refused_program}
use Rattle.kp_view_explain.proofs.program.explain_program.Goals as goal
use Rattle.kp_view_explain.proofs.program.explain_program.Goals.{in-Ok, in-Err-NoMemory, in-Err-Found+in_ok-misread-in-Err-Found}

pub returns-clause-said : goal.returns-clause-said
returns-clause-said c = elim c.match-read_program.branch [
  | in-Ok w ↦ rw w.result-is (accepted_program c.args.file.now c.args.text.now _ _ _ w.in-Ok.ensures.words w.silent.ensures.status w.silent.ensures.text)
  | in-Err-NoMemory w ↦ rw w.result-is tt
  | in-Err-Found+in_ok-misread-in-Err-Found w ↦
      let found = rw w.in-Err-Found.field-0-is at w.in-Err-Found.ensures.words in
      let said = w.in_ok-misread-in-Err-Found.ensures in
      rw w.result-is (refused_program c.args.file.now c.args.text.now _ w.in-Err-Found.finding _ found said.status said.shown)
]
