use Rattle.kp_view_explain.specs.declared.words.Subject.TheVariants as subjects
use Rattle.kp_view_explain.proofs.Inputs.{explains, shows}
use Rattle.kp_view_explain.proofs.text.explain.Goals as goal

pub returns-in_ok-explain_verilog-in-Verilog-clause-said : goal.returns-in_ok-explain_verilog-in-Verilog-clause-said
returns-in_ok-explain_verilog-in-Verilog-clause-said c =
    let a = c.args in rw c.in-Verilog.is (explains subjects.Verilog a.strict a.file.now a.text.now _ _
    (c.in_ok-explain_verilog-in-Verilog.ensures.said a.strict))

pub returns-in_ok-explain_verilog-in-Verilog-clause-shown : goal.returns-in_ok-explain_verilog-in-Verilog-clause-shown
returns-in_ok-explain_verilog-in-Verilog-clause-shown c =
    let a = c.args in rw c.in-Verilog.is (shows subjects.Verilog a.strict a.file.now a.text.now _ _ (c.in_ok-explain_verilog-in-Verilog.ensures.said a.strict))

pub returns-in_ok-explain_watched-in-Watched-clause-said : goal.returns-in_ok-explain_watched-in-Watched-clause-said
returns-in_ok-explain_watched-in-Watched-clause-said c =
    let a = c.args in rw c.in-Watched.is (explains subjects.Watched a.strict a.file.now a.text.now _ _
    (c.in_ok-explain_watched-in-Watched.ensures.said a.strict))

pub returns-in_ok-explain_watched-in-Watched-clause-shown : goal.returns-in_ok-explain_watched-in-Watched-clause-shown
returns-in_ok-explain_watched-in-Watched-clause-shown c =
    let a = c.args in rw c.in-Watched.is (shows subjects.Watched a.strict a.file.now a.text.now _ _ (c.in_ok-explain_watched-in-Watched.ensures.said a.strict))

pub returns-in_ok-explain_program-in-Program-clause-said : goal.returns-in_ok-explain_program-in-Program-clause-said
returns-in_ok-explain_program-in-Program-clause-said c =
    let a = c.args in rw c.in-Program.is (explains subjects.Program a.strict a.file.now a.text.now _ _
    (c.in_ok-explain_program-in-Program.ensures.said a.strict))

pub returns-in_ok-explain_program-in-Program-clause-shown : goal.returns-in_ok-explain_program-in-Program-clause-shown
returns-in_ok-explain_program-in-Program-clause-shown c =
    let a = c.args in rw c.in-Program.is (shows subjects.Program a.strict a.file.now a.text.now _ _ (c.in_ok-explain_program-in-Program.ensures.said a.strict))

pub returns-in_ok-explain_debugged-in-Debugged-clause-said : goal.returns-in_ok-explain_debugged-in-Debugged-clause-said
returns-in_ok-explain_debugged-in-Debugged-clause-said c =
    let a = c.args in rw c.in-Debugged.is (explains subjects.Debugged a.strict a.file.now a.text.now _ _
    (c.in_ok-explain_debugged-in-Debugged.ensures.said a.strict))

pub returns-in_ok-explain_debugged-in-Debugged-clause-shown : goal.returns-in_ok-explain_debugged-in-Debugged-clause-shown
returns-in_ok-explain_debugged-in-Debugged-clause-shown c =
    let a = c.args in rw c.in-Debugged.is (shows subjects.Debugged a.strict a.file.now a.text.now _ _
    (c.in_ok-explain_debugged-in-Debugged.ensures.said a.strict))
