use Rattle.std.proofs.Common.{ℕ, List, Result, OnOk}
use Rattle.std.proofs.lemmas.Result.{on_ok_weaker}
use Rattle.kp_base.specs.declared.place.Place.{Place}
use Rattle.kp_view_excerpt.specs.Notes.{AppendsNoteAt}
use Rattle.kp_view_verilog.specs.Marks.{Marks, of_token, of_unread}
use Rattle.kp_view_verilog.proofs.verilog.write_verilog.Goals as goal

marked : {E : Type 0} (r : Result (Unit {0}) E) (text : List ℕ) (from : ℕ) (p : Place) (count : ℕ) (old new : List ℕ) → Marks text from p count
    → OnOk r (AppendsNoteAt text p count old new) → OnOk r ((n : ℕ) × Marks text from p n × AppendsNoteAt text p n old new)
marked r text from p count old new marks = on_ok_weaker r (λ (note : AppendsNoteAt text p count old new). (count, marks, note))

pub returns-in-Err-Rule : goal.returns-in-Err-Rule
returns-in-Err-Rule c =
    let v = rw c.in-Err-Rule.field-0-is at c.in-Err-Rule.ensures in
    marked c.write_no_token.result c.args.text.now c.args.from c.args.refusal.place _ c.args.out.now.items c.write_no_token.new.out.items
    (of_unread v.1) c.write_no_token.ensures

pub returns-in-Err-Rule-vparse : goal.returns-in-Err-Rule-vparse
returns-in-Err-Rule-vparse c =
    marked c.write_wrong_token.result c.args.text.now c.args.from c.args.refusal.place _ c.args.out.now.items c.write_wrong_token.new.out.items
    (of_token _ c.in-Ok.ensures.lexes) c.write_wrong_token.ensures

pub returns : goal.returns
returns c =
    marked c.write_of_module-end.result c.args.text.now c.args.from c.args.refusal.place _ c.args.out.now.items c.write_of_module-end.new.out.items
    (of_token _ c.in-Ok.ensures.lexes) c.write_of_module-end.ensures
