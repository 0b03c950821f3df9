use Rattle.std.proofs.Common.{refl}
use Rattle.kp_vread_parse.proofs.Text.{spelled_all, is_module, is_wrong}
use Rattle.kp_vread_parse.proofs.parse.vparse.Goals as goal

pub new-requires : goal.new-requires
new-requires c = spelled_all c.args.text.now c.args.tokens.now c.requires.stand

pub returns-in-Ok : goal.returns-in-Ok
returns-in-Ok c = is_module _ _ (rw c.new.ensures at c.in-Ok.ensures)

pub returns-in-Err-Wrong : goal.returns-in-Err-Wrong
returns-in-Err-Wrong c =
    let stops = rw c.in-Err-Wrong.field-0-is at c.in-Err-Wrong.ensures in
    rw (c.v.ensures, c.place.ensures) (_, is_wrong _ _ c.in-Err-Wrong.at (rw c.new.ensures at stops), refl)
