use Rattle.std.proofs.{Common.◌∙◌, Common.[], lemmas.Result.err_from_is_err_and}
use Rattle.kp_vcd.{specs.Reading.module_name, specs.Reading.declaration, specs.Reading.named, proofs.Meeting.stops, proofs.Meeting.name_wanted}
use Rattle.kp_vcd.proofs.head.read_module.Goals as goal

pub returns-in_err-expect-clause-meets : goal.returns-in_err-expect-clause-meets
returns-in_err-expect-clause-meets c =
    let p = err_from_is_err_and c.from_residual.result c.from_residual.ensures.1 in
    rw (p.1, p.2) (c.in_err-expect.ensures.meets module_name (named []))

pub returns-in_err-name-clause-meets : goal.returns-in_err-name-clause-meets
returns-in_err-name-clause-meets c =
    stops _ _ _ _ _ c.from_residual-in_err-name.ensures.1 (c.in_ok-expect.ensures.meets module_name (named [])) (c.in_err-name.ensures.takes _ _ (name_wanted (named [])))

pub returns-in_err-expect-2-clause-meets : goal.returns-in_err-expect-2-clause-meets
returns-in_err-expect-2-clause-meets c =
    stops _ _ _ _ _ c.from_residual-in_err-expect-2.ensures.1
    (c.in_ok-expect.ensures.meets module_name (named []) ∙ c.in_ok-name.ensures.takes _ _ (name_wanted (named [])))
    (c.in_err-expect-2.ensures.meets declaration (named c.in_ok-name.name))

pub returns-clause-meets : goal.returns-clause-meets
returns-clause-meets c =
    c.in_ok-expect.ensures.meets module_name (named [])
    ∙ c.in_ok-name.ensures.takes _ _ (name_wanted (named []))
    ∙ c.in_ok-expect-2.ensures.meets declaration (named c.in_ok-name.name)
