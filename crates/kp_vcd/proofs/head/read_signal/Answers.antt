use Rattle.std.proofs.{Common.◌∙◌, lemmas.Result.err_from_is_err_and}
use Rattle.kp_vcd.specs.Reading.{declaration, with_signal}
use Rattle.kp_vcd.proofs.Meeting.{stops, kind_wanted, width_wanted, code_wanted, signal_name_wanted}
use Rattle.kp_vcd.proofs.head.read_signal.Goals as goal

pub returns-in_err-reg-clause-meets : goal.returns-in_err-reg-clause-meets
returns-in_err-reg-clause-meets c d is =
    let p = err_from_is_err_and c.from_residual.result c.from_residual.ensures.1 in
    rw (p.1, p.2) (c.in_err-reg.ensures.takes _ _ (kind_wanted d))

pub returns-in_err-width-clause-meets : goal.returns-in_err-width-clause-meets
returns-in_err-width-clause-meets c d is =
    stops _ _ _ _ _ c.from_residual-in_err-width.ensures.1 (c.in_ok-reg.ensures.takes _ _ (kind_wanted d)) (c.in_err-width.ensures.takes _ _ (width_wanted c.in_ok-reg.reg d))

pub returns-in_err-read_code-clause-meets : goal.returns-in_err-read_code-clause-meets
returns-in_err-read_code-clause-meets c d is =
    stops _ _ _ _ _ c.from_residual-in_err-read_code.ensures.1
    (c.in_ok-reg.ensures.takes _ _ (kind_wanted d) ∙ c.in_ok-width.ensures.takes _ _ (width_wanted c.in_ok-reg.reg d))
    (c.in_err-read_code.ensures.takes _ _ (code_wanted c.in_ok-reg.reg c.in_ok-width.width _ d is))

pub returns-in_err-name-clause-meets : goal.returns-in_err-name-clause-meets
returns-in_err-name-clause-meets c d is =
    stops _ _ _ _ _ c.from_residual-in_err-name.ensures.1
    (c.in_ok-reg.ensures.takes _ _ (kind_wanted d) ∙ c.in_ok-width.ensures.takes _ _ (width_wanted c.in_ok-reg.reg d)
    ∙ c.in_ok-read_code.ensures.takes _ _ (code_wanted c.in_ok-reg.reg c.in_ok-width.width _ d is))
    (c.in_err-name.ensures.takes _ _ (signal_name_wanted c.in_ok-reg.reg c.in_ok-width.width d))

pub returns-in_err-expect-clause-meets : goal.returns-in_err-expect-clause-meets
returns-in_err-expect-clause-meets c d is =
    stops _ _ _ _ _ c.from_residual-in_err-expect.ensures.1
    (c.in_ok-reg.ensures.takes _ _ (kind_wanted d) ∙ c.in_ok-width.ensures.takes _ _ (width_wanted c.in_ok-reg.reg d)
    ∙ c.in_ok-read_code.ensures.takes _ _ (code_wanted c.in_ok-reg.reg c.in_ok-width.width _ d is)
    ∙ c.in_ok-name.ensures.takes _ _ (signal_name_wanted c.in_ok-reg.reg c.in_ok-width.width d))
    (c.in_err-expect.ensures.meets declaration (with_signal d c.in_ok-reg.reg c.in_ok-width.width c.in_ok-name.name))

pub returns-clause-meets : goal.returns-clause-meets
returns-clause-meets c d is =
    c.in_ok-reg.ensures.takes _ _ (kind_wanted d)
    ∙ c.in_ok-width.ensures.takes _ _ (width_wanted c.in_ok-reg.reg d)
    ∙ c.in_ok-read_code.ensures.takes _ _ (code_wanted c.in_ok-reg.reg c.in_ok-width.width _ d is)
    ∙ c.in_ok-name.ensures.takes _ _ (signal_name_wanted c.in_ok-reg.reg c.in_ok-width.width d)
    ∙ c.in_ok-expect.ensures.meets declaration (with_signal d c.in_ok-reg.reg c.in_ok-width.width c.in_ok-name.name)
