use Rattle.std.proofs.{Common.◌∙◌, Common.map, Common.sym, Common.arith, lemmas.List.ext_get_or, lemmas.List.length-map}
use Rattle.kp_seq.specs.Running.{state}
use Rattle.kp_stalls.specs.Occupants.{no_value, value_before}
use Rattle.kp_stalls.proofs.flight.fill_values.Goals as goal

pub returns : goal.returns
returns c =
    let f = value_before c.args.machine.now.job (state c.args.machine.now) in
    let same = c.loop-i.invariant.count in
    let past = c.loop-i-test.false in
    ext_get_or no_value c.loop-i.values (map f c.args.sites.now) (same ∙ sym (length-map c.args.sites.now f)) (λ k l. c.loop-i.invariant.taken k (omega arith))
