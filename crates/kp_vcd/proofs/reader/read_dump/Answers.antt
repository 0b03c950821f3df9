use Rattle.std.proofs.Common.{◌∙◌, List, sym, ap, ap₂, arith, length, refl, Ok}
use Rattle.kp_vcd.{specs.declared.dump.Signal.Signal, specs.declared.dump.Moment.Moment, specs.Reading.named, specs.inner.Left.Left, proofs.Counted.left_few}
use Rattle.kp_vcd.proofs.Meeting.{stops, from_start}
use Rattle.kp_vcd.proofs.reader.read_dump.Goals as goal

pub returns-in_err-module : goal.returns-in_err-module
returns-in_err-module c =
    stops _ _ _ _ _ c.from_residual.ensures.1 (from_start c.args.text.now c.of-words.result c.of-words.ensures) c.in_err-module.ensures.meets

pub returns-in_err-signals : goal.returns-in_err-signals
returns-in_err-signals c =
    stops _ _ _ _ _ c.from_residual-in_err-signals.ensures.1
    (from_start c.args.text.now c.of-words.result c.of-words.ensures ∙ c.in_ok-module.ensures.meets)
    (c.in_err-signals.ensures.meets c.in_ok-module.module)

pub read_moments-requires : goal.read_moments-requires
read_moments-requires c =
    let a = c.as_slice.ensures.len in
    let b = c.in_ok-signals.ensures.few in
    let f = c.in_ok-module.ensures.fewer in
    let e = ap (λ (l : Left). length l.words) c.of-words.ensures in
    let t = left_few c.args.text.now in
    let r = c.requires in
    omega (arith, a, b, f, e, t, r)

pub returns-in_err-moments : goal.returns-in_err-moments
returns-in_err-moments c =
    stops _ _ _ _ _ c.from_residual-in_err-moments.ensures.1
    (from_start c.args.text.now c.of-words.result c.of-words.ensures ∙ c.in_ok-module.ensures.meets ∙ c.in_ok-signals.ensures.meets c.in_ok-module.module)
    (c.in_err-moments.ensures (record (named c.in_ok-module.module) { signals = c.in_ok-signals.signals.items }) (sym c.as_slice.ensures.value) refl)

pub returns : goal.returns
returns c =
    from_start c.args.text.now c.of-words.result c.of-words.ensures ∙ c.in_ok-module.ensures.meets ∙ c.in_ok-signals.ensures.meets c.in_ok-module.module
    ∙ c.in_ok-moments.ensures (record (named c.in_ok-module.module) { signals = c.in_ok-signals.signals.items }) (sym c.as_slice.ensures.value) refl
    ∙ ap₂ (λ (ss : List Signal) (ms : List Moment). Ok (record { «module» = c.in_ok-module.module; signals = ss; moments = ms })) (sym c.new.ensures) (sym c.new-2.ensures)
