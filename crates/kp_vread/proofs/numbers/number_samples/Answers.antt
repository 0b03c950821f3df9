use Rattle.std.proofs.{Common.ℕ, Common.List, Common.map, Common.subst, Common.arith, lemmas.List.take_all}
use Rattle.kp_vlog.specs.declared.tree.VPort.{VPort}
use Rattle.kp_vread.{specs.inner.Numbering.AreNumbered, proofs.Numbering.more_ports}
use Rattle.kp_vread.proofs.numbers.number_samples.Goals as goal

pub loop-port-init : goal.loop-port-init
loop-port-init c = (omega (arith, c.requires.empty.count), c.requires.empty)

pub loop-port-preserved : goal.loop-port-preserved
loop-port-preserved c = (
  omega (arith, c.in_ok-add.ensures.count, c.loop-port.invariant.0),
  subst (λ (ks : List (List ℕ)). AreNumbered c.add.new.self ks) (more_ports c.args.ports.now c.loop-port.port-index c.port-item.result c.loop-port-test.true c.port-item.is)
      (c.in_ok-add.ensures.numbered _ c.loop-port.invariant.1),
)

pub returns : goal.returns
returns c = subst (λ (xs : List VPort). AreNumbered c.loop-port.places (map (λ p. p.port.name) xs)) (take_all c.loop-port.port-index c.args.ports.now (omega (arith, c.loop-port-test.false))) c.loop-port.invariant.1
