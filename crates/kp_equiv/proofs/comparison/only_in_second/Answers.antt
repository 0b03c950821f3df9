use Rattle.std.proofs.Common.{◌≡◌, ◌∙◌, ℕ, true, sym, ap, arith, below_more}
use Rattle.kp_net.specs.{declared.netlist.NetReg.NetReg, Names.among}
use Rattle.kp_equiv.specs.Alike.{reg_name}
use Rattle.kp_equiv.proofs.comparison.only_in_second.Goals as goal

pub returns-then-not-has : goal.returns-then-not-has
returns-then-not-has c = record {
  there = omega (arith, c.loop-i-test.true, c.reg_count-i-end.ensures.value);
  new = sym (ap (λ (r : NetReg). among c.args.regs.now r.name) c.reg_at-reg.ensures.value) ∙ sym c.has.ensures ∙ c.if-not-has.true;
  before = c.loop-i.invariant;
}

pub loop-i-preserved : goal.loop-i-preserved
loop-i-preserved c =
    let e : among c.args.regs.now (reg_name c.args.b.now c.loop-i.i) ≡ true
    = sym (ap (λ (r : NetReg). among c.args.regs.now r.name) c.reg_at-reg.ensures.value) ∙ sym c.has.ensures ∙ c.if-not-has.false in
    below_more (λ (k : ℕ). among c.args.regs.now (reg_name c.args.b.now k) ≡ true) c.loop-i.i c.loop-i.invariant e

pub returns : goal.returns
returns c k l = c.loop-i.invariant k (omega (arith, c.loop-i-test.false, c.reg_count-i-end.ensures.value, l))
