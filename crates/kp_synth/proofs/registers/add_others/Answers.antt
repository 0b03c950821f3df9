use Rattle.std.proofs.Common.{◌<◌, List, length, ap, sym, subst, arith}
use Rattle.kp_net.specs.declared.netlist.NetReg.{NetReg}
use Rattle.kp_synth_registers.specs.Keys.{keys_of}
use Rattle.kp_synth.{specs.inner.Built.AllSpelled, specs.inner.Built.SpelledReg, proofs.Parts.others_step, proofs.Spelled.one_spelled}
use Rattle.kp_synth.proofs.registers.add_others.Goals as goal

pub loop-r-preserved : goal.loop-r-preserved
loop-r-preserved c =
    let v = c.loop-r.invariant in
    let l : c.loop-r.r < length (keys_of c.args.layout.now) = omega (arith, c.loop-r-test.true, c.count-count.ensures.count, ap length c.requires.keys) in
    record {
      behind = omega (arith, v.behind);
      regs = others_step c.args.layout.now c.args.nexts.now c.len-from.result c.loop-r.r (keys_of c.args.layout.now) c.loop-r.regs.items c.push.new.self.items c.in_ok-other.field-0 _ l c.in_ok-other.ensures.reg c.in_ok-push.ensures.items v.regs;
      spelled = subst (AllSpelled SpelledReg) (sym {A = List NetReg} c.in_ok-push.ensures.items) (one_spelled SpelledReg c.loop-r.regs.items c.in_ok-other.field-0 v.spelled c.in_ok-other.ensures.spelled);
    }
