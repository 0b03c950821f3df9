use lib.Count.{count_leading_zeros}
use Rattle.std.proofs.{Common.◌≡◌, Common.ℕ, Common.◌-◌, Common.arith, Common.subst, lemmas.Nat.leading_length}
use Rattle.kp_view_verilog_faults.specs.Helps.{HasBits}
use Rattle.kp_view_verilog_faults.proofs.width_fault.bits_of.Goals as goal

pub returns : goal.returns
returns c =
    let value = c.args.value in
    let p = leading_length 64 value (omega arith) in
    let same : p.0 ≡ 64 - count_leading_zeros 64 value = omega (arith, p.1) in
    subst (λ (width : ℕ). HasBits width value) same (p.2, p.3)
