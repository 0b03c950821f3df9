-- Corner cases.
use Rattle.std.proofs.Common.{◌≡◌, ◌-◌, ◌*◌, ◌^◌, refl}
use Rattle.kp_isa_rvm.specs.Isa.{wide, upper, quotient, remainder, signed_quotient, signed_remainder}

pub mulh : upper (wide (2 ^ 32 - 1) * wide (2 ^ 32 - 1)) ≡ 0
mulh = refl

pub mulhsu : upper (wide (2 ^ 32 - 1) * (2 ^ 32 - 1)) ≡ 2 ^ 32 - 1
mulhsu = refl

pub mulhu : upper ((2 ^ 32 - 1) * (2 ^ 32 - 1)) ≡ 2 ^ 32 - 2
mulhu = refl

pub div_overflow : signed_quotient (2 ^ 31) (2 ^ 32 - 1) ≡ 2 ^ 31
div_overflow = refl

pub rem_overflow : signed_remainder (2 ^ 31) (2 ^ 32 - 1) ≡ 0
rem_overflow = refl

pub div_by_zero : signed_quotient (2 ^ 31) 0 ≡ 2 ^ 32 - 1
div_by_zero = refl

pub rem_by_zero : signed_remainder (2 ^ 31) 0 ≡ 2 ^ 31
rem_by_zero = refl

pub divu_by_zero : quotient (2 ^ 31) 0 ≡ 2 ^ 32 - 1
divu_by_zero = refl

pub remu_by_zero : remainder (2 ^ 31) 0 ≡ 2 ^ 31
remu_by_zero = refl

pub div : signed_quotient (2 ^ 32 - 7) 2 ≡ 2 ^ 32 - 3
div = refl

pub rem : signed_remainder (2 ^ 32 - 7) 2 ≡ 2 ^ 32 - 1
rem = refl

pub ruleset corners = (mulh, mulhsu, mulhu, div_overflow, rem_overflow, div_by_zero, rem_by_zero, divu_by_zero, remu_by_zero, div, rem)
