-- Where a line is cut.
use Rattle.std.proofs.{Common.◌≡◌, Common.ℕ, Common.◌+◌, Common.◌-◌, Common.min, Common.ltb, Common.not, Common.Bool, Common.arith, lemmas.Grind.common_steps}
use Rattle.std.specs.Prelude.{nat_eq}

-- less is shown than there is just where there is more than what may be shown
pub cut_is : (most shown there : ℕ) → shown + (there - most) ≡ there → ltb shown there ≡ ltb most there
cut_is most shown there are = grind (arith, common_steps)

-- something is left just where there is more than what may be shown
pub left_is : (most left there : ℕ) (none : Bool) → none ≡ nat_eq left 0 → left + min most there ≡ there → not none ≡ ltb most there
left_is most left there none is are = grind (arith, common_steps)
