-- `==` on terms is equality.
use Rattle.std.proofs.Common.{◌≡◌, ℕ, Bool, true, false, refl, ap, subst, eqb}
use Rattle.std.proofs.lemmas.{Bool.false≢true, Bool.and_parts, Bool.Decides.Decides-eqb, Slice.Eq.slice_eq-Decides}
use Rattle.std.specs.{Bool.Decides, Cmp.Derive.both_true}
use Rattle.kp_net.{proofs.Same.node_from_eq, proofs.Same.node_eq_itself}
use Rattle.kp_equiv.specs.declared.bit.Bit.{Bit, TheVariants.Fixed, TheVariants.Of}
use Rattle.kp_equiv.specs.declared.term.Term.{Term, TheVariants.Operation, TheVariants.Bits}
use Rattle.kp_equiv.specs.contracts.bit.BitPartialEq.TheImpl as wires
use Rattle.kp_equiv.specs.contracts.term.TermPartialEq.TheImpl as terms

abbrev pub is : Term → Term → Bool
is = terms.eq-value.it

number : (n m : ℕ) → eqb n m ≡ true → n ≡ m
number n m h = (Decides-eqb n m).0 h

bit : (x y : Bit) → wires.eq-value.it x y ≡ true → x ≡ y
bit (Fixed true) (Fixed true) h = refl
bit (Fixed false) (Fixed false) h = refl
bit (Of i k) (Of j l) h =
    let p = and_parts (eqb i.0 j.0) (eqb k l) h in let x = number i.0 j.0 p.0 in let y = number k l p.1 in
    λ t. Of (record { 0 = x t }) (y t)
bit x y h = absurd (false≢true h)

bit_itself : (x : Bit) → wires.eq-value.it x x ≡ true
bit_itself (Fixed true) = refl
bit_itself (Fixed false) = refl
bit_itself (Of i k) = both_true ((Decides-eqb i.0 i.0).1 refl) ((Decides-eqb k k).1 refl)

bits : (x y : Bit) → Decides (wires.eq-value.it x y) (x ≡ y)
bits x y = (bit x y, λ e. subst (λ (z : Bit). wires.eq-value.it x z ≡ true) e (bit_itself x))

pub term_from_eq : (s t : Term) → is s t ≡ true → s ≡ t
term_from_eq (Operation n) (Operation m) h = ap Operation (node_from_eq n m h)
term_from_eq (Bits xs) (Bits ys) h = ap Bits ((slice_eq-Decides bits xs ys _ refl).0 h)
term_from_eq s t h = absurd (false≢true h)

pub term_eq_itself : (s : Term) → is s s ≡ true
term_eq_itself (Operation n) = node_eq_itself n
term_eq_itself (Bits xs) = (slice_eq-Decides bits xs xs _ refl).1 refl
