-- Sample ports in order.
use Rattle.std.proofs.Common.{◌≡◌, ◌∙◌, ℕ, ◌+◌, ◌==◌, ◌<◌, ◌≤◌, Bool, true, false, List, length, get_or, refl, sym, ap, arith, below_more}
use Rattle.std.proofs.{Math.Seq.ext_get_or, lemmas.Bool.false≢true}
use Rattle.std.proofs.lemmas.{Bool.Decides.Decides-and, Bool.Decides.Decides-eqb, Bool.Decides.Decides-like, List.get_or_default}
use Rattle.std.specs.{Bool.Decides, Cmp.Lexicographic.bytes_decides}
use Rattle.kp_net.specs.{declared.netlist.Port.Port, Names.same, Parts.no_port}
use Rattle.kp_equiv.specs.inner.Inputs.{same_port}

-- two lists of the same length have the same first n ports
pub record SameFront (xs ys : List Port) (n : ℕ) : Type 0 where
  pub count : length xs ≡ length ys
  pub ports : (k : ℕ) → k < n → get_or xs k no_port ≡ get_or ys k no_port

pub none_same : (xs ys : List Port) → length xs ≡ length ys → SameFront xs ys 0
none_same xs ys e = record { count = e; ports = λ k l. absurd (omega (arith, l)) }

one_port : (x y : Port) → (x.width ≡ y.width) × (x.name ≡ y.name) → x ≡ y
one_port x y h = let w = h.0 in let n = h.1 in λ i. record { name = n i; width = w i }

pub port_decides : (x y : Port) → Decides (same_port x y) (x ≡ y)
port_decides x y =
    Decides-like (same_port x y) (one_port x y) (λ e. (ap (λ (p : Port). p.width) e, ap (λ (p : Port). p.name) e))
    (Decides-and (x.width == y.width) (same x.name y.name) (Decides-eqb x.width y.width) (bytes_decides x.name y.name))

pub ports_equal : (xs ys : List Port) (n : ℕ) → SameFront xs ys n → length xs ≤ n → Decides true (xs ≡ ys)
ports_equal xs ys n h l = (λ _. ext_get_or no_port xs ys h.count (λ k m. h.ports k (omega arith)), λ _. refl)

pub ports_unequal : (xs ys : List Port) (k : ℕ) (x y : Port) (t : Bool) → k < length xs → k < length ys → x ≡ get_or xs k x → y ≡ get_or ys k y → t ≡ same_port x y → t ≡ false → Decides false (xs ≡ ys)
ports_unequal xs ys k x y t lx ly ex ey e f = (
  λ z. absurd (false≢true z),
  λ z.
      let same : x ≡ y = ex ∙ get_or_default xs k x no_port lx ∙ ap (λ (ps : List Port). get_or ps k no_port) z ∙ sym (get_or_default ys k y no_port ly) ∙ sym ey in
      absurd (false≢true (sym f ∙ e ∙ (port_decides x y).1 same)),
)

pub lengths_differ : (xs ys : List Port) → (length xs ≡ length ys → ⊥) → Decides false (xs ≡ ys)
lengths_differ xs ys h = (λ z. absurd (false≢true z), λ z. absurd (h (ap length z)))

pub one_more : (xs ys : List Port) (k : ℕ) (x y : Port) (t : Bool) → SameFront xs ys k → k < length xs → x ≡ get_or xs k x → y ≡ get_or ys k y → t ≡ same_port x y → t ≡ true → SameFront xs ys (k + 1)
one_more xs ys k x y t h lx ex ey e f =
    let ly : k < length ys = (let c = h.count in omega arith) in
    record {
      count = h.count;
      ports = below_more (λ (i : ℕ). get_or xs i no_port ≡ get_or ys i no_port) k h.ports
          (sym (ex ∙ get_or_default xs k x no_port lx) ∙ (port_decides x y).0 (sym e ∙ f) ∙ ey ∙ get_or_default ys k y no_port ly);
    }
