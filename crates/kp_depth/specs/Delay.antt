-- THE DELAY MODEL, in hundredths of a unit, which is about a level of look-up tables with four inputs. It is fitted to what a synthesiser makes of single
-- operations, and claims nothing of a circuit.
use Rattle.std.specs.Prelude.{ℕ, ◌+◌, ◌-◌, ◌*◌, ◌/◌, max, min, Bool, true, false, ◌||◌, nat_le, List, [], ◌∷◌, ◌++◌, get_or, flat_map, if◌then◌else◌}
use Rattle.std.specs.List.{sum_by}
use Rattle.kp_bits.specs.declared.operator.BinOp.{BinOp}
use Rattle.kp_net.specs.declared.node.{NodeId.NodeId, Node.Node, Kind.Kind}
use Rattle.kp_net.specs.declared.node.Kind.TheVariants.{Const, Ext, Sample, Reg, Word, Not, Binary, Mux, Concat, Slice}
use Rattle.kp_net.specs.Widths.{no_node, wide}
use Rattle.kp_depth.specs.declared.delay.TheConstants.{LOGARITHMS}

-- the logarithm of n to base 2, of 1 to 64, and that of 2 for 1
abbrev pub logarithm : ℕ → ℕ
logarithm n = get_or LOGARITHMS (min n 64) 0

-- the bits of an amount that matter where a word of w bits is shifted
abbrev pub steps : ℕ → ℕ
steps w = (logarithm w + 99) / 100 + 1

abbrev pub is_const : Kind → Bool
is_const (Const n) = true
is_const _ = false

abbrev pub is_choice : Kind → Bool
is_choice (Mux test a b) = true
is_choice _ = false

abbrev pub is_and : Kind → Bool
is_and (Binary BinOp.And a b) = true
is_and _ = false

abbrev pub is_or : Kind → Bool
is_or (Binary BinOp.Or a b) = true
is_or _ = false

abbrev pub is_xor : Kind → Bool
is_xor (Binary BinOp.Xor a b) = true
is_xor _ = false

abbrev pub kind_of : List Node → NodeId → Kind
kind_of ns a = (get_or ns a.0 no_node).kind

abbrev pub is_constant : List Node → NodeId → Bool
is_constant ns a = is_const (kind_of ns a)

-- the bits of an amount that aren't constant
abbrev pub free_part : List Node → NodeId → ℕ
free_part ns a = if is_constant ns a then 0 else wide ns a.0

abbrev pub free_in : List Node → ℕ → Kind → ℕ
free_in ns w (Concat parts) = sum_by (free_part ns) parts
free_in ns w _ = w

-- & | ^ with n operands that aren't constant in their chain
abbrev pub gate_delay : ℕ → Bool → ℕ
gate_delay n constant = if nat_le n 2 then (if constant then 30 else 55) else 5 + logarithm n / 2

-- choices with n of them
abbrev pub choice_delay : ℕ → Bool → ℕ
choice_delay n constant = if nat_le n 3 then (if constant then 60 else 100) else max 100 (logarithm ((n + 1) / 2) - 50)

-- other operations on words of w bits, where an operand is constant or not
abbrev pub sum_delay : ℕ → Bool → ℕ
sum_delay w constant = max 100 (if constant then logarithm w - 100 else 155 * logarithm w / 100 - 90)

abbrev pub product_delay : ℕ → ℕ
product_delay w = max 100 (4 * logarithm w - 500)

abbrev pub equal_delay : ℕ → Bool → ℕ
equal_delay w constant = logarithm w / 2 + (if constant then 0 else 50)

abbrev pub less_delay : ℕ → Bool → ℕ
less_delay w constant = logarithm w - (if constant then 100 else 0)

-- a shift of w bits by an amount of v bits, of which `free` aren't constant
abbrev pub shift_delay : ℕ → Bool → (bits free : ℕ) → ℕ
shift_delay w constant v free = if constant then 70 * min v (steps w) else 115 * min free (steps w)

abbrev pub binary_delay : BinOp → (operands width : ℕ) → Bool → Bool → (bits free : ℕ) → ℕ
binary_delay BinOp.And n w left right v free = gate_delay n (left || right)
binary_delay BinOp.Or n w left right v free = gate_delay n (left || right)
binary_delay BinOp.Xor n w left right v free = gate_delay n (left || right)
binary_delay BinOp.Add n w left right v free = sum_delay w (left || right)
binary_delay BinOp.Sub n w left right v free = sum_delay w (left || right)
binary_delay BinOp.Mul n w left right v free = product_delay w
binary_delay BinOp.Eq n w left right v free = equal_delay w (left || right)
binary_delay BinOp.Lt n w left right v free = less_delay w (left || right)
binary_delay BinOp.Shl n w left right v free = if right then 0 else shift_delay w left v free
binary_delay BinOp.Shr n w left right v free = if right then 0 else shift_delay w left v free

-- the word of a file with addresses of w bits
abbrev pub word_delay : ℕ → ℕ
word_delay w = if nat_le w 6 then 80 * w else 600

-- THE DELAY of a node of this kind, with n operands that aren't constant in the chain that ends in it. If files are outside, a word costs nothing.
abbrev pub delay_of : List Node → Bool → ℕ → Kind → ℕ
delay_of ns inside n (Word f a) = if inside then word_delay (wide ns a.0) else 0
delay_of ns inside n (Binary op a b) =
    binary_delay op n (wide ns a.0) (is_constant ns a) (is_constant ns b) (wide ns b.0) (free_in ns (wide ns b.0) (kind_of ns b))
delay_of ns inside n (Mux test a b) = choice_delay n (is_constant ns a || is_constant ns b)
delay_of ns inside n _ = 0
