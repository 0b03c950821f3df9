-- What nodes compute, as plain numbers.
use Rattle.std.specs.Prelude.{ℕ, ◌+◌, ◌-◌, ◌*◌, ◌/◌, ◌%◌, ◌^◌, ◌<◌, ◌==◌, if◌then◌else◌, nat_lt, bit_and, bit_or, bit_xor, List, [], ◌∷◌, get_or}
use Rattle.kp_bits.specs.declared.operator.BinOp.{BinOp}
use Rattle.kp_net.specs.{declared.node.NodeId.NodeId, declared.node.Kind.Kind, declared.node.Node.Node, Widths.wide}
use Rattle.kp_net.specs.declared.node.Kind.TheVariants as kind
use Rattle.kp_cycle_plan.specs.declared.codes.Op.TheVariants.{Not, And, Or, Xor, Add, Sub, Mul, Eq, Lt, Shl, Shr, Mux, Join, Join3, Slice, Plain}
use Rattle.kp_cycle_plan.specs.declared.codes.Op.{Op}

-- the operation of a node
abbrev pub binary_op : BinOp → NodeId → NodeId → ℕ → ℕ → Op
binary_op BinOp.And a b width mask = And a b
binary_op BinOp.Or a b width mask = Or a b
binary_op BinOp.Xor a b width mask = Xor a b
binary_op BinOp.Add a b width mask = Add a b mask
binary_op BinOp.Sub a b width mask = Sub a b mask
binary_op BinOp.Mul a b width mask = Mul a b mask
binary_op BinOp.Eq a b width mask = Eq a b
binary_op BinOp.Lt a b width mask = Lt a b
binary_op BinOp.Shl a b width mask = Shl a b width mask
binary_op BinOp.Shr a b width mask = Shr a b width

abbrev pub joined_op : List Node → List NodeId → Op
joined_op ns (a ∷ (b ∷ [])) = Join a b (wide ns b.0)
joined_op ns (a ∷ (b ∷ (d ∷ []))) = Join3 a b d (wide ns b.0) (wide ns d.0)
joined_op ns _ = Plain

abbrev pub kind_op : List Node → ℕ → ℕ → Kind → Op
kind_op ns width mask (kind.Not a) = Not a mask
kind_op ns width mask (kind.Binary op a b) = binary_op op a b width mask
kind_op ns width mask (kind.Mux test a b) = Mux test a b
kind_op ns width mask (kind.Concat parts) = joined_op ns parts
kind_op ns width mask (kind.Slice a hi lo) = Slice a lo mask
kind_op ns width mask _ = Plain

abbrev pub op_for : List Node → Node → Op
op_for ns n = kind_op ns n.width (2 ^ n.width - 1) n.kind

-- the result of an operation, given these numbers of the nodes before it; a plain one yields this number
abbrev pub number_of : List ℕ → ℕ → Op → ℕ
number_of v plain (Not a mask) = (mask + (2 ^ 64 - get_or v a.0 0)) % 2 ^ 64
number_of v plain (And a b) = bit_and (get_or v a.0 0) (get_or v b.0 0)
number_of v plain (Or a b) = bit_or (get_or v a.0 0) (get_or v b.0 0)
number_of v plain (Xor a b) = bit_xor (get_or v a.0 0) (get_or v b.0 0)
number_of v plain (Add a b mask) = bit_and ((get_or v a.0 0 + get_or v b.0 0) % 2 ^ 64) mask
number_of v plain (Sub a b mask) = bit_and ((get_or v a.0 0 + (2 ^ 64 - get_or v b.0 0)) % 2 ^ 64) mask
number_of v plain (Mul a b mask) = bit_and (get_or v a.0 0 * get_or v b.0 0 % 2 ^ 64) mask
number_of v plain (Eq a b) = if get_or v a.0 0 == get_or v b.0 0 then 1 else 0
number_of v plain (Lt a b) = if nat_lt (get_or v a.0 0) (get_or v b.0 0) then 1 else 0
number_of v plain (Shl a b width mask) = if nat_lt (get_or v b.0 0) width then bit_and (get_or v a.0 0 * 2 ^ bit_and (get_or v b.0 0) 63 % 2 ^ 64) mask else 0
number_of v plain (Shr a b width) = if nat_lt (get_or v b.0 0) width then get_or v a.0 0 / 2 ^ bit_and (get_or v b.0 0) 63 else 0
number_of v plain (Mux test a b) = if get_or v test.0 0 == 1 then get_or v a.0 0 else get_or v b.0 0
number_of v plain (Join a b width) = bit_or (get_or v a.0 0 * 2 ^ bit_and width 63 % 2 ^ 64) (get_or v b.0 0)
number_of v plain (Join3 a b d i j) = bit_or (bit_or (get_or v a.0 0 * 2 ^ bit_and i 63 % 2 ^ 64) (get_or v b.0 0) * 2 ^ bit_and j 63 % 2 ^ 64) (get_or v d.0 0)
number_of v plain (Slice a lo mask) = bit_and (get_or v a.0 0 / 2 ^ bit_and lo 63) mask
number_of v plain Plain = plain

-- all nodes that an operation reads exist: there are this many
abbrev pub IsReady : ℕ → Op → Type 0
IsReady m (Not a mask) = a.0 < m
IsReady m (And a b) = (a.0 < m) × (b.0 < m)
IsReady m (Or a b) = (a.0 < m) × (b.0 < m)
IsReady m (Xor a b) = (a.0 < m) × (b.0 < m)
IsReady m (Add a b mask) = (a.0 < m) × (b.0 < m)
IsReady m (Sub a b mask) = (a.0 < m) × (b.0 < m)
IsReady m (Mul a b mask) = (a.0 < m) × (b.0 < m)
IsReady m (Eq a b) = (a.0 < m) × (b.0 < m)
IsReady m (Lt a b) = (a.0 < m) × (b.0 < m)
IsReady m (Shl a b width mask) = (a.0 < m) × (b.0 < m)
IsReady m (Shr a b width) = (a.0 < m) × (b.0 < m)
IsReady m (Mux test a b) = (test.0 < m) × (a.0 < m) × (b.0 < m)
IsReady m (Join a b width) = (a.0 < m) × (b.0 < m)
IsReady m (Join3 a b d i j) = (a.0 < m) × (b.0 < m) × (d.0 < m)
IsReady m (Slice a lo mask) = a.0 < m
IsReady m Plain = Unit {0}
