-- WHEN THE VALUES OF NODES ARE THERE. A chain is one operation, `&`, `|`, `^` or a choice, whose operand is the same operation again: for choices the operand
-- of the else branch. A mapper balances it. So the node at its end has the operands of the chain as its own, and the nodes within cost nothing.
use Rattle.std.specs.Prelude.{ℕ, ◌+◌, max, min, Bool, true, false, nat_le, List, [], ◌∷◌, ◌++◌, fold, flat_map, get_or, Option, Some, None, if◌then◌else◌}
use Rattle.kp_bits.specs.declared.operator.BinOp.{BinOp}
use Rattle.kp_net.specs.declared.node.{NodeId.NodeId, Node.Node, Kind.Kind}
use Rattle.kp_net.specs.declared.node.Kind.TheVariants.{Const, Ext, Sample, Reg, Word, Not, Binary, Mux, Concat, Slice}
use Rattle.kp_net.specs.Widths.{no_node}
use Rattle.kp_depth.specs.declared.time.{Input.Input, Chain.Chain, Time.Time}
use Rattle.kp_depth.specs.Delay.{delay_of, kind_of, is_constant, is_choice, is_and, is_or, is_xor}

abbrev pub continues : BinOp → Kind → Bool
continues BinOp.And kind = is_and kind
continues BinOp.Or kind = is_or kind
continues BinOp.Xor kind = is_xor kind
continues _ kind = false

-- AN OPERAND of a node, and whether the chain of the node continues in it. A constant is always there, so it is none.
abbrev pub input : List Node → Bool → NodeId → List Input
input ns within a = if is_constant ns a then [] else record { node = a; within = within } ∷ []

abbrev pub inputs_of : List Node → Bool → Kind → List Input
inputs_of ns inside (Word f a) = if inside then input ns false a else []
inputs_of ns inside (Not a) = input ns false a
inputs_of ns inside (Binary op a b) = input ns (continues op (kind_of ns a)) a ++ input ns (continues op (kind_of ns b)) b
inputs_of ns inside (Mux test a b) = input ns false test ++ (input ns false a ++ input ns (is_choice (kind_of ns b)) b)
inputs_of ns inside (Concat parts) = flat_map (input ns false) parts
inputs_of ns inside (Slice a hi lo) = input ns false a
inputs_of ns inside _ = []

-- THE CHAIN that ends in a node, given the times t of the nodes before it: how many operands it has, 127 at most, when the last of them is there, and
-- through which operand of the node.
abbrev pub no_chain : Chain
no_chain = record { count = 0; latest = 0; last = None }

abbrev pub no_time : Time
no_time = record { chain = no_chain; arrival = 0 }

abbrev pub added : Time → Input → ℕ
added v x = if x.within then v.chain.count else 1

abbrev pub there : Time → Input → ℕ
there v x = if x.within then v.chain.latest else v.arrival

abbrev pub joined_at : Time → Chain → Input → Chain
joined_at v c x = record {
  count = min 127 (c.count + added v x);
  latest = max c.latest (there v x);
  last = if nat_le c.latest (there v x) then Some x else c.last;
}

abbrev pub joined : (ℕ → Time) → Chain → Input → Chain
joined t c x = joined_at (t x.node.0) c x

abbrev pub chain_of : List Node → Bool → (ℕ → Time) → Kind → Chain
chain_of ns inside t kind = fold (joined t) no_chain (inputs_of ns inside kind)

-- THE TIME of a node: its chain, and its delay after the last operand
abbrev pub time_of : List Node → Bool → (ℕ → Time) → Kind → Time
time_of ns inside t kind = let c = chain_of ns inside t kind in record { chain = c; arrival = c.latest + delay_of ns inside c.count kind }

abbrev pub known_time : List Time → ℕ → Time
known_time known i = get_or known i no_time

-- the times of a list of nodes, each from those before it
abbrev pub times_more : List Node → Bool → List Time → Node → List Time
times_more ns inside known n = known ++ time_of ns inside (known_time known) n.kind ∷ []

abbrev pub times_of : List Node → Bool → List Time
times_of ns inside = fold (times_more ns inside) [] ns

unfoldable pub time_at : List Node → Bool → ℕ → Time
time_at ns inside i = known_time (times_of ns inside) i
