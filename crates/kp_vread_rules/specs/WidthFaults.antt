-- How a module violates V4.
use Rattle.std.specs.Prelude.{ℕ, ◌+◌, ◌-◌, ◌^◌, ◌==◌, ◌&&◌, nat_lt, nat_le, List, [], ◌∷◌, ◌++◌, Bool, true, not, if◌then◌else◌, Option}
use Rattle.kp_base.specs.{Check.answer, First.first}
use Rattle.kp_bits.specs.{declared.operator.BinOp.BinOp, declared.literal.Literal.Literal, Operators.is_shift, Operators.is_comparison}
use Rattle.kp_vlog.specs.{Occurrences.Occurrence, Occurrences.names}
use Rattle.kp_vlog.specs.declared.tree.{Init.Init, Item.Item, Lit.Lit, Named.Named, Range.Range, ResetValue.ResetValue, Right.Right}
use Rattle.kp_vlog.specs.declared.tree.{Update.Update, VModule.VModule, VPort.VPort}
use Rattle.kp_vlog.specs.Rules.{range_fits, stall_fits, four_bits, words_fit, literal_fits, width_sum, right_fits, file_fits, loop_fits, reset_values}
use Rattle.kp_vlog.specs.Scope.{Scope, Sizes, scope_of, width_in, address_in}
use Rattle.kp_vlog.specs.declared.tree.Right.TheVariants as sides
use Rattle.kp_vlog.specs.declared.tree.Item.TheVariants as lines
use Rattle.kp_vlog.specs.declared.tree.Init.TheVariants as starts
use Rattle.kp_vlog.specs.declared.tree.Update.TheVariants as edges
use Rattle.kp_vread_rules.specs.declared.fault.{Found.Found, Side.Side, WidthFault.WidthFault}
use Rattle.kp_vread_rules.specs.{Faults.found, Firsts.declares, Firsts.first_at}
use Rattle.kp_vread_rules.specs.declared.fault.ModuleFault.TheVariants as modules
use Rattle.kp_vread_rules.specs.declared.fault.WidthFault.TheVariants as faults

-- a check at an offset, and what is wrong if it fails
abbrev pub wrong : Bool → ℕ → WidthFault → Option Found
wrong holds at fault = answer holds (found at (modules.Width fault))

abbrev pub file_fault : Range → Range → WidthFault
file_fault r w = if range_fits r then (if words_fit w then faults.Files else faults.Words) else faults.Range

abbrev pub literal_fault : Literal → WidthFault
literal_fault l = if nat_le 1 l.width && nat_le l.width 64 then faults.LiteralValue l.value l.width else faults.LiteralWidth l.width

abbrev pub op_fault : BinOp → Side → Side → Side → WidthFault
op_fault op a b t =
    if is_shift op then faults.Shifted op a t
    else if not (is_comparison op) then faults.Operands op a b t
    else if a.width == b.width then faults.Comparison op t
    else faults.Compared op a b

-- Given the sizes of names, and all names of the module.
module _ (ss : Sizes) (os : List Occurrence) where
  -- a name with its width and its declaration
  abbrev pub side : Named → Side
  side n = record { name = n.at; width = width_in ss n.name; declared = first_at declares n os }

  abbrev pub value_fault : Named → ℕ → WidthFault
  value_fault t count = faults.Value (side t) count

  -- a word of a file at an address, for a target
  abbrev pub word_fault : Named → Named → Named → ℕ → WidthFault
  word_fault f a t count =
      if width_in ss a.name == address_in ss f.name then value_fault t count else faults.Address (side a) f.at (address_in ss f.name)

  abbrev pub right_fault : Named → Right → WidthFault
  right_fault t (sides.Literal l) = value_fault t l.literal.width
  right_fault t (sides.Name n) = value_fault t (width_in ss n.name)
  right_fault t (sides.Not a) = value_fault t (width_in ss a.name)
  right_fault t (sides.Binary op a b) = op_fault op (side a) (side b) (side t)
  right_fault t (sides.Choice c a b) = if width_in ss c.name == 1 then faults.Branches (side a) (side b) (side t) else faults.Test (side c)
  right_fault t (sides.Slice a high low) =
      if nat_le low.value high.value && nat_lt high.value (width_in ss a.name) then value_fault t (high.value + 1 - low.value) else faults.Slice high.value low.value (width_in ss a.name)
  right_fault t (sides.Word f a) = word_fault f a t (width_in ss f.name)
  right_fault t (sides.Concat parts) = value_fault t (width_sum ss parts)

  -- a start value of another width, or what else is wrong with it
  abbrev pub start_fault : Named → Lit → WidthFault → WidthFault
  start_fault n l other = if l.literal.width == width_in ss n.name then other else value_fault n l.literal.width

  abbrev pub update_fault : Update → WidthFault
  update_fault (edges.Reg n v) = value_fault n (width_in ss v.name)
  update_fault (edges.File t f a v) = if width_in ss t.name == 1 then word_fault f a f (width_in ss v.name) else faults.Test (side t)

abbrev pub literal_asked : Right → List (Option Found)
literal_asked (sides.Literal l) = wrong (literal_fits l.literal) l.at (literal_fault l.literal) ∷ []
literal_asked _ = []

-- The checks of a part of the module, in its order.
module _ (s : Scope) (os : List Occurrence) where
  abbrev pub item_asked : Item → List (Option Found)
  item_asked (lines.Reg r n) = wrong (range_fits r) n.at faults.Range ∷ []
  item_asked (lines.File r n w) = wrong (range_fits r && (words_fit w && file_fits s n.name)) n.at (file_fault r w) ∷ []
  item_asked (lines.Integer n) = []
  item_asked (lines.Wire r n) = wrong (range_fits r) n.at faults.Range ∷ []
  item_asked (lines.Assign t r) = wrong (right_fits s.sizes (width_in s.sizes t.name) r) t.at (right_fault s.sizes os t r) ∷ literal_asked r

  abbrev pub start_asked : Named → Lit → Bool → WidthFault → List (Option Found)
  start_asked n l holds other =
      wrong (l.literal.width == width_in s.sizes n.name && holds) n.at (start_fault s.sizes os n l other)
      ∷ wrong (literal_fits l.literal) l.at (literal_fault l.literal) ∷ []

  -- how many words a file has
  abbrev pub words_in : Named → ℕ
  words_in f = 2 ^ address_in s.sizes f.name

  abbrev pub init_asked : Init → List (Option Found)
  init_asked (starts.Reg n l) = start_asked n l true (value_fault s.sizes os n l.literal.width)
  init_asked (starts.Word f i l) = start_asked f l (nat_lt i.value (words_in f)) (faults.Index (words_in f) i.value)
  init_asked (starts.Fill f) = start_asked f.file f.value (loop_fits s f) (faults.Loop (words_in f.file))

  abbrev pub value_asked : ResetValue → List (Option Found)
  value_asked x = start_asked x.name x.value true (value_fault s.sizes os x.name x.value.literal.width)

  abbrev pub update_asked : Update → Option Found
  update_asked (edges.Reg n v) = wrong (width_in s.sizes v.name == width_in s.sizes n.name) n.at (update_fault s.sizes os (edges.Reg n v))
  update_asked (edges.File t f a v) =
      wrong (width_in s.sizes t.name == 1 && (width_in s.sizes a.name == address_in s.sizes f.name && width_in s.sizes v.name == width_in s.sizes f.name)) f.at
      (update_fault s.sizes os (edges.File t f a v))

  abbrev pub items_asked : List Item → List (Option Found)
  items_asked [] = []
  items_asked (x ∷ xs) = first (item_asked x) ∷ items_asked xs

  abbrev pub inits_asked : List Init → List (Option Found)
  inits_asked [] = []
  inits_asked (x ∷ xs) = first (init_asked x) ∷ inits_asked xs

  abbrev pub values_asked : List ResetValue → List (Option Found)
  values_asked [] = []
  values_asked (x ∷ xs) = first (value_asked x) ∷ values_asked xs

  abbrev pub updates_asked : List Update → List (Option Found)
  updates_asked [] = []
  updates_asked (x ∷ xs) = update_asked x ∷ updates_asked xs

abbrev pub samples_asked : List VPort → List (Option Found)
samples_asked [] = []
samples_asked (p ∷ ps) = wrong (range_fits p.range) p.port.at faults.Range ∷ samples_asked ps

abbrev pub outputs_asked : VModule → List (Option Found)
outputs_asked m =
    wrong (stall_fits m.full.range) m.full.port.at faults.StallRange
    ∷ wrong (stall_fits m.ue.range) m.ue.port.at faults.StallRange
    ∷ wrong (four_bits m.back.range) m.back.port.at faults.BackRange ∷ []

abbrev pub header_asked : VModule → List (Option Found)
header_asked m = wrong (stall_fits m.ext.range) m.ext.port.at faults.StallRange ∷ (samples_asked m.samples ++ outputs_asked m)

-- each port, each line and each update: the first of its checks that fails
abbrev pub widths_asked : VModule → List (Option Found)
widths_asked m =
    let s = scope_of m in
    header_asked m
    ++ (items_asked s (names m) m.items
    ++ (inits_asked s (names m) m.inits ++ (values_asked s (names m) (reset_values m.reset) ++ updates_asked s (names m) m.updates)))
