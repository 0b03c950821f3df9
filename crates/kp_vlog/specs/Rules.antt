-- The rules of names (V3), widths (V4) and drivers (V5), each at its first position in the text.
use Rattle.std.specs.Prelude.{ℕ, ◌+◌, ◌^◌, ◌==◌, nat_lt, nat_le, List, [], ◌∷◌, ◌++◌, length, codes, map, Bool, true, false, not, ◌||◌, ◌&&◌, if◌then◌else◌, Option, Some, None}
use Rattle.std.specs.Option.{is_some}
use Rattle.kp_base.specs.First.{first}
use Rattle.kp_bits.specs.{declared.operator.BinOp.BinOp, declared.literal.Literal.Literal, Operators.is_shift, Operators.result_width}
use Rattle.kp_net.specs.Names.{same, among, is_module_name, is_reg_name, is_file_name, is_sample_name}
use Rattle.kp_vlog.specs.Occurrences.{Role, names_module, declares_port, declares_sample, declares_reg, declares_file, declares_integer, declares_wire, gives, uses_wire, uses_source, uses_file, uses_integer, uses_port, starts_reg, starts_word, fills_file, resets_reg, updates_reg, updates_file, gives_no_wire, is_given, needs, Occurrence, names}
use Rattle.kp_vlog.specs.declared.tree.{Lit.Lit, Named.Named, Range.Range, VPort.VPort, Right.Right, Item.Item, Fill.Fill, Init.Init, ResetValue.ResetValue}
use Rattle.kp_vlog.specs.declared.tree.{ResetList.ResetList, Update.Update, VModule.VModule}
use Rattle.kp_vlog.specs.Scope.{Scope, Sizes, scope_of, width_in, address_in, address_width, last_of, place_of, is_wire_name, is_output_name}
use Rattle.kp_vlog.specs.declared.tree.Right.TheVariants as sides
use Rattle.kp_vlog.specs.declared.tree.Item.TheVariants as lines
use Rattle.kp_vlog.specs.declared.tree.Init.TheVariants as starts
use Rattle.kp_vlog.specs.declared.tree.Update.TheVariants as edges

-- V3: given the names that are declared so far, the name is one that its role allows. The kind of thing that a name denotes is determined by its
-- form.
abbrev pub name_fits : List (List ℕ) → Role → List ℕ → Bool
name_fits known names_module n = is_module_name n
name_fits known (declares_port k) n = same n k && not (among known n)
name_fits known declares_sample n = is_sample_name n && not (among known n)
name_fits known declares_reg n = is_reg_name n && not (among known n)
name_fits known declares_file n = is_file_name n && not (among known n)
name_fits known declares_integer n = same n (codes "i") && not (among known n)
name_fits known declares_wire n = is_wire_name n && not (among known n)
name_fits known gives n = is_output_name n || (is_wire_name n && among known n)
name_fits known uses_wire n = is_wire_name n && among known n
name_fits known uses_source n = same n (codes "ext") || ((is_reg_name n || is_sample_name n) && among known n)
name_fits known uses_file n = is_file_name n && among known n
name_fits known uses_integer n = same n (codes "i") && among known n
name_fits known (uses_port k) n = same n k && among known n
name_fits known starts_reg n = is_reg_name n && among known n
name_fits known starts_word n = is_file_name n && among known n
name_fits known fills_file n = is_file_name n && among known n
name_fits known resets_reg n = is_reg_name n && among known n
name_fits known updates_reg n = is_reg_name n && among known n
name_fits known updates_file n = is_file_name n && among known n
name_fits known gives_no_wire n = false
name_fits known is_given n = true
name_fits known (needs holds) n = true

-- the names that are declared from here on, the last one first
abbrev pub learns : List (List ℕ) → Role → List ℕ → List (List ℕ)
learns known (declares_port k) n = n ∷ known
learns known declares_sample n = n ∷ known
learns known declares_reg n = n ∷ known
learns known declares_file n = n ∷ known
learns known declares_integer n = n ∷ known
learns known declares_wire n = n ∷ known
learns known _ n = known

-- the first name that violates V3
abbrev pub bad_name : List (List ℕ) → List Occurrence → Option ℕ
bad_name known [] = None
bad_name known (o ∷ os) = if name_fits known o.role o.named.name then bad_name (learns known o.role o.named.name) os else Some o.named.at

-- V4: each check yields the offset at which it is violated, if it is
abbrev pub want : Bool → ℕ → Option ℕ
want holds at = if holds then None else Some at

abbrev pub range_fits : Range → Bool
range_fits r = r.low.value == 0 && nat_le r.high.value 63

-- a stall word has 2 to 12 bits
abbrev pub stall_fits : Range → Bool
stall_fits r = r.low.value == 0 && (nat_le 1 r.high.value && nat_le r.high.value 11)

abbrev pub four_bits : Range → Bool
four_bits r = r.low.value == 0 && r.high.value == 3

-- the words of a file are numbered from 0 up, and an address is 1 to 16 bits wide
abbrev pub words_fit : Range → Bool
words_fit w = w.high.value == 0 && is_some (address_width (last_of w))

abbrev pub literal_fits : Literal → Bool
literal_fits l = nat_le 1 l.width && (nat_le l.width 64 && nat_lt l.value (2 ^ l.width))

-- the operands of an operator for a target of w bits have one width, but for a shift
abbrev pub op_fits : BinOp → (width left right : ℕ) → Bool
op_fits op w a b = result_width op a == w && (is_shift op || a == b)

abbrev pub width_sum : Sizes → List Named → ℕ
width_sum ss [] = 0
width_sum ss (a ∷ parts) = width_in ss a.name + width_sum ss parts

-- a right side for a target of w bits; that a concatenation has 2 to 12 names is already required by the grammar
abbrev pub right_fits : Sizes → ℕ → Right → Bool
right_fits ss w (sides.Literal l) = l.literal.width == w
right_fits ss w (sides.Name n) = width_in ss n.name == w
right_fits ss w (sides.Not a) = width_in ss a.name == w
right_fits ss w (sides.Binary op a b) = op_fits op w (width_in ss a.name) (width_in ss b.name)
right_fits ss w (sides.Choice t a b) = width_in ss t.name == 1 && (width_in ss a.name == w && width_in ss b.name == w)
right_fits ss w (sides.Slice a high low) = nat_le low.value high.value && (nat_lt high.value (width_in ss a.name) && high.value + 1 == w + low.value)
right_fits ss w (sides.Word f a) = width_in ss f.name == w && width_in ss a.name == address_in ss f.name
right_fits ss w (sides.Concat parts) = nat_le 2 (length parts) && (nat_le (length parts) 12 && width_sum ss parts == w)

abbrev pub right_answers : Right → List (Option ℕ)
right_answers (sides.Literal l) = want (literal_fits l.literal) l.at ∷ []
right_answers _ = []

-- at most 16 files are declared
abbrev pub file_fits : Scope → List ℕ → Bool
file_fits s n = nat_lt (place_of s.files n) 16

abbrev pub item_answers : Scope → Item → List (Option ℕ)
item_answers s (lines.Reg r n) = want (range_fits r) n.at ∷ []
item_answers s (lines.File r n w) = want (range_fits r && (words_fit w && file_fits s n.name)) n.at ∷ []
item_answers s (lines.Integer n) = []
item_answers s (lines.Wire r n) = want (range_fits r) n.at ∷ []
item_answers s (lines.Assign t r) = want (right_fits s.sizes (width_in s.sizes t.name) r) t.at ∷ right_answers r

abbrev pub items_answers : Scope → List Item → List (Option ℕ)
items_answers s [] = []
items_answers s (x ∷ xs) = item_answers s x ++ items_answers s xs

-- a start value, for a register or a file, has its width
abbrev pub start_answers : Scope → Named → Lit → Bool → List (Option ℕ)
start_answers s n l holds = want (l.literal.width == width_in s.sizes n.name && holds) n.at ∷ want (literal_fits l.literal) l.at ∷ []

-- the loop runs over all words
abbrev pub loop_fits : Scope → Fill → Bool
loop_fits s f = f.from.value == 0 && (f.by.value == 1 && f.limit.value == 2 ^ address_in s.sizes f.file.name)

abbrev pub init_answers : Scope → Init → List (Option ℕ)
init_answers s (starts.Reg n l) = start_answers s n l true
init_answers s (starts.Word n i l) = start_answers s n l (nat_lt i.value (2 ^ address_in s.sizes n.name))
init_answers s (starts.Fill f) = start_answers s f.file f.value (loop_fits s f)

abbrev pub inits_answers : Scope → List Init → List (Option ℕ)
inits_answers s [] = []
inits_answers s (x ∷ xs) = init_answers s x ++ inits_answers s xs

-- the reset list, if there is one
abbrev pub reset_values : Option ResetList → List ResetValue
reset_values None = []
reset_values (Some r) = r.values

abbrev pub values_answers : Scope → List ResetValue → List (Option ℕ)
values_answers s [] = []
values_answers s (x ∷ xs) = start_answers s x.name x.value true ++ values_answers s xs

abbrev pub update_answer : Scope → Update → Option ℕ
update_answer s (edges.Reg n v) = want (width_in s.sizes v.name == width_in s.sizes n.name) n.at
update_answer s (edges.File t f a v) =
    want (width_in s.sizes t.name == 1 && (width_in s.sizes a.name == address_in s.sizes f.name && width_in s.sizes v.name == width_in s.sizes f.name)) f.at

abbrev pub updates_answers : Scope → List Update → List (Option ℕ)
updates_answers s [] = []
updates_answers s (x ∷ xs) = update_answer s x ∷ updates_answers s xs

abbrev pub ports_answers : List VPort → List (Option ℕ)
ports_answers [] = []
ports_answers (p ∷ ps) = want (range_fits p.range) p.port.at ∷ ports_answers ps

abbrev pub header_answers : VModule → List (Option ℕ)
header_answers m =
    want (stall_fits m.ext.range) m.ext.port.at
    ∷ (ports_answers m.samples
    ++ (want (stall_fits m.full.range) m.full.port.at ∷ want (stall_fits m.ue.range) m.ue.port.at ∷ want (four_bits m.back.range) m.back.port.at ∷ []))

abbrev pub width_answers : VModule → List (Option ℕ)
width_answers m =
    header_answers m
    ++ (items_answers (scope_of m) m.items
    ++ (inits_answers (scope_of m) m.inits ++ (values_answers (scope_of m) (reset_values m.reset) ++ updates_answers (scope_of m) m.updates)))

-- V5: the names that are assigned, started, filled and reset, the registers that are updated, and the files that are written
pub record Driven : Type 0 where
  pub given : List (List ℕ)
  pub started : List (List ℕ)
  pub filled : List (List ℕ)
  pub reset : List (List ℕ)
  pub updated : List (List ℕ)
  pub written : List (List ℕ)

abbrev pub nothing : Driven
nothing = record { given = []; started = []; filled = []; reset = []; updated = []; written = [] }

abbrev pub drives : Driven → Role → List ℕ → Driven
drives d is_given n = record d { given = n ∷ d.given }
drives d starts_reg n = record d { started = n ∷ d.started }
drives d fills_file n = record d { filled = n ∷ d.filled }
drives d resets_reg n = record d { reset = n ∷ d.reset }
drives d updates_reg n = record d { updated = n ∷ d.updated }
drives d updates_file n = record d { written = n ∷ d.written }
drives d _ n = d

-- what the complete module drives
abbrev pub items_given : List Item → List (List ℕ)
items_given [] = []
items_given (lines.Assign t r ∷ xs) = t.name ∷ items_given xs
items_given (x ∷ xs) = items_given xs

abbrev pub inits_started : List Init → List (List ℕ)
inits_started [] = []
inits_started (starts.Reg n l ∷ xs) = n.name ∷ inits_started xs
inits_started (x ∷ xs) = inits_started xs

abbrev pub inits_filled : List Init → List (List ℕ)
inits_filled [] = []
inits_filled (starts.Fill f ∷ xs) = f.file.name ∷ inits_filled xs
inits_filled (x ∷ xs) = inits_filled xs

abbrev pub updates_updated : List Update → List (List ℕ)
updates_updated [] = []
updates_updated (edges.Reg n v ∷ xs) = n.name ∷ updates_updated xs
updates_updated (x ∷ xs) = updates_updated xs

abbrev pub updates_written : List Update → List (List ℕ)
updates_written [] = []
updates_written (edges.File t f a v ∷ xs) = f.name ∷ updates_written xs
updates_written (x ∷ xs) = updates_written xs

abbrev pub all_driven : VModule → Driven
all_driven m = record {
  given = items_given m.items;
  started = inits_started m.inits;
  filled = inits_filled m.inits;
  reset = map (λ x. x.name.name) (reset_values m.reset);
  updated = updates_updated m.updates;
  written = updates_written m.updates;
}

-- given what the complete module drives, and what is driven so far; `resets`: there is a reset list
abbrev pub driver_fits : Bool → Driven → Driven → Role → List ℕ → Bool
driver_fits resets all so_far (declares_port k) n = not (is_output_name n) || among all.given n
driver_fits resets all so_far declares_wire n = among all.given n
driver_fits resets all so_far declares_reg n = among all.started n && (among all.updated n && (not resets || among all.reset n))
driver_fits resets all so_far declares_file n = among all.filled n
driver_fits resets all so_far gives n = not (among so_far.given n)
driver_fits resets all so_far uses_wire n = among so_far.given n
driver_fits resets all so_far starts_reg n = not (among so_far.started n)
driver_fits resets all so_far starts_word n = among so_far.filled n
driver_fits resets all so_far fills_file n = not (among so_far.filled n)
driver_fits resets all so_far resets_reg n = not (among so_far.reset n)
driver_fits resets all so_far updates_reg n = not (among so_far.updated n)
driver_fits resets all so_far updates_file n = not (among so_far.written n)
driver_fits resets all so_far (needs holds) n = holds
driver_fits resets all so_far _ n = true

-- the first name that violates V5
abbrev pub bad_driver : Bool → Driven → Driven → List Occurrence → Option ℕ
bad_driver resets all so_far [] = None
bad_driver resets all so_far (o ∷ os) =
    if driver_fits resets all so_far o.role o.named.name then bad_driver resets all (drives so_far o.role o.named.name) os else Some o.named.at

abbrev pub module_driver : VModule → Option ℕ
module_driver m = bad_driver (is_some m.reset) (all_driven m) nothing (names m)

-- a violated rule, and its offset
pub record Fault : Type 0 where
  pub rule : ℕ
  pub at : ℕ

abbrev pub breaks : ℕ → Option ℕ → Option Fault → Option Fault
breaks rule None rest = rest
breaks rule (Some at) rest = Some (record { rule = rule; at = at })

-- the first of the rules V3 to V5 that a module violates
unfoldable pub broken : VModule → Option Fault
broken m = breaks 3 (bad_name [] (names m)) (breaks 4 (first (width_answers m)) (breaks 5 (module_driver m) None))
