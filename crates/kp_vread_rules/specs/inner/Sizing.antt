-- The rules of widths, by a table of sizes.
use Rattle.std.specs.Prelude.{ℕ, ◌+◌, nat_lt, ◌&&◌, List, [], ◌∷◌, ◌++◌, Option}
use Rattle.kp_base.specs.First.{first}
use Rattle.kp_vlog.specs.{declared.tree.Item.Item, declared.tree.VModule.VModule, Occurrences.Occurrence}
use Rattle.kp_vlog.specs.Scope.{Scope, Sizes, width_of, address_width, last_of, or_zero}
use Rattle.kp_vlog.specs.Rules.{range_fits, words_fit, reset_values}
use Rattle.kp_vlog.specs.declared.tree.Item.TheVariants as lines
use Rattle.kp_vread_rules.specs.declared.fault.Found.{Found}
use Rattle.kp_vread_rules.specs.WidthFaults.{wrong, file_fault, item_asked, header_asked, inits_asked, values_asked, updates_asked}

-- what a line declares comes first
abbrev pub with_item : Item → Sizes → Sizes
with_item (lines.Reg r n) ss = record { name = n.name; width = width_of r; address = 0 } ∷ ss
with_item (lines.File r n w) ss = record { name = n.name; width = width_of r; address = or_zero (address_width (last_of w)) } ∷ ss
with_item (lines.Integer n) ss = ss
with_item (lines.Wire r n) ss = record { name = n.name; width = width_of r; address = 0 } ∷ ss
with_item (lines.Assign t r) ss = ss

abbrev pub by_sizes : Sizes → Scope
by_sizes ss = record { sizes = ss; samples = []; regs = []; files = [] }

-- the checks of a line, if the given number of files come before it
abbrev pub item_by : Sizes → List Occurrence → ℕ → Item → List (Option Found)
item_by ss os k (lines.File r n w) = wrong (range_fits r && (words_fit w && nat_lt k 16)) n.at (file_fault r w) ∷ []
item_by ss os k x = item_asked (by_sizes ss) os x

abbrev pub files_with : ℕ → Item → ℕ
files_with k (lines.File r n w) = k + 1
files_with k _ = k

abbrev pub items_by : Sizes → List Occurrence → ℕ → List Item → List (Option Found)
items_by ss os k [] = []
items_by ss os k (x ∷ xs) = first (item_by ss os k x) ∷ items_by ss os (files_with k x) xs

-- those of a module
abbrev pub widths_by : Sizes → List Occurrence → VModule → List (Option Found)
widths_by ss os m =
    let s = by_sizes ss in
    header_asked m
    ++ (items_by ss os 0 m.items ++ (inits_asked s os m.inits ++ (values_asked s os (reset_values m.reset) ++ updates_asked s os m.updates)))
