-- The numbers of a module that violates no rule fit a netlist.
use Rattle.std.proofs.Common.{◌≡◌, ◌∙◌, ℕ, ◌+◌, ◌≤◌, List, [], ◌∷◌, ◌++◌, length, map, Bool, true, false, All, Option, sym, ap, subst, arith}
use Rattle.std.proofs.lemmas.{Bool.Decides.nat_tests, List.Elements.All-nil, List.Elements.All-cons, List.Elements.All-head, List.Elements.All-tail}
use Rattle.std.specs.Prelude.{◌==◌, ◌&&◌, nat_le, nat_lt, if◌then◌else◌}
use Rattle.kp_bits.specs.{Word.IsWord, declared.literal.Literal.Literal}
use Rattle.kp_net.specs.{declared.node.Node.Node, Names.same, Parts.RegOk, Parts.NetOk}
use Rattle.kp_vlog.specs.Rules.{want, range_fits, stall_fits, four_bits, words_fit, file_fits, right_fits, width_sum, item_answers, items_answers, ports_answers, header_answers, inits_answers, values_answers, reset_values, updates_answers}
use Rattle.kp_vlog.specs.declared.tree.{Range.Range, VPort.VPort, Right.Right, Item.Item, VModule.VModule}
use Rattle.kp_vlog.specs.Scope.{Scope, Sizes, scope_of, sizes_of, width_in, width_of, port_size, item_sizes}
use Rattle.kp_vlog.specs.Denote.{start_of, regs_of, reg_of, net_of}
use Rattle.kp_vlog.proofs.{Tests.first_true, Tests.second_true, Tests.le_of, Tests.lt_of, Scans.NoneOf, Scans.none_front, Scans.none_behind}
use Rattle.kp_vlog.proofs.{Declared.want_none, Declared.range_width, Sound.Holds}
use Rattle.kp_vlog.specs.declared.tree.Right.TheVariants as sides
use Rattle.kp_vlog.specs.declared.tree.Item.TheVariants as lines
use Rattle.kp_vread_rules.specs.Tables.{AlikeSizes, found}
use Rattle.kp_vread.specs.inner.Building.{RightFits, ItemFits, AreNarrow, start_from}
use Rattle.kp_vread.{specs.inner.Parts.PortFits, specs.inner.Parts.RegFits, specs.inner.Parts.AreStarted, proofs.Beside.start_same}

-- No name is wider than 64 bits.

abbrev AllNarrow : Sizes → Type 0
AllNarrow [] = Unit {0}
AllNarrow (e ∷ es) = (e.width ≤ 64) × AllNarrow es

narrow_in : (ss : Sizes) (n : List ℕ) → AllNarrow ss → width_in ss n ≤ 64
narrow_in [] n h = omega arith
narrow_in (e ∷ es) n h = step (same n e.name) (narrow_in es n h.1)
  where
    step : (b : Bool) → width_in es n ≤ 64 → (if b then e.width else width_in es n) ≤ 64
    step true k = h.0
    step false k = k

narrow_behind : (xs ys : Sizes) → AllNarrow xs → AllNarrow ys → AllNarrow (xs ++ ys)
narrow_behind [] ys h k = k
narrow_behind (x ∷ xs) ys h k = (h.0, narrow_behind xs ys h.1 k)

range_narrow : (r : Range) → range_fits r ≡ true → width_of r ≤ 64
range_narrow r h = (range_width r h).1

stall_narrow : (r : Range) → stall_fits r ≡ true → width_of r ≤ 64
stall_narrow r h =
    let k = le_of r.high.value 11 (second_true (nat_le 1 r.high.value) (nat_le r.high.value 11) (second_true (r.low.value == 0) (nat_le 1 r.high.value && nat_le r.high.value 11) h)) in
    omega (arith, k)

four_narrow : (r : Range) → four_bits r ≡ true → width_of r ≤ 64
four_narrow r h = by r.high.value (second_true (r.low.value == 0) (r.high.value == 3) h)
  where
    by : (n : ℕ) → (n == 3) ≡ true → n + 1 ≤ 64
    by n e = grind (arith, nat_tests)

samples_narrow : (ps : List VPort) → NoneOf (ports_answers ps) → AllNarrow (map port_size ps)
samples_narrow [] a = tt
samples_narrow (p ∷ ps) a = (range_narrow p.range (want_none (range_fits p.range) p.port.at a.0), samples_narrow ps a.1)

items_narrow : (s : Scope) (xs : List Item) → NoneOf (items_answers s xs) → AllNarrow (item_sizes xs)
items_narrow s [] a = tt
items_narrow s (lines.Reg r n ∷ xs) a = (range_narrow r (want_none (range_fits r) n.at a.0), items_narrow s xs a.1)
items_narrow s (lines.File r n w ∷ xs) a =
    (range_narrow r (first_true (range_fits r) (words_fit w && file_fits s n.name) (want_none (range_fits r && (words_fit w && file_fits s n.name)) n.at a.0)), items_narrow s xs a.1)
items_narrow s (lines.Integer n ∷ xs) a = items_narrow s xs a
items_narrow s (lines.Wire r n ∷ xs) a = (range_narrow r (want_none (range_fits r) n.at a.0), items_narrow s xs a.1)
items_narrow s (lines.Assign t r ∷ xs) a = items_narrow s xs (none_behind (item_answers s (lines.Assign t r)) (items_answers s xs) a)

module _ (m : VModule) (h : Holds m) where
  abbrev rest : List (Option ℕ)
  rest = inits_answers (scope_of m) m.inits ++ (values_answers (scope_of m) (reset_values m.reset) ++ updates_answers (scope_of m) m.updates)

  asked : NoneOf (header_answers m)
  asked = none_front (header_answers m) (items_answers (scope_of m) m.items ++ rest) h.wide

  items_asked : NoneOf (items_answers (scope_of m) m.items)
  items_asked = none_front (items_answers (scope_of m) m.items) rest (none_behind (header_answers m) (items_answers (scope_of m) m.items ++ rest) h.wide)

  abbrev outputs : List (Option ℕ)
  outputs = want (stall_fits m.full.range) m.full.port.at ∷ want (stall_fits m.ue.range) m.ue.port.at ∷ want (four_bits m.back.range) m.back.port.at ∷ []

  all_narrow : AllNarrow (sizes_of m)
  all_narrow =
      let o = none_behind (ports_answers m.samples) outputs asked.1 in
      let full = stall_narrow m.full.range (want_none (stall_fits m.full.range) m.full.port.at o.0) in
      let ue = stall_narrow m.ue.range (want_none (stall_fits m.ue.range) m.ue.port.at o.1.0) in
      let back = four_narrow m.back.range (want_none (four_bits m.back.range) m.back.port.at o.1.1.0) in
      let rows : AllNarrow (port_size m.full ∷ port_size m.ue ∷ port_size m.back ∷ item_sizes m.items) = (full, (ue, (back, items_narrow (scope_of m) m.items items_asked))) in (
        stall_narrow m.ext.range (want_none (stall_fits m.ext.range) m.ext.port.at asked.0),
        narrow_behind (map port_size m.samples) _ (samples_narrow m.samples (none_front (ports_answers m.samples) outputs asked.1)) rows,
      )

  pub narrow : (ss : Sizes) → AlikeSizes ss (sizes_of m) → AreNarrow ss
  narrow ss a = record { narrow = λ n. subst (λ (k : ℕ). k ≤ 64) (sym (a.widths n)) (narrow_in (sizes_of m) n all_narrow) }

  right_fit : (w : ℕ) (r : Right) → right_fits (sizes_of m) w r ≡ true → RightFits r
  right_fit w (sides.Slice a high low) e =
      let rest' = second_true (nat_le low.value high.value) (nat_lt high.value (width_in (sizes_of m) a.name) && (high.value + 1 == w + low.value)) e in
      let l = le_of low.value high.value (first_true (nat_le low.value high.value) _ e) in
      let u = lt_of high.value (width_in (sizes_of m) a.name) (first_true (nat_lt high.value (width_in (sizes_of m) a.name)) (high.value + 1 == w + low.value) rest') in
      let n = narrow_in (sizes_of m) a.name all_narrow in
      (omega (arith, u, n), omega (arith, l, u, n))
  right_fit w (sides.Concat parts) e =
      let k = second_true (nat_le 2 (length parts)) (nat_le (length parts) 12 && (width_sum (sizes_of m) parts == w)) e in
      (le_of 2 (length parts) (first_true (nat_le 2 (length parts)) _ e), le_of (length parts) 12 (first_true (nat_le (length parts) 12) (width_sum (sizes_of m) parts == w) k))
  right_fit w _ e = tt

  items_fit : (xs : List Item) → NoneOf (items_answers (scope_of m) xs) → All ItemFits xs
  items_fit [] a = All-nil ItemFits
  items_fit (lines.Reg r n ∷ xs) a = All-cons ItemFits _ xs tt (items_fit xs a.1)
  items_fit (lines.File r n w ∷ xs) a = All-cons ItemFits _ xs tt (items_fit xs a.1)
  items_fit (lines.Integer n ∷ xs) a = All-cons ItemFits _ xs tt (items_fit xs a)
  items_fit (lines.Wire r n ∷ xs) a = All-cons ItemFits _ xs tt (items_fit xs a.1)
  items_fit (lines.Assign t r ∷ xs) a =
      let w = width_in (sizes_of m) t.name in
      All-cons ItemFits (lines.Assign t r) xs (right_fit w r (want_none (right_fits (sizes_of m) w r) t.at a.0))
      (items_fit xs (none_behind (item_answers (scope_of m) (lines.Assign t r)) (items_answers (scope_of m) xs) a))

  pub all_fit : All ItemFits m.items
  all_fit = items_fit m.items items_asked

  pub ext_fits : PortFits m.ext
  ext_fits = omega (arith, all_narrow.0)

  ports_fit : (ps : List VPort) → NoneOf (ports_answers ps) → All PortFits ps
  ports_fit [] a = All-nil PortFits
  ports_fit (p ∷ ps) a =
      let k = range_narrow p.range (want_none (range_fits p.range) p.port.at a.0) in
      All-cons PortFits p ps (omega (arith, k)) (ports_fit ps a.1)

  pub samples_fit : All PortFits m.samples
  samples_fit = ports_fit m.samples (none_front (ports_answers m.samples) outputs asked.1)

-- Registers start with words, as the netlist is well-formed.
regs_fit : (m : VModule) (es : List (List ℕ × Literal)) (ks : List (List ℕ)) (ns : List Node) → ((n : List ℕ) → start_from (found es n) ≡ start_of m.inits n)
    → (xs : List Item) → All (RegOk ns) (regs_of ks m xs) → All (RegFits es) xs
regs_fit m es ks ns e [] a = All-nil (RegFits es)
regs_fit m es ks ns e (lines.Reg r n ∷ xs) a =
    let first : RegOk ns (reg_of ks m n) = All-head (RegOk ns) (reg_of ks m n) (regs_of ks m xs) a in
    All-cons (RegFits es) (lines.Reg r n) xs (subst IsWord (sym (e n.name)) first.start) (regs_fit m es ks ns e xs (All-tail (RegOk ns) (reg_of ks m n) (regs_of ks m xs) a))
regs_fit m es ks ns e (_ ∷ xs) a = All-cons (RegFits es) _ xs tt (regs_fit m es ks ns e xs a)

pub started : (m : VModule) → NetOk (net_of m) → AreStarted m
unfolding net_of
started m k = record { starts = λ es e. regs_fit m es _ _ (λ n. ap start_from (e n) ∙ start_same m.inits n) m.items k.parts.regs }
