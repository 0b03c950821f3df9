-- The sizes of names by a table, and the rules of widths by it.
use Rattle.std.proofs.Common.{◌≡◌, ◌∙◌, ℕ, ◌+◌, ◌<◌, List, [], ◌∷◌, ◌++◌, length, get_or, drop, map, Bool, true, false, cond, Option, Some, None, refl, sym, ap, subst, arith}
use Rattle.std.{proofs.lemmas.List.drop_more, specs.Prelude.◌^◌, specs.Prelude.nat_lt, specs.Prelude.◌&&◌, specs.Prelude.if◌then◌else◌, specs.Map.lookup}
use Rattle.kp_base.specs.First.{first}
use Rattle.kp_net.specs.Names.{same}
use Rattle.kp_vlog.specs.Scope.{Scope, Sized, Sizes, scope_of, sizes_of, width_in, address_in, address_width, or_zero, place_of, port_size, item_sizes, file_names}
use Rattle.kp_vlog.specs.Rules.{range_fits, words_fit, width_sum, right_fits, reset_values}
use Rattle.kp_vlog.specs.declared.tree.{Named.Named, Lit.Lit, VPort.VPort, Right.Right, Item.Item, Init.Init, ResetValue.ResetValue, Update.Update}
use Rattle.kp_vlog.specs.{declared.tree.VModule.VModule, Occurrences.Occurrence, Occurrences.names, Occurrences.header_names, Occurrences.items_names, Occurrences.body_names}
use Rattle.kp_vlog.proofs.{Scans.NamesFit, Scans.names_front, Scans.names_behind, Known.Fresh, Known.fresh_files, Known.place_at}
use Rattle.kp_vlog.specs.declared.tree.Right.TheVariants as sides
use Rattle.kp_vlog.specs.declared.tree.Item.TheVariants as lines
use Rattle.kp_vlog.specs.declared.tree.Init.TheVariants as starts
use Rattle.kp_vlog.specs.declared.tree.Update.TheVariants as edges
use Rattle.kp_vread_rules.specs.{declared.sizes.Size.Size, Tables.sized_of, Tables.AlikeSizes}
use Rattle.kp_vread_rules.specs.inner.Sizing.{with_item, by_sizes, items_by, widths_by}
use Rattle.kp_vread_rules.specs.WidthFaults.{wrong, file_fault, op_fault, side, value_fault, word_fault, right_fault, literal_asked, item_asked, start_asked, words_in, init_asked, value_asked, update_asked, items_asked, inits_asked, values_asked, updates_asked, widths_asked}
use Rattle.kp_vread_rules.specs.declared.fault.WidthFault.{WidthFault}
use Rattle.kp_vread_rules.specs.declared.fault.WidthFault.TheVariants as faults
use Rattle.kp_vread_rules.proofs.StartValues.{turned}

-- What the table has.

abbrev pub width_or : Option Size → ℕ
width_or None = 0
width_or (Some s) = s.high + 1

abbrev pub address_or : Option Size → ℕ
address_or None = 0
address_or (Some s) = or_zero (address_width s.last)

width_found : (es : List (List ℕ × Size)) (n : List ℕ) → width_in (map sized_of es) n ≡ width_or (lookup (same n) es)
width_found [] n = refl
width_found (e ∷ es) n = step (same n e.0) (width_found es n)
  where
    step : (b : Bool) → width_in (map sized_of es) n ≡ width_or (lookup (same n) es) → (if b then e.1.high + 1 else width_in (map sized_of es) n) ≡ width_or (cond b (Some e.1) (lookup (same n) es))
    step true h = refl
    step false h = h

address_found : (es : List (List ℕ × Size)) (n : List ℕ) → address_in (map sized_of es) n ≡ address_or (lookup (same n) es)
address_found [] n = refl
address_found (e ∷ es) n = step (same n e.0) (address_found es n)
  where
    step : (b : Bool) → address_in (map sized_of es) n ≡ address_or (lookup (same n) es)
        → (if b then or_zero (address_width e.1.last) else address_in (map sized_of es) n) ≡ address_or (cond b (Some e.1) (lookup (same n) es))
    step true h = refl
    step false h = h

pub width_reported : (es : List (List ℕ × Size)) (n : List ℕ) (o : Option Size) → o ≡ lookup (same n) es → width_in (map sized_of es) n ≡ width_or o
width_reported es n o e = width_found es n ∙ ap width_or (sym e)

pub address_reported : (es : List (List ℕ × Size)) (n : List ℕ) (o : Option Size) → o ≡ lookup (same n) es → address_in (map sized_of es) n ≡ address_or o
address_reported es n o e = address_found es n ∙ ap address_or (sym e)

-- an entry that is inserted
pub sizes_put : (old new : List (List ℕ × Size)) (k : List ℕ) (s : Size) → ((n : List ℕ) → lookup (same n) new ≡ cond (same k n) (Some s) (lookup (same n) old))
    → AlikeSizes (map sized_of new) (sized_of (k, s) ∷ map sized_of old)
sizes_put old new k s h = record {
  widths = λ n. width_found new n ∙ ap width_or (h n ∙ ap (λ b. cond b (Some s) (lookup (same n) old)) (turned k n)) ∙ wide n (same n k);
  addresses = λ n. address_found new n ∙ ap address_or (h n ∙ ap (λ b. cond b (Some s) (lookup (same n) old)) (turned k n)) ∙ addressed n (same n k);
}
  where
    wide : (n : List ℕ) (b : Bool) → width_or (cond b (Some s) (lookup (same n) old)) ≡ (if b then s.high + 1 else width_in (map sized_of old) n)
    wide n true = refl
    wide n false = sym (width_found old n)

    addressed : (n : List ℕ) (b : Bool) → address_or (cond b (Some s) (lookup (same n) old)) ≡ (if b then or_zero (address_width s.last) else address_in (map sized_of old) n)
    addressed n true = refl
    addressed n false = sym (address_found old n)

pub sizes_after : (old new : List (List ℕ × Size)) (key k : List ℕ) (s : Size) (ss : Sizes) → ((n : List ℕ) → lookup (same n) new ≡ cond (same key n) (Some s) (lookup (same n) old))
    → key ≡ k → map sized_of old ≡ ss → AlikeSizes (map sized_of new) (record { name = k; width = s.high + 1; address = or_zero (address_width s.last) } ∷ ss)
sizes_after old new key k s ss h e v =
    subst (λ (xs : Sizes). AlikeSizes (map sized_of new) (sized_of (k, s) ∷ xs)) v
    (subst (λ (j : List ℕ). AlikeSizes (map sized_of new) (sized_of (j, s) ∷ map sized_of old)) e (sizes_put old new key s h))

-- The sizes of a module, from the last item on.

pub sizes_alike : (xs : Sizes) → AlikeSizes xs xs
sizes_alike xs = record { widths = λ n. refl; addresses = λ n. refl }

alike_then : (xs ys zs : Sizes) → AlikeSizes xs ys → AlikeSizes ys zs → AlikeSizes xs zs
alike_then xs ys zs a b = record { widths = λ n. a.widths n ∙ b.widths n; addresses = λ n. a.addresses n ∙ b.addresses n }

alike_front : (x : Sized) (xs ys : Sizes) → AlikeSizes xs ys → AlikeSizes (x ∷ xs) (x ∷ ys)
alike_front x xs ys a = record {
  widths = λ n. ap (λ k. if same n x.name then x.width else k) (a.widths n);
  addresses = λ n. ap (λ k. if same n x.name then x.address else k) (a.addresses n);
}

alike_behind : (zs xs ys : Sizes) → AlikeSizes xs ys → AlikeSizes (zs ++ xs) (zs ++ ys)
alike_behind [] xs ys a = a
alike_behind (z ∷ zs) xs ys a = alike_front z (zs ++ xs) (zs ++ ys) (alike_behind zs xs ys a)

with_alike : (x : Item) (xs ys : Sizes) → AlikeSizes xs ys → AlikeSizes (with_item x xs) (with_item x ys)
with_alike (lines.Integer n) xs ys a = a
with_alike (lines.Assign t r) xs ys a = a
with_alike _ xs ys a = alike_front _ xs ys a

item_front : (x : Item) (xs : List Item) (ss : Sizes) → with_item x (item_sizes xs ++ ss) ≡ item_sizes (x ∷ xs) ++ ss
item_front (lines.Reg r n) xs ss = refl
item_front _ xs ss = refl

pub one_item : (all : List Item) (i : ℕ) (x : Item) (old before after : Sizes) → i < length all → x ≡ get_or all i x → AlikeSizes before (item_sizes (drop (i + 1) all) ++ old)
    → AlikeSizes after (with_item x before) → AlikeSizes after (item_sizes (drop i all) ++ old)
one_item all i x old before after h w a b =
    let first : drop i all ≡ x ∷ drop (i + 1) all = drop_more all i x h ∙ ap (λ y. y ∷ drop (i + 1) all) (sym w) in
    subst (λ xs. AlikeSizes after (item_sizes xs ++ old)) (sym first)
    (subst (λ ss. AlikeSizes after ss) (item_front x (drop (i + 1) all) old)
    (alike_then after (with_item x before) (with_item x (item_sizes (drop (i + 1) all) ++ old)) b (with_alike x before (item_sizes (drop (i + 1) all) ++ old) a)))

pub one_port : (all : List VPort) (i : ℕ) (x : VPort) (old before after : Sizes) → i < length all → x ≡ get_or all i x → AlikeSizes before (map port_size (drop (i + 1) all) ++ old)
    → AlikeSizes after (port_size x ∷ before) → AlikeSizes after (map port_size (drop i all) ++ old)
one_port all i x old before after h w a b =
    let first : drop i all ≡ x ∷ drop (i + 1) all = drop_more all i x h ∙ ap (λ y. y ∷ drop (i + 1) all) (sym w) in
    subst (λ xs. AlikeSizes after (map port_size xs ++ old)) (sym first)
    (alike_then after (port_size x ∷ before) (port_size x ∷ (map port_size (drop (i + 1) all) ++ old)) b (alike_front (port_size x) before (map port_size (drop (i + 1) all) ++ old) a))

whole_list : (xs : Sizes) → xs ++ [] ≡ xs
whole_list [] = refl
whole_list (x ∷ xs) = ap (λ ys. x ∷ ys) (whole_list xs)

pub all_sized : (m : VModule) (is : List Item) (ps : List VPort) (none s0 s1 s2 s3 s4 s5 : Sizes) → is ≡ m.items → ps ≡ m.samples → none ≡ []
    → AlikeSizes s0 (item_sizes is ++ none) → AlikeSizes s1 (port_size m.back ∷ s0) → AlikeSizes s2 (port_size m.ue ∷ s1) → AlikeSizes s3 (port_size m.full ∷ s2)
    → AlikeSizes s4 (map port_size ps ++ s3) → AlikeSizes s5 (port_size m.ext ∷ s4) → AlikeSizes s5 (sizes_of m)
all_sized m is ps none s0 s1 s2 s3 s4 s5 ei ep en a0 a1 a2 a3 a4 a5 =
    let ss = item_sizes m.items in
    let e0 : item_sizes is ++ none ≡ ss = ap (λ xs. item_sizes is ++ xs) en ∙ whole_list (item_sizes is) ∙ ap item_sizes ei in
    let b0 : AlikeSizes s0 ss = subst (λ xs. AlikeSizes s0 xs) e0 a0 in
    let b1 = alike_then s1 _ _ a1 (alike_front (port_size m.back) s0 ss b0) in
    let b2 = alike_then s2 _ _ a2 (alike_front (port_size m.ue) s1 _ b1) in
    let b3 = alike_then s3 _ _ a3 (alike_front (port_size m.full) s2 _ b2) in
    let c4 : AlikeSizes s4 (map port_size m.samples ++ s3) = subst (λ xs. AlikeSizes s4 (map port_size xs ++ s3)) ep a4 in
    let b4 = alike_then s4 _ _ c4 (alike_behind (map port_size m.samples) s3 _ b3) in
    alike_then s5 _ _ a5 (alike_front (port_size m.ext) s4 _ b4)

-- The rules of widths, by equal sizes.

module _ (ss : Sizes) (s : Scope) (a : AlikeSizes ss s.sizes) (os : List Occurrence) where
  sum_same : (parts : List Named) → width_sum ss parts ≡ width_sum s.sizes parts
  sum_same [] = refl
  sum_same (n ∷ parts) = rw (a.widths n.name, sum_same parts) refl

  right_same : (w : ℕ) (r : Right) → right_fits ss w r ≡ right_fits s.sizes w r
  right_same w (sides.Literal l) = refl
  right_same w (sides.Name n) = rw (a.widths n.name) refl
  right_same w (sides.Not n) = rw (a.widths n.name) refl
  right_same w (sides.Binary op x y) = rw (a.widths x.name, a.widths y.name) refl
  right_same w (sides.Choice t x y) = rw (a.widths t.name, a.widths x.name, a.widths y.name) refl
  right_same w (sides.Slice x high low) = rw (a.widths x.name) refl
  right_same w (sides.Word f x) = rw (a.widths f.name, a.widths x.name, a.addresses f.name) refl
  right_same w (sides.Concat parts) = rw (sum_same parts) refl

  assign_same : (t : Named) (r : Right) → right_fits ss (width_in ss t.name) r ≡ right_fits s.sizes (width_in s.sizes t.name) r
  assign_same t r = ap (λ w. right_fits ss w r) (a.widths t.name) ∙ right_same (width_in s.sizes t.name) r

  side_same : (n : Named) → side ss os n ≡ side s.sizes os n
  side_same n = rw (a.widths n.name) refl

  value_same : (t : Named) (k j : ℕ) → k ≡ j → value_fault ss os t k ≡ value_fault s.sizes os t j
  value_same t k j e = rw (side_same t, e) refl

  word_same : (f x t : Named) (k j : ℕ) → k ≡ j → word_fault ss os f x t k ≡ word_fault s.sizes os f x t j
  word_same f x t k j e = rw (a.widths x.name, a.addresses f.name, a.widths t.name, e) refl

  fault_same : (t : Named) (r : Right) → right_fault ss os t r ≡ right_fault s.sizes os t r
  fault_same t (sides.Literal l) = value_same t _ _ refl
  fault_same t (sides.Name n) = value_same t _ _ (a.widths n.name)
  fault_same t (sides.Not n) = value_same t _ _ (a.widths n.name)
  fault_same t (sides.Binary op x y) = ap (λ p. op_fault op p (side ss os y) (side ss os t)) (side_same x) ∙ ap (λ p. op_fault op (side s.sizes os x) p (side ss os t)) (side_same y) ∙ ap (op_fault op (side s.sizes os x) (side s.sizes os y)) (side_same t)
  fault_same t (sides.Choice c x y) = rw (a.widths c.name, a.widths x.name, a.widths y.name, a.widths t.name) refl
  fault_same t (sides.Slice x high low) = rw (a.widths x.name, a.widths t.name) refl
  fault_same t (sides.Word f x) = word_same f x t _ _ (a.widths f.name)
  fault_same t (sides.Concat parts) = value_same t _ _ (sum_same parts)

  start_same : (n : Named) (l : Lit) (holds more : Bool) (other fault : WidthFault) → holds ≡ more → other ≡ fault → start_asked (by_sizes ss) os n l holds other ≡ start_asked s os n l more fault
  start_same n l holds more other fault e f = rw (a.widths n.name, e, f) refl

  words_same : (n : Named) → words_in (by_sizes ss) os n ≡ words_in s os n
  words_same n = ap (λ (k : ℕ). 2 ^ k) (a.addresses n.name)

  init_same : (x : Init) → init_asked (by_sizes ss) os x ≡ init_asked s os x
  init_same (starts.Reg n l) = start_same n l true true _ _ refl (value_same n _ _ refl)
  init_same (starts.Word n i l) = start_same n l _ _ _ _ (ap (nat_lt i.value) (words_same n)) (ap (λ k. faults.Index k i.value) (words_same n))
  init_same (starts.Fill f) = start_same f.file f.value _ _ _ _ (rw (a.addresses f.file.name) refl) (ap faults.Loop (words_same f.file))

  inits_same : (xs : List Init) → inits_asked (by_sizes ss) os xs ≡ inits_asked s os xs
  inits_same [] = refl
  inits_same (x ∷ xs) = ap (λ o. first o ∷ inits_asked (by_sizes ss) os xs) (init_same x) ∙ ap (λ ys. first (init_asked s os x) ∷ ys) (inits_same xs)

  values_same : (xs : List ResetValue) → values_asked (by_sizes ss) os xs ≡ values_asked s os xs
  values_same [] = refl
  values_same (x ∷ xs) =
      ap (λ o. first o ∷ values_asked (by_sizes ss) os xs) (start_same x.name x.value true true _ _ refl (value_same x.name _ _ refl)) ∙ ap (λ ys. first (value_asked s os x) ∷ ys) (values_same xs)

  update_same : (x : Update) → update_asked (by_sizes ss) os x ≡ update_asked s os x
  update_same (edges.Reg n v) = rw (a.widths v.name, a.widths n.name) refl
  update_same (edges.File t f x v) = rw (a.widths t.name, a.widths x.name, a.addresses f.name, a.widths v.name, a.widths f.name) refl

  updates_same : (xs : List Update) → updates_asked (by_sizes ss) os xs ≡ updates_asked s os xs
  updates_same [] = refl
  updates_same (x ∷ xs) = ap (λ o. o ∷ updates_asked (by_sizes ss) os xs) (update_same x) ∙ ap (λ ys. update_asked s os x ∷ ys) (updates_same xs)

  module _ (known : List (List ℕ)) (fresh : Fresh known s.files) where
    behind : (front : List (List ℕ)) (n : List ℕ) (rest : List (List ℕ)) → (get_or (front ++ n ∷ rest) (length front) [] ≡ n) × (length front < length (front ++ n ∷ rest))
    behind [] n rest = (refl, omega arith)
    behind (k ∷ front) n rest = let b = behind front n rest in (b.0, omega (arith, b.1))

    number : (front : List (List ℕ)) (n : List ℕ) (rest : List (List ℕ)) → s.files ≡ front ++ n ∷ rest → place_of s.files n ≡ length front
    number front n rest e =
        let b = behind front n rest in
        let f : Fresh known (front ++ n ∷ rest) = subst (Fresh known) e fresh in
        ap (λ fs. place_of fs n) e ∙ ap (place_of (front ++ n ∷ rest)) (sym b.0) ∙ place_at known (front ++ n ∷ rest) (length front) b.1 f

    one_more : (front : List (List ℕ)) (n : List ℕ) (rest : List (List ℕ)) → front ++ n ∷ rest ≡ (front ++ n ∷ []) ++ rest
    one_more [] n rest = refl
    one_more (k ∷ front) n rest = ap (λ ks. k ∷ ks) (one_more front n rest)

    longer : (front : List (List ℕ)) (n : List ℕ) → length front + 1 ≡ length (front ++ n ∷ [])
    longer [] n = refl
    longer (k ∷ front) n = omega (arith, longer front n)

    items_same : (front : List (List ℕ)) (k : ℕ) (xs : List Item) → k ≡ length front → s.files ≡ front ++ file_names xs → items_by ss os k xs ≡ items_asked s os xs
    items_same front k [] h e = refl
    items_same front k (lines.Reg r n ∷ xs) h e = ap (λ ys. first (item_asked s os (lines.Reg r n)) ∷ ys) (items_same front k xs h e)
    items_same front k (lines.File r n w ∷ xs) h e =
        ap (λ j. first (wrong (range_fits r && (words_fit w && nat_lt j 16)) n.at (file_fault r w) ∷ []) ∷ items_by ss os (k + 1) xs) (h ∙ sym (number front n.name (file_names xs) e))
        ∙ ap (λ ys. first (item_asked s os (lines.File r n w)) ∷ ys)
        (items_same (front ++ n.name ∷ []) (k + 1) xs (ap (λ j. j + 1) h ∙ longer front n.name) (e ∙ one_more front n.name (file_names xs)))
    items_same front k (lines.Integer n ∷ xs) h e = ap (λ ys. None ∷ ys) (items_same front k xs h e)
    items_same front k (lines.Wire r n ∷ xs) h e = ap (λ ys. first (item_asked s os (lines.Wire r n)) ∷ ys) (items_same front k xs h e)
    items_same front k (lines.Assign t r ∷ xs) h e =
        ap (λ b. first (wrong b t.at (right_fault ss os t r) ∷ literal_asked r) ∷ items_by ss os k xs) (assign_same t r)
        ∙ ap (λ f. first (wrong (right_fits s.sizes (width_in s.sizes t.name) r) t.at f ∷ literal_asked r) ∷ items_by ss os k xs) (fault_same t r)
        ∙ ap (λ ys. first (item_asked s os (lines.Assign t r)) ∷ ys) (items_same front k xs h e)

pub width_same : (m : VModule) (ss : Sizes) → NamesFit [] (names m) → AlikeSizes ss (sizes_of m) → widths_by ss (names m) m ≡ widths_asked m
width_same m ss fit a =
    let fresh = fresh_files _ m.items (names_front _ (items_names m.items) (body_names m) (names_behind [] (header_names m) (items_names m.items ++ body_names m) fit)) in
    let s = scope_of m in
    rw (
      items_same ss s a (names m) _ fresh [] 0 m.items refl refl,
      inits_same ss s a (names m) m.inits,
      values_same ss s a (names m) (reset_values m.reset),
      updates_same ss s a (names m) m.updates,
    ) refl
