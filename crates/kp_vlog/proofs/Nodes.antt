-- The nodes of a module that violates no rule are well-formed: by the items in order, with the names that are known, what is driven, and the nodes so
-- far.
use Rattle.std.proofs.Common.{◌≡◌, ◌∙◌, ℕ, ◌+◌, ◌^◌, ◌≤◌, ◌<◌, List, [], ◌∷◌, ◌++◌, length, get_or, map, fold, Bool, true, false, refl, sym, ap, subst, arith, inl, inr, length-append, All}
use Rattle.std.proofs.lemmas.{Bool.eqb-true, Bool.or_left, Bool.or_right, Bool.or_cases, Bool.not-true, Bool.false_from_ne_true, List.length-map}
use Rattle.std.proofs.lemmas.List.{Elements.All-nil, Elements.All-cons, Sums.sum_by-cons}
use Rattle.std.specs.{Prelude.codes, Prelude.◌==◌, Prelude.◌&&◌, Prelude.◌||◌, Prelude.nat_le, Prelude.nat_lt, Prelude.if◌then◌else◌, List.sum_by}
use Rattle.kp_bits.specs.{declared.operator.BinOp.BinOp, Operators.is_shift, Operators.result_width}
use Rattle.kp_net.specs.declared.{node.NodeId.NodeId, node.Node.Node, netlist.Parts.Parts}
use Rattle.kp_net.specs.Names.{same, among, is_reg_name, is_file_name, is_sample_name}
use Rattle.kp_net.specs.{Widths.wide, Widths.BinaryOk, Widths.KindOk, Widths.NodeOk, Widths.AllRight, Growth.Held}
use Rattle.kp_net.specs.Parts.{no_port, no_reg, no_file, CellOk, AllCells}
use Rattle.kp_net.proofs.{Values.wide_front, Values.wide_new, Rightness.right_more, Growing.kept_new, Growing.added_new, Cells.cells_added}
use Rattle.kp_net.specs.declared.node.Kind.TheVariants as kinds
use Rattle.kp_vlog.proofs.Tests.{first_true, second_true, apart, le_of, lt_of, same_eq, output_no_wire, among_append, among_front, among_behind, place_in, place_front, place_new}
use Rattle.kp_vlog.proofs.Scans.{NamesFit, DriversFit, NoneOf, learnt, learnt_append, driven_by, driven_append, driven_right, names_front, names_behind, drivers_front, drivers_behind, none_front, none_behind}
use Rattle.kp_vlog.specs.declared.tree.{Named.Named, Right.Right, Item.Item, Item.TheVariants.Assign, VModule.VModule}
use Rattle.kp_vlog.specs.Scope.{scope_of, sizes_of, width_in, address_in, place_of, is_wire_name, is_output_name, reg_names, file_names}
use Rattle.kp_vlog.specs.Occurrences.{Occurrence, occurs, uses_wire, uses_source, gives_no_wire, is_given, wires_used, right_names, item_names, items_names}
use Rattle.kp_vlog.specs.Rules.{name_fits, Driven, op_fits, width_sum, right_fits, right_answers, literal_fits, item_answers, items_answers}
use Rattle.kp_vlog.specs.Denote.{Made, node_of, kind_of, with_wire, with_item}
use Rattle.kp_vlog.proofs.Declared.{want_none, Fits, Entries, width_fits, learnt_assign}
use Rattle.kp_vlog.proofs.Known.{port_names, AllDeclared, Within, within_rest, item_declared}
use Rattle.kp_vlog.specs.declared.tree.Right.TheVariants as sides

-- an operator whose operands fit
op_right : (op : BinOp) (w a b : ℕ) → op_fits op w a b ≡ true → BinaryOk op w a b
op_right op w a b h = (
  eqb-true (result_width op a) w (first_true (result_width op a == w) (is_shift op || a == b) h),
  λ s. eqb-true a b (sym (ap (λ t. t || a == b) s) ∙ second_true (result_width op a == w) (is_shift op || a == b) h),
)

-- the widths of a list of nodes, and whether they exist
module _ (m : VModule) where
  -- a wire whose node exists, with the wire's width
  pub record Operand (made : Made) (n : List ℕ) : Type 0 where
    pub before : place_of made.wires n < length made.nodes
    pub wide : wide made.nodes (place_of made.wires n) ≡ width_in (sizes_of m) n

  abbrev pub Operands : Made → List Named → Type 0
  Operands made [] = Unit {0}
  Operands made (a ∷ parts) = Operand made a.name × Operands made parts

  -- what a right side names exists
  abbrev pub RightOk : List (List ℕ) → Made → Right → Type 0
  RightOk known made (sides.Literal l) = Unit {0}
  RightOk known made (sides.Name n) = name_fits known uses_source n.name ≡ true
  RightOk known made (sides.Not a) = Operand made a.name
  RightOk known made (sides.Binary op a b) = Operand made a.name × Operand made b.name
  RightOk known made (sides.Choice t a b) = Operand made t.name × Operand made a.name × Operand made b.name
  RightOk known made (sides.Slice a high low) = Operand made a.name
  RightOk known made (sides.Word f a) = ((is_file_name f.name && among known f.name) ≡ true) × Operand made a.name
  RightOk known made (sides.Concat parts) = Operands made parts

  parts_before : (made : Made) (parts : List Named) → Operands made parts → All (λ a. a.0 < length made.nodes) (map (node_of made.wires) parts)
  parts_before made [] h = All-nil (λ a. a.0 < length made.nodes)
  parts_before made (a ∷ parts) h = All-cons (λ b. b.0 < length made.nodes) (node_of made.wires a) (map (node_of made.wires) parts) h.0.before (parts_before made parts h.1)

  parts_sum : (made : Made) (parts : List Named) → Operands made parts → sum_by (λ a. wide made.nodes a.0) (map (node_of made.wires) parts) ≡ width_sum (sizes_of m) parts
  parts_sum made [] h = refl
  parts_sum made (a ∷ parts) h =
      let x = h.0.wide in let y = parts_sum made parts h.1 in
      sum_by-cons (λ (b : NodeId). wide made.nodes b.0) (node_of made.wires a) (map (node_of made.wires) parts) ∙ (λ i. x i + y i)

  source_kind : (ns : List Node) (k w i j : ℕ) (b c : Bool) → KindOk ns k w (if b then kinds.Ext else if c then kinds.Sample i else kinds.Reg j)
  source_kind ns k w i j true c = tt
  source_kind ns k w i j false true = tt
  source_kind ns k w i j false false = tt

  -- the node of a right side that fits
  kind_right : (known : List (List ℕ)) (made : Made) (w : ℕ) (r : Right) → RightOk known made r → right_fits (sizes_of m) w r ≡ true → NoneOf (right_answers r)
      → KindOk made.nodes (length made.nodes) w (kind_of (scope_of m) made.wires r)
  kind_right known made w (sides.Literal l) ok h a =
      let e = eqb-true l.literal.width w h in
      let f = want_none (literal_fits l.literal) l.at a.0 in
      let g = lt_of l.literal.value (2 ^ l.literal.width) (second_true (nat_le l.literal.width 64) (nat_lt l.literal.value (2 ^ l.literal.width))
      (second_true (nat_le 1 l.literal.width) (nat_le l.literal.width 64 && nat_lt l.literal.value (2 ^ l.literal.width)) f)) in
      subst (λ (k : ℕ). l.literal.value < 2 ^ k) e g
  kind_right known made w (sides.Name n) ok h a =
      source_kind made.nodes (length made.nodes) w (place_of (port_names m.samples) n.name) (place_of (reg_names m.items) n.name) (same n.name (codes "ext")) (is_sample_name n.name)
  kind_right known made w (sides.Not a) ok h x = (ok.before, ok.wide ∙ eqb-true (width_in (sizes_of m) a.name) w h)
  kind_right known made w (sides.Binary op a b) ok h x =
      let P : ℕ → Type 0 = λ k. BinaryOk op w k (wide made.nodes (place_of made.wires b.name)) in
      let Q : ℕ → Type 0 = λ k. BinaryOk op w (width_in (sizes_of m) a.name) k in
      (ok.0.before, ok.1.before, subst P (sym ok.0.wide) (subst Q (sym ok.1.wide) (op_right op w (width_in (sizes_of m) a.name) (width_in (sizes_of m) b.name) h)))
  kind_right known made w (sides.Choice t a b) ok h x =
      let wt = width_in (sizes_of m) t.name in let wa = width_in (sizes_of m) a.name in let wb = width_in (sizes_of m) b.name in
      let rest = second_true (wt == 1) (wa == w && wb == w) h in (
        ok.0.before,
        ok.1.before,
        ok.2.before,
        ok.0.wide ∙ eqb-true wt 1 (first_true (wt == 1) (wa == w && wb == w) h),
        ok.1.wide ∙ eqb-true wa w (first_true (wa == w) (wb == w) rest),
        ok.2.wide ∙ eqb-true wb w (second_true (wa == w) (wb == w) rest),
      )
  kind_right known made w (sides.Slice a high low) ok h x =
      let wa = width_in (sizes_of m) a.name in
      let p = nat_le low.value high.value in let q = nat_lt high.value wa in let r = high.value + 1 == w + low.value in
      let rest = second_true p (q && r) h in (
        ok.before,
        le_of low.value high.value (first_true p (q && r) h),
        subst (λ (k : ℕ). high.value < k) (sym ok.wide) (lt_of high.value wa (first_true q r rest)),
        eqb-true (high.value + 1) (w + low.value) (second_true q r rest),
      )
  kind_right known made w (sides.Word f a) ok h x = ok.1.before
  kind_right known made w (sides.Concat parts) ok h x =
      let p = nat_le 2 (length parts) in let q = nat_le (length parts) 12 in let r = width_sum (sizes_of m) parts == w in
      let rest = second_true p (q && r) h in
      let l : length (map (node_of made.wires) parts) ≡ length parts = length-map parts (node_of made.wires) in (
        subst (λ (k : ℕ). 2 ≤ k) (sym l) (le_of 2 (length parts) (first_true p (q && r) h)),
        subst (λ (k : ℕ). k ≤ 12) (sym l) (le_of (length parts) 12 (first_true q r rest)),
        parts_before made parts ok,
        parts_sum made parts ok ∙ eqb-true (width_sum (sizes_of m) parts) w (second_true q r rest),
      )

  -- Parts with the widths of the module's names, for the nodes that read them.
  pub record CellFacts (p : Parts) : Type 0 where
    pub ext : p.ext ≡ width_in (sizes_of m) (codes "ext")
    pub sample : (n : List ℕ) → is_sample_name n ≡ true → among (port_names m.samples) n ≡ true
        → (place_of (port_names m.samples) n < length p.samples) × ((get_or p.samples (place_of (port_names m.samples) n) no_port).width ≡ width_in (sizes_of m) n)
    pub reg : (n : List ℕ) → is_reg_name n ≡ true → among (reg_names m.items) n ≡ true
        → (place_of (reg_names m.items) n < length p.regs) × ((get_or p.regs (place_of (reg_names m.items) n) no_reg).start.width ≡ width_in (sizes_of m) n)
    pub file : (n : List ℕ) → is_file_name n ≡ true → among (file_names m.items) n ≡ true
        → (place_of (file_names m.items) n < length p.files) × ((get_or p.files (place_of (file_names m.items) n) no_file).width ≡ width_in (sizes_of m) n)
        × ((get_or p.files (place_of (file_names m.items) n) no_file).address_width ≡ address_in (sizes_of m) n)

  module _ (p : Parts) (facts : CellFacts p) where
    source_cell : (ns : List Node) (known : List (List ℕ)) (n : List ℕ) (w : ℕ) (b c : Bool) → same n (codes "ext") ≡ b → is_sample_name n ≡ c → width_in (sizes_of m) n ≡ w
        → AllDeclared m known → (b || ((is_reg_name n || c) && among known n)) ≡ true
        → CellOk ns p w (if b then kinds.Ext else if c then kinds.Sample (place_of (port_names m.samples) n) else kinds.Reg (place_of (reg_names m.items) n))
    source_cell ns known n w true c e f g d h = sym g ∙ ap (width_in (sizes_of m)) (same_eq n (codes "ext") e) ∙ sym facts.ext
    source_cell ns known n w false true e f g d h =
        let k = second_true (is_reg_name n || true) (among known n) h in
        let x = facts.sample n f ((d n k).sample f) in (x.0, x.1 ∙ g)
    source_cell ns known n w false false e f g d h =
        let k = second_true (is_reg_name n || false) (among known n) h in
        let r : is_reg_name n ≡ true = elim (or_cases (is_reg_name n) false (first_true (is_reg_name n || false) (among known n) h)) [ inl y ↦ y | inr z ↦ absurd (apart false z refl) ] in
        let x = facts.reg n r ((d n k).reg r) in (x.0, x.1 ∙ g)

    cell_right : (known : List (List ℕ)) (made : Made) (more : List Node) (w : ℕ) (r : Right) → RightOk known made r → right_fits (sizes_of m) w r ≡ true → AllDeclared m known
        → CellOk (made.nodes ++ more) p w (kind_of (scope_of m) made.wires r)
    cell_right known made more w (sides.Name n) ok h d =
        source_cell (made.nodes ++ more) known n.name w (same n.name (codes "ext")) (is_sample_name n.name) refl refl (eqb-true (width_in (sizes_of m) n.name) w h) d ok
    cell_right known made more w (sides.Word f a) ok h d =
        let g = first_true (is_file_name f.name) (among known f.name) ok.0 in
        let x = facts.file f.name g ((d f.name (second_true (is_file_name f.name) (among known f.name) ok.0)).file g) in
        let wf = width_in (sizes_of m) f.name in let wa = width_in (sizes_of m) a.name in let af = address_in (sizes_of m) f.name in (
          x.0,
          x.1 ∙ eqb-true wf w (first_true (wf == w) (wa == af) h),
          wide_front made.nodes more (place_of made.wires a.name) ok.1.before ∙ ok.1.wide ∙ eqb-true wa af (second_true (wf == w) (wa == af) h) ∙ sym x.2,
        )
    cell_right known made more w x ok h d = tt

    -- What agrees after some items: the names that are known, those that have a value, and the nodes.
    pub record Agree (known given : List (List ℕ)) (made : Made) : Type 0 where
      pub same_length : length made.wires ≡ length made.nodes
      pub given_wires : (n : List ℕ) → is_wire_name n ≡ true → among given n ≡ true → among made.wires n ≡ true
      pub wires_given : (n : List ℕ) → among made.wires n ≡ true → among given n ≡ true
      pub widths : (n : List ℕ) → among made.wires n ≡ true → wide made.nodes (place_of made.wires n) ≡ width_in (sizes_of m) n
      pub right : AllRight made.nodes
      pub cells : AllCells made.nodes p
      pub declared : AllDeclared m known

    -- a wire that has a value
    pub operand : (known given : List (List ℕ)) (made : Made) (n : List ℕ) → Agree known given made → is_wire_name n ≡ true → among given n ≡ true → Operand made n
    operand known given made n a w g =
        let k = a.given_wires n w g in let l = place_in made.wires n k in let e = a.same_length in
        record { before = omega arith; wide = a.widths n k }

    module _ (resets : Bool) (all : Driven) where
      operands_ok : (known : List (List ℕ)) (d : Driven) (made : Made) (parts : List Named) → Agree known d.given made → NamesFit known (wires_used parts) → DriversFit resets all d (wires_used parts) → Operands made parts
      operands_ok known d made [] a n h = tt
      operands_ok known d made (x ∷ parts) a n h =
          (operand known d.given made x.name a (first_true (is_wire_name x.name) (among known x.name) n.0) h.0, operands_ok known d made parts a n.1 h.1)

      source_fits : (known : List (List ℕ)) (n : Named) (b : Bool) → b ≡ false → NamesFit known ((if b then occurs uses_wire n else occurs uses_source n) ∷ []) → name_fits known uses_source n.name ≡ true
      source_fits known n true e h = cc
      source_fits known n false e h = h.0

      names_of : (known : List (List ℕ)) (t : Named) (os : List Occurrence) (b : Bool) → NamesFit known ((if b then occurs gives_no_wire t ∷ [] else []) ++ os) → NamesFit known os
      names_of known t os true h = h.1
      names_of known t os false h = h

      drivers_of : (d : Driven) (t : Named) (os : List Occurrence) (b : Bool) → DriversFit resets all d ((if b then occurs gives_no_wire t ∷ [] else []) ++ os) → DriversFit resets all d os
      drivers_of d t os true h = h.1
      drivers_of d t os false h = h

      -- the names of a right side that is not assigned to an output
      right_ok : (known : List (List ℕ)) (d : Driven) (made : Made) (t : Named) (r : Right) → is_output_name t.name ≡ false → Agree known d.given made → NamesFit known (right_names t r)
          → DriversFit resets all d (right_names t r) → RightOk known made r
      right_ok known d made t (sides.Literal l) e a n h = tt
      right_ok known d made t (sides.Name x) e a n h = source_fits known x (is_output_name t.name) e n
      right_ok known d made t (sides.Not x) e a n h =
          (operands_ok known d made (x ∷ []) a (names_of known t _ (is_output_name t.name) n) (drivers_of d t _ (is_output_name t.name) h)).0
      right_ok known d made t (sides.Binary op x y) e a n h =
          let o = operands_ok known d made (x ∷ y ∷ []) a (names_of known t _ (is_output_name t.name) n) (drivers_of d t _ (is_output_name t.name) h) in (o.0, o.1.0)
      right_ok known d made t (sides.Choice c x y) e a n h =
          let o = operands_ok known d made (c ∷ x ∷ y ∷ []) a (names_of known t _ (is_output_name t.name) n) (drivers_of d t _ (is_output_name t.name) h) in (o.0, o.1.0, o.1.1.0)
      right_ok known d made t (sides.Slice x high low) e a n h =
          (operands_ok known d made (x ∷ []) a (names_of known t _ (is_output_name t.name) n) (drivers_of d t _ (is_output_name t.name) h)).0
      right_ok known d made t (sides.Word f x) e a n h =
          let ns = names_of known t _ (is_output_name t.name) n in let hs = drivers_of d t _ (is_output_name t.name) h in
          (ns.0, (operands_ok known d made (x ∷ []) a ns.1 hs.1).0)
      right_ok known d made t (sides.Concat parts) e a n h = operands_ok known d made parts a (names_of known t _ (is_output_name t.name) n) (drivers_of d t _ (is_output_name t.name) h)

      -- One more wire is assigned.
      wire_assigned : (known given : List (List ℕ)) (made : Made) (t : Named) (r : Right) → Entries (sizes_of m) → is_wire_name t.name ≡ true → among known t.name ≡ true
          → among given t.name ≡ false → RightOk known made r → right_fits (sizes_of m) (width_in (sizes_of m) t.name) r ≡ true → NoneOf (right_answers r) → Agree known given made
          → Agree known (t.name ∷ given) (with_wire (scope_of m) made t r)
      wire_assigned known given made t r entries w k g ok fit lits a =
          let width = width_in (sizes_of m) t.name in
          let n : Node = record { width = width; kind = kind_of (scope_of m) made.wires r } in
          let fits : Fits width = width_fits (sizes_of m) t.name entries ((a.declared t.name k).wire w) in
          let ok_node : NodeOk made.nodes (length made.nodes) n = record { positive = fits.0; at_most = fits.1; kind = kind_right known made width r ok fit lits } in
          let new : among made.wires t.name ≡ false = false_from_ne_true (among made.wires t.name) (λ e. apart (among given t.name) (a.wires_given t.name e) g) in
          let before : Held = record { nodes = made.nodes; spare = 1 } in
          let after : Held = record { nodes = made.nodes ++ n ∷ []; spare = 0 } in
          let lw : length (made.wires ++ t.name ∷ []) ≡ length made.wires + 1 = length-append made.wires (t.name ∷ []) in
          let ln : length (made.nodes ++ n ∷ []) ≡ length made.nodes + 1 = length-append made.nodes (n ∷ []) in
          let same_length = a.same_length in
          record {
            same_length = omega arith;
            given_wires = λ x wx gx. elim (or_cases (same x t.name) (among given x) gx) [
              | inl e ↦ among_behind made.wires (t.name ∷ []) x (or_left (same x t.name) false e)
              | inr e ↦ among_front made.wires (t.name ∷ []) x (a.given_wires x wx e)
            ];
            wires_given = λ x h. elim (among_append made.wires (t.name ∷ []) x h) [
              | inl e ↦ or_right (same x t.name) (among given x) (a.wires_given x e)
              | inr e ↦ elim (or_cases (same x t.name) false e) [ inl s ↦ or_left (same x t.name) (among given x) s | inr f ↦ absurd (apart false f refl) ]
            ];
            widths = λ x h. elim (among_append made.wires (t.name ∷ []) x h) [
              | inl e ↦
                  let l = place_in made.wires x e in
                  ap (wide (made.nodes ++ n ∷ [])) (place_front made.wires (t.name ∷ []) x e) ∙ wide_front made.nodes (n ∷ []) (place_of made.wires x) (omega arith) ∙ a.widths x e
              | inr e ↦ elim (or_cases (same x t.name) false e) [
                | inl s ↦ subst (λ (z : List ℕ). wide (made.nodes ++ n ∷ []) (place_of (made.wires ++ t.name ∷ []) z) ≡ width_in (sizes_of m) z) (sym (same_eq x t.name s))
                    (ap (wide (made.nodes ++ n ∷ [])) (place_new made.wires t.name new ∙ same_length) ∙ wide_new made.nodes n)
                | inr f ↦ absurd (apart false f refl)
              ]
            ];
            right = right_more made.nodes n a.right ok_node;
            cells = cells_added before after 1 n p a.right (kept_new before after n refl refl) (added_new before after n refl) (cell_right known made (n ∷ []) width r ok fit a.declared) a.cells;
            declared = a.declared;
          }

      -- An output is assigned.
      output_assigned : (known given : List (List ℕ)) (made : Made) (t : Named) → is_output_name t.name ≡ true → Agree known given made → Agree known (t.name ∷ given) made
      output_assigned known given made t o a = record {
        same_length = a.same_length;
        given_wires = λ x w g. elim (or_cases (same x t.name) (among given x) g) [
          | inl e ↦ absurd (apart (is_wire_name t.name) (subst (λ (z : List ℕ). is_wire_name z ≡ true) (same_eq x t.name e) w) (output_no_wire t.name o))
          | inr e ↦ a.given_wires x w e
        ];
        wires_given = λ x h. or_right (same x t.name) (among given x) (a.wires_given x h);
        widths = a.widths;
        right = a.right;
        cells = a.cells;
        declared = a.declared;
      }

      assigned : (known : List (List ℕ)) (d : Driven) (made : Made) (t : Named) (r : Right) (b : Bool) → is_output_name t.name ≡ b → Entries (sizes_of m)
          → NamesFit known (item_names (Assign t r)) → DriversFit resets all d (item_names (Assign t r)) → NoneOf (item_answers (scope_of m) (Assign t r)) → Agree known d.given made
          → Agree known (t.name ∷ d.given) (if b then made else with_wire (scope_of m) made t r)
      assigned known d made t r true e entries n h q a = output_assigned known d.given made t e a
      assigned known d made t r false e entries n h q a =
          let w : (is_wire_name t.name && among known t.name) ≡ true = elim (or_cases (is_output_name t.name) (is_wire_name t.name && among known t.name) n.0) [ inl o ↦ absurd (apart (is_output_name t.name) o e) | inr x ↦ x ] in
          wire_assigned known d.given made t r entries (first_true (is_wire_name t.name) (among known t.name) w) (second_true (is_wire_name t.name) (among known t.name) w)
          (not-true (among d.given t.name) h.0)
          (right_ok known d made t r e a (names_front known (right_names t r) (occurs is_given t ∷ []) n.1) (drivers_front resets all d (right_names t r) (occurs is_given t ∷ []) h.1))
          (want_none (right_fits (sizes_of m) (width_in (sizes_of m) t.name) r) t.at q.0) q.1 a

      with_known : (known more given : List (List ℕ)) (made : Made) → AllDeclared m more → Agree known given made → Agree more given made
      with_known known more given made d a = record {
        same_length = a.same_length;
        given_wires = a.given_wires;
        wires_given = a.wires_given;
        widths = a.widths;
        right = a.right;
        cells = a.cells;
        declared = d;
      }

      -- what an assignment drives
      driven_assign : (d : Driven) (t : Named) (r : Right) → driven_by d (item_names (Assign t r)) ≡ record d { given = t.name ∷ d.given }
      driven_assign d t r = driven_append d (right_names t r) (occurs is_given t ∷ []) ∙ ap (λ (e : Driven). record e { given = t.name ∷ e.given }) (driven_right d t r)

      one_item : (x : Item) (xs : List Item) (known : List (List ℕ)) (d : Driven) (made : Made) → Entries (sizes_of m) → Within m (x ∷ xs) → NamesFit known (item_names x)
          → DriversFit resets all d (item_names x) → NoneOf (item_answers (scope_of m) x) → Agree known d.given made
          → Agree (learnt known (item_names x)) (driven_by d (item_names x)).given (with_item (scope_of m) made x)
      one_item (Assign t r) xs known d made entries w n h q a =
          let made' : Made = if is_output_name t.name then made else with_wire (scope_of m) made t r in
          let x : Agree known (t.name ∷ d.given) made' = assigned known d made t r (is_output_name t.name) refl entries n h q a in
          let y : Agree known (driven_by d (item_names (Assign t r))).given made' = subst (λ (e : Driven). Agree known e.given made') (sym (driven_assign d t r)) x in
          subst (λ (k : List (List ℕ)). Agree k (driven_by d (item_names (Assign t r))).given made') (sym (learnt_assign known t r)) y
      one_item x xs known d made entries w n h q a = with_known known (learnt known (item_names x)) d.given made (item_declared m x xs known w n a.declared) a

      -- All items.
      pub all_items : (xs : List Item) (known : List (List ℕ)) (d : Driven) (made : Made) → Entries (sizes_of m) → Within m xs → NamesFit known (items_names xs)
          → DriversFit resets all d (items_names xs) → NoneOf (items_answers (scope_of m) xs) → Agree known d.given made
          → Agree (learnt known (items_names xs)) (driven_by d (items_names xs)).given (fold (with_item (scope_of m)) made xs)
      all_items [] known d made entries w n h q a = a
      all_items (x ∷ xs) known d made entries w n h q a =
          let known' = learnt known (item_names x) in let d' = driven_by d (item_names x) in let made' = with_item (scope_of m) made x in
          let step : Agree known' d'.given made' =
          one_item x xs known d made entries w (names_front known (item_names x) (items_names xs) n) (drivers_front resets all d (item_names x) (items_names xs) h)
          (none_front (item_answers (scope_of m) x) (items_answers (scope_of m) xs) q) a in
          let rest = all_items xs known' d' made' entries (within_rest m x xs w) (names_behind known (item_names x) (items_names xs) n)
          (drivers_behind resets all d (item_names x) (items_names xs) h) (none_behind (item_answers (scope_of m) x) (items_answers (scope_of m) xs) q) step in
          subst (λ (k : List (List ℕ)). Agree k (driven_by d (item_names x ++ items_names xs)).given (fold (with_item (scope_of m)) made' xs)) (sym (learnt_append known (item_names x) (items_names xs)))
          (subst (λ (e : Driven). Agree (learnt known' (items_names xs)) e.given (fold (with_item (scope_of m)) made' xs)) (sym (driven_append d (item_names x) (items_names xs))) rest)
