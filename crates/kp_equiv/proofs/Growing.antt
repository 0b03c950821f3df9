-- Classes of nodes, node by node.
use Rattle.std.proofs.Common.{◌≡◌, ◌∙◌, ℕ, suc, ◌+◌, ◌<◌, ◌≤◌, ◌++◌, List, [], ◌∷◌, length, map, get_or, refl, sym, ap, subst, arith, All, length-append, ⊎_elim}
use Rattle.std.proofs.{Math.ListN.get_or-append, lemmas.List.get_or_default, lemmas.List.get_or_at, lemmas.Bool.cases_lt}
use Rattle.std.proofs.lemmas.List.Elements.{All-head, All-tail, length_all_zip}
use Rattle.std.specs.List.{AllZip}
use Rattle.kp_net.specs.declared.node.{NodeId.NodeId, Kind.Kind}
use Rattle.kp_net.specs.declared.node.Kind.TheVariants.{Word, Not, Binary, Mux, Concat, Slice}
use Rattle.kp_net.specs.declared.{node.Node.Node, netlist.NetFile.NetFile, netlist.NetReg.NetReg, netlist.Parts.Parts, netlist.Port.Port}
use Rattle.kp_net.specs.{Netlist.Net, Parts.NetOk, Parts.CellOk, Parts.no_file, Widths.KindOk, Widths.NodeOk, Widths.wide, Widths.no_node}
use Rattle.kp_bits.specs.Operators.{commutes}
use Rattle.kp_equiv.specs.inner.Shapes.{Known, known_of, AreFew, first_of_pair, second_of_pair, shape_kind, shape, Numbered, Has, IsTable, Extends, Puts, IsNumbered, HasClass, AreClasses, Grown}
use Rattle.kp_equiv.specs.declared.bit.Bit.{Bit, TheVariants.Fixed, TheVariants.Of}
use Rattle.kp_equiv.specs.declared.term.Term.TheVariants.{Operation, Bits}
use Rattle.kp_equiv.specs.Wiring.{bits_of_kind, bits_of}
use Rattle.kp_equiv.specs.inner.Bits.{bits_in, Fits}
use Rattle.kp_equiv.proofs.Wired.{IsBelow, less_below, kind_related, bits_step, bits_long, bits_below}
use Rattle.kp_equiv.proofs.{Zipped.Each, Zipped.zip_weaker, Determined.id_is}
use Rattle.kp_equiv.specs.{Classes.place, Classes.no_class, Classes.class_in, Classes.Determines}
use Rattle.kp_equiv.proofs.{Places.reg_count, Places.file_count, Places.sample_count, Exactness.determines}

-- a shape depends only on the classes of the operands
all_agree : (m n : NodeId → NodeId) (i : ℕ) (xs : List NodeId) → All (λ x. x.0 < i) xs → ((x : NodeId) → x.0 < i → m x ≡ n x) → map m xs ≡ map n xs
all_agree m n i [] h e = refl
all_agree m n i (x ∷ xs) h e =
    let p = e x (All-head (λ y. y.0 < i) x xs h) in let q = all_agree m n i xs (All-tail (λ y. y.0 < i) x xs h) e in
    λ t. p t ∷ q t

kinds_agree : (ks : Known) (p : Parts) (ns : List Node) (i w : ℕ) (m n : NodeId → NodeId) (k : Kind) → KindOk ns i w k → ((x : NodeId) → x.0 < i → m x ≡ n x)
    → shape_kind ks p m k ≡ shape_kind ks p n k
kinds_agree ks p ns i w m n (Word f a) h e = ap (Word (place ks.files (get_or p.files f no_file).name)) (e a h)
kinds_agree ks p ns i w m n (Not a) h e = ap Not (e a h.0)
kinds_agree ks p ns i w m n (Binary op a b) h e =
    let x = e a h.0 in let y = e b h.1 in
    λ t. Binary op (first_of_pair (commutes op) (x t) (y t)) (second_of_pair (commutes op) (x t) (y t))
kinds_agree ks p ns i w m n (Mux s a b) h e = let x = e s h.0 in let y = e a h.1 in let z = e b h.2 in λ t. Mux (x t) (y t) (z t)
kinds_agree ks p ns i w m n (Concat xs) h e = ap Concat (all_agree m n i xs h.2 e)
kinds_agree ks p ns i w m n (Slice a hi lo) h e = ap (λ (x : NodeId). Slice x hi lo) (e a h.0)
kinds_agree ks p ns i w m n _ h e = refl

-- a source in terms of the known names
pub source_shape : {X : Type 0} (K : ℕ → Kind) (f : Known → List (List ℕ)) (name : X → List ℕ) (d x : X) (old ks : Known) (xs ys zs : List X) (i r : ℕ) → old ≡ ks → xs ≡ ys → ys ≡ zs
    → i < length zs → x ≡ get_or xs i x → r ≡ place (f old) (name x) → K r ≡ K (place (f ks) (name (get_or zs i d)))
source_shape K f name d x old ks xs ys zs i r k e g l is p =
    ap K (p ∙ ap (λ o. place (f o) (name x)) k ∙ ap (λ y. place (f ks) (name y)) (is ∙ ap (λ ws. get_or ws i x) (e ∙ g) ∙ get_or_default zs i x d l))

-- one more class preserves the existing ones
kept : (cs : List NodeId) (c x : NodeId) → x.0 < length cs → class_in cs x ≡ class_in (cs ++ c ∷ []) x
kept cs c x l = sym (get_or-append cs (c ∷ []) no_class x.0 l)

shape_kept : (ks : Known) (net : Net) (cs : List NodeId) (c : NodeId) (i : ℕ) → NetOk net → i < length net.nodes → i ≤ length cs
    → shape ks net.parts (class_in cs) (get_or net.nodes i no_node) ≡ shape ks net.parts (class_in (cs ++ c ∷ [])) (get_or net.nodes i no_node)
shape_kept ks net cs c i ok l h =
    let n : Node = get_or net.nodes i no_node in
    let o = ok.right i l in
    let k = kinds_agree ks net.parts net.nodes i n.width (class_in cs) (class_in (cs ++ c ∷ [])) n.kind o.kind (λ x m. kept cs c x (omega arith)) in
    λ t. record { width = n.width; kind = k t }

-- so a bit keeps its number
bit_kept : (ks : Known) (net : Net) (old new : Numbered) (cs : List NodeId) (c : NodeId) → NetOk net → length cs ≤ length net.nodes → Extends old new
    → (x y : Bit) → IsBelow net.nodes (length cs) x → IsNumbered ks net old cs x y → IsNumbered ks net new (cs ++ c ∷ []) x y
bit_kept ks net old new cs c ok l grows (Fixed x) (Fixed y) below h = h
bit_kept ks net old new cs c ok l grows (Of i k) (Of n m) below h = (
  h.0,
  subst (λ (s : Node). Has new (Operation s) n.0) (shape_kept ks net cs c i.0 ok (let q = below.0 in omega (arith, q, l)) (let q = below.0 in omega (arith, q)))
      (grows (Operation (shape ks net.parts (class_in cs) (get_or net.nodes i.0 no_node))) n.0 h.1),
)
bit_kept ks net old new cs c ok l grows (Fixed x) (Of n m) below h = absurd h
bit_kept ks net old new cs c ok l grows (Of i k) (Fixed y) below h = absurd h

-- one node more: its number, and then its bits, are put into the table
module _ (ks : Known) (net : Net) (old mid new : Numbered) (cs : List NodeId) (ws : List (List Bit)) (i n c : NodeId) (ok : NetOk net) (l : i.0 < length net.nodes)
    (count : length cs ≡ i.0) (wire_count : length ws ≡ i.0) (h : AreClasses ks net old cs ws)
    (number : Puts old mid (Operation (shape ks net.parts (class_in cs) (get_or net.nodes i.0 no_node))) n.0)
    (class : Puts mid new (Bits (bits_of_kind (bits_in ws) n (get_or net.nodes i.0 no_node).width (get_or net.nodes i.0 no_node).kind)) c.0) where
  abbrev bs : List Bit
  bs = bits_of_kind (bits_in ws) n (get_or net.nodes i.0 no_node).width (get_or net.nodes i.0 no_node).kind

  abbrev BitsNow : Bit → Bit → Type 0
  BitsNow = IsNumbered ks net new (cs ++ c ∷ [])

  grows : Extends old new
  grows s k p = class.extends s k (number.extends s k p)

  numbered_before : (j : NodeId) → j.0 < i.0 → AllZip BitsNow (bits_of net.nodes j) (bits_in ws j)
  numbered_before j q =
      zip_weaker (IsBelow net.nodes (suc j.0)) (IsNumbered ks net old cs) BitsNow (bits_of net.nodes j) (bits_in ws j)
      (λ x y below k. bit_kept ks net old new cs c ok (omega (arith, count, l)) grows x y (less_below net.nodes (suc j.0) (length cs) (omega (arith, q, count)) x below) k)
      (bits_below net.nodes ok.right j (omega (arith, q, l))) (h j (omega (arith, q, count))).numbered

  -- the number of the node itself
  own_number : Has new (Operation (shape ks net.parts (class_in (cs ++ c ∷ [])) (get_or net.nodes i.0 no_node))) n.0
  own_number = subst (λ (s : Node). Has new (Operation s) n.0) (shape_kept ks net cs c i.0 ok l (omega (arith, count)))
      (class.extends (Operation (shape ks net.parts (class_in cs) (get_or net.nodes i.0 no_node))) n.0 number.there)

  numbered_here : AllZip BitsNow (bits_of net.nodes i) bs
  numbered_here =
      subst (λ (xs : List Bit). AllZip BitsNow xs bs) (sym (bits_step net.nodes ok.right i l))
      (kind_related BitsNow (bits_of net.nodes) (bits_in ws) i.0 i n numbered_before (λ x. refl)
      net.nodes (get_or net.nodes i.0 no_node).width (get_or net.nodes i.0 no_node).kind (ok.right i.0 l).kind (λ o k. (refl, own_number)))

  pub more_classes : AreClasses ks net new (cs ++ c ∷ []) (ws ++ bs ∷ [])
  more_classes j m = ⊎_elim
      (λ (q : j.0 < i.0). record {
        numbered = subst (AllZip BitsNow (bits_of net.nodes j)) (sym (get_or-append ws (bs ∷ []) [] j.0 (omega (arith, q, wire_count)))) (numbered_before j q);
        class = subst (λ (x : NodeId). Has new (Bits (bits_in (ws ++ bs ∷ []) j)) x.0) (kept cs c j (omega (arith, q, count)))
            (subst (λ (xs : List Bit). Has new (Bits xs) (class_in cs j).0) (sym (get_or-append ws (bs ∷ []) [] j.0 (omega (arith, q, wire_count)))) (grows (Bits (bits_in ws j)) (class_in cs j).0 (h j (omega (arith, q, count))).class));
      })
      (λ (q : i.0 ≤ j.0).
      let e : i ≡ j = id_is i j (omega (arith, q, m, count, length-append cs (c ∷ []))) in
      subst (λ (k : NodeId). HasClass ks net new (cs ++ c ∷ []) k (bits_in (ws ++ bs ∷ []) k)) e (record {
        numbered = subst (AllZip BitsNow (bits_of net.nodes i)) (sym here) numbered_here;
        class = subst (λ (x : NodeId). Has new (Bits (bits_in (ws ++ bs ∷ []) i)) x.0) (sym at_end) (subst (λ (xs : List Bit). Has new (Bits xs) c.0) (sym here) class.there);
      }))
      (cases_lt j.0 i.0)
    where
      here : bits_in (ws ++ bs ∷ []) i ≡ bs
      here = get_or_at ws bs [] [] i.0 wire_count

      at_end : class_in (cs ++ c ∷ []) i ≡ c
      at_end = get_or_at cs c [] no_class i.0 count

pub none_grown : (ks : Known) (net : Net) (t : Numbered) → IsTable t → Grown ks net t t [] [] 0
none_grown ks net t h = record { count = refl; wire_count = refl; within = omega arith; classes_are = λ i l. absurd (omega (arith, l)); extends = λ s i k. k; grown = omega arith; table = h }

pub one_grown : (ks : Known) (net : Net) (start old mid new : Numbered) (nodes : List Node) (cs ds : List NodeId) (ws vs : List (List Bit)) (bs : List Bit) (number c : NodeId) (n s : Node) (i : ℕ) → NetOk net
    → nodes ≡ net.nodes → i < length nodes → n ≡ get_or nodes i n → Grown ks net start old cs ws i → s ≡ shape ks net.parts (class_in cs) n → Puts old mid (Operation s) number.0
    → bs ≡ bits_of_kind (bits_in ws) number n.width n.kind → Puts mid new (Bits bs) c.0 → ds ≡ cs ++ c ∷ [] → vs ≡ ws ++ bs ∷ [] → Grown ks net start new ds vs (i + 1)
one_grown ks net start old mid new nodes cs ds ws vs bs number c n s i ok e l is h shaped put wired class more_cs more_ws =
    let li : i < length net.nodes = subst (λ (ns : List Node). i < length ns) e l in
    let at_i : n ≡ get_or net.nodes i no_node = is ∙ ap (λ (ns : List Node). get_or ns i n) e ∙ get_or_default net.nodes i n no_node li in
    let m : Node = get_or net.nodes i no_node in
    let bm : List Bit = bits_of_kind (bits_in ws) number m.width m.kind in
    let eb : bs ≡ bm = wired ∙ ap (λ (x : Node). bits_of_kind (bits_in ws) number x.width x.kind) at_i in
    let put_m : Puts old mid (Operation (shape ks net.parts (class_in cs) m)) number.0 = subst (λ (x : Node). Puts old mid (Operation x) number.0) (shaped ∙ ap (shape ks net.parts (class_in cs)) at_i) put in
    let class_m : Puts mid new (Bits bm) c.0 = subst (λ (x : List Bit). Puts mid new (Bits x) c.0) eb class in
    let here : NodeId = record { 0 = i } in
    subst (λ (xs : List NodeId). Grown ks net start new xs vs (i + 1)) (sym more_cs)
    (subst (λ (xs : List (List Bit)). Grown ks net start new (cs ++ c ∷ []) xs (i + 1)) (sym (more_ws ∙ ap (λ (x : List Bit). ws ++ x ∷ []) eb))
    (record {
      count = (let k = h.count in omega (arith, k, length-append cs (c ∷ [])));
      wire_count = (let k = h.wire_count in omega (arith, k, length-append ws (bm ∷ [])));
      within = omega (arith, li);
      classes_are = more_classes ks net old mid new cs ws here number c ok li h.count h.wire_count h.classes_are put_m class_m;
      extends = λ r j k. class.extends r j (put.extends r j (h.extends r j k));
      grown = (let k = h.grown in let o = put.count in let p = class.count in omega (arith, k, o, p));
      table = class.table;
    }))

-- a node of the netlist is well-formed there
pub node_right : (net : Net) (nodes : List Node) (n : Node) (i k : ℕ) → NetOk net → nodes ≡ net.nodes → i < length nodes → n ≡ get_or nodes i n → k ≡ i
    → NodeOk net.nodes k n × CellOk net.nodes net.parts n.width n.kind
node_right net nodes n i k ok e l is same =
    let li : i < length net.nodes = subst (λ (ns : List Node). i < length ns) e l in
    let at_i : get_or net.nodes i no_node ≡ n = sym (is ∙ ap (λ (ns : List Node). get_or ns i n) e ∙ get_or_default net.nodes i n no_node li) in
    subst (λ (j : ℕ). NodeOk net.nodes j n × CellOk net.nodes net.parts n.width n.kind) (sym same)
    (subst (λ (m : Node). NodeOk net.nodes i m × CellOk net.nodes net.parts m.width m.kind) at_i (ok.right i li, ok.parts.cells i li))

-- the operands of a node are there, with their bits
pub operands_fit : (ks : Known) (net : Net) (nodes : List Node) (start t : Numbered) (cs : List NodeId) (ws vs : List (List Bit)) (n : Node) (i : ℕ) → NetOk net → nodes ≡ net.nodes → i < length nodes
    → n ≡ get_or nodes i n → Grown ks net start t cs ws i → vs ≡ ws → (n.width ≤ 64) × Fits vs n.width n.kind
operands_fit ks net nodes start t cs ws vs n i ok e l is h same =
    let right = node_right net nodes n i i ok e l is refl in
    subst (λ (xs : List (List Bit)). (n.width ≤ 64) × Fits xs n.width n.kind) (sym same) (right.0.at_most, by n.width n.kind right.0.kind)
  where
    long : (a : NodeId) → a.0 < i → length (bits_in ws a) ≡ wide net.nodes a.0
    long a p =
        let q : a.0 < length cs = (let k = h.count in omega (arith, k, p)) in
        sym (length_all_zip (IsNumbered ks net t cs) (bits_of net.nodes a) (bits_in ws a) (h.classes_are a q).numbered)
        ∙ bits_long net.nodes ok.right a (let w = h.within in omega (arith, p, w))

    by : (w : ℕ) (k : Kind) → KindOk net.nodes i w k → Fits ws w k
    by w (Concat parts) o = subst (λ (m : ℕ). All (λ a. a.0 < m) parts) (sym h.wire_count) o.2
    by w (Slice a hi lo) o = let p = o.0 in let q = o.1 in let r = o.2 in let s = o.3 in let f = h.wire_count in (omega (arith, p, f), omega (arith, long a p, q, r, s))
    by w _ o = tt

-- a netlist has no more names than that
pub few_names : (net : Net) (ks : Known) → NetOk net → ks ≡ known_of net → AreFew ks
few_names net ks ok e = subst AreFew (sym e) (record {
  regs = (let n = ok.parts.reg_count in omega (arith, n, reg_count net));
  files = (let n = ok.parts.file_count in omega (arith, n, file_count net));
  samples = (let n = ok.parts.sample_count in omega (arith, n, sample_count net));
})

-- and the classes of two netlists in one table determine whether nodes are equivalent
pub classes_determine : (a b : Net) (ks : Known) (ta tb : Numbered) (ca cb : List NodeId) → NetOk a → NetOk b → ks ≡ known_of a
    → (wa wb : List (List Bit)) → Grown ks a [] ta ca wa (length a.nodes) → Grown ks b ta tb cb wb (length b.nodes) → Determines a b ca cb
classes_determine a b ks ta tb ca cb oka okb e wa wb ga gb =
    determines a b tb ca cb wa wb oka okb
    (λ i l. later (subst (λ (k : Known). AreClasses k a ta ca wa) e ga.classes_are i l)) (subst (λ (k : Known). AreClasses k b tb cb wb) e gb.classes_are) ga.count gb.count gb.table
  where
    bit_later : (x y : Bit) → Unit {0} → IsNumbered (known_of a) a ta ca x y → IsNumbered (known_of a) a tb ca x y
    bit_later (Fixed x) (Fixed y) u h = h
    bit_later (Of i k) (Of n m) u h = (h.0, gb.extends (Operation (shape (known_of a) a.parts (class_in ca) (get_or a.nodes i.0 no_node))) n.0 h.1)
    bit_later (Fixed x) (Of n m) u h = absurd h
    bit_later (Of i k) (Fixed y) u h = absurd h

    always : (xs : List Bit) → Each (λ x. Unit {0}) xs
    always [] = tt
    always (x ∷ xs) = (tt, always xs)

    later : {i : NodeId} {bs : List Bit} → HasClass (known_of a) a ta ca i bs → HasClass (known_of a) a tb ca i bs
    later {i} {bs} h = record {
      numbered = zip_weaker (λ x. Unit {0}) (IsNumbered (known_of a) a ta ca) (IsNumbered (known_of a) a tb ca) (bits_of a.nodes i) bs bit_later (always (bits_of a.nodes i)) h.numbered;
      class = gb.extends (Bits bs) (class_in ca i).0 h.class;
    }

abbrev pub listed : List (List ℕ) → List (List ℕ) → List (List ℕ) → Known
listed regs files samples = record { regs = regs; files = files; samples = samples }

-- the names in the list are those of the netlist
pub names_known : (net : Net) (p : Parts) (rs : List NetReg) (fs : List NetFile) (ss : List Port) (regs files samples : List (List ℕ)) → p ≡ net.parts → rs ≡ p.regs → fs ≡ p.files → ss ≡ p.samples
    → regs ≡ map (λ (r : NetReg). r.name) rs → files ≡ map (λ (f : NetFile). f.name) fs → samples ≡ map (λ (s : Port). s.name) ss → listed regs files samples ≡ known_of net
names_known net p rs fs ss regs files samples e er ef es gr gf gs = cc
