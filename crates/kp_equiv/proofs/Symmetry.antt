-- A netlist agrees with itself, and agreement is symmetric.
use Rattle.std.proofs.Common.{◌≡◌, ◌∙◌, ℕ, zero, suc, ◌<◌, true, false, inl, inr, List, [], ◌∷◌, length, get_or, Option, None, Some, refl, sym, subst, arith}
use Rattle.std.{proofs.lemmas.Bool.false≢true, proofs.lemmas.List.Elements.All-get_or}
use Rattle.kp_equiv.specs.declared.bit.Bit.{Bit, TheVariants.Fixed, TheVariants.Of}
use Rattle.kp_equiv.{specs.Wiring.bits_of, proofs.Wired.is_wiring, proofs.Wired.IsBelow, proofs.Wired.bits_below, proofs.Zipped.zip_itself, proofs.Zipped.zip_turned}
use Rattle.kp_bits.specs.declared.operator.BinOp.{BinOp}
use Rattle.kp_net.specs.declared.node.{NodeId.NodeId, Kind.Kind}
use Rattle.kp_net.specs.declared.node.Kind.TheVariants.{Ext, Sample, Reg, Word, Not, Binary, Mux}
use Rattle.kp_net.specs.declared.{node.Node.Node, netlist.NetReg.NetReg, netlist.NetFile.NetFile, netlist.WritePort.WritePort}
use Rattle.kp_net.specs.{Names.among, Netlist.Net, Parts.NetOk, Parts.RegOk, Parts.FileOk, Parts.WriteOk, Parts.no_reg, Parts.no_file}
use Rattle.kp_net.specs.Widths.{KindOk, AllRight, no_node}
use Rattle.kp_equiv.specs.Agreement.{Register, File, Full, Ue, Back, names_of_second, RegsAlike, WritesAlike, FilesAlike, PortsAgree, RegisterAgrees, FileAgrees, AllAgree}
use Rattle.kp_equiv.specs.Alike.{Relation, PairRelated, KindAlike, BitAlike, Alike, AlikeWithin, reg_name, file_name}
use Rattle.kp_equiv.{specs.Named.reg_names, specs.Sections.AgreeUpTo, specs.Verdicts.IsComparable, proofs.NamedAlike.among_at}
use Rattle.kp_equiv.proofs.Ordered.{all_behind, agree_more, all_agree as every, roots_all, none_of_second, second_agrees}
use Rattle.kp_equiv.proofs.Places.{registers, memories, reg_names_are, reg_count}
use Rattle.kp_equiv.proofs.Running.{Agreed, agreed, regs_alike, files_alike, theorem}

-- ---- the tree of a node is equivalent to itself

module _ (a : Net) (R : Relation) (m : ℕ) (same : (x : NodeId) → x.0 < m → R x x) where
  kind_refl : (k : ℕ) (o : Kind) → is_wiring o ≡ false → KindOk a.nodes m k o → KindAlike R a a o o
  kind_refl k Ext w ok = tt
  kind_refl k (Sample s) w ok = refl
  kind_refl k (Reg r) w ok = refl
  kind_refl k (Word f x) w ok = (refl, same x ok)
  kind_refl k (Not x) w ok = same x ok.0
  kind_refl k (Binary op x y) w ok = (refl, inl (same x ok.0, same y ok.1))
  kind_refl k (Mux t x y) w ok = (same t ok.0, same x ok.1, same y ok.2)
  kind_refl k _ w ok = absurd (false≢true (sym w))

bit_refl : (a : Net) (R : Relation) → AllRight a.nodes → (m : ℕ) → m < length a.nodes → ((x : NodeId) → x.0 < length a.nodes → x.0 < m → R x x) → (x : Bit) → IsBelow a.nodes (suc m) x → BitAlike R a a x x
bit_refl a R right m l same (Fixed x) p = refl
bit_refl a R right m l same (Of j k) p =
    let n : Node = get_or a.nodes j.0 no_node in
    let q = p.0 in
    (refl, (refl, kind_refl a R j.0 (λ x b. same x (omega (arith, b, q, l)) (omega (arith, b, q))) n.width n.kind p.1 (right j.0 (omega (arith, q, l))).kind))

-- its operands precede a node
within_refl : (a : Net) → AllRight a.nodes → (d : ℕ) (i : NodeId) → i.0 < length a.nodes → i.0 < d → AlikeWithin a a d i i
unfolding AlikeWithin
within_refl a right zero i l h = absurd (omega (arith, h))
within_refl a right (suc d) i l h =
    (l, l, refl, zip_itself (IsBelow a.nodes (suc i.0)) (BitAlike (AlikeWithin a a d) a a) (bits_of a.nodes i) (bit_refl a (AlikeWithin a a d) right i.0 l (λ x b m. within_refl a right d x b (omega (arith, m, h)))) (bits_below a.nodes right i l))

alike_refl : (a : Net) → NetOk a → (i : NodeId) → i.0 < length a.nodes → Alike a a i i
alike_refl a ok i l = record { levels = suc i.0; alike = within_refl a ok.right (suc i.0) i l (omega arith) }

-- ---- equivalence is symmetric

module _ (a b : Net) (R S : Relation) (turn : (x y : NodeId) → R x y → S y x) where
  pair_sym : (op : BinOp) (x y u v : NodeId) → PairRelated R op x y u v → PairRelated S op u v x y
  pair_sym op x y u v (inl (p, q)) = inl (turn x u p, turn y v q)
  pair_sym op x y u v (inr (c, p, q)) = inr (c, turn y u q, turn x v p)

  kind_sym : (o p : Kind) → KindAlike R a b o p → KindAlike S b a p o
  kind_sym Ext Ext h = tt
  kind_sym (Sample s) (Sample t) h = sym h
  kind_sym (Reg r) (Reg q) h = sym h
  kind_sym (Word f x) (Word g y) h = (sym h.0, turn x y h.1)
  kind_sym (Not x) (Not y) h = turn x y h
  kind_sym (Binary op x y) (Binary o u v) h = (sym h.0, subst (λ (q : BinOp). PairRelated S q u v x y) h.0 (pair_sym op x y u v h.1))
  kind_sym (Mux t x y) (Mux s u v) h = (turn t s h.0, turn x u h.1, turn y v h.2)
  kind_sym o p h = absurd h

bit_sym : (a b : Net) (R S : Relation) → ((x y : NodeId) → R x y → S y x) → (x y : Bit) → BitAlike R a b x y → BitAlike S b a y x
bit_sym a b R S turn (Fixed x) (Fixed y) p = sym p
bit_sym a b R S turn (Of u k) (Of v l) p = (sym p.0, (sym p.1.0, kind_sym a b R S turn (get_or a.nodes u.0 no_node).kind (get_or b.nodes v.0 no_node).kind p.1.1))
bit_sym a b R S turn (Fixed x) (Of v l) p = absurd p
bit_sym a b R S turn (Of u k) (Fixed y) p = absurd p

within_sym : (a b : Net) (d : ℕ) (i j : NodeId) → AlikeWithin a b d i j → AlikeWithin b a d j i
unfolding AlikeWithin
within_sym a b zero i j h = absurd h
within_sym a b (suc d) i j h = (h.1, h.0, sym h.2, zip_turned (BitAlike (AlikeWithin a b d) a b) (BitAlike (AlikeWithin b a d) b a) (bits_of a.nodes i) (bits_of b.nodes j) (bit_sym a b (AlikeWithin a b d) (AlikeWithin b a d) (within_sym a b d)) h.3)

alike_sym : (a b : Net) (i j : NodeId) → Alike a b i j → Alike b a j i
alike_sym a b i j h = record { levels = h.levels; alike = within_sym a b h.levels i j h.alike }

regs_sym : (a b : Net) (r q : NetReg) → RegsAlike a b r q → RegsAlike b a q r
regs_sym a b r q h = record { start = sym h.start; next = alike_sym a b r.next q.next h.next }

writes_sym : (a b : Net) (p q : Option WritePort) → WritesAlike a b p q → WritesAlike b a q p
writes_sym a b None None h = tt
writes_sym a b (Some p) (Some q) h = (alike_sym a b p.enable q.enable h.0, alike_sym a b p.address q.address h.1, alike_sym a b p.value q.value h.2)
writes_sym a b _ _ h = absurd h

files_sym : (a b : Net) (f g : NetFile) → FilesAlike a b f g → FilesAlike b a g f
files_sym a b f g h = record { words = sym h.words; port = writes_sym a b f.port g.port h.port }

-- ---- all roots

none_more : (a b : Net) → AgreeUpTo a b [] 0
none_more a b k l = absurd (omega (arith, l))

-- if the second has no further registers, the roots of each section are all roots
all_agree : (a b : Net) → PortsAgree a b → ((r : ℕ) → r < length a.parts.regs → RegisterAgrees a b (reg_name a r))
    → ((q : ℕ) → q < length b.parts.regs → among (reg_names a) (reg_name b q) ≡ true) → ((f : ℕ) → f < length a.parts.files → FileAgrees a b (file_name a f))
    → Alike a b a.parts.full b.parts.full → Alike a b a.parts.ue b.parts.ue → Alike a b a.parts.back b.parts.back → AllAgree a b
all_agree a b ports regs known files full ue back =
    let none : length (names_of_second a b) ≡ 0 = none_of_second a b (length b.parts.regs) (omega arith) (λ k l m. known k l) in
    let outputs : AgreeUpTo a b (Full ∷ Ue ∷ Back ∷ []) 3 = agree_more a b Full (Ue ∷ Back ∷ []) 2 full (agree_more a b Ue (Back ∷ []) 1 ue (agree_more a b Back [] 0 back (none_more a b))) in
    every a b ports
    (all_behind a b None None None None None (roots_all registers Register a.parts.regs a b (length a.parts.regs) refl regs) (second_agrees a b none) (λ _. none)
    (roots_all memories File a.parts.files a b (length a.parts.files) refl files) outputs refl)

-- the names of all registers of a netlist
named : (a : Net) (r : ℕ) (name : List ℕ) → r < length a.parts.regs → reg_name a r ≡ name → among (reg_names a) name ≡ true
named a r name l e = among_at (reg_names a) r name (omega (arith, l, reg_count a)) (reg_names_are a r ∙ e)

-- A netlist agrees with itself.
writes_refl : (a : Net) → NetOk a → (width address : ℕ) (p : Option WritePort) → WriteOk a.nodes width address p → WritesAlike a a p p
writes_refl a ok width address None h = tt
writes_refl a ok width address (Some p) h = (alike_refl a ok p.enable h.0.0, alike_refl a ok p.address h.1.0, alike_refl a ok p.value h.2.0)

pub agrees_with_itself : (a : Net) → NetOk a → AllAgree a a
agrees_with_itself a ok =
    all_agree a a (record { reset = refl; ext = refl; samples = refl })
    (λ r l.
    let reg : NetReg = get_or a.parts.regs r no_reg in
    let right : RegOk a.nodes reg = All-get_or (RegOk a.nodes) a.parts.regs r no_reg l ok.parts.regs in
    record { first = r; second = r; in_first = l; in_second = l; named_first = refl; named_second = refl; alike = record { start = refl; next = alike_refl a ok reg.next right.next.0 } })
    (λ q l. named a q (reg_name a q) l refl)
    (λ f l.
    let file : NetFile = get_or a.parts.files f no_file in
    let right : FileOk a.nodes file = All-get_or (FileOk a.nodes) a.parts.files f no_file l ok.parts.files in
    record { first = f; second = f; in_first = l; in_second = l; named_first = refl; named_second = refl; alike = record { words = refl; port = writes_refl a ok file.width file.address_width file.port right.port } })
    (alike_refl a ok a.parts.full ok.parts.full) (alike_refl a ok a.parts.ue ok.parts.ue) (alike_refl a ok a.parts.back ok.parts.back)

-- And agreement is symmetric.
pub agree_turned : (a b : Net) → NetOk a → NetOk b → IsComparable a b → AllAgree a b → AllAgree b a
agree_turned a b oka okb fit all =
    let h : Agreed a b = agreed a b all in
    let back = (theorem a b oka okb fit all).back in
    all_agree b a (record { reset = sym h.ports.reset; ext = sym h.ports.ext; samples = sym h.ports.samples })
    (λ q l.
    let r = back.regs q l in
    record { first = q; second = r.0; in_first = l; in_second = r.1; named_first = refl; named_second = r.2; alike = regs_sym a b _ _ (regs_alike a b oka okb fit h r.0 q r.1 l r.2) })
    (λ r l. let g = h.regs r l in named b g.second (reg_name a r) g.in_second g.named_second)
    (λ g l.
    let f = back.files g l in
    record { first = g; second = f.0; in_first = l; in_second = f.1; named_first = refl; named_second = f.2; alike = files_sym a b _ _ (files_alike a b oka okb fit h f.0 g f.1 l f.2) })
    (alike_sym a b a.parts.full b.parts.full h.full) (alike_sym a b a.parts.ue b.parts.ue h.ue) (alike_sym a b a.parts.back b.parts.back h.back)
