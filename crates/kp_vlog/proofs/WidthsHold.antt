-- A module that represents a netlist violates no rule of widths.
use Rattle.std.proofs.Common.{◌≡◌, ◌∙◌, ℕ, zero, suc, ◌+◌, ◌-◌, ◌^◌, ◌≤◌, ◌<◌, List, [], ◌∷◌, ◌++◌, length, get_or, map, Bool, true, Option, Some, None, refl, sym, ap, subst, arith, eq-eqb, false}
use Rattle.std.proofs.lemmas.Bool.{eqb-true, agree_below_at, cond-true, and_from, false_from_ne_true, le-leb, lt-ltb}
use Rattle.std.proofs.{lemmas.List.Elements.All-head, lemmas.List.Elements.All-tail, Math.Nat.pow-le-pow_right, lemmas.List.Sums.sum_by-cons}
use Rattle.std.specs.{Prelude.codes, Prelude.All, Prelude.◌==◌, Prelude.◌||◌, Prelude.nat_lt, Prelude.nat_le, Option.is_some, List.sum_by}
use Rattle.kp_bits.specs.{Word.word, Word.IsWord, declared.operator.BinOp.BinOp, Operators.is_shift, Operators.result_width}
use Rattle.kp_bits.specs.Word as bits
use Rattle.kp_net.specs.declared.{node.NodeId.NodeId, node.Kind.Kind, node.Node.Node, netlist.Port.Port, netlist.NetReg.NetReg, netlist.NetFile.NetFile}
use Rattle.kp_net.specs.{Names.IsNamed, Netlist.Net}
use Rattle.kp_net.specs.Parts.{no_port, no_reg, no_file, WriteOk, PortOk, RegOk, FileOk, CellOk, NetOk}
use Rattle.kp_net.specs.Widths.{wide, no_node, KindOk, BinaryOk}
use Rattle.kp_vlog.specs.Rules.{want, range_fits, stall_fits, four_bits, words_fit, literal_fits, op_fits, width_sum, right_fits, right_answers, file_fits, items_answers, start_answers, loop_fits, inits_answers, reset_values, values_answers, updates_answers, ports_answers, header_answers, width_answers}
use Rattle.kp_vlog.proofs.Sentence.{ShowsEach, none_shown, one_shown, sample_port, reg_item, file_item, reg_start, reset_value, reg_update, named_at, number_at, range_at, fill_at, ShowsNames, no_name, a_name, ShowsRight, a_const, an_ext, a_sample, a_reg, a_word, a_not, a_binary, a_mux, a_concat, a_slice, ShowsInteger, no_integer, an_integer, ShowsNodes, no_node_line, node_line, ShowsWords, no_words, zero_word, some_word, ShowsFills, no_fill, a_fill, ShowsWrites, no_write, not_written, a_write, ShowsReset, no_reset_shown, reset_shown, Shown, outs, module_of}
use Rattle.kp_vlog.specs.declared.tree.{Named.Named, ResetList.ResetList, ResetValue.ResetValue, VPort.VPort, Right.Right, Item.Item, Init.Init, Update.Update}
use Rattle.kp_vlog.specs.Canon.{wire, wire_name}
use Rattle.kp_vlog.specs.Scope.{Scope, scope_of, Sized, Sizes, sizes_of, width_in, address_in, place_of, address_width}
use Rattle.kp_vlog.proofs.{Written.RightFrom, Written.all_right, Distinct.apart, Distinct.tag, Distinct.place_at, Distinct.or_rest}
use Rattle.kp_vlog.proofs.Denoted.{samples_tagged, regs_tagged, module_table, widths_are, file_sizes, scoped, table_is, ports_past}
use Rattle.kp_vlog.proofs.Runs.{literal_for}
use Rattle.kp_vlog.proofs.SameNet.{found, width_found, address_found, found_past, found_here, port_sized, reg_sized, each_past, each_found, WidthsAre}
use Rattle.kp_base.specs.First.{first}

-- no check yields an offset
abbrev Clean : List (Option ℕ) → Type 0
Clean [] = Unit {0}
Clean (a ∷ xs) = (a ≡ None) × Clean xs

first_none : (xs : List (Option ℕ)) → Clean xs → first xs ≡ None
first_none [] h = refl
first_none (None ∷ xs) h = first_none xs h.1
first_none (Some a ∷ xs) h = h.0

clean_append : (xs ys : List (Option ℕ)) → Clean xs → Clean ys → Clean (xs ++ ys)
clean_append [] ys h k = k
clean_append (a ∷ xs) ys h k = (h.0, clean_append xs ys h.1 k)

wanted : (holds : Bool) (at : ℕ) → holds ≡ true → want holds at ≡ None
wanted holds at e = cond-true holds None (Some at) e

range_ok : (w a b : ℕ) → w ≤ 64 → range_fits (range_at w a b) ≡ true
range_ok w a b h = le-leb (w - 1) 63 (omega arith)

stall_ok : (w a b : ℕ) → 2 ≤ w → w ≤ 12 → stall_fits (range_at w a b) ≡ true
stall_ok w a b low high = and_from (nat_le 1 (w - 1)) (nat_le (w - 1) 11) (le-leb 1 (w - 1) (omega arith)) (le-leb (w - 1) 11 (omega arith))

four_ok : (w a b : ℕ) → w ≡ 4 → four_bits (range_at w a b) ≡ true
four_ok w a b e = eq-eqb (w - 1) 3 (omega arith)

literal_ok : (a : bits.Word) → IsWord a → literal_fits (literal_for a) ≡ true
literal_ok a h = and_from (nat_le 1 a.width) _ (le-leb 1 a.width h.positive) (and_from (nat_le a.width 64) (nat_lt a.value (2 ^ a.width)) (le-leb a.width 64 h.at_most) (lt-ltb a.value (2 ^ a.width) h.fits))

-- Widths by names.

record Wide (net : Net) (s : Scope) : Type 0 where
  pub ext : width_in s.sizes (codes "ext") ≡ net.parts.ext
  pub full : width_in s.sizes (codes "full") ≡ wide net.nodes net.parts.full.0
  pub ue : width_in s.sizes (codes "ue") ≡ wide net.nodes net.parts.ue.0
  pub back : width_in s.sizes (codes "back") ≡ wide net.nodes net.parts.back.0
  pub samples : All (λ x. width_in s.sizes x.name ≡ x.width) net.parts.samples
  pub regs : All (λ r. width_in s.sizes r.name ≡ r.start.width) net.parts.regs
  pub files : All (λ f. width_in s.sizes f.name ≡ f.width) net.parts.files
  pub addresses : All (λ f. address_in s.sizes f.name ≡ f.address_width) net.parts.files
  pub wires : (i : ℕ) → i < length net.nodes → width_in s.sizes (wire_name i) ≡ wide net.nodes i

width_at : (ss : Sizes) (all ns : List Node) (j i : ℕ) → WidthsAre ss j ns → ((x : ℕ) → x < length ns → wide all (j + x) ≡ (get_or ns x no_node).width) → i < length ns → width_in ss (wire_name (j + i)) ≡ wide all (j + i)
width_at ss all [] j i w h l = absurd (omega arith)
width_at ss all (n ∷ ns) j zero w h l =
    ap (λ k. width_in ss (wire_name k)) (let e : j + 0 ≡ j = omega arith in e) ∙ w.0 ∙ sym (h 0 l)
width_at ss all (n ∷ ns) j (suc i) w h l =
    let e : j + suc i ≡ j + 1 + i = omega arith in
    ap (λ k. width_in ss (wire_name k)) e
    ∙ width_at ss all ns (j + 1) i w.1 (λ x m. ap (wide all) (let f : j + 1 + x ≡ j + suc x = omega arith in f) ∙ h (suc x) (omega arith)) (omega arith)
    ∙ ap (wide all) (sym e)

wide_is : (ns : List Node) (x : ℕ) → wide ns (0 + x) ≡ (get_or ns x no_node).width
unfolding wide
wide_is ns x = ap (λ k. (get_or ns k no_node).width) (let e : 0 + x ≡ x = omega arith in e)

all_wide : (net : Net) (s : Shown net) → NetOk net → IsNamed net → Wide net (scope_of (module_of s))
all_wide net s k named =
    let p = net.parts in
    let at : (n : List ℕ) (x : Sized) → found (module_table s) n ≡ x → width_in (sizes_of (module_of s)) n ≡ x.width =
    λ n x e. width_found (sizes_of (module_of s)) n ∙ ap (λ t. (found t n).width) (table_is net s k named) ∙ ap (λ (z : Sized). z.width) e in
    let past : (n : List ℕ) (t : ℕ) → tag n ≡ t → (t == 1115) ≡ false → (rest : Sizes) → found (map port_sized p.samples ++ rest) n ≡ found rest n =
    λ n t e d rest. each_past port_sized n t 1115 p.samples rest (samples_tagged net named) e d in
    record {
      ext = at (codes "ext") _ (found_here _ _ (codes "ext") refl);
      full = at (codes "full") _ (found_past _ _ (codes "full") refl ∙ past (codes "full") 102 refl refl _ ∙ found_here _ _ (codes "full") refl);
      ue = at (codes "ue") _ (found_past _ _ (codes "ue") refl ∙ past (codes "ue") 117 refl refl _ ∙ found_past _ _ (codes "ue") refl ∙ found_here _ _ (codes "ue") refl);
      back = at (codes "back") _ (found_past _ _ (codes "back") refl ∙ past (codes "back") 98 refl refl _ ∙ found_past _ _ (codes "back") refl ∙ found_past _ _ (codes "back") refl ∙ found_here _ _ (codes "back") refl);
      samples = λ i d l. let n = (get_or p.samples i d).name in
          at n _ (found_past _ _ n (apart n (codes "ext") 1115 101 (samples_tagged net named i d l) refl refl) ∙ each_found port_sized p.samples _ named.samples_differ i d l);
      regs = λ i d l. let n = (get_or p.regs i d).name in
          at n _ (ports_past net s named n 1114 (regs_tagged net named i d l) refl refl refl refl refl ∙ each_found reg_sized p.regs _ named.regs_differ i d l);
      files = λ i d l. width_found (sizes_of (module_of s)) (get_or p.files i d).name ∙ ap (λ (z : Sized). z.width) (file_sizes net s k named i d l);
      addresses = λ i d l. address_found (sizes_of (module_of s)) (get_or p.files i d).name ∙ ap (λ (z : Sized). z.address) (file_sizes net s k named i d l);
      wires = λ i l. let e : 0 + i ≡ i = omega arith in
          ap (λ x. width_in (sizes_of (module_of s)) (wire_name x)) (sym e) ∙ width_at (sizes_of (module_of s)) net.nodes net.nodes 0 i (widths_are net s k named) (λ x h. wide_is net.nodes x) l ∙ ap (wide net.nodes) e;
    }

-- Right sides.

wire_wide : (net : Net) (s : Scope) (m : ℕ) (a : NodeId) → Wide net s → m ≤ length net.nodes → a.0 < m → width_in s.sizes (wire a) ≡ wide net.nodes a.0
wire_wide net s m a w le h = w.wires a.0 (omega arith)

sum_is : (net : Net) (s : Scope) (m : ℕ) (parts : List NodeId) (xs : List Named) → Wide net s → m ≤ length net.nodes → ShowsNames parts xs → All (λ a. a.0 < m) parts → width_sum s.sizes xs ≡ sum_by (λ a. wide net.nodes a.0) parts
sum_is net s m _ _ w le no_name h = refl
sum_is net s m _ _ w le (a_name {a = a} {parts = parts} {xs = xs} at sh) h =
    ap (λ x. x + width_sum s.sizes xs) (wire_wide net s m a w le (All-head (λ a. a.0 < m) a parts h)) ∙ ap (λ x. wide net.nodes a.0 + x) (sum_is net s m parts xs w le sh (All-tail (λ a. a.0 < m) a parts h)) ∙ sym (sum_by-cons (λ (b : NodeId). wide net.nodes b.0) a parts)

names_length : (parts : List NodeId) (xs : List Named) → ShowsNames parts xs → length xs ≡ length parts
names_length _ _ no_name = refl
names_length _ _ (a_name {parts = parts} {xs = xs} at sh) = ap suc (names_length parts xs sh)

or_else : (s t : Bool) → (s ≡ false → t ≡ true) → (s || t) ≡ true
or_else true t h = refl
or_else false t h = h refl

op_ok : (op : BinOp) (k a b x y : ℕ) → BinaryOk op k a b → x ≡ a → y ≡ b → op_fits op k x y ≡ true
op_ok op k a b x y h e f =
    and_from (result_width op x == k) (is_shift op || x == y) (eq-eqb _ k (ap (result_width op) e ∙ h.0))
    (or_else (is_shift op) (x == y) (λ s. eq-eqb x y (e ∙ h.1 s ∙ sym f)))

right_wide : (net : Net) (s : Scope) (m k : ℕ) (kind : Kind) (r : Right) → Wide net s → m ≤ length net.nodes → 1 ≤ k → k ≤ 64 → ShowsRight net.parts k kind r → KindOk net.nodes m k kind → CellOk net.nodes net.parts k kind
    → (right_fits s.sizes k r ≡ true) × Clean (right_answers r)
right_wide net s m k _ _ w le low high (a_const {v = v} a) ok cell = (eq-eqb k k refl, (wanted _ a (literal_ok (word k v) (record { positive = low; at_most = high; fits = ok })), tt))
right_wide net s m k _ _ w le low high (an_ext a) ok cell = (eq-eqb _ k (w.ext ∙ sym cell), tt)
right_wide net s m k _ _ w le low high (a_sample {i = i} a) ok cell = (eq-eqb _ k (w.samples i no_port cell.0 ∙ cell.1), tt)
right_wide net s m k _ _ w le low high (a_reg {i = i} a) ok cell = (eq-eqb _ k (w.regs i no_reg cell.0 ∙ cell.1), tt)
right_wide net s m k _ _ w le low high (a_word {i = i} {n = n} a b) ok cell =
    (and_from _ _ (eq-eqb _ k (w.files i no_file cell.0 ∙ cell.1)) (eq-eqb _ _ (wire_wide net s m n w le ok ∙ cell.2 ∙ sym (w.addresses i no_file cell.0))), tt)
right_wide net s m k _ _ w le low high (a_not {n = n} a) ok cell = (eq-eqb _ k (wire_wide net s m n w le ok.0 ∙ ok.1), tt)
right_wide net s m k _ _ w le low high (a_binary {op = op} {n = n} {m = o} a b) ok cell =
    (op_ok op k (wide net.nodes n.0) (wide net.nodes o.0) _ _ ok.2 (wire_wide net s m n w le ok.0) (wire_wide net s m o w le ok.1), tt)
right_wide net s m k _ _ w le low high (a_mux {t = t} {n = n} {m = o} a b c) ok cell =
    (and_from _ _ (eq-eqb _ 1 (wire_wide net s m t w le ok.0 ∙ ok.3)) (and_from _ _ (eq-eqb _ k (wire_wide net s m n w le ok.1 ∙ ok.4)) (eq-eqb _ k (wire_wide net s m o w le ok.2 ∙ ok.5))), tt)
right_wide net s m k _ _ w le low high (a_concat {parts = parts} {xs = xs} sh) ok cell =
    let n = names_length parts xs sh in let few = ok.0 in let many = ok.1 in
    (and_from _ _ (le-leb 2 (length xs) (omega arith)) (and_from _ _ (le-leb (length xs) 12 (omega arith)) (eq-eqb _ k (sum_is net s m parts xs w le sh ok.2 ∙ ok.3))), tt)
right_wide net s m k _ _ w le low high (a_slice {n = n} {hi = hi} {lo = lo} a b c) ok cell =
    (and_from _ _ (le-leb lo hi ok.1) (and_from _ _ (lt-ltb hi _ (subst (λ x. hi < x) (sym (wire_wide net s m n w le ok.0)) ok.2)) (eq-eqb (hi + 1) (k + lo) ok.3)), tt)

-- Items.

-- a list of parts with checks that are passed by each
clean_each : {X Y : Type 0} (make : X → (ℕ → ℕ) → Y) (answers : List Y → List (Option ℕ)) (Fine : X → Type 0) → ((x : X) (p : ℕ → ℕ) (zs : List Y) → Fine x → Clean (answers zs) → Clean (answers (make x p ∷ zs)))
    → (xs : List X) (ys zs : List Y) → ShowsEach make xs ys → All Fine xs → Clean (answers zs) → Clean (answers (ys ++ zs))
clean_each make answers Fine one _ _ zs none_shown k h = h
clean_each make answers Fine one _ _ zs (one_shown {x = x} {xs = xs} {ys = ys} p sh) k h = one x p (ys ++ zs) (All-head Fine x xs k) (clean_each make answers Fine one xs ys zs sh (All-tail Fine x xs k) h)

words_ok : (a d e : ℕ) → 1 ≤ a → a ≤ 16 → words_fit (record { high = number_at 0 d; low = number_at (2 ^ a - 1) e }) ≡ true
words_ok a d e low high = or_rest (a == 0) _ (agree_below_at (λ k. (k == 0) || is_some (address_width (2 ^ k - 1))) (λ _. true) 17 a refl (omega arith)) (false_from_ne_true (a == 0) (λ t. let z : a ≡ 0 = eqb-true a 0 t in omega arith))

integer_clean : (s : Scope) (fs : List NetFile) (xs ys : List Item) → ShowsInteger fs xs → Clean (items_answers s ys) → Clean (items_answers s (xs ++ ys))
integer_clean s _ _ ys no_integer h = h
integer_clean s _ _ ys (an_integer a) h = h

nodes_clean : (net : Net) (s : Scope) (j : ℕ) (ns : List Node) (xs ys : List Item) → Wide net s → WidthsAre s.sizes j ns → ShowsNodes net.parts j ns xs → RightFrom net j ns → j + length ns ≤ length net.nodes → Clean (items_answers s ys)
    → Clean (items_answers s (xs ++ ys))
nodes_clean net s j _ _ ys w sizes no_node_line k le h = h
nodes_clean net s j _ _ ys w sizes (node_line {n = n} {ns = ns} {r = r} {xs = xs} a b c d sh next) k le h =
    let right = right_wide net s j n.width n.kind r w (omega arith) k.0.positive k.0.at_most sh k.0.kind k.1 in (
      wanted _ c (range_ok n.width a b k.0.at_most),
      (
        wanted _ d (ap (λ x. right_fits s.sizes x r) sizes.0 ∙ right.0),
        clean_append (right_answers r) (items_answers s (xs ++ ys)) right.1 (nodes_clean net s (j + 1) ns xs ys w sizes.1 next k.2 (omega arith) h),
      ),
    )

-- Start values.

start_clean : (s : Scope) (n : List ℕ) (a b : ℕ) (v : bits.Word) (holds : Bool) → width_in s.sizes n ≡ v.width → IsWord v → holds ≡ true → Clean (start_answers s (named_at n a) (record { literal = literal_for v; at = b }) holds)
start_clean s n a b v holds e ok h = (wanted _ a (and_from (v.width == width_in s.sizes n) holds (eq-eqb v.width _ (sym e)) h), (wanted _ b (literal_ok v ok), tt))

words_clean : (s : Scope) (n : List ℕ) (w a i : ℕ) (us : List ℕ) (xs ys : List Init) → ShowsWords n w i us xs → width_in s.sizes n ≡ w → address_in s.sizes n ≡ a → 1 ≤ w → w ≤ 64 → All (λ v. v < 2 ^ w) us → i + length us ≤ 2 ^ a
    → Clean (inits_answers s ys) → Clean (inits_answers s (xs ++ ys))
words_clean s n w a i _ _ ys no_words e f low high fit few h = h
words_clean s n w a i _ _ ys (zero_word {v = v} {vs = vs} {xs = xs} z sh) e f low high fit few h =
    words_clean s n w a (i + 1) vs xs ys sh e f low high (All-tail (λ v. v < 2 ^ w) v vs fit) (omega arith) h
words_clean s n w a i _ _ ys (some_word {v = v} {vs = vs} {xs = xs} x y z t sh) e f low high fit few h =
    let ok = All-head (λ v. v < 2 ^ w) v vs fit in
    let c = start_clean s n x z (word w v) (nat_lt i (2 ^ address_in s.sizes n)) e (record { positive = low; at_most = high; fits = ok }) (ap (λ q. nat_lt i (2 ^ q)) f ∙ lt-ltb i (2 ^ a) (omega arith)) in
    (c.0, (c.1.0, words_clean s n w a (i + 1) vs xs ys sh e f low high (All-tail (λ v. v < 2 ^ w) v vs fit) (omega arith) h))

fills_clean : (ns : List Node) (s : Scope) (fs : List NetFile) (xs : List Init) → ShowsFills fs xs → All (FileOk ns) fs → All (λ f. width_in s.sizes f.name ≡ f.width) fs → All (λ f. address_in s.sizes f.name ≡ f.address_width) fs → Clean (inits_answers s xs)
fills_clean ns s _ _ no_fill k w a = tt
fills_clean ns s _ _ (a_fill {f = f} {fs = fs} {xs = xs} {ys = ys} p sh next) k w a =
    let file = All-head (FileOk ns) f fs k in
    let width = All-head (λ f. width_in s.sizes f.name ≡ f.width) f fs w in
    let address = All-head (λ f. address_in s.sizes f.name ≡ f.address_width) f fs a in
    let full = file.full in
    let positive : 2 ^ 0 ≤ 2 ^ f.width = pow-le-pow_right {n = 2} (omega arith) {i = 0} {j = f.width} (omega arith) in
    let c = start_clean s f.name (p 16) (p 21) (word f.width 0) (loop_fits s (fill_at f p)) width (record { positive = file.positive; at_most = file.at_most; fits = omega arith })
    (eq-eqb (2 ^ f.address_width) (2 ^ address_in s.sizes f.name) (ap (λ q. 2 ^ q) (sym address))) in (
      c.0,
      (
        c.1.0,
        words_clean s f.name f.width f.address_width 0 f.words xs ys sh width address file.positive file.at_most file.words (omega arith)
            (fills_clean ns s fs ys next (All-tail (FileOk ns) f fs k) (All-tail (λ f. width_in s.sizes f.name ≡ f.width) f fs w) (All-tail (λ f. address_in s.sizes f.name ≡ f.address_width) f fs a)),
      ),
    )

values_clean : (ns : List Node) (s : Scope) (rs : List NetReg) (xs : List ResetValue) → ShowsEach reset_value rs xs → All (RegOk ns) rs → All (λ r. width_in s.sizes r.name ≡ r.start.width) rs → Clean (values_answers s xs)
values_clean ns s _ _ none_shown k w = tt
values_clean ns s _ _ (one_shown {x = r} {xs = rs} {ys = xs} p sh) k w =
    let c = start_clean s r.name (p 0) (p 2) r.start true (All-head (λ r. width_in s.sizes r.name ≡ r.start.width) r rs w) (All-head (RegOk ns) r rs k).start refl in
    (c.0, (c.1.0, values_clean ns s rs xs sh (All-tail (RegOk ns) r rs k) (All-tail (λ r. width_in s.sizes r.name ≡ r.start.width) r rs w)))

reset_clean : (ns : List Node) (s : Scope) (rs : List NetReg) (b : Bool) (rst : Option Named) (r : Option ResetList) → ShowsReset rs b rst r → All (RegOk ns) rs → All (λ r. width_in s.sizes r.name ≡ r.start.width) rs → Clean (values_answers s (reset_values r))
reset_clean ns s rs _ _ _ no_reset_shown k w = tt
reset_clean ns s rs _ _ _ (reset_shown {xs = xs} a b sh) k w = values_clean ns s rs xs sh k w

writes_clean : (net : Net) (s : Scope) (fs : List NetFile) (xs : List Update) → Wide net s → ShowsWrites fs xs → All (FileOk net.nodes) fs → All (λ f. width_in s.sizes f.name ≡ f.width) fs → All (λ f. address_in s.sizes f.name ≡ f.address_width) fs → Clean (updates_answers s xs)
writes_clean net s _ _ wd no_write k w a = tt
writes_clean net s _ _ wd (not_written {f = f} {fs = fs} {xs = xs} z sh) k w a =
    writes_clean net s fs xs wd sh (All-tail (FileOk net.nodes) f fs k) (All-tail (λ f. width_in s.sizes f.name ≡ f.width) f fs w) (All-tail (λ f. address_in s.sizes f.name ≡ f.address_width) f fs a)
writes_clean net s _ _ wd (a_write {f = f} {fs = fs} {xs = xs} port p z sh) k w a =
    let ok = subst (WriteOk net.nodes f.width f.address_width) z (All-head (FileOk net.nodes) f fs k).port in (
      wanted _ (p 4) (and_from _ _ (eq-eqb _ 1 (wd.wires port.enable.0 ok.0.0 ∙ ok.0.1))
          (and_from _ _ (eq-eqb _ _ (wd.wires port.address.0 ok.1.0 ∙ ok.1.1 ∙ sym (All-head (λ f. address_in s.sizes f.name ≡ f.address_width) f fs a)))
          (eq-eqb _ _ (wd.wires port.value.0 ok.2.0 ∙ ok.2.1 ∙ sym (All-head (λ f. width_in s.sizes f.name ≡ f.width) f fs w))))),
      writes_clean net s fs xs wd sh (All-tail (FileOk net.nodes) f fs k) (All-tail (λ f. width_in s.sizes f.name ≡ f.width) f fs w) (All-tail (λ f. address_in s.sizes f.name ≡ f.address_width) f fs a),
    )

ports_clean : (ss : List Port) (xs : List VPort) → ShowsEach sample_port ss xs → All PortOk ss → Clean (ports_answers xs)
ports_clean _ _ none_shown k = tt
ports_clean _ _ (one_shown {x = s} {xs = ss} {ys = xs} p sh) k = (wanted _ (p 7) (range_ok s.width (p 3) (p 5) (All-head PortOk s ss k).at_most), ports_clean ss xs sh (All-tail PortOk s ss k))

-- A module that represents a netlist violates no rule of widths.
pub widths_hold : (net : Net) (s : Shown net) → NetOk net → IsNamed net → first (width_answers (module_of s)) ≡ None
widths_hold net s k named =
    let p = net.parts in
    let w = module_of s in
    let sc = scope_of w in
    let wd = all_wide net s k named in
    let named_scope = scoped net s in
    let fw = named.full in let uw = named.ue in let bw = named.back in let low = named.at_least in let high = named.at_most in
    let few = k.parts.file_count in
    let outs_ok : Clean (items_answers sc (outs s)) =
    (wanted _ (s.q 0) (eq-eqb _ _ (wd.wires p.full.0 k.parts.full ∙ sym wd.full)), (wanted _ (s.q 2) (eq-eqb _ _ (wd.wires p.ue.0 k.parts.ue ∙ sym wd.ue)), (wanted _ (s.q 4) (eq-eqb _ _ (wd.wires p.back.0 k.parts.back ∙ sym wd.back)), tt))) in
    let file_few : All (λ f. file_fits sc f.name ≡ true) p.files = λ i d l.
    ap (λ ns. nat_lt (place_of ns (get_or p.files i d).name) 16) named_scope.files
    ∙ ap (λ x. nat_lt x 16) (place_at (λ f. f.name) p.files i d named.files_differ l) ∙ lt-ltb i 16 (omega arith) in
    let items_ok : Clean (items_answers sc w.items) =
    clean_each reg_item (items_answers sc) (RegOk net.nodes) (λ r p zs k h. (wanted _ (p 6) (range_ok r.start.width (p 2) (p 4) k.start.at_most), h))
    p.regs s.regs (s.files ++ (s.integer ++ (s.nodes ++ outs s))) s.shows_regs k.parts.regs
    (clean_each file_item (items_answers sc) (λ f. FileOk net.nodes f × (file_fits sc f.name ≡ true))
    (λ f p zs k h. (wanted _ (p 6) (and_from _ _ (range_ok f.width (p 2) (p 4) k.0.at_most) (and_from _ _ (words_ok f.address_width (p 8) (p 10) k.0.addressed k.0.addressed_at_most) k.1)), h))
    p.files s.files (s.integer ++ (s.nodes ++ outs s)) s.shows_files (λ i d l. (k.parts.files i d l, file_few i d l))
    (integer_clean sc p.files s.integer (s.nodes ++ outs s) s.shows_integer
    (nodes_clean net sc 0 net.nodes s.nodes (outs s) wd (widths_are net s k named) s.shows_nodes (all_right net k) (omega arith) outs_ok))) in
    let inits_ok : Clean (inits_answers sc w.inits) =
    clean_each reg_start (inits_answers sc) (λ r. IsWord r.start × (width_in sc.sizes r.name ≡ r.start.width))
    (λ r p zs k h. let c = start_clean sc r.name (p 0) (p 2) r.start true k.1 k.0 refl in (c.0, (c.1.0, h)))
    p.regs s.start_part s.fill_part s.shows_starts (λ i d l. ((k.parts.regs i d l).start, wd.regs i d l)) (fills_clean net.nodes sc p.files s.fill_part s.shows_fills k.parts.files wd.files wd.addresses) in
    let updates_ok : Clean (updates_answers sc w.updates) =
    clean_each reg_update (updates_answers sc) (λ r. RegOk net.nodes r × (width_in sc.sizes r.name ≡ r.start.width))
    (λ r p zs k h. (wanted _ (p 0) (eq-eqb _ _ (wd.wires r.next.0 k.0.next.0 ∙ k.0.next.1 ∙ sym k.1)), h))
    p.regs s.update_part s.write_part s.shows_updates (λ i d l. (k.parts.regs i d l, wd.regs i d l)) (writes_clean net sc p.files s.write_part wd s.shows_writes k.parts.files wd.files wd.addresses) in
    let reset_ok = reset_clean net.nodes sc p.regs p.reset s.rst s.resets s.reset k.parts.regs wd.regs in
    let last_ports : Clean (want (stall_fits w.full.range) w.full.port.at ∷ want (stall_fits w.ue.range) w.ue.port.at ∷ want (four_bits w.back.range) w.back.port.at ∷ []) =
    (wanted _ (s.p 7) (stall_ok (wide net.nodes p.full.0) (s.p 5) (s.p 6) (omega arith) (omega arith)), (wanted _ (s.p 10) (stall_ok (wide net.nodes p.ue.0) (s.p 8) (s.p 9) (omega arith) (omega arith)), (wanted _ (s.p 13) (four_ok (wide net.nodes p.back.0) (s.p 11) (s.p 12) bw), tt))) in
    let header_ok : Clean (header_answers w) =
    (wanted _ (s.p 4) (stall_ok p.ext (s.p 2) (s.p 3) low high), clean_append (ports_answers s.ports) _ (ports_clean p.samples s.ports s.samples k.parts.samples) last_ports) in
    first_none (width_answers w)
    (clean_append (header_answers w) _ header_ok (clean_append (items_answers sc w.items) _ items_ok
    (clean_append (inits_answers sc w.inits) _ inits_ok (clean_append (values_answers sc (reset_values s.resets)) _ reset_ok updates_ok))))
