-- A module that represents a netlist denotes it: its nodes, and all its parts.
use Rattle.std.proofs.Common.{◌≡◌, ◌∙◌, ℕ, suc, ◌+◌, ◌-◌, ◌^◌, ◌≤◌, ◌<◌, List, [], ◌∷◌, ◌++◌, length, get_or, map, Bool, true, false, Option, Some, None, refl, sym, ap, arith, append_assoc, append-nil}
use Rattle.std.proofs.lemmas.List.{Sums.fold-append, Elements.All-nil, Elements.All-cons, Elements.All-head, Elements.All-tail, Elements.All-get_or}
use Rattle.std.proofs.lemmas.Bool.{cond-true, cond-false, false_from_ne_true}
use Rattle.std.specs.{Prelude.codes, Prelude.All, Prelude.fold, Prelude.replicate, Prelude.◌==◌, Option.is_some}
use Rattle.kp_net.specs.declared.{node.NodeId.NodeId, node.Kind.Kind, node.Node.Node, netlist.Port.Port, netlist.WritePort.WritePort, netlist.NetReg.NetReg}
use Rattle.kp_net.specs.declared.netlist.{NetFile.NetFile, Parts.Parts}
use Rattle.kp_net.specs.{Names.same, Names.IsNamed, Names.is_reg_name, Names.is_file_name, Names.is_sample_name, Names.IsSpelled, Netlist.Net}
use Rattle.kp_net.specs.Parts.{no_port, no_reg, no_file, WriteOk, PortOk, CellOk, NetOk, RegOk, FileOk}
use Rattle.kp_net.specs.Widths.{wide, KindOk}
use Rattle.kp_net.specs.declared.node.Kind.TheVariants as kinds
use Rattle.kp_vlog.specs.Denote.{node_of, source_of, kind_of, Made, with_item, made_by, output_of, start_of, next_of, word_init, words_of, port_of, regs_of, files_of, sample_of, parts_of, net_of}
use Rattle.kp_vlog.specs.Scope.{or_zero, address_width, Scope, scope_of, Sized, Sizes, sizes_of, item_sizes, width_in, address_in, place_of, reg_names, file_names}
use Rattle.kp_vlog.proofs.Sentence.{ShowsEach, none_shown, one_shown, sample_port, reg_item, file_item, reg_start, reg_update, named_at, range_at, ShowsNames, no_name, a_name, ShowsRight, a_sample, a_reg, a_word, a_not, a_binary, a_mux, a_concat, a_slice, ShowsInteger, no_integer, an_integer, ShowsNodes, no_node_line, node_line, ShowsReset, no_reset_shown, reset_shown, Shown, outs, module_of}
use Rattle.kp_vlog.proofs.SameNet.{words_are, address_is, ported, ports_are, found, width_found, address_found, found_past, sized, port_sized, reg_sized, file_sized, range_back, samples_sized, each_past, each_found, WidthsAre, nodes_sized}
use Rattle.kp_vlog.specs.declared.tree.{Range.Range, Named.Named, VPort.VPort, Right.Right, Item.Item, ResetList.ResetList, VModule.VModule}
use Rattle.kp_vlog.{specs.Canon.wire, specs.Canon.wire_name, proofs.Each.past_each, proofs.Each.map_each, proofs.Each.found_each}
use Rattle.kp_vlog.proofs.Distinct.{apart, tag, tag_reg, tag_file, tag_sample, tag_wire, place_at, wires_to, wire_place}
use Rattle.kp_vlog.proofs.Written.{RightFrom, all_right}
use Rattle.kp_vlog.specs.declared.tree.Right.TheVariants as sides
use Rattle.kp_vlog.specs.declared.tree.Item.TheVariants as lines

-- Look-ups skip lines about other parts.

pub past_integer : {A : Type 0} (g : List Item → A) (fs : List NetFile) (xs ys : List Item) → ((n : Named) (zs : List Item) → g (lines.Integer n ∷ zs) ≡ g zs) → ShowsInteger fs xs → g (xs ++ ys) ≡ g ys
past_integer g _ _ ys h no_integer = refl
past_integer g _ _ ys h (an_integer a) = h (named_at (codes "i") a) ys

past_nodes : {A : Type 0} (g : List Item → A) (p : Parts) (j : ℕ) (ns : List Node) (xs ys : List Item) → ((r : Range) (n : Named) (zs : List Item) → g (lines.Wire r n ∷ zs) ≡ g zs)
    → ((i at : ℕ) (r : Right) (zs : List Item) → g (lines.Assign (named_at (wire_name i) at) r ∷ zs) ≡ g zs) → ShowsNodes p j ns xs → g (xs ++ ys) ≡ g ys
past_nodes g p j _ _ ys h k no_node_line = refl
past_nodes g p j _ _ ys h k (node_line {n = n} {ns = ns} {r = r} {xs = xs} a b c d shows rest) =
    h (range_at n.width a b) (named_at (wire_name j) c) (lines.Assign (named_at (wire_name j) d) r ∷ (xs ++ ys)) ∙ k j d r (xs ++ ys) ∙ past_nodes g p (j + 1) ns xs ys h k rest

-- all lines of declarations and nodes are skipped
past_all : {A : Type 0} (g : List Item → A) (net : Net) (s : Shown net) (ys : List Item) → ((f : NetFile) (p : ℕ → ℕ) (zs : List Item) → g (file_item f p ∷ zs) ≡ g zs) → ((n : Named) (zs : List Item) → g (lines.Integer n ∷ zs) ≡ g zs)
    → ((r : Range) (n : Named) (zs : List Item) → g (lines.Wire r n ∷ zs) ≡ g zs) → ((i at : ℕ) (r : Right) (zs : List Item) → g (lines.Assign (named_at (wire_name i) at) r ∷ zs) ≡ g zs)
    → g (s.files ++ (s.integer ++ (s.nodes ++ ys))) ≡ g ys
past_all g net s ys f i w a =
    past_each file_item g f net.parts.files s.files (s.integer ++ (s.nodes ++ ys)) s.shows_files
    ∙ past_integer g net.parts.files s.integer (s.nodes ++ ys) i s.shows_integer
    ∙ past_nodes g net.parts 0 net.nodes s.nodes ys w a s.shows_nodes

-- Names of registers and files, in the order of declaration.

reg_names_are : (net : Net) (s : Shown net) → reg_names (module_of s).items ≡ map (λ r. r.name) net.parts.regs
reg_names_are net s =
    map_each reg_item reg_names (λ r. r.name) (λ r. Unit {0}) (λ r p zs k. refl) net.parts.regs s.regs (s.files ++ (s.integer ++ (s.nodes ++ outs s))) s.shows_regs (λ i d l. tt)
    ∙ ap (λ t. map (λ r. r.name) net.parts.regs ++ t) (past_all reg_names net s (outs s) (λ f p zs. refl) (λ n zs. refl) (λ r n zs. refl) (λ i at r zs. refl))
    ∙ append-nil (map (λ r. r.name) net.parts.regs)

file_names_are : (net : Net) (s : Shown net) → file_names (module_of s).items ≡ map (λ f. f.name) net.parts.files
file_names_are net s =
    past_each reg_item file_names (λ r p zs. refl) net.parts.regs s.regs (s.files ++ (s.integer ++ (s.nodes ++ outs s))) s.shows_regs
    ∙ map_each file_item file_names (λ f. f.name) (λ f. Unit {0}) (λ f p zs k. refl) net.parts.files s.files (s.integer ++ (s.nodes ++ outs s)) s.shows_files (λ i d l. tt)
    ∙ ap (λ t. map (λ f. f.name) net.parts.files ++ t) (past_integer file_names net.parts.files s.integer (s.nodes ++ outs s) (λ n zs. refl) s.shows_integer
    ∙ past_nodes file_names net.parts 0 net.nodes s.nodes (outs s) (λ r n zs. refl) (λ i at r zs. refl) s.shows_nodes)
    ∙ append-nil (map (λ f. f.name) net.parts.files)

sample_names_are : (ss : List Port) (xs : List VPort) → ShowsEach sample_port ss xs → map (λ p. p.port.name) xs ≡ map (λ s. s.name) ss
sample_names_are _ _ none_shown = refl
sample_names_are _ _ (one_shown {x = s} {xs = ss} {ys = xs} p k) = ap (λ (t : List (List ℕ)). s.name ∷ t) (sample_names_are ss xs k)

-- Nodes.

-- the parts according to a scope
pub record Scoped (net : Net) (s : Scope) : Type 0 where
  pub samples : s.samples ≡ map (λ s. s.name) net.parts.samples
  pub regs : s.regs ≡ map (λ r. r.name) net.parts.regs
  pub files : s.files ≡ map (λ f. f.name) net.parts.files

pub spelled : {X : Type 0} (test : List ℕ → Bool) (f : X → List ℕ) (xs : List X) → All (IsSpelled test) (map f xs) → All (λ x. test (f x) ≡ true) xs
spelled test f [] h = All-nil (λ x. test (f x) ≡ true)
spelled test f (x ∷ xs) h = All-cons (λ x. test (f x) ≡ true) x xs (All-head (IsSpelled test) (f x) (map f xs) h).kind (spelled test f xs (All-tail (IsSpelled test) (f x) (map f xs) h))

pub samples_tagged : (net : Net) → IsNamed net → All (λ s. tag s.name ≡ 1115) net.parts.samples
samples_tagged net named i d l = tag_sample (get_or net.parts.samples i d).name (spelled is_sample_name (λ s. s.name) net.parts.samples named.samples i d l)

pub regs_tagged : (net : Net) → IsNamed net → All (λ r. tag r.name ≡ 1114) net.parts.regs
regs_tagged net named i d l = tag_reg (get_or net.parts.regs i d).name (spelled is_reg_name (λ r. r.name) net.parts.regs named.regs i d l)

pub files_tagged : (net : Net) → IsNamed net → All (λ f. tag f.name ≡ 1102) net.parts.files
files_tagged net named i d l = tag_file (get_or net.parts.files i d).name (spelled is_file_name (λ f. f.name) net.parts.files named.files i d l)

node_is : (j : ℕ) (a : NodeId) (at : ℕ) → a.0 < j → j ≤ 16777216 → node_of (wires_to j) (named_at (wire a) at) ≡ a
node_is j a at h few = ap (λ (k : ℕ). record { 0 = k }) (wire_place j a.0 h few)

concat_is : (j : ℕ) (parts : List NodeId) (xs : List Named) → ShowsNames parts xs → All (λ a. a.0 < j) parts → j ≤ 16777216 → map (node_of (wires_to j)) xs ≡ parts
concat_is j _ _ no_name h few = refl
concat_is j _ _ (a_name {a = a} {parts = parts} {xs = xs} at k) h few =
    ap (λ (b : NodeId). b ∷ map (node_of (wires_to j)) xs) (node_is j a at (All-head (λ a. a.0 < j) a parts h) few) ∙ ap (λ (bs : List NodeId). a ∷ bs) (concat_is j parts xs k (All-tail (λ a. a.0 < j) a parts h) few)

source_sample : (s : Scope) (n : List ℕ) → is_sample_name n ≡ true → source_of s n ≡ kinds.Sample (place_of s.samples n)
source_sample s n h =
    cond-false (same n (codes "ext")) kinds.Ext _ (apart n (codes "ext") 1115 101 (tag_sample n h) refl refl)
    ∙ cond-true (is_sample_name n) (kinds.Sample (place_of s.samples n)) (kinds.Reg (place_of s.regs n)) h

source_reg : (s : Scope) (n : List ℕ) → is_reg_name n ≡ true → source_of s n ≡ kinds.Reg (place_of s.regs n)
source_reg s n h =
    cond-false (same n (codes "ext")) kinds.Ext _ (apart n (codes "ext") 1114 101 (tag_reg n h) refl refl)
    ∙ cond-false (is_sample_name n) (kinds.Sample (place_of s.samples n)) (kinds.Reg (place_of s.regs n)) (false_from_ne_true (is_sample_name n) (λ k. let e : 1114 ≡ 1115 = sym (tag_reg n h) ∙ tag_sample n k in omega arith))

kind_is : (net : Net) (named : IsNamed net) (s : Scope) (j k : ℕ) (kind : Kind) (r : Right) → Scoped net s → j ≤ 16777216 → ShowsRight net.parts k kind r → KindOk net.nodes j k kind → CellOk net.nodes net.parts k kind
    → kind_of s (wires_to j) r ≡ kind
kind_is net named s j k _ _ sc few (a_sample {i = i} a) ok cell =
    let n = (get_or net.parts.samples i no_port).name in
    source_sample s n (All-get_or (λ x. is_sample_name x.name ≡ true) net.parts.samples i no_port cell.0 (spelled is_sample_name (λ x. x.name) net.parts.samples named.samples))
    ∙ ap (λ ns. kinds.Sample (place_of ns n)) sc.samples ∙ ap (λ (m : ℕ). kinds.Sample m) (place_at (λ x. x.name) net.parts.samples i no_port named.samples_differ cell.0)
kind_is net named s j k _ _ sc few (a_reg {i = i} a) ok cell =
    let n = (get_or net.parts.regs i no_reg).name in
    source_reg s n (All-get_or (λ x. is_reg_name x.name ≡ true) net.parts.regs i no_reg cell.0 (spelled is_reg_name (λ x. x.name) net.parts.regs named.regs))
    ∙ ap (λ ns. kinds.Reg (place_of ns n)) sc.regs ∙ ap (λ (m : ℕ). kinds.Reg m) (place_at (λ x. x.name) net.parts.regs i no_reg named.regs_differ cell.0)
kind_is net named s j k _ _ sc few (a_word {i = x} {n = n} a b) ok cell =
    ap (λ ns. kinds.Word (place_of ns (get_or net.parts.files x no_file).name) (node_of (wires_to j) (named_at (wire n) b))) sc.files
    ∙ (λ i. kinds.Word (place_at (λ f. f.name) net.parts.files x no_file named.files_differ cell.0 i) (node_is j n b ok few i))
kind_is net named s j k _ _ sc few (a_not {n = n} a) ok cell = ap (λ (x : NodeId). kinds.Not x) (node_is j n a ok.0 few)
kind_is net named s j k _ _ sc few (a_binary {op = op} {n = n} {m = m} a b) ok cell = λ i. kinds.Binary op (node_is j n a ok.0 few i) (node_is j m b ok.1 few i)
kind_is net named s j k _ _ sc few (a_mux {t = t} {n = n} {m = m} a b c) ok cell = λ i. kinds.Mux (node_is j t a ok.0 few i) (node_is j n b ok.1 few i) (node_is j m c ok.2 few i)
kind_is net named s j k _ _ sc few (a_concat {parts = parts} {xs = xs} shows) ok cell = ap (λ (ps : List NodeId). kinds.Concat ps) (concat_is j parts xs shows ok.2 few)
kind_is net named s j k _ _ sc few (a_slice {n = n} {hi = hi} {lo = lo} a b c) ok cell = ap (λ (x : NodeId). kinds.Slice x hi lo) (node_is j n a ok.0 few)
kind_is net named s j k _ _ sc few x ok cell = refl

abbrev pub made : List (List ℕ) → List Node → Made
made wires nodes = record { wires = wires; nodes = nodes }

nodes_made : (net : Net) (named : IsNamed net) (s : Scope) (j : ℕ) (ns done : List Node) (xs : List Item) → Scoped net s → j + length ns ≤ 16777216 → ShowsNodes net.parts j ns xs → RightFrom net j ns → WidthsAre s.sizes j ns
    → fold (with_item s) (made (wires_to j) done) xs ≡ made (wires_to (j + length ns)) (done ++ ns)
nodes_made net named s j _ done _ sc few no_node_line k w =
    ap (λ i. made (wires_to i) done) (let e : j ≡ j + 0 = omega arith in e) ∙ ap (made (wires_to (j + 0))) (sym (append-nil done))
nodes_made net named s j _ done _ sc few (node_line {n = n} {ns = ns} {r = r} {xs = xs} a b c d shows rest) k w =
    let kind = kind_is net named s j n.width n.kind r sc (omega arith) shows k.0.kind k.1 in
    ap (λ (i : ℕ). fold (with_item s) (made (wires_to j ++ wire_name j ∷ []) (done ++ record { width = i; kind = kind_of s (wires_to j) r } ∷ [])) xs) w.0
    ∙ ap (λ (i : Kind). fold (with_item s) (made (wires_to j ++ wire_name j ∷ []) (done ++ record { width = n.width; kind = i } ∷ [])) xs) kind
    ∙ ap (λ (i : ℕ). fold (with_item s) (made (wires_to i) (done ++ n ∷ [])) xs) (let e : suc j ≡ j + 1 = omega arith in e)
    ∙ nodes_made net named s (j + 1) ns (done ++ n ∷ []) xs sc (omega arith) rest k.2 w.1
    ∙ ap (λ (i : ℕ). made (wires_to i) ((done ++ n ∷ []) ++ ns)) (let e : j + 1 + length ns ≡ j + suc (length ns) = omega arith in e)
    ∙ ap (made (wires_to (j + suc (length ns)))) (append_assoc done (n ∷ []) ns)

-- The table of the complete module.

-- what is declared after the ports
abbrev pub after_ports : {net : Net} → Shown net → Sizes
after_ports {net} s = map reg_sized net.parts.regs ++ (map file_sized net.parts.files ++ item_sizes (s.nodes ++ outs s))

abbrev pub module_table : {net : Net} → Shown net → Sizes
module_table {net} s =
    sized (codes "ext") net.parts.ext 0
    ∷ (map port_sized net.parts.samples
    ++ (sized (codes "full") (wide net.nodes net.parts.full.0) 0 ∷ sized (codes "ue") (wide net.nodes net.parts.ue.0) 0 ∷ sized (codes "back") (wide net.nodes net.parts.back.0) 0 ∷ after_ports s))

pub table_is : (net : Net) (s : Shown net) → NetOk net → IsNamed net → sizes_of (module_of s) ≡ module_table s
table_is net s k named =
    let p = net.parts in
    let items : item_sizes (module_of s).items ≡ after_ports s =
    map_each reg_item item_sizes reg_sized (RegOk net.nodes) (λ r p zs k. ap (λ w. sized r.name w 0 ∷ item_sizes zs) (range_back r.start.width k.start.positive))
    p.regs s.regs (s.files ++ (s.integer ++ (s.nodes ++ outs s))) s.shows_regs k.parts.regs
    ∙ ap (λ t. map reg_sized p.regs ++ t) (map_each file_item item_sizes file_sized (FileOk net.nodes)
    (λ f p zs k. ap (λ w. sized f.name w (or_zero (address_width (2 ^ f.address_width - 1))) ∷ item_sizes zs) (range_back f.width k.positive)
    ∙ ap (λ a. sized f.name f.width a ∷ item_sizes zs) (address_is f.address_width k.addressed k.addressed_at_most))
    p.files s.files (s.integer ++ (s.nodes ++ outs s)) s.shows_files k.parts.files
    ∙ ap (λ t. map file_sized p.files ++ t) (past_integer item_sizes p.files s.integer (s.nodes ++ outs s) (λ n zs. refl) s.shows_integer)) in
    let samples = samples_sized p.samples s.ports s.samples k.parts.samples in
    let atleast = named.at_least in let fw = named.full in let uw = named.ue in let bw = named.back in
    let ext = range_back p.ext k.parts.ext_positive in
    let full = range_back (wide net.nodes p.full.0) (omega arith) in let ue = range_back (wide net.nodes p.ue.0) (omega arith) in let back = range_back (wide net.nodes p.back.0) (omega arith) in
    λ i. sized (codes "ext") (ext i) 0 ∷ (samples i ++ (sized (codes "full") (full i) 0 ∷ sized (codes "ue") (ue i) 0 ∷ sized (codes "back") (back i) 0 ∷ items i))

-- a name that is no port's is found after the ports
pub ports_past : (net : Net) (s : Shown net) (named : IsNamed net) (n : List ℕ) (t : ℕ) → tag n ≡ t → (t == 101) ≡ false → (t == 1115) ≡ false → (t == 102) ≡ false → (t == 117) ≡ false → (t == 98) ≡ false
    → found (module_table s) n ≡ found (after_ports s) n
ports_past net s named n t e a b c d f =
    found_past _ _ n (apart n (codes "ext") t 101 e refl a)
    ∙ each_past port_sized n t 1115 net.parts.samples _ (samples_tagged net named) e b
    ∙ found_past _ _ n (apart n (codes "full") t 102 e refl c) ∙ found_past _ _ n (apart n (codes "ue") t 117 e refl d) ∙ found_past _ _ n (apart n (codes "back") t 98 e refl f)

pub widths_are : (net : Net) (s : Shown net) → NetOk net → IsNamed net → WidthsAre (sizes_of (module_of s)) 0 net.nodes
widths_are net s k named =
    let few = k.count in
    nodes_sized net net.parts 0 net.nodes s.nodes (outs s) (sizes_of (module_of s)) s.shows_nodes (omega arith) (all_right net k) (λ i l h.
    ap (λ t. found t (wire_name i)) (table_is net s k named)
    ∙ ports_past net s named (wire_name i) 110 (tag_wire i h) refl refl refl refl refl
    ∙ each_past reg_sized (wire_name i) 110 1114 net.parts.regs _ (regs_tagged net named) (tag_wire i h) refl ∙ each_past file_sized (wire_name i) 110 1102 net.parts.files _ (files_tagged net named) (tag_wire i h) refl)

pub file_sizes : (net : Net) (s : Shown net) → NetOk net → IsNamed net → All (λ f. found (sizes_of (module_of s)) f.name ≡ file_sized f) net.parts.files
file_sizes net s k named i d l =
    let f = get_or net.parts.files i d in
    let t = files_tagged net named i d l in
    ap (λ z. found z f.name) (table_is net s k named) ∙ ports_past net s named f.name 1102 t refl refl refl refl refl
    ∙ each_past reg_sized f.name 1102 1114 net.parts.regs _ (regs_tagged net named) t refl ∙ each_found file_sized net.parts.files _ named.files_differ i d l

pub scoped : (net : Net) (s : Shown net) → Scoped net (scope_of (module_of s))
scoped net s = record { samples = sample_names_are net.parts.samples s.ports s.samples; regs = reg_names_are net s; files = file_names_are net s }

-- All nodes.

pub made_is : (net : Net) (s : Shown net) → NetOk net → IsNamed net → made_by (scope_of (module_of s)) (module_of s).items ≡ made (wires_to (length net.nodes)) net.nodes
made_is net s k named =
    let f = with_item (scope_of (module_of s)) in
    let few = k.count in
    past_each reg_item (λ xs. fold f (made [] []) xs) (λ r p zs. refl) net.parts.regs s.regs (s.files ++ (s.integer ++ (s.nodes ++ outs s))) s.shows_regs
    ∙ past_each file_item (λ xs. fold f (made [] []) xs) (λ f p zs. refl) net.parts.files s.files (s.integer ++ (s.nodes ++ outs s)) s.shows_files
    ∙ past_integer (λ xs. fold f (made [] []) xs) net.parts.files s.integer (s.nodes ++ outs s) (λ n zs. refl) s.shows_integer
    ∙ fold-append f (made [] []) s.nodes (outs s)
    ∙ ap (λ (x : Made). fold f x (outs s)) (nodes_made net named (scope_of (module_of s)) 0 net.nodes [] s.nodes (scoped net s) (omega arith) s.shows_nodes (all_right net k) (widths_are net s k named))
    ∙ ap (λ (i : ℕ). made (wires_to i) net.nodes) (let e : 0 + length net.nodes ≡ length net.nodes = omega arith in e)

-- Outputs.

output_past : (wires : List (List ℕ)) (out : List ℕ) (t : Named) (r : Right) (zs : List Item) → same t.name out ≡ false → output_of wires out (lines.Assign t r ∷ zs) ≡ output_of wires out zs
output_past wires out t (sides.Name n) zs e = cond-false (same t.name out) (node_of wires n) (output_of wires out zs) e
output_past wires out t x zs e = refl

output_is : (net : Net) (s : Shown net) (wires : List (List ℕ)) (out : List ℕ) → ((i : ℕ) → same (wire_name i) out ≡ false) → output_of wires out (module_of s).items ≡ output_of wires out (outs s)
output_is net s wires out e =
    past_each reg_item (output_of wires out) (λ r p zs. refl) net.parts.regs s.regs (s.files ++ (s.integer ++ (s.nodes ++ outs s))) s.shows_regs
    ∙ past_all (output_of wires out) net s (outs s) (λ f p zs. refl) (λ n zs. refl) (λ r n zs. refl) (λ i at r zs. output_past wires out (named_at (wire_name i) at) r zs (e i))

-- Registers.

regs_more : (wires : List (List ℕ)) (m : VModule) (rs : List NetReg) (xs ys : List Item) → ShowsEach reg_item rs xs → All (λ r. start_of m.inits r.name ≡ r.start) rs → All (λ r. next_of wires m.updates r.name ≡ r.next) rs
    → regs_of wires m (xs ++ ys) ≡ rs ++ regs_of wires m ys
regs_more wires m _ _ ys none_shown a b = refl
regs_more wires m _ _ ys (one_shown {x = r} {xs = rs} {ys = xs} p k) a b =
    let start = All-head (λ r. start_of m.inits r.name ≡ r.start) r rs a in let next = All-head (λ r. next_of wires m.updates r.name ≡ r.next) r rs b in
    let rest = regs_more wires m rs xs ys k (All-tail (λ r. start_of m.inits r.name ≡ r.start) r rs a) (All-tail (λ r. next_of wires m.updates r.name ≡ r.next) r rs b) in
    λ i. record { name = r.name; start = start i; next = next i } ∷ rest i

regs_are : (net : Net) (s : Shown net) → NetOk net → IsNamed net → regs_of (wires_to (length net.nodes)) (module_of s) (module_of s).items ≡ net.parts.regs
regs_are net s k named =
    let wires = wires_to (length net.nodes) in
    regs_more wires (module_of s) net.parts.regs s.regs (s.files ++ (s.integer ++ (s.nodes ++ outs s))) s.shows_regs
    (found_each reg_start (λ r. r.name) start_of (λ r. r.start) (λ r p zs n. refl) net.parts.regs s.start_part s.fill_part s.shows_starts named.regs_differ)
    (λ i d l. let r = get_or net.parts.regs i d in let ok = (k.parts.regs i d l).next in
    found_each reg_update (λ r. r.name) (next_of wires) (λ r. record { 0 = place_of wires (wire r.next) }) (λ r p zs n. refl) net.parts.regs s.update_part s.write_part s.shows_updates named.regs_differ i d l
    ∙ ap (λ (a : ℕ). record { 0 = a }) (wire_place (length net.nodes) r.next.0 ok.0 k.count))
    ∙ ap (λ t. net.parts.regs ++ t) (past_all (regs_of wires (module_of s)) net s (outs s) (λ f p zs. refl) (λ n zs. refl) (λ r n zs. refl) (λ i at r zs. refl))
    ∙ append-nil net.parts.regs

-- Files.

port_is : (ns : List Node) (w a : ℕ) (port : Option WritePort) → WriteOk ns w a port → length ns ≤ 16777216 → ported (wires_to (length ns)) port ≡ port
port_is ns w a None ok few = refl
port_is ns w a (Some p) ok few =
    let place = λ (a : ℕ) (h : a < length ns). wire_place (length ns) a h few in
    λ i. Some (record { enable = record { 0 = place p.enable.0 ok.0.0 i }; address = record { 0 = place p.address.0 ok.1.0 i }; value = record { 0 = place p.value.0 ok.2.0 i } })

record IsFile (wires : List (List ℕ)) (m : VModule) (f : NetFile) : Type 0 where
  pub width : width_in (sizes_of m) f.name ≡ f.width
  pub address : address_in (sizes_of m) f.name ≡ f.address_width
  pub words : words_of m.inits (2 ^ address_in (sizes_of m) f.name) f.name ≡ f.words
  pub port : port_of wires m.updates f.name ≡ f.port

files_more : (wires : List (List ℕ)) (m : VModule) (fs : List NetFile) (xs ys : List Item) → ShowsEach file_item fs xs → All (IsFile wires m) fs → files_of wires m (xs ++ ys) ≡ fs ++ files_of wires m ys
files_more wires m _ _ ys none_shown a = refl
files_more wires m _ _ ys (one_shown {x = f} {xs = fs} {ys = xs} p k) a =
    let is = All-head (IsFile wires m) f fs a in
    let rest = files_more wires m fs xs ys k (All-tail (IsFile wires m) f fs a) in
    λ i. record { name = f.name; width = is.width i; address_width = is.address i; words = is.words i; port = is.port i } ∷ rest i

files_are : (net : Net) (s : Shown net) → NetOk net → IsNamed net → files_of (wires_to (length net.nodes)) (module_of s) (module_of s).items ≡ net.parts.files
files_are net s k named =
    let wires = wires_to (length net.nodes) in
    past_each reg_item (files_of wires (module_of s)) (λ r p zs. refl) net.parts.regs s.regs (s.files ++ (s.integer ++ (s.nodes ++ outs s))) s.shows_regs
    ∙ files_more wires (module_of s) net.parts.files s.files (s.integer ++ (s.nodes ++ outs s)) s.shows_files (λ i d l.
    let f = get_or net.parts.files i d in
    let size = file_sizes net s k named i d l in
    let ok = k.parts.files i d l in
    let address : address_in (sizes_of (module_of s)) f.name ≡ f.address_width = address_found (sizes_of (module_of s)) f.name ∙ ap (λ (z : Sized). z.address) size in
    record {
      width = width_found (sizes_of (module_of s)) f.name ∙ ap (λ (z : Sized). z.width) size;
      address = address;
      words = ap (λ (c : ℕ). words_of (module_of s).inits (2 ^ c) f.name) address ∙ ap (λ (c : ℕ). words_of (module_of s).inits c f.name) (sym ok.full)
          ∙ past_each reg_start (λ xs. fold (word_init (length f.words) f.name) (replicate (length f.words) 0) xs) (λ r p zs. refl) net.parts.regs s.start_part s.fill_part s.shows_starts
          ∙ words_are net.parts.files s.fill_part s.shows_fills named.files_differ i d l (replicate (length f.words) 0);
      port = past_each reg_update (λ us. port_of wires us f.name) (λ r p zs. refl) net.parts.regs s.update_part s.write_part s.shows_updates
          ∙ ports_are wires net.parts.files s.write_part s.shows_writes named.files_differ i d l ∙ port_is net.nodes f.width f.address_width f.port ok.port k.count;
    })
    ∙ ap (λ t. net.parts.files ++ t) (past_integer (files_of wires (module_of s)) net.parts.files s.integer (s.nodes ++ outs s) (λ n zs. refl) s.shows_integer
    ∙ past_nodes (files_of wires (module_of s)) net.parts 0 net.nodes s.nodes (outs s) (λ r n zs. refl) (λ i at r zs. refl) s.shows_nodes)
    ∙ append-nil net.parts.files

samples_are : (ss : List Port) (xs : List VPort) → ShowsEach sample_port ss xs → All PortOk ss → map sample_of xs ≡ ss
samples_are _ _ none_shown k = refl
samples_are _ _ (one_shown {x = s} {xs = ss} {ys = xs} p h) k =
    let ok = All-head PortOk s ss k in let low = ok.positive in
    ap (λ (w : ℕ). record { name = s.name; width = w } ∷ map sample_of xs) (let e : s.width - 1 + 1 ≡ s.width = omega arith in e) ∙ ap (λ (t : List Port). s ∷ t) (samples_are ss xs h (All-tail PortOk s ss k))

reset_same : (rs : List NetReg) (b : Bool) (rst : Option Named) (r : Option ResetList) → ShowsReset rs b rst r → is_some rst ≡ b
reset_same rs _ _ _ no_reset_shown = refl
reset_same rs _ _ _ (reset_shown a b h) = refl

-- A module that represents a netlist denotes it.
pub same_net : (net : Net) (s : Shown net) → NetOk net → IsNamed net → net_of (module_of s) ≡ net
unfolding net_of
same_net net s k named =
    let n = length net.nodes in let p = net.parts in let wires = wires_to n in let low = k.parts.ext_positive in
    let ext : p.ext - 1 + 1 ≡ p.ext = omega arith in
    let reset = reset_same p.regs p.reset s.rst s.resets s.reset in
    let samples = samples_are p.samples s.ports s.samples k.parts.samples in
    let regs = regs_are net s k named in let files = files_are net s k named in
    let full = output_is net s wires (codes "full") (λ i. refl) ∙ node_is n p.full (s.q 1) k.parts.full k.count in
    let ue = output_is net s wires (codes "ue") (λ i. refl) ∙ node_is n p.ue (s.q 3) k.parts.ue k.count in
    let back = output_is net s wires (codes "back") (λ i. refl) ∙ node_is n p.back (s.q 5) k.parts.back k.count in
    ap (λ (x : Made). record { nodes = x.nodes; parts = parts_of x.wires (module_of s) }) (made_is net s k named)
    ∙ (λ i. record { nodes = net.nodes; parts = record { name = p.name; ext = ext i; reset = reset i; samples = samples i; regs = regs i; files = files i; full = full i; ue = ue i; back = back i } })
