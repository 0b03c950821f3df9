-- The invariants of a netlist's parts that writing needs.
use Rattle.std.proofs.Common.{◌≡◌, ◌∙◌, ℕ, zero, suc, ◌≤◌, ◌<◌, List, [], ◌∷◌, length, get_or, refl, sym, ap, subst, arith}
use Rattle.std.{proofs.lemmas.List.Elements.All-weaker, specs.Prelude.All}
use Rattle.kp_net.specs.declared.node.Kind.{Kind}
use Rattle.kp_net.specs.declared.node.Kind.TheVariants.{Const, Ext, Sample, Reg, Word, Not, Binary, Mux, Concat, Slice}
use Rattle.kp_net.specs.{declared.node.Node.Node, declared.netlist.NetFile.NetFile, declared.netlist.Parts.Parts, Netlist.Net}
use Rattle.kp_net.specs.{Widths.wide, Widths.no_node, Widths.KindOk, Parts.NetOk, Parts.CellOk, Parts.FileOk}
use Rattle.kp_vwrite.specs.Texts.{KindSafe, NodeSafe, AllSafe, FileSafe}

-- the entry at an index of a list doesn't depend on the default past its end
pub any_default : {X : Type 0} (xs : List X) (i : ℕ) (d e : X) → i < length xs → get_or xs i d ≡ get_or xs i e
any_default [] i d e h = absurd (omega arith)
any_default (x ∷ xs) zero d e h = refl
any_default (x ∷ xs) (suc i) d e h = any_default xs i d e (omega arith)

pub width_is : (ns : List Node) (i : ℕ) (d : Node) → i < length ns → (get_or ns i d).width ≡ wide ns i
unfolding wide
width_is ns i d h = ap (λ (n : Node). n.width) (any_default ns i d no_node h)

pub width_positive : (net : Net) (i : ℕ) (d : Node) → NetOk net → i < length net.nodes → 1 ≤ (get_or net.nodes i d).width
width_positive net i d k h = subst (λ (n : Node). 1 ≤ n.width) (any_default net.nodes i no_node d h) (k.right i h).positive

kind_safe : (ns : List Node) (p : Parts) (m k : ℕ) (kind : Kind) → 1 ≤ k → k ≤ 64 → KindOk ns m k kind → CellOk ns p k kind → KindSafe p k kind
kind_safe ns p m k (Const v) low high f c = record { positive = low; at_most = high; fits = f }
kind_safe ns p m k Ext low high f c = tt
kind_safe ns p m k (Sample s) low high f c = c.0
kind_safe ns p m k (Reg r) low high f c = c.0
kind_safe ns p m k (Word w a) low high f c = c.0
kind_safe ns p m k (Not a) low high f c = tt
kind_safe ns p m k (Binary op a b) low high f c = tt
kind_safe ns p m k (Mux t a b) low high f c = tt
kind_safe ns p m k (Concat parts) low high f c = tt
kind_safe ns p m k (Slice a hi lo) low high f c = tt

pub nodes_safe : (net : Net) → NetOk net → AllSafe net.parts net.nodes
nodes_safe net k i h =
    let ok = k.right i h in
    record { positive = ok.positive; kind = kind_safe net.nodes net.parts i _ _ ok.positive ok.at_most ok.kind (k.parts.cells i h) }

-- the node at an index
pub safe_at : (p : Parts) (ns : List Node) (i : ℕ) (n : Node) → AllSafe p ns → i < length ns → n ≡ get_or ns i n → NodeSafe p n
safe_at p ns i n all h e = subst (NodeSafe p) (any_default ns i no_node n h ∙ sym e) (all i h)

pub files_safe : (ns : List Node) (fs : List NetFile) → All (FileOk ns) fs → All FileSafe fs
files_safe ns fs ok =
    All-weaker (FileOk ns) FileSafe (λ f k. record { positive = k.positive; at_most = k.at_most; addressed = k.addressed_at_most; fit = k.words }) fs ok

pub net_files_safe : (net : Net) → NetOk net → All FileSafe net.parts.files
net_files_safe net k = files_safe net.nodes net.parts.files k.parts.files

pub get_again : {X : Type 0} (xs : List X) (i : ℕ) (d : X) → i < length xs → get_or xs i d ≡ get_or xs i (get_or xs i d)
get_again xs i d h = any_default xs i d (get_or xs i d) h
