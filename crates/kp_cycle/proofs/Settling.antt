-- Nodes are evaluated in order.
use Rattle.std.proofs.Common.{◌≡◌, ℕ, ◌+◌, ◌-◌, ◌<◌, ◌≤◌, ◌++◌, List, [], length, get_or, set, take, drop, refl, sym, subst, ap, ◌∙◌, arith, false}
use Rattle.std.proofs.lemmas.List.{length-set, length-append, length-take-le, length-drop, get_or_append_left, get_or-take, get_or-drop, take_at}
use Rattle.std.{proofs.Math.Seq.get_or-append_right, specs.List.refill}
use Rattle.kp_bits.specs.Word as bits
use Rattle.kp_net.specs.{declared.node.Kind.Kind, declared.node.Node.Node, Nodes.Cells, Nodes.word_of_kind, Nodes.word_of_node}
use Rattle.kp_net.specs.{Widths.wide, Widths.no_node, Widths.is_cell, Widths.KindOk, Widths.AllRight, Netlist.Net}
use Rattle.kp_net.proofs.Exact.{Has, node_exact}
use Rattle.kp_cycle_plan.specs.Storage.{Stored, Fits, FitsBelow, seen}

pub fits_more : (net : Net) (m : Stored) (i v : ℕ) → Fits net m → Fits net (record m { nodes = set m.nodes i v })
fits_more net m i v h = record { right = h.right; nodes = length-set m.nodes i v ∙ h.nodes; regs = h.regs; files = h.files; words = h.words }

-- operands that are held are words
pub operands_have : (ns : List Node) (values : List ℕ) (i : ℕ) → AllRight ns → i < length ns → FitsBelow ns values i → (j : ℕ) → j < i → Has (wide ns j) (seen ns values j)
unfolding wide
operands_have ns values i right h fits j l =
    let ok = right j (omega arith) in
    record { word = record { positive = ok.positive; at_most = ok.at_most; fits = fits j l }; width = refl }

-- an operation's word is that of its kind
pub whole : (c : Cells) (ns : List Node) (values : List ℕ) (i : ℕ) (o : Kind) → AllRight ns → i < length ns → FitsBelow ns values i → (get_or ns i no_node).kind ≡ o → is_cell o ≡ false
    → (word_of_kind c (seen ns values) (get_or ns i no_node).width o).value ≡ (word_of_node c (seen ns values) (get_or ns i no_node)).value
whole c ns values i o right h fits e f =
    let n : Node = get_or ns i no_node in
    ap (λ (k : Kind). (word_of_kind c (seen ns values) n.width k).value) (sym e)
    ∙ sym (ap (λ (w : bits.Word). w.value) (node_exact c ns i n (seen ns values) (right i h) (ap is_cell e ∙ f) (operands_have ns values i right h fits)))

-- the width rule of a node of this kind
pub kind_ok : (ns : List Node) (i : ℕ) (o : Kind) → AllRight ns → i < length ns → (get_or ns i no_node).kind ≡ o → KindOk ns i (get_or ns i no_node).width o
kind_ok ns i o right h e = let P : Kind → Type 0 = KindOk ns i (get_or ns i no_node).width in subst P e (right i h).kind

-- as many nodes, and the same state
pub fits_as : (net : Net) (m new : Stored) → Fits net m → length new.nodes ≡ length m.nodes → new.regs ≡ m.regs → new.files ≡ m.files → Fits net new
fits_as net m new h nodes regs files = record {
  right = h.right;
  nodes = nodes ∙ h.nodes;
  regs = ap (λ (xs : List ℕ). length xs) regs ∙ h.regs;
  files = ap (λ (xs : List (List ℕ)). length xs) files ∙ h.files;
  words = λ f l. ap (λ (xs : List (List ℕ)). length (get_or xs f [])) files ∙ h.words f l;
}

-- the first numbers of one list over those of another
module _ (xs ys : List ℕ) (count : ℕ) (few : count ≤ length xs) where
  front_many : length (take count xs) ≡ count
  front_many = length-take-le count xs few

  pub over_length : count ≤ length ys → length (take count xs ++ drop count ys) ≡ length ys
  over_length l = omega (arith, l, front_many, length-append (take count xs) (drop count ys), length-drop count ys)

  pub over_front : (i : ℕ) → i < count → get_or (take count xs ++ drop count ys) i 0 ≡ get_or xs i 0
  over_front i l = get_or_append_left (take count xs) (drop count ys) 0 i (omega (arith, front_many)) ∙ get_or-take count xs i 0 l

  pub over_rest : (i : ℕ) → count ≤ i → get_or (take count xs ++ drop count ys) i 0 ≡ get_or ys i 0
  over_rest i l =
      let e : count + (i - length (take count xs)) ≡ i = omega (arith, front_many) in
      get_or-append_right (take count xs) (drop count ys) i 0 (omega (arith, front_many)) ∙ get_or-drop count ys (i - length (take count xs)) 0 ∙ ap (λ (k : ℕ). get_or ys k 0) e

-- a list filled up with as many numbers is these
pub refilled : (xs ws : List ℕ) → length ws ≡ length xs → refill (length xs) xs ws ≡ ws
refilled xs ws e = take_at ws (drop (length ws) xs) (length xs) e
