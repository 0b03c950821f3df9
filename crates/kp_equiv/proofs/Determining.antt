-- The nodes of any two well-formed netlists have classes that determine which trees are equivalent.
use Rattle.std.proofs.Common.{ℕ, zero, suc, ◌≤◌, ◌<◌, ◌++◌, List, [], ◌∷◌, length, get_or, refl, subst, arith}
use Rattle.std.proofs.lemmas.List.{get_or_default}
use Rattle.kp_net.specs.{declared.node.NodeId.NodeId, declared.node.Node.Node, Netlist.Net, Parts.NetOk, Widths.no_node}
use Rattle.kp_equiv.specs.Classes.{class_in, Determines}
use Rattle.kp_equiv.specs.inner.Shapes.{Known, known_of, shape, Numbered, IsTable, Grown}
use Rattle.kp_equiv.specs.declared.bit.Bit.{Bit}
use Rattle.kp_equiv.specs.declared.term.Term.TheVariants.{Operation, Bits}
use Rattle.kp_equiv.specs.{Wiring.bits_of_kind, inner.Bits.bits_in}
use Rattle.kp_equiv.proofs.{Tables.none_numbered, Tables.some_puts, Growing.none_grown, Growing.one_grown, Growing.classes_determine}

-- the classes of the first nodes of a netlist, in a table that has grown by them
record Classed (ks : Known) (net : Net) (start : Numbered) (i : ℕ) : Type 0 where
  table : Numbered
  classes : List NodeId
  wires : List (List Bit)
  grown : Grown ks net start table classes wires i

classed : (ks : Known) (net : Net) (start : Numbered) → NetOk net → IsTable start → (i : ℕ) → i ≤ length net.nodes → Classed ks net start i
classed ks net start ok d zero h = record { table = start; classes = []; wires = []; grown = none_grown ks net start d }
classed ks net start ok d (suc i) h =
    let c = classed ks net start ok d i (omega (arith, h)) in
    let n : Node = get_or net.nodes i no_node in
    let p = some_puts c.table (Operation (shape ks net.parts (class_in c.classes) n)) c.grown.table in
    let number : NodeId = record { 0 = p.number } in
    let bs : List Bit = bits_of_kind (bits_in c.wires) number n.width n.kind in
    let q = some_puts p.new (Bits bs) p.puts.table in
    let x : NodeId = record { 0 = q.number } in
    let l : i < length net.nodes = omega (arith, h) in
    record {
      table = q.new;
      classes = c.classes ++ x ∷ [];
      wires = c.wires ++ bs ∷ [];
      grown = subst (Grown ks net start q.new (c.classes ++ x ∷ []) (c.wires ++ bs ∷ [])) (omega arith)
          (one_grown ks net start c.table p.new q.new net.nodes c.classes (c.classes ++ x ∷ []) c.wires (c.wires ++ bs ∷ []) bs number x n (shape ks net.parts (class_in c.classes) n) i ok
          refl l (get_or_default net.nodes i no_node n l) c.grown refl p.puts refl q.puts refl refl);
    }

pub record SomeDetermines (a b : Net) : Type 0 where
  pub first : List NodeId
  pub second : List NodeId
  pub determines : Determines a b first second

pub some_determines : (a b : Net) → NetOk a → NetOk b → SomeDetermines a b
some_determines a b oka okb =
    let x = classed (known_of a) a [] oka none_numbered (length a.nodes) (omega arith) in
    let y = classed (known_of a) b x.table okb x.grown.table (length b.nodes) (omega arith) in
    record { first = x.classes; second = y.classes; determines = classes_determine a b (known_of a) x.table y.table x.classes y.classes oka okb refl x.wires y.wires x.grown y.grown }
