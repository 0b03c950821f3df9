-- The parts other than the nodes, by tables, are those of the module.
use Rattle.std.proofs.Common.{◌≡◌, ℕ, List, [], ◌∷◌, map, Bool, true, false, Some, refl}
use Rattle.std.specs.{Prelude.if◌then◌else◌, Prelude.codes, Option.is_some}
use Rattle.kp_bits.specs.{Word.word, declared.literal.Literal.Literal}
use Rattle.kp_net.specs.{declared.node.NodeId.NodeId, declared.netlist.Port.Port, declared.netlist.NetReg.NetReg, declared.netlist.NetFile.NetFile, Names.same}
use Rattle.kp_vlog.specs.declared.tree.Right.TheVariants as sides
use Rattle.kp_vlog.specs.{declared.tree.Item.Item, declared.tree.Init.Init, declared.tree.Update.Update, declared.tree.VModule.VModule, Occurrences.start_in}
use Rattle.kp_vlog.specs.Scope.{Sizes, sizes_of, width_of}
use Rattle.kp_vlog.specs.Denote.{start_of, output_of, port_of, regs_of, files_of, sample_of, parts_of}
use Rattle.kp_vlog.specs.declared.tree.Item.TheVariants as lines
use Rattle.kp_vlog.specs.declared.tree.Init.TheVariants as starts
use Rattle.kp_vlog.specs.declared.tree.Update.TheVariants as edges
use Rattle.kp_vread_rules.specs.Tables.{found, AlikeSizes}
use Rattle.kp_vread.specs.inner.{Numbering.Numbered, Numbering.AreNumbered, Building.start_from, Nexts.AreNexts}
use Rattle.kp_vread.{specs.inner.Parts.regs_by, specs.inner.Parts.output_by, specs.inner.Parts.port_by, specs.inner.Parts.files_by, proofs.Making.node_same}

pub start_same : (is : List Init) (n : List ℕ) → start_from (start_in is n) ≡ start_of is n
start_same [] n = refl
start_same (starts.Reg k l ∷ is) n = step (same n k.name) (start_same is n)
  where
    step : (b : Bool) → start_from (start_in is n) ≡ start_of is n → start_from (if b then Some l.literal else start_in is n) ≡ (if b then word l.literal.width l.literal.value else start_of is n)
    step true h = refl
    step false h = h
start_same (_ ∷ is) n = start_same is n

module _ (wires : Numbered) (ks : List (List ℕ)) (a : AreNumbered wires ks) where
  pub output_same : (out : List ℕ) (xs : List Item) → output_by wires out xs ≡ output_of ks out xs
  output_same out [] = refl
  output_same out (lines.Assign t (sides.Name n) ∷ xs) = rw (node_same wires ks a n, output_same out xs) refl
  output_same out (_ ∷ xs) = output_same out xs

  port_same : (xs : List Update) (n : List ℕ) → port_by wires xs n ≡ port_of ks xs n
  port_same [] n = refl
  port_same (edges.Reg k v ∷ xs) n = port_same xs n
  port_same (edges.File t f x v ∷ xs) n = rw (node_same wires ks a t, node_same wires ks a x, node_same wires ks a v, port_same xs n) refl

  module _ (m : VModule) where
    pub regs_same : (es : List (List ℕ × Literal)) (ns : List (List ℕ × NodeId)) → ((n : List ℕ) → found es n ≡ start_in m.inits n) → AreNexts wires ns m.updates
        → (xs : List Item) → regs_by es ns xs ≡ regs_of ks m xs
    regs_same es ns e h [] = refl
    regs_same es ns e h (lines.Reg r n ∷ xs) = rw (e n.name, start_same m.inits n.name, h.nexts ks a n.name, regs_same es ns e h xs) refl
    regs_same es ns e h (_ ∷ xs) = regs_same es ns e h xs

    pub files_same : (ss : Sizes) → AlikeSizes ss (sizes_of m) → (xs : List Item) → files_by ss wires m.inits m.updates xs ≡ files_of ks m xs
    files_same ss h [] = refl
    files_same ss h (lines.File r n w ∷ xs) = rw (h.widths n.name, h.addresses n.name, port_same m.updates n.name, files_same ss h xs) refl
    files_same ss h (_ ∷ xs) = files_same ss h xs

-- all parts
pub parts_same : (m : VModule) (wires : Numbered) (ks : List (List ℕ)) (ss : Sizes) (name : List ℕ) (ext : ℕ) (reset : Bool) (samples : List Port) (regs : List NetReg) (files : List NetFile) (full ue back : NodeId)
    → name ≡ m.name.name → ext ≡ width_of m.ext.range → reset ≡ is_some m.rst → samples ≡ map sample_of m.samples → regs ≡ regs_of ks m m.items → files ≡ files_by ss wires m.inits m.updates m.items
    → full ≡ output_by wires (codes "full") m.items → ue ≡ output_by wires (codes "ue") m.items → back ≡ output_by wires (codes "back") m.items
    → AreNumbered wires ks → AlikeSizes ss (sizes_of m)
    → record { name = name; ext = ext; reset = reset; samples = samples; regs = regs; files = files; full = full; ue = ue; back = back } ≡ parts_of ks m
parts_same m wires ks ss name ext reset samples regs files full ue back en ee er es' eg ef e1 e2 e3 a h =
    rw (
      en,
      ee,
      er,
      es',
      eg,
      ef,
      e1,
      e2,
      e3,
      files_same wires ks a m ss h m.items,
      output_same wires ks a (codes "full") m.items,
      output_same wires ks a (codes "ue") m.items,
      output_same wires ks a (codes "back") m.items,
    ) refl
