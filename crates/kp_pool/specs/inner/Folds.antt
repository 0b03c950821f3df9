-- What may replace a requested node.
use Rattle.std.specs.Prelude.{ℕ, ◌<◌, ◌≤◌, ◌≡◌, ◌&&◌, true, false, List, length, get_or}
use Rattle.kp_bits.specs.{Word.IsWord, Word.word, declared.operator.BinOp.BinOp, Operators.binary_of}
use Rattle.kp_bits.specs.Word as bits
use Rattle.kp_net.specs.declared.node.{NodeId.NodeId, Kind.Kind, Kind.TheVariants.Const, Node.Node}
use Rattle.kp_net.specs.{Nodes.Cells, Nodes.word_at, Nodes.word_of_kind, Widths.wide, Widths.no_node, Widths.is_cell, Depth.depth_of, Depth.depth}
use Rattle.kp_pool.specs.{declared.fold.Folded.Folded, declared.fold.Masking.Masking, Folding.folds, Folding.is_plain, Folding.is_masking}

-- node i has the word of an operation of k bits, and is no deeper
pub record StandsFor (ns : List Node) (k : ℕ) (o : Kind) (i : NodeId) : Type 0 where
  pub inside : i.0 < length ns
  pub wide : wide ns i.0 ≡ k
  pub word : (c : Cells) → word_at c ns i.0 ≡ word_of_kind c (word_at c ns) k o
  pub depth : depth ns i.0 ≤ depth_of (depth ns) o
  pub plain : is_cell o ≡ false

-- an operation of k bits has this word, whatever the cells hold
pub record IsWordOf (ns : List Node) (k : ℕ) (o : Kind) (w : bits.Word) : Type 0 where
  pub fits : IsWord w
  pub wide : w.width ≡ k
  pub word : (c : Cells) → w ≡ word_of_kind c (word_at c ns) k o
  pub plain : is_cell o ≡ false

-- what a requested node of k bits and this kind folds to, after the nodes ns
abbrev pub FoldsTo : List Node → ℕ → Kind → Folded → Type 0
FoldsTo ns k o (Folded.There i) = StandsFor ns k o i
FoldsTo ns k o (Folded.Number w) = IsWordOf ns k o w
FoldsTo ns k o Folded.Asked = folds (λ i. get_or ns i no_node) k o ≡ false

-- the number of a constant
abbrev pub number_in : Kind → ℕ
number_in (Const n) = n
number_in _ = 0

-- the word of a constant, which needs no cells
abbrev pub number_at : List Node → ℕ → bits.Word
number_at ns i = word (wide ns i) (number_in (get_or ns i no_node).kind)

-- the effect of a constant operand w of `&` or `|`, on either side of a word of the same width
abbrev pub Masks : BinOp → bits.Word → Masking → Type 0
Masks op w Masking.Wins = (is_masking op ≡ true) × ((a : bits.Word) → IsWord a → a.width ≡ w.width → (binary_of op w a ≡ w) × (binary_of op a w ≡ w))
Masks op w Masking.Yields = (is_masking op ≡ true) × ((a : bits.Word) → IsWord a → a.width ≡ w.width → (binary_of op w a ≡ a) × (binary_of op a w ≡ a))
Masks op w Masking.Neither = (is_masking op && is_plain w.width (Const w.value)) ≡ false
