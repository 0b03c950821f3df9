-- The meaning of a list of nodes: the word of each node in one cycle.
use Rattle.std.specs.Prelude.{ℕ, ◌%◌, ◌^◌, ◌==◌, Bool, List, [], ◌∷◌, ◌++◌, fold, map, get_or}
use Rattle.kp_bits.specs.{Word.word, Word.not_of, Word.mux_of, Word.slice_of, Operators.binary_of, Operators.joined_of, Operators.no_word}
use Rattle.kp_net.specs.declared.node.Kind.{Kind}
use Rattle.kp_net.specs.declared.node.Kind.TheVariants.{Const, Ext, Sample, Reg, Word, Not, Binary, Mux, Concat, Slice}
use Rattle.kp_net.specs.declared.node.Node.{Node}
use Rattle.kp_bits.specs.Word as bits

-- the cells that nodes read in a cycle: the stall word, the sample ports, the registers, and the words of the files
pub record Cells : Type 0 where
  pub ext : ℕ
  pub sample : ℕ → ℕ
  pub reg : ℕ → ℕ
  pub word : (file address : ℕ) → ℕ

-- the words of nodes, by their indices
abbrev pub Words : Type 0
Words = ℕ → bits.Word

-- what a node of this width and kind reads or computes, given the words w of the nodes before it
abbrev pub word_of_kind : Cells → Words → ℕ → Kind → bits.Word
word_of_kind c w k (Const n) = word k n
word_of_kind c w k Ext = word k c.ext
word_of_kind c w k (Sample s) = word k (c.sample s)
word_of_kind c w k (Reg r) = word k (c.reg r)
word_of_kind c w k (Word f a) = word k (c.word f (w a.0).value)
word_of_kind c w k (Not a) = not_of (w a.0)
word_of_kind c w k (Binary op a b) = binary_of op (w a.0) (w b.0)
word_of_kind c w k (Mux test a b) = mux_of (w test.0) (w a.0) (w b.0)
word_of_kind c w k (Concat parts) = joined_of (map (λ a. w a.0) parts)
word_of_kind c w k (Slice a hi lo) = slice_of (w a.0) hi lo

-- a number truncated to this many bits
abbrev pub cut : ℕ → ℕ → bits.Word
cut k n = word k (n % 2 ^ k)

-- the word of a node: it has the node's width, whatever the kind
abbrev pub word_of_node : Cells → Words → Node → bits.Word
word_of_node c w n = cut n.width (word_of_kind c w n.width n.kind).value

-- the words of a list of nodes, each computed from those before it
abbrev pub words_more : Cells → List bits.Word → Node → List bits.Word
words_more c known n = known ++ word_of_node c (λ i. get_or known i no_word) n ∷ []

abbrev pub words_of : Cells → List Node → List bits.Word
words_of c ns = fold (words_more c) [] ns

-- the word of node i, its value, and whether that is 1
unfoldable pub word_at : Cells → List Node → ℕ → bits.Word
word_at c ns i = get_or (words_of c ns) i no_word

unfoldable pub at : Cells → List Node → ℕ → ℕ
unfolding word_at
at c ns i = (word_at c ns i).value

unfoldable pub on : Cells → List Node → ℕ → Bool
on c ns i = at c ns i == 1
