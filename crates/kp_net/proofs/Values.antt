-- The words of nodes when nodes are added.
use Rattle.std.proofs.Common.{◌≡◌, ℕ, ◌+◌, ◌<◌, ◌≤◌, List, [], ◌∷◌, ◌++◌, fold, map, length, get_or, take, drop, refl, sym, subst, ap, ◌∙◌, arith, length-append, All, ◌^◌, ◌%◌, ◌==◌}
use Rattle.std.proofs.{Math.ListN.get_or-append, Math.Seq.get_or-append_seam, Math.Nat.mod-lt, lemmas.Nat.pow_pos}
use Rattle.std.proofs.lemmas.List.{take-append-drop, take_more, length-take-le, Sums.fold-append, Elements.All-head, Elements.All-tail}
use Rattle.kp_bits.specs.{Word.IsWord, Operators.no_word, Operators.binary_of, Operators.joined_of}
use Rattle.kp_bits.specs.Word as bits
use Rattle.kp_net.specs.declared.node.{NodeId.NodeId, Kind.Kind}
use Rattle.kp_net.specs.declared.node.Kind.TheVariants.{Const, Ext, Sample, Reg, Word, Not, Binary, Mux, Concat, Slice}
use Rattle.kp_net.specs.declared.node.Node.{Node}
use Rattle.kp_net.specs.Nodes.{Cells, Words, word_of_kind, word_of_node, words_more, words_of, word_at, at, on}
use Rattle.kp_net.specs.Widths.{wide, no_node, KindOk, NodeOk}

length_from : (c : Cells) (known : List bits.Word) (ns : List Node) → length (fold (words_more c) known ns) ≡ length known + length ns
length_from c known [] = omega arith
length_from c known (n ∷ ns) = length_from c (words_more c known n) ns ∙ omega (arith, length-append known (word_of_node c (λ i. get_or known i no_word) n ∷ []))

pub length_words : (c : Cells) (ns : List Node) → length (words_of c ns) ≡ length ns
length_words c ns = length_from c [] ns ∙ omega arith

front_from : (c : Cells) (known : List bits.Word) (ns : List Node) (i : ℕ) → i < length known → get_or (fold (words_more c) known ns) i no_word ≡ get_or known i no_word
front_from c known [] i h = refl
front_from c known (n ∷ ns) i h =
    let w : bits.Word = word_of_node c (λ j. get_or known j no_word) n in
    front_from c (words_more c known n) ns i (omega (arith, length-append known (w ∷ []))) ∙ get_or-append known (w ∷ []) no_word i h

-- nodes that come later change no word
pub word_front : (c : Cells) (ns ms : List Node) (i : ℕ) → i < length ns → word_at c (ns ++ ms) i ≡ word_at c ns i
unfolding word_at
word_front c ns ms i h = ap (λ (ws : List bits.Word). get_or ws i no_word) (fold-append (words_more c) [] ns ms) ∙ front_from c (words_of c ns) ms i (omega (arith, length_words c ns))

pub word_new : (c : Cells) (ns : List Node) (n : Node) → word_at c (ns ++ n ∷ []) (length ns) ≡ word_of_node c (word_at c ns) n
unfolding word_at
word_new c ns n =
    let w : bits.Word = word_of_node c (λ j. get_or (words_of c ns) j no_word) n in
    ap (λ (ws : List bits.Word). get_or ws (length ns) no_word) (fold-append (words_more c) [] ns (n ∷ []))
    ∙ ap (λ (k : ℕ). get_or (words_of c ns ++ w ∷ []) k no_word) (sym (length_words c ns)) ∙ get_or-append_seam (words_of c ns) w [] no_word

pub wide_front : (ns ms : List Node) (i : ℕ) → i < length ns → wide (ns ++ ms) i ≡ wide ns i
unfolding wide
wide_front ns ms i h = ap (λ (n : Node). n.width) (get_or-append ns ms no_node i h)

pub wide_new : (ns : List Node) (n : Node) → wide (ns ++ n ∷ []) (length ns) ≡ n.width
unfolding wide
wide_new ns n = ap (λ (x : Node). x.width) (get_or-append_seam ns n [] no_node)

-- a node's word depends on the words of its operands alone
parts_agree : (v w : Words) (m : ℕ) (parts : List NodeId) → All (λ a. a.0 < m) parts → ((j : ℕ) → j < m → v j ≡ w j) → map (λ a. v a.0) parts ≡ map (λ a. w a.0) parts
parts_agree v w m [] h e = refl
parts_agree v w m (a ∷ parts) h e =
    let x = e a.0 (All-head (λ b. b.0 < m) a parts h) in let y = parts_agree v w m parts (All-tail (λ b. b.0 < m) a parts h) e in
    λ i. x i ∷ y i

pub kind_agrees : (c : Cells) (ns : List Node) (m k : ℕ) (o : Kind) (v w : Words) → KindOk ns m k o → ((j : ℕ) → j < m → v j ≡ w j) → word_of_kind c v k o ≡ word_of_kind c w k o
kind_agrees c ns m k (Word f a) v w h e = ap (λ (x : bits.Word). bits.word k (c.word f x.value)) (e a.0 h)
kind_agrees c ns m k (Not a) v w h e = ap bits.not_of (e a.0 h.0)
kind_agrees c ns m k (Binary op a b) v w h e = let x = e a.0 h.0 in let y = e b.0 h.1 in λ i. binary_of op (x i) (y i)
kind_agrees c ns m k (Mux t a b) v w h e = let x = e t.0 h.0 in let y = e a.0 h.1 in let z = e b.0 h.2 in λ i. bits.mux_of (x i) (y i) (z i)
kind_agrees c ns m k (Concat parts) v w h e = ap joined_of (parts_agree v w m parts h.2 e)
kind_agrees c ns m k (Slice a hi lo) v w h e = ap (λ (x : bits.Word). bits.slice_of x hi lo) (e a.0 h.0)
kind_agrees c ns m k _ v w h e = refl

pub node_agrees : (c : Cells) (ns : List Node) (m : ℕ) (n : Node) (v w : Words) → NodeOk ns m n → ((j : ℕ) → j < m → v j ≡ w j) → word_of_node c v n ≡ word_of_node c w n
node_agrees c ns m n v w h e = ap (λ (x : bits.Word). bits.word n.width (x.value % 2 ^ n.width)) (kind_agrees c ns m n.width n.kind v w h.kind e)

-- the words of the first k nodes are those that they have in the complete list
pub word_in : (c : Cells) (ns : List Node) (k j : ℕ) → j < k → k ≤ length ns → word_at c (take k ns) j ≡ word_at c ns j
word_in c ns k j h l = sym (word_front c (take k ns) (drop k ns) j (omega (arith, length-take-le k ns l))) ∙ ap (λ (ms : List Node). word_at c ms j) (take-append-drop k ns)

-- each node is what it says of the nodes before it
pub word_step : (c : Cells) (ns : List Node) (i : ℕ) → i < length ns → word_at c ns i ≡ word_of_node c (word_at c (take i ns)) (get_or ns i no_node)
word_step c ns i h =
    let n : Node = get_or ns i no_node in
    let l : length (take i ns) ≡ i = length-take-le i ns (omega arith) in
    sym (word_in c ns (i + 1) i (omega arith) (omega arith))
    ∙ ap (λ (ms : List Node). word_at c ms i) (take_more ns i no_node h)
    ∙ ap (λ (k : ℕ). word_at c (take i ns ++ n ∷ []) k) (sym l)
    ∙ word_new c (take i ns) n

-- and, if it is well-formed, of the complete list
pub word_there : (c : Cells) (ns : List Node) (i : ℕ) → i < length ns → NodeOk ns i (get_or ns i no_node) → word_at c ns i ≡ word_of_node c (word_at c ns) (get_or ns i no_node)
word_there c ns i h ok = word_step c ns i h ∙ node_agrees c ns i (get_or ns i no_node) (word_at c (take i ns)) (word_at c ns) ok (λ j l. word_in c ns i j l (omega arith))

-- a word has the width of its node, and fits it
pub word_wide : (c : Cells) (ns : List Node) (i : ℕ) → i < length ns → (word_at c ns i).width ≡ wide ns i
unfolding wide
word_wide c ns i h = ap (λ (w : bits.Word). w.width) (word_step c ns i h)

pub at_fits : (c : Cells) (ns : List Node) (i : ℕ) → i < length ns → at c ns i < 2 ^ wide ns i
unfolding at wide
at_fits c ns i h =
    let n : Node = get_or ns i no_node in
    let v : ℕ = (word_of_kind c (word_at c (take i ns)) n.width n.kind).value in
    let P : bits.Word → Type 0 = λ w. w.value < 2 ^ n.width in subst P (sym (word_step c ns i h)) (mod-lt v (pow_pos n.width))

pub word_is : (c : Cells) (ns : List Node) (i : ℕ) → i < length ns → word_at c ns i ≡ bits.word (wide ns i) (at c ns i)
unfolding at
word_is c ns i h = let x = word_wide c ns i h in λ j. record { width = x j; value = (word_at c ns i).value }

-- the same of values and tests
pub at_front : (c : Cells) (ns ms : List Node) (i : ℕ) → i < length ns → at c (ns ++ ms) i ≡ at c ns i
unfolding at
at_front c ns ms i h = ap (λ (w : bits.Word). w.value) (word_front c ns ms i h)

pub on_front : (c : Cells) (ns ms : List Node) (i : ℕ) → i < length ns → on c (ns ++ ms) i ≡ on c ns i
unfolding on
on_front c ns ms i h = ap (λ (n : ℕ). n == 1) (at_front c ns ms i h)
