-- The lists of lines, each as the texts of its items.
use Rattle.std.proofs.Common.{◌≡◌, ◌∙◌, ℕ, ◌+◌, ◌-◌, ◌<◌, ◌≤◌, List, [], ◌∷◌, ◌++◌, length, get_or, take, drop, arith, refl, sym, ap, append_assoc, ◌≢◌, ◌==◌, ne_eqb}
use Rattle.std.{proofs.lemmas.List.take_all, proofs.lemmas.Bool.cond-false, specs.Prelude.codes, specs.Prelude.decimal, specs.Prelude.flat_map}
use Rattle.kp_bits.specs.{Spelling.spelling, Word.word}
use Rattle.kp_net.specs.declared.{node.NodeId.NodeId, node.Node.Node, netlist.Port.Port, netlist.NetReg.NetReg, netlist.NetFile.NetFile, netlist.Parts.Parts}
use Rattle.kp_vlog.specs.Canon.{text_of, joined, more_parts, wire, sample_ports, reg_lines, file_lines, node_lines, start_lines, word_line, word_lines, fill_lines, update_lines, port_line, port_lines, reset_lines}
use Rattle.kp_vwrite.specs.Texts.{ranged_text, sample_text, samples_text, reg_text, regs_text, file_text, files_text, front_text, right_text, nodes_text, part_text, parts_text, joined_text, value_text, values_text, fill_text, word_text, words_text, contents_text, fills_text, update_text, updates_text, port_text, ports_text}

pub text_append : (ps qs : List (List ℕ)) → text_of (ps ++ qs) ≡ text_of ps ++ text_of qs
text_append [] qs = refl
text_append (p ∷ ps) qs = ap (λ t. p ++ t) (text_append ps qs) ∙ sym (append_assoc p (text_of ps) (text_of qs))

each_is : {X : Type 0} (f : X → List ℕ) (lines : List X → List (List ℕ)) → lines [] ≡ [] → ((x : X) (xs : List X) → text_of (lines (x ∷ xs)) ≡ f x ++ text_of (lines xs))
    → (xs : List X) → text_of (lines xs) ≡ flat_map f xs
each_is f lines none more [] = ap text_of none
each_is f lines none more (x ∷ xs) = more x xs ∙ ap (λ t. f x ++ t) (each_is f lines none more xs)

pub samples_are : (ss : List Port) → text_of (sample_ports ss) ≡ samples_text ss
unfolding ranged_text
samples_are = each_is sample_text sample_ports refl (λ s ss. simp append_assoc)

pub regs_are : (rs : List NetReg) → text_of (reg_lines rs) ≡ regs_text rs
unfolding ranged_text
regs_are = each_is reg_text reg_lines refl (λ r rs. simp append_assoc)

pub files_are : (fs : List NetFile) → text_of (file_lines fs) ≡ files_text fs
unfolding file_text
files_are = each_is file_text file_lines refl (λ f fs. simp append_assoc)

pub nodes_are : (p : Parts) (j : ℕ) (ns : List Node) → text_of (node_lines p j ns) ≡ nodes_text p j ns
unfolding front_text right_text
nodes_are p j [] = refl
nodes_are p j (n ∷ ns) = simp (text_append, append_assoc, nodes_are p (j + 1) ns)

parts_are : (parts : List NodeId) → text_of (more_parts parts) ≡ parts_text parts ++ codes "}"
unfolding part_text
parts_are [] = refl
parts_are (a ∷ parts) = ap (λ t. codes ", " ++ (wire a ++ t)) (parts_are parts) ∙ sym (append_assoc (part_text a) (parts_text parts) (codes "}"))

abbrev pub no_id : NodeId
no_id = record { 0 = 0 }

pub joined_at : (parts : List NodeId) → 1 ≤ length parts
    → joined_text parts ≡ (codes "{n" ++ decimal (get_or parts 0 no_id).0) ++ (parts_text (take (length parts - 1) (drop 1 parts)) ++ codes "}")
unfolding joined_text
joined_at [] h = absurd (omega arith)
joined_at (a ∷ parts) h =
    ap (λ t. codes "{" ++ (wire a ++ t)) (parts_are parts)
    ∙ ap (λ (t : List NodeId). (codes "{n" ++ decimal a.0) ++ (parts_text t ++ codes "}")) (sym (take_all (length (a ∷ parts) - 1) parts (omega arith)))

pub joined_none : (parts : List NodeId) → length parts < 1 → joined_text parts ≡ codes "{}"
unfolding joined_text
joined_none [] h = refl
joined_none (a ∷ parts) h = absurd (omega arith)

pub starts_are : (rs : List NetReg) → text_of (start_lines rs) ≡ values_text (codes "    ") (codes " = ") rs
unfolding value_text
starts_are = each_is (value_text (codes "    ") (codes " = ")) start_lines refl (λ r rs. simp append_assoc)

pub resets_are : (rs : List NetReg) → text_of (reset_lines rs) ≡ values_text (codes "      ") (codes " <= ") rs
unfolding value_text
resets_are = each_is (value_text (codes "      ") (codes " <= ")) reset_lines refl (λ r rs. simp append_assoc)

words_are : (name : List ℕ) (width a : ℕ) (vs : List ℕ) → text_of (word_lines name width a vs) ≡ words_text name width a vs
unfolding word_text
words_are name width a [] = refl
words_are name width a (v ∷ vs) = text_append (word_line name width a v) (word_lines name width (a + 1) vs) ∙ ap (λ t. word_text name width a v ++ t) (words_are name width (a + 1) vs)

word_split : (n d s : List ℕ) → (codes "    " ++ (n ++ (codes "[" ++ (d ++ codes "] = ")))) ++ (s ++ codes ";\n") ≡ codes "    " ++ (n ++ (codes "[" ++ (d ++ (codes "] = " ++ (s ++ codes ";\n")))))
word_split n d s = simp append_assoc

-- a word that isn't 0, in the parts that are written
pub word_is : (name : List ℕ) (width a v : ℕ) → v ≢ 0
    → (codes "    " ++ (name ++ (codes "[" ++ (decimal a ++ codes "] = ")))) ++ (spelling (word width v) ++ codes ";\n") ≡ word_text name width a v
unfolding word_text
word_is name width a v some =
    word_split name (decimal a) (spelling (word width v))
    ∙ ap text_of (sym (cond-false (v == 0) [] (codes "    " ∷ name ∷ codes "[" ∷ decimal a ∷ codes "] = " ∷ spelling (word width v) ∷ codes ";\n" ∷ []) (ne_eqb v 0 some)))

pub fills_are : (fs : List NetFile) → text_of (fill_lines fs) ≡ fills_text fs
unfolding fill_text
fills_are = each_is contents_text fill_lines refl (λ f fs. simp (text_append, words_are f.name f.width 0 f.words, append_assoc))

pub updates_are : (margin : List ℕ) (rs : List NetReg) → text_of (update_lines margin rs) ≡ updates_text margin rs
unfolding update_text
updates_are margin = each_is (update_text margin) (update_lines margin) refl (λ r rs. simp append_assoc)

pub ports_are : (margin : List ℕ) (fs : List NetFile) → text_of (port_lines margin fs) ≡ ports_text margin fs
unfolding port_text
ports_are margin = each_is (port_text margin) (port_lines margin) refl (λ f fs. text_append (port_line margin f.name f.port) (port_lines margin fs))

-- the right side of a concatenation, and the end of the line
pub concat_is : (parts : List NodeId) → joined_text parts ++ codes ";\n" ≡ text_of (joined parts ++ (codes ";\n" ∷ []))
unfolding joined_text
concat_is parts = sym (text_append (joined parts) (codes ";\n" ∷ []))
