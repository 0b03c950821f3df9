-- A canonical text contains no `/`.
use Rattle.std.proofs.Common.{◌≡◌, ◌∙◌, ℕ, zero, suc, ◌+◌, ◌-◌, ◌^◌, ◌/◌, ◌%◌, ◌<◌, ◌==◌, Bool, true, false, cond, not, List, [], ◌∷◌, ◌++◌, get_or, map, refl, ap, subst, arith, Option, Some, None}
use Rattle.std.proofs.lemmas.{Bool.and_from, List.Folds.list_all-append, Bool.eqb-true}
use Rattle.std.specs.{Prelude.All, Prelude.codes, Prelude.decimal, Prelude.nat_lt, List.list_all, Char.digit_char, Fmt.digit_glyph, Fmt.digits_onto, Fmt.digits, Int.Digits.digits_of}
use Rattle.kp_bits.specs.{Word.word, Spelling.spelling, Spelling.hex_digits, Spelling.quarters, declared.operator.BinOp.BinOp}
use Rattle.kp_net.specs.declared.node.{Kind.Kind, Node.Node, NodeId.NodeId}
use Rattle.kp_net.specs.declared.node.Kind.TheVariants.{Const, Ext, Sample, Reg, Word, Not, Binary, Mux, Concat, Slice}
use Rattle.kp_net.specs.declared.netlist.{Port.Port, WritePort.WritePort, NetReg.NetReg, NetFile.NetFile, Parts.Parts}
use Rattle.kp_net.specs.{Names.IsNamed, Names.IsSpelled, Names.is_in_identifier, Netlist.Net, Widths.wide, Parts.no_port, Parts.no_reg, Parts.no_file}
use Rattle.kp_vlog.specs.Canon.{Pieces, text_of, wire_name, sign, more_parts, right_side, reset_port, sample_ports, header, reg_lines, file_lines, integer_line, node_lines, out_line, start_lines, word_line, word_lines, fill_lines, update_lines, port_line, port_lines, change_lines, reset_lines, body_lines, pieces, canon}

abbrev pub is_other : ℕ → Bool
is_other b = not (b == 47)

abbrev pub Free : List ℕ → Type 0
Free text = list_all is_other text ≡ true

both : (xs ys : List ℕ) → Free xs → Free ys → Free (xs ++ ys)
both xs ys h k = list_all-append is_other xs ys ∙ and_from (list_all is_other xs) (list_all is_other ys) h k

abbrev AllFree : Pieces → Type 0
AllFree [] = Unit {0}
AllFree (p ∷ ps) = Free p × AllFree ps

free_text : (ps : Pieces) → AllFree ps → Free (text_of ps)
free_text [] h = refl
free_text (p ∷ ps) h = both p (text_of ps) h.0 (free_text ps h.1)

all_both : (ps qs : Pieces) → AllFree ps → AllFree qs → AllFree (ps ++ qs)
all_both [] qs h k = k
all_both (p ∷ ps) qs h k = (h.0, all_both ps qs h.1 k)

-- ---- digits, which are from 48 on

above : (b : ℕ) (t : Bool) → (b == 47) ≡ t → 48 < b + 1 → is_other b ≡ true
above b true e h = let is : b ≡ 47 = eqb-true b 47 e in absurd (omega (arith, is, h))
above b false e h = ap not e

digit_from : (d : ℕ) (t : Bool) → nat_lt d 10 ≡ t → is_other (cond t (48 + d) (87 + d)) ≡ true
digit_from d true e = above (48 + d) (48 + d == 47) refl (omega arith)
digit_from d false e = above (87 + d) (87 + d == 47) refl (omega arith)

either : (t : Bool) (xs ys : List ℕ) → Free xs → Free ys → Free (cond t xs ys)
either true xs ys h k = h
either false xs ys h k = k

digits_free : (k n : ℕ) (acc : List ℕ) → Free acc → Free (digits_onto k 10 false n acc)
digits_free zero n acc h = h
digits_free (suc k) n acc h =
    let digit : ℕ = digit_glyph false (n % 10) in
    let more : Free (digit ∷ acc) = and_from (is_other digit) (list_all is_other acc) (digit_from (n % 10) (nat_lt (n % 10) 10) refl) h in
    either (n / 10 == 0) (digit ∷ acc) (digits_onto k 10 false (n / 10) (digit ∷ acc)) more (digits_free k (n / 10) (digit ∷ acc) more)

number : (n : ℕ) → Free (decimal n)
unfolding digits
number n = digits_free 64 n [] refl

chars_free : (ds : List ℕ) → Free (map digit_char ds)
chars_free [] = refl
chars_free (d ∷ ds) = and_from (is_other (digit_char d)) (list_all is_other (map digit_char ds)) (digit_from d (nat_lt d 10) refl) (chars_free ds)

hex_free : (count n : ℕ) → Free (hex_digits count n)
hex_free zero n = refl
hex_free (suc count) n =
    let d = n / 16 ^ count % 16 in
    and_from (is_other (digit_char d)) (list_all is_other (hex_digits count n)) (digit_from d (nat_lt d 10) refl) (hex_free count n)

literal : (width value : ℕ) → Free (spelling (word width value))
literal width value =
    let w = word width value in
    let hex : List ℕ = hex_digits (quarters w.width) w.value in
    both (map digit_char (digits_of 10 w.width)) (codes "'h" ++ hex) (chars_free (digits_of 10 w.width)) (both (codes "'h") hex refl (hex_free (quarters w.width) w.value))

-- ---- names

off : (b : ℕ) (t : Bool) → (b == 47) ≡ t → is_in_identifier b ≡ true → is_other b ≡ true
off b false e h = ap not e
off b true e h = let is : b ≡ 47 = eqb-true b 47 e in absurd (cc (subst (λ (x : ℕ). is_in_identifier x ≡ true) is h))

in_name : (bs : List ℕ) → All (λ b. is_in_identifier b ≡ true) bs → Free bs
in_name [] h = refl
in_name (b ∷ bs) h = and_from (is_other b) (list_all is_other bs) (off b (b == 47) refl (h 0 b (omega arith))) (in_name bs (λ k d l. h (suc k) d (omega (arith, l))))

wire_free : (j : ℕ) → Free (wire_name j)
wire_free j = both (codes "n") (decimal j) refl (number j)

-- the names of the parts of one kind
module _ {X : Type 0} (name : X → List ℕ) where
  abbrev pub Named : List X → Type 0
  Named xs = All (λ (x : X). Free (name x)) xs

  spelled : (test : List ℕ → Bool) (xs : List X) → All (IsSpelled test) (map name xs) → Named xs
  spelled test [] h k d l = absurd (omega (arith, l))
  spelled test (x ∷ xs) h zero d l = in_name (name x) (h 0 (name x) (omega arith)).bytes
  spelled test (x ∷ xs) h (suc k) d l = spelled test xs (λ i e m. h (suc i) e (omega (arith, m))) k d (omega (arith, l))

  -- lines for each
  each : (lines : List X → Pieces) → AllFree (lines []) → ((x : X) (xs : List X) → Free (name x) → AllFree (lines xs) → AllFree (lines (x ∷ xs))) → (xs : List X) → Named xs → AllFree (lines xs)
  each lines none one [] h = none
  each lines none one (x ∷ xs) h = one x xs (h 0 x (omega arith)) (each lines none one xs (λ k d l. h (suc k) d (omega (arith, l))))

  at_any : (xs : List X) (d : X) → Named xs → Free (name d) → (i : ℕ) → Free (name (get_or xs i d))
  at_any [] d h k i = k
  at_any (x ∷ xs) d h k zero = h 0 x (omega arith)
  at_any (x ∷ xs) d h k (suc i) = at_any xs d (λ j e l. h (suc j) e (omega (arith, l))) k i

record AllNamed (p : Parts) : Type 0 where
  pub module_name : Free p.name
  pub samples : Named (λ (s : Port). s.name) p.samples
  pub regs : Named (λ (r : NetReg). r.name) p.regs
  pub files : Named (λ (f : NetFile). f.name) p.files

-- ---- the lines

samples_free : (ss : List Port) → Named (λ (s : Port). s.name) ss → AllFree (sample_ports ss)
samples_free = each (λ (s : Port). s.name) sample_ports tt (λ s ss n rest. (refl, (number (s.width - 1), (refl, (n, (refl, rest))))))

reset_free : (b : Bool) → AllFree (reset_port b)
reset_free true = (refl, tt)
reset_free false = tt

header_free : (ns : List Node) (p : Parts) → AllNamed p → AllFree (header ns p)
header_free ns p n = (
  refl,
  (
    n.module_name,
    (
      refl,
      all_both (reset_port p.reset) _ (reset_free p.reset) (
        refl,
        (
          number (p.ext - 1),
          (
            refl,
            all_both (sample_ports p.samples) _ (samples_free p.samples n.samples)
                (refl, (number (wide ns p.full.0 - 1), (refl, (number (wide ns p.ue.0 - 1), (refl, (number (wide ns p.back.0 - 1), (refl, tt))))))),
          ),
        ),
      ),
    ),
  ),
)

regs_free : (rs : List NetReg) → Named (λ (r : NetReg). r.name) rs → AllFree (reg_lines rs)
regs_free = each (λ (r : NetReg). r.name) reg_lines tt (λ r rs n rest. (refl, (number (r.start.width - 1), (refl, (n, (refl, rest))))))

files_free : (fs : List NetFile) → Named (λ (f : NetFile). f.name) fs → AllFree (file_lines fs)
files_free = each (λ (f : NetFile). f.name) file_lines tt (λ f fs n rest. (refl, (number (f.width - 1), (refl, (n, (refl, (number (2 ^ f.address_width - 1), (refl, rest))))))))

integer_free : (fs : List NetFile) → AllFree (integer_line fs)
integer_free [] = tt
integer_free (f ∷ fs) = (refl, tt)

sign_free : (op : BinOp) → Free (sign op)
sign_free BinOp.Add = refl
sign_free BinOp.Sub = refl
sign_free BinOp.Mul = refl
sign_free BinOp.Shl = refl
sign_free BinOp.Shr = refl
sign_free BinOp.Lt = refl
sign_free BinOp.Eq = refl
sign_free BinOp.And = refl
sign_free BinOp.Xor = refl
sign_free BinOp.Or = refl

more_free : (parts : List NodeId) → AllFree (more_parts parts)
more_free [] = (refl, tt)
more_free (a ∷ parts) = (refl, (wire_free a.0, more_free parts))

right_free : (p : Parts) → AllNamed p → (k : ℕ) (kind : Kind) → AllFree (right_side p k kind)
right_free p n k (Const v) = (literal k v, tt)
right_free p n k Ext = (refl, tt)
right_free p n k (Sample s) = (at_any (λ (s : Port). s.name) p.samples no_port n.samples refl s, tt)
right_free p n k (Reg r) = (at_any (λ (r : NetReg). r.name) p.regs no_reg n.regs refl r, tt)
right_free p n k (Word f a) = (at_any (λ (f : NetFile). f.name) p.files no_file n.files refl f, (refl, (wire_free a.0, (refl, tt))))
right_free p n k (Not a) = (refl, (wire_free a.0, tt))
right_free p n k (Binary op a b) = (wire_free a.0, (sign_free op, (wire_free b.0, tt)))
right_free p n k (Mux test a b) = (wire_free test.0, (refl, (wire_free a.0, (refl, (wire_free b.0, tt)))))
right_free p n k (Concat []) = (refl, tt)
right_free p n k (Concat (a ∷ parts)) = (refl, (wire_free a.0, more_free parts))
right_free p n k (Slice a hi lo) = (wire_free a.0, (refl, (number hi, (refl, (number lo, (refl, tt))))))

nodes_free : (p : Parts) → AllNamed p → (j : ℕ) (ns : List Node) → AllFree (node_lines p j ns)
nodes_free p n j [] = tt
nodes_free p n j (x ∷ ns) = (
  refl,
  (
    number (x.width - 1),
    (
      refl,
      (
        wire_free j,
        (
          refl,
          (
            wire_free j,
            (
              refl,
              all_both (right_side p x.width x.kind) _ (right_free p n x.width x.kind) (refl, nodes_free p n (j + 1) ns),
            ),
          ),
        ),
      ),
    ),
  ),
)

starts_free : (rs : List NetReg) → Named (λ (r : NetReg). r.name) rs → AllFree (start_lines rs)
starts_free = each (λ (r : NetReg). r.name) start_lines tt (λ r rs n rest. (refl, (n, (refl, (literal r.start.width r.start.value, (refl, rest))))))

word_free : (name : List ℕ) (k a v : ℕ) (t : Bool) → Free name → AllFree (cond t [] (codes "    " ∷ name ∷ codes "[" ∷ decimal a ∷ codes "] = " ∷ spelling (word k v) ∷ codes ";\n" ∷ []))
word_free name k a v true n = tt
word_free name k a v false n = (refl, (n, (refl, (number a, (refl, (literal k v, (refl, tt)))))))

words_free : (name : List ℕ) (k a : ℕ) (vs : List ℕ) → Free name → AllFree (word_lines name k a vs)
words_free name k a [] n = tt
words_free name k a (v ∷ vs) n = all_both (word_line name k a v) _ (word_free name k a v (v == 0) n) (words_free name k (a + 1) vs n)

fills_free : (fs : List NetFile) → Named (λ (f : NetFile). f.name) fs → AllFree (fill_lines fs)
fills_free = each (λ (f : NetFile). f.name) fill_lines tt (λ f fs n rest. (
  refl,
  (
    number (2 ^ f.address_width),
    (
      refl,
      (
        n,
        (
          refl,
          (
            literal f.width 0,
            (
              refl,
              all_both (word_lines f.name f.width 0 f.words) _ (words_free f.name f.width 0 f.words n) rest,
            ),
          ),
        ),
      ),
    ),
  ),
))

module _ (margin : List ℕ) (blank : Free margin) where
  updates_free : (rs : List NetReg) → Named (λ (r : NetReg). r.name) rs → AllFree (update_lines margin rs)
  updates_free = each (λ (r : NetReg). r.name) (update_lines margin) tt (λ r rs n rest. (blank, (n, (refl, (wire_free r.next.0, (refl, rest))))))

  port_free : (name : List ℕ) (w : Option WritePort) → Free name → AllFree (port_line margin name w)
  port_free name None n = tt
  port_free name (Some w) n = (blank, (refl, (wire_free w.enable.0, (refl, (n, (refl, (wire_free w.address.0, (refl, (wire_free w.value.0, (refl, tt))))))))))

  ports_free : (fs : List NetFile) → Named (λ (f : NetFile). f.name) fs → AllFree (port_lines margin fs)
  ports_free = each (λ (f : NetFile). f.name) (port_lines margin) tt (λ f fs n rest. all_both (port_line margin f.name f.port) _ (port_free f.name f.port n) rest)

  changes_free : (p : Parts) → AllNamed p → AllFree (change_lines margin p)
  changes_free p n = all_both (update_lines margin p.regs) _ (updates_free p.regs n.regs) (ports_free p.files n.files)

resets_free : (rs : List NetReg) → Named (λ (r : NetReg). r.name) rs → AllFree (reset_lines rs)
resets_free = each (λ (r : NetReg). r.name) reset_lines tt (λ r rs n rest. (refl, (n, (refl, (literal r.start.width r.start.value, (refl, rest))))))

body_free : (reset : Bool) (p : Parts) → AllNamed p → AllFree (body_lines reset p)
body_free false p n = changes_free (codes "    ") refl p n
body_free true p n =
    (refl, all_both (reset_lines p.regs) _ (resets_free p.regs n.regs) (refl, all_both (change_lines (codes "      ") p) _ (changes_free (codes "      ") refl p n) (refl, tt)))

out_free : (port : List ℕ) (a : NodeId) → Free port → AllFree (out_line port a)
out_free port a n = (refl, (n, (refl, (wire_free a.0, (refl, tt)))))

all_named : (net : Net) → IsNamed net → AllNamed net.parts
all_named net n = record {
  module_name = in_name net.parts.name n.name.bytes;
  samples = spelled (λ (s : Port). s.name) _ net.parts.samples n.samples;
  regs = spelled (λ (r : NetReg). r.name) _ net.parts.regs n.regs;
  files = spelled (λ (f : NetFile). f.name) _ net.parts.files n.files;
}

pub canon_free : (net : Net) → IsNamed net → Free (canon net)
unfolding canon
canon_free net named =
    let p : Parts = net.parts in
    let n : AllNamed p = all_named net named in
    let close : Pieces = codes "  end\nendmodule\n" ∷ [] in
    let clock : Pieces = codes "  end\n  always @(posedge clk) begin\n" ∷ (body_lines p.reset p ++ close) in
    let start : Pieces = codes "  initial begin\n" ∷ (start_lines p.regs ++ (fill_lines p.files ++ clock)) in
    let clock_free : AllFree clock = (refl, all_both (body_lines p.reset p) close (body_free p.reset p n) (refl, tt)) in
    let start_free : AllFree start =
    (refl, all_both (start_lines p.regs) (fill_lines p.files ++ clock) (starts_free p.regs n.regs) (all_both (fill_lines p.files) clock (fills_free p.files n.files) clock_free)) in
    let back : Pieces = out_line (codes "back") p.back ++ start in
    let ue : Pieces = out_line (codes "ue") p.ue ++ back in
    let outs_free : AllFree (out_line (codes "full") p.full ++ ue) =
    all_both (out_line (codes "full") p.full) ue (out_free (codes "full") p.full refl) (all_both (out_line (codes "ue") p.ue) back (out_free (codes "ue") p.ue refl)
    (all_both (out_line (codes "back") p.back) start (out_free (codes "back") p.back refl) start_free)) in
    free_text (pieces net) (all_both (header net.nodes p) _ (header_free net.nodes p n) (all_both (reg_lines p.regs) _ (regs_free p.regs n.regs)
    (all_both (file_lines p.files) _ (files_free p.files n.files) (all_both (integer_line p.files) _ (integer_free p.files)
    (all_both (node_lines p 0 net.nodes) _ (nodes_free p n 0 net.nodes) outs_free)))))
