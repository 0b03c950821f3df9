-- The tokens of a netlist are a sentence, and it builds a module that represents the netlist.
use Rattle.std.proofs.Common.{◌≡◌, ◌∙◌, ℕ, zero, suc, ◌+◌, ◌-◌, ◌^◌, ◌≤◌, List, [], ◌∷◌, ◌++◌, ◌⊎◌, inl, inr, length, get_or, Bool, true, false, cond, Option, Some, None, refl, sym, subst, arith, append_assoc, append-nil}
use Rattle.std.{proofs.lemmas.Bool.false≢true, specs.Prelude.codes, specs.Prelude.◌==◌}
use Rattle.kp_grammar.specs.{Grammar.Nonterminal, Grammar.Action, Grammar.stay, Machine.advance}
use Rattle.kp_grammar.proofs.Steps.{Completes, CompletesFrom, went}
use Rattle.kp_bits.specs.{Word.word, declared.operator.BinOp.BinOp}
use Rattle.kp_net.specs.declared.{node.NodeId.NodeId, node.Kind.Kind, node.Node.Node, netlist.Port.Port, netlist.WritePort.WritePort, netlist.NetReg.NetReg}
use Rattle.kp_net.specs.{declared.netlist.NetFile.NetFile, declared.netlist.Parts.Parts, Netlist.Net, Parts.no_port, Parts.no_reg, Parts.no_file}
use Rattle.kp_net.specs.Widths.{wide, KindOk}
use Rattle.kp_net.specs.declared.node.Kind.TheVariants as kinds
use Rattle.kp_vlog.specs.declared.token.Keyword.TheVariants as keywords
use Rattle.kp_vlog.specs.declared.token.Mark.TheVariants as marks
use Rattle.kp_vlog.specs.Words.{operator_mark}
use Rattle.kp_vlog.specs.Language.{Value, Sym, make_concat, MODULE, SAMPLES, ITEMS, RIGHT, NAMES, INITS, BODY, VALUES, UPDATES, verilog}
use Rattle.kp_vlog.proofs.Words.{port_words, each_words, reset_words, sample_words, outs_words, reg_words, file_words, integer_words, more_words, joined_words, right_words, node_words, out_words, start_words, content_words, fill_words, update_words, write_words, writes_words, value_words, body_words, w1, w2, w3, w4, w5, w6, w7, w8, net_words}
use Rattle.kp_vlog.specs.declared.tree.{Num.Num, Lit.Lit, Named.Named, Range.Range, VPort.VPort, Right.Right, Item.Item, Fill.Fill, Init.Init}
use Rattle.kp_vlog.specs.declared.tree.{ResetValue.ResetValue, ResetList.ResetList, Update.Update, VModule.VModule}
use Rattle.kp_vlog.specs.{Tokens.Word, Tokens.Token, Tokens.name, Tokens.number, Tokens.literal, Tokens.keyword, Tokens.mark, inner.Follow.tables}
use Rattle.kp_vlog.{specs.Canon.wire, specs.Canon.wire_name, proofs.Lex.placed, proofs.Runs.literal_for, proofs.Written.RightFrom}
use Rattle.kp_vlog.specs.declared.tree.Right.TheVariants as sides
use Rattle.kp_vlog.specs.declared.tree.Item.TheVariants as lines
use Rattle.kp_vlog.specs.declared.tree.Init.TheVariants as starts
use Rattle.kp_vlog.specs.declared.tree.Update.TheVariants as edges
use Rattle.kp_vlog.specs.Language as lang

-- a supply of offsets further on
abbrev pub shift : ℕ → (ℕ → ℕ) → ℕ → ℕ
shift zero p = p
shift (suc n) p = shift n (λ k. p (suc k))

abbrev pub named_at : List ℕ → ℕ → Named
named_at n a = record { name = n; at = a }

abbrev pub number_at : ℕ → ℕ → Num
number_at n a = record { value = n; at = a }

abbrev pub range_at : ℕ → ℕ → ℕ → Range
range_at w a b = record { high = number_at (w - 1) a; low = number_at 0 b }

abbrev pub literal_at : ℕ → ℕ → ℕ → Lit
literal_at w v a = record { literal = literal_for (word w v); at = a }

abbrev pub port_at : ℕ → List ℕ → ℕ → ℕ → ℕ → VPort
port_at w n a b c = record { range = range_at w a b; port = named_at n c }

-- Parts of a module that represent parts of a netlist, at any offsets.
pub data ShowsNames : List NodeId → List Named → Type 0 where
  no_name : ShowsNames [] []
  a_name : {a : NodeId} {parts : List NodeId} {xs : List Named} (at : ℕ) → ShowsNames parts xs → ShowsNames (a ∷ parts) (named_at (wire a) at ∷ xs)

pub data ShowsRight (p : Parts) (k : ℕ) : Kind → Right → Type 0 where
  a_const : {v : ℕ} (a : ℕ) → ShowsRight p k (kinds.Const v) (sides.Literal (literal_at k v a))
  an_ext : (a : ℕ) → ShowsRight p k kinds.Ext (sides.Name (named_at (codes "ext") a))
  a_sample : {i : ℕ} (a : ℕ) → ShowsRight p k (kinds.Sample i) (sides.Name (named_at (get_or p.samples i no_port).name a))
  a_reg : {i : ℕ} (a : ℕ) → ShowsRight p k (kinds.Reg i) (sides.Name (named_at (get_or p.regs i no_reg).name a))
  a_word : {i : ℕ} {n : NodeId} (a b : ℕ) → ShowsRight p k (kinds.Word i n) (sides.Word (named_at (get_or p.files i no_file).name a) (named_at (wire n) b))
  a_not : {n : NodeId} (a : ℕ) → ShowsRight p k (kinds.Not n) (sides.Not (named_at (wire n) a))
  a_binary : {op : BinOp} {n m : NodeId} (a b : ℕ) → ShowsRight p k (kinds.Binary op n m) (sides.Binary op (named_at (wire n) a) (named_at (wire m) b))
  a_mux : {t n m : NodeId} (a b c : ℕ) → ShowsRight p k (kinds.Mux t n m) (sides.Choice (named_at (wire t) a) (named_at (wire n) b) (named_at (wire m) c))
  a_concat : {parts : List NodeId} {xs : List Named} → ShowsNames parts xs → ShowsRight p k (kinds.Concat parts) (sides.Concat xs)
  a_slice : {n : NodeId} {hi lo : ℕ} (a b c : ℕ) → ShowsRight p k (kinds.Slice n hi lo) (sides.Slice (named_at (wire n) a) (number_at hi b) (number_at lo c))

-- each part is represented by what `make` makes of it, at some offsets
pub data ShowsEach {X Y : Type 0} (make : X → (ℕ → ℕ) → Y) : List X → List Y → Type 0 where
  none_shown : ShowsEach make [] []
  one_shown : {x : X} {xs : List X} {ys : List Y} (p : ℕ → ℕ) → ShowsEach make xs ys → ShowsEach make (x ∷ xs) (make x p ∷ ys)

abbrev pub sample_port : Port → (ℕ → ℕ) → VPort
sample_port s p = port_at s.width s.name (p 3) (p 5) (p 7)

abbrev pub reg_item : NetReg → (ℕ → ℕ) → Item
reg_item r p = lines.Reg (range_at r.start.width (p 2) (p 4)) (named_at r.name (p 6))

abbrev pub file_item : NetFile → (ℕ → ℕ) → Item
file_item f p = lines.File (range_at f.width (p 2) (p 4)) (named_at f.name (p 6)) (record { high = number_at 0 (p 8); low = number_at (2 ^ f.address_width - 1) (p 10) })

abbrev pub reg_start : NetReg → (ℕ → ℕ) → Init
reg_start r p = starts.Reg (named_at r.name (p 0)) (record { literal = literal_for r.start; at = p 2 })

abbrev pub reset_value : NetReg → (ℕ → ℕ) → ResetValue
reset_value r p = record { name = named_at r.name (p 0); value = record { literal = literal_for r.start; at = p 2 } }

abbrev pub reg_update : NetReg → (ℕ → ℕ) → Update
reg_update r p = edges.Reg (named_at r.name (p 0)) (named_at (wire r.next) (p 2))

pub data ShowsInteger : List NetFile → List Item → Type 0 where
  no_integer : ShowsInteger [] []
  an_integer : {f : NetFile} {fs : List NetFile} (a : ℕ) → ShowsInteger (f ∷ fs) (lines.Integer (named_at (codes "i") a) ∷ [])

pub data ShowsNodes (p : Parts) : ℕ → List Node → List Item → Type 0 where
  no_node_line : {j : ℕ} → ShowsNodes p j [] []
  node_line : {j : ℕ} {n : Node} {ns : List Node} {r : Right} {xs : List Item} (a b c d : ℕ) → ShowsRight p n.width n.kind r → ShowsNodes p (j + 1) ns xs
      → ShowsNodes p j (n ∷ ns) (lines.Wire (range_at n.width a b) (named_at (wire_name j) c) ∷ lines.Assign (named_at (wire_name j) d) r ∷ xs)

abbrev pub out_at : List ℕ → NodeId → ℕ → ℕ → Item
out_at out n a b = lines.Assign (named_at out a) (sides.Name (named_at (wire n) b))

-- the words from an address on that are not 0
pub data ShowsWords (n : List ℕ) (w : ℕ) : ℕ → List ℕ → List Init → Type 0 where
  no_words : {i : ℕ} → ShowsWords n w i [] []
  zero_word : {i v : ℕ} {vs : List ℕ} {xs : List Init} → (v == 0) ≡ true → ShowsWords n w (i + 1) vs xs → ShowsWords n w i (v ∷ vs) xs
  some_word : {i v : ℕ} {vs : List ℕ} {xs : List Init} (a b c : ℕ) → (v == 0) ≡ false → ShowsWords n w (i + 1) vs xs
      → ShowsWords n w i (v ∷ vs) (starts.Word (named_at n a) (number_at i b) (literal_at w v c) ∷ xs)

abbrev pub fill_at : NetFile → (ℕ → ℕ) → Fill
fill_at f p = record {
  counter = named_at (codes "i") (p 2);
  from = number_at 0 (p 4);
  tested = named_at (codes "i") (p 6);
  limit = number_at (2 ^ f.address_width) (p 8);
  stepped = named_at (codes "i") (p 10);
  old = named_at (codes "i") (p 12);
  by = number_at 1 (p 14);
  file = named_at f.name (p 16);
  index = named_at (codes "i") (p 18);
  value = literal_at f.width 0 (p 21);
}

pub data ShowsFills : List NetFile → List Init → Type 0 where
  no_fill : ShowsFills [] []
  a_fill : {f : NetFile} {fs : List NetFile} {xs ys : List Init} (p : ℕ → ℕ) → ShowsWords f.name f.width 0 f.words xs → ShowsFills fs ys → ShowsFills (f ∷ fs) (starts.Fill (fill_at f p) ∷ (xs ++ ys))

abbrev pub write_at : List ℕ → WritePort → (ℕ → ℕ) → Update
write_at n w p = edges.File (named_at (wire w.enable) (p 2)) (named_at n (p 4)) (named_at (wire w.address) (p 6)) (named_at (wire w.value) (p 9))

pub data ShowsWrites : List NetFile → List Update → Type 0 where
  no_write : ShowsWrites [] []
  not_written : {f : NetFile} {fs : List NetFile} {xs : List Update} → f.port ≡ None → ShowsWrites fs xs → ShowsWrites (f ∷ fs) xs
  a_write : {f : NetFile} {fs : List NetFile} {xs : List Update} (w : WritePort) (p : ℕ → ℕ) → f.port ≡ Some w → ShowsWrites fs xs → ShowsWrites (f ∷ fs) (write_at f.name w p ∷ xs)

-- the reset port and the reset list
pub data ShowsReset (rs : List NetReg) : Bool → Option Named → Option ResetList → Type 0 where
  no_reset_shown : ShowsReset rs false None None
  reset_shown : {xs : List ResetValue} (a b : ℕ) → ShowsEach reset_value rs xs → ShowsReset rs true (Some (named_at (codes "rst") a)) (Some (record { reset = named_at (codes "rst") b; values = xs }))

pub data IsReset : Bool → Option Named → Type 0 where
  no_reset_port : IsReset false None
  a_reset_port : (at : ℕ) → IsReset true (Some (named_at (codes "rst") at))

-- Parts of a module that represent all parts of a netlist.
pub record Shown (net : Net) : Type 0 where
  pub p : ℕ → ℕ
  pub q : ℕ → ℕ
  pub rst : Option Named
  pub ports : List VPort
  pub samples : ShowsEach sample_port net.parts.samples ports
  pub regs : List Item
  pub files : List Item
  pub integer : List Item
  pub nodes : List Item
  pub shows_regs : ShowsEach reg_item net.parts.regs regs
  pub shows_files : ShowsEach file_item net.parts.files files
  pub shows_integer : ShowsInteger net.parts.files integer
  pub shows_nodes : ShowsNodes net.parts 0 net.nodes nodes
  pub start_part : List Init
  pub fill_part : List Init
  pub shows_starts : ShowsEach reg_start net.parts.regs start_part
  pub shows_fills : ShowsFills net.parts.files fill_part
  pub resets : Option ResetList
  pub reset : ShowsReset net.parts.regs net.parts.reset rst resets
  pub update_part : List Update
  pub write_part : List Update
  pub shows_updates : ShowsEach reg_update net.parts.regs update_part
  pub shows_writes : ShowsWrites net.parts.files write_part

abbrev pub outs : {net : Net} → Shown net → List Item
outs {net} s = out_at (codes "full") net.parts.full (s.q 0) (s.q 1) ∷ out_at (codes "ue") net.parts.ue (s.q 2) (s.q 3) ∷ out_at (codes "back") net.parts.back (s.q 4) (s.q 5) ∷ []

-- The module of these parts.
abbrev pub module_of : {net : Net} → Shown net → VModule
module_of {net} s = record {
  name = named_at net.parts.name (s.p 0);
  clk = named_at (codes "clk") (s.p 1);
  rst = s.rst;
  ext = port_at net.parts.ext (codes "ext") (s.p 2) (s.p 3) (s.p 4);
  samples = s.ports;
  full = port_at (wide net.nodes net.parts.full.0) (codes "full") (s.p 5) (s.p 6) (s.p 7);
  ue = port_at (wide net.nodes net.parts.ue.0) (codes "ue") (s.p 8) (s.p 9) (s.p 10);
  back = port_at (wide net.nodes net.parts.back.0) (codes "back") (s.p 11) (s.p 12) (s.p 13);
  items = s.regs ++ (s.files ++ (s.integer ++ (s.nodes ++ outs s)));
  inits = s.start_part ++ s.fill_part;
  clock = named_at (codes "clk") (s.p 14);
  reset = s.resets;
  updates = s.update_part ++ s.write_part;
}

-- a module that represents a netlist
abbrev pub IsShown : Net → VModule → Type 0
IsShown net m = (s : Shown net) × (m ≡ module_of s)

-- the module at the end, with what it represents
abbrev pub Built : (VModule → Type 0) → List Value → Type 0
Built P vs = (m : VModule) × (vs ≡ lang.whole m ∷ []) × P m

abbrev N : ℕ → Sym
N n = Nonterminal n

-- Parts of one kind are read, after what is there: each takes n tokens.
abbrev ReadsEach : {X Y : Type 0} → (X → (ℕ → ℕ) → Y) → (X → List Word → List Word) → (List Word → (ℕ → ℕ) → List Y → Type 0) → Type 0
ReadsEach {X} {Y} make words At =
    (xs : List X) (p : ℕ → ℕ) (ws : List Word) (before : List Y) → ((p' : ℕ → ℕ) (ys : List Y) → ShowsEach make xs ys → At ws p' (before ++ ys)) → At (each_words words xs ws) p before

each_read : {X Y : Type 0} (make : X → (ℕ → ℕ) → Y) (words : X → List Word → List Word) (At : List Word → (ℕ → ℕ) → List Y → Type 0) (n : ℕ)
    → ((x : X) (p : ℕ → ℕ) (ws : List Word) (before : List Y) → At ws (shift n p) (before ++ make x p ∷ []) → At (words x ws) p before) → ReadsEach make words At
each_read make words At n one [] p ws before d = subst (At ws p) (append-nil before) (d p [] none_shown)
each_read make words At n one (x ∷ xs) p ws before d =
    one x p (each_words words xs ws) before (each_read make words At n one xs (shift n p) ws (before ++ make x p ∷ [])
    (λ p' ys h. subst (At ws p') (sym (append_assoc before (make x p ∷ []) ys)) (d p' (make x p ∷ ys) (one_shown p h))))

module _ (P : VModule → Type 0) where
  abbrev pub Reads : List Sym → List Value → List Token → Type 0
  Reads s vs ts = Completes verilog tables (Built P) s vs ts

  abbrev goes : (k : ℕ) {s : List Sym} {vs : List Value} {ts : List Token} → CompletesFrom verilog tables (Built P) (advance verilog tables k s vs ts) → Reads s vs ts
  goes k r = went verilog tables (Built P) k r

  -- at most n more names of a concatenation are read
  abbrev AtNames : ℕ → List Sym → List Value → List Named → List Token → Type 0
  AtNames n s vs before ts = Reads (N (NAMES n) ∷ lang.mark marks.CloseBrace ∷ Action make_concat ∷ s) (lang.names before ∷ vs) ts

  abbrev NamesRead : ℕ → Type 0
  NamesRead n = (parts : List NodeId) (q : ℕ → ℕ) (s : List Sym) (vs : List Value) (ws : List Word) (before : List Named) → length parts ≤ n
      → ((q' : ℕ → ℕ) (xs : List Named) → ShowsNames parts xs → Reads s (lang.right (sides.Concat (before ++ xs)) ∷ vs) (placed q' ws)) → AtNames n s vs before (placed q (more_words parts ws))

  -- the end of the names, and one name, where the rule for n names is known
  abbrev Closes : ℕ → Type 0
  Closes n = (q : ℕ → ℕ) (s : List Sym) (vs : List Value) (ws : List Word) (before : List Named)
      → Reads s (lang.right (sides.Concat before) ∷ vs) (placed (shift 1 q) ws) → AtNames n s vs before (placed q (mark marks.CloseBrace ∷ ws))

  abbrev ReadsOne : ℕ → Type 0
  ReadsOne n = (a : NodeId) (q : ℕ → ℕ) (s : List Sym) (vs : List Value) (ws : List Word) (before : List Named)
      → AtNames n s vs (before ++ named_at (wire a) (q 1) ∷ []) (placed (shift 2 q) ws) → AtNames (suc n) s vs before (placed q (mark marks.Comma ∷ name (wire a) ∷ ws))

  names_close : (n : ℕ) → Closes n → (q : ℕ → ℕ) (s : List Sym) (vs : List Value) (ws : List Word) (before : List Named)
      → ((q' : ℕ → ℕ) (xs : List Named) → ShowsNames [] xs → Reads s (lang.right (sides.Concat (before ++ xs)) ∷ vs) (placed q' ws)) → AtNames n s vs before (placed q (mark marks.CloseBrace ∷ ws))
  names_close n close q s vs ws before d = close q s vs ws before (subst (λ (xs : List Named). Reads s (lang.right (sides.Concat xs) ∷ vs) (placed (shift 1 q) ws)) (append-nil before) (d (shift 1 q) [] no_name))

  no_names : Closes 0 → NamesRead 0
  no_names close [] q s vs ws before h d = names_close 0 close q s vs ws before d
  no_names close (a ∷ parts) q s vs ws before h d = absurd (omega arith)

  one_more : (n : ℕ) → Closes (suc n) → ReadsOne n → NamesRead n → NamesRead (suc n)
  one_more n close one rest [] q s vs ws before h d = names_close (suc n) close q s vs ws before d
  one_more n close one rest (a ∷ parts) q s vs ws before h d =
      let x = named_at (wire a) (q 1) in
      one a q s vs (more_words parts ws) before (rest parts (shift 2 q) s vs ws (before ++ x ∷ []) (omega arith)
      (λ q' xs shows. subst (λ (zs : List Named). Reads s (lang.right (sides.Concat zs) ∷ vs) (placed q' ws)) (sym (append_assoc before (x ∷ []) xs)) (d q' (x ∷ xs) (a_name (q 1) shows))))

  names_read : NamesRead 10
  names_read =
      one_more 9 (λ q s vs ws b d. goes 3 d) (λ a q s vs ws b d. goes 4 d)
      (one_more 8 (λ q s vs ws b d. goes 3 d) (λ a q s vs ws b d. goes 4 d)
      (one_more 7 (λ q s vs ws b d. goes 3 d) (λ a q s vs ws b d. goes 4 d)
      (one_more 6 (λ q s vs ws b d. goes 3 d) (λ a q s vs ws b d. goes 4 d)
      (one_more 5 (λ q s vs ws b d. goes 3 d) (λ a q s vs ws b d. goes 4 d)
      (one_more 4 (λ q s vs ws b d. goes 3 d) (λ a q s vs ws b d. goes 4 d)
      (one_more 3 (λ q s vs ws b d. goes 3 d) (λ a q s vs ws b d. goes 4 d)
      (one_more 2 (λ q s vs ws b d. goes 3 d) (λ a q s vs ws b d. goes 4 d)
      (one_more 1 (λ q s vs ws b d. goes 3 d) (λ a q s vs ws b d. goes 4 d)
      (one_more 0 (λ q s vs ws b d. goes 3 d) (λ a q s vs ws b d. goes 4 d)
      (no_names (λ q s vs ws b d. goes 3 d)))))))))))

  concat_reads : (parts : List NodeId) (q : ℕ → ℕ) (s : List Sym) (vs : List Value) (ws : List Word) → 2 ≤ length parts → length parts ≤ 12
      → ((q' : ℕ → ℕ) (xs : List Named) → ShowsNames parts xs → Reads s (lang.right (sides.Concat xs) ∷ vs) (placed q' (mark marks.Semicolon ∷ ws)))
      → Reads (N RIGHT ∷ s) vs (placed q (joined_words parts (mark marks.Semicolon ∷ ws)))
  concat_reads (a ∷ b ∷ parts) q s vs ws low high d =
      let x = named_at (wire a) (q 1) in let y = named_at (wire b) (q 3) in
      goes 6 (names_read parts (shift 4 q) s vs (mark marks.Semicolon ∷ ws) (x ∷ y ∷ []) (omega arith) (λ q' xs shows. d q' (x ∷ y ∷ xs) (a_name (q 1) (a_name (q 3) shows))))
  concat_reads x q s vs ws low high d = absurd (omega arith)

  abbrev Continues : (Right → Type 0) → List Sym → List Value → List Word → Type 0
  Continues Q s vs ws = (q' : ℕ → ℕ) (r : Right) → Q r → Reads s (lang.right r ∷ vs) (placed q' (mark marks.Semicolon ∷ ws))

  binary_reads : (p : Parts) (k : ℕ) (op : BinOp) (a b : NodeId) (q : ℕ → ℕ) (s : List Sym) (vs : List Value) (ws : List Word) → Continues (ShowsRight p k (kinds.Binary op a b)) s vs ws
      → Reads (N RIGHT ∷ s) vs (placed q (name (wire a) ∷ mark (operator_mark op) ∷ name (wire b) ∷ mark marks.Semicolon ∷ ws))
  binary_reads p k BinOp.And a b q s vs ws d = goes 6 (d (shift 3 q) _ (a_binary (q 0) (q 2)))
  binary_reads p k x a b q s vs ws d = goes 6 (d (shift 3 q) _ (a_binary (q 0) (q 2)))

  right_reads : (p : Parts) (ns : List Node) (m k : ℕ) (kind : Kind) (q : ℕ → ℕ) (s : List Sym) (vs : List Value) (ws : List Word) → KindOk ns m k kind → Continues (ShowsRight p k kind) s vs ws
      → Reads (N RIGHT ∷ s) vs (placed q (right_words p k kind (mark marks.Semicolon ∷ ws)))
  right_reads p ns m k (kinds.Const v) q s vs ws z d = goes 3 (d (shift 1 q) _ (a_const (q 0)))
  right_reads p ns m k kinds.Ext q s vs ws z d = goes 4 (d (shift 1 q) _ (an_ext (q 0)))
  right_reads p ns m k (kinds.Sample i) q s vs ws z d = goes 4 (d (shift 1 q) _ (a_sample (q 0)))
  right_reads p ns m k (kinds.Reg i) q s vs ws z d = goes 4 (d (shift 1 q) _ (a_reg (q 0)))
  right_reads p ns m k (kinds.Word i a) q s vs ws z d = goes 8 (d (shift 4 q) _ (a_word (q 0) (q 2)))
  right_reads p ns m k (kinds.Not a) q s vs ws z d = goes 4 (d (shift 2 q) _ (a_not (q 1)))
  right_reads p ns m k (kinds.Binary op a b) q s vs ws z d = binary_reads p k op a b q s vs ws d
  right_reads p ns m k (kinds.Mux t a b) q s vs ws z d = goes 8 (d (shift 5 q) _ (a_mux (q 0) (q 2) (q 4)))
  right_reads p ns m k (kinds.Concat parts) q s vs ws z d = concat_reads parts q s vs ws z.0 z.1 (λ q' xs shows. d q' _ (a_concat shows))
  right_reads p ns m k (kinds.Slice a hi lo) q s vs ws z d = goes 10 (d (shift 6 q) _ (a_slice (q 0) (q 2) (q 4)))

  -- more of a list, after what is already there
  abbrev Items : List Sym → List Value → List Word → (ℕ → ℕ) → List Item → Type 0
  Items s vs ws p xs = Reads (N ITEMS ∷ s) (lang.items xs ∷ vs) (placed p ws)

  nodes_read : (net : Net) (j : ℕ) (ns : List Node) (p : ℕ → ℕ) (s : List Sym) (vs : List Value) (ws : List Word) (before : List Item) → RightFrom net j ns
      → ((p' : ℕ → ℕ) (xs : List Item) → ShowsNodes net.parts j ns xs → Items s vs ws p' (before ++ xs))
      → Items s vs (node_words net.parts j ns ws) p before
  nodes_read net j [] p s vs ws before z d = subst (Items s vs ws p) (append-nil before) (d p [] no_node_line)
  nodes_read net j (n ∷ ns) p s vs ws before z d =
      let x = lines.Wire (range_at n.width (p 2) (p 4)) (named_at (wire_name j) (p 6)) in
      goes 19 (right_reads net.parts net.nodes j n.width n.kind (shift 11 p) _ _ _ z.0.kind (λ q r shows. let y = lines.Assign (named_at (wire_name j) (p 9)) r in
      goes 3 (nodes_read net (j + 1) ns (shift 1 q) s vs ws ((before ++ x ∷ []) ++ y ∷ []) z.2
      (λ p' xs h. subst (Items s vs ws p') (sym (append_assoc (before ++ x ∷ []) (y ∷ []) xs ∙ append_assoc before (x ∷ []) (y ∷ xs)))
      (d p' (x ∷ y ∷ xs) (node_line (p 2) (p 4) (p 6) (p 9) shows h))))))

  regs_read : (s : List Sym) (vs : List Value) → ReadsEach reg_item reg_words (Items s vs)
  regs_read s vs = each_read reg_item reg_words (Items s vs) 8 (λ r p ws before d. goes 15 d)

  files_read : (s : List Sym) (vs : List Value) → ReadsEach file_item file_words (Items s vs)
  files_read s vs = each_read file_item file_words (Items s vs) 13 (λ f p ws before d. goes 22 d)

  integer_reads : (fs : List NetFile) (p : ℕ → ℕ) (s : List Sym) (vs : List Value) (ws : List Word) (before : List Item)
      → ((p' : ℕ → ℕ) (xs : List Item) → ShowsInteger fs xs → Items s vs ws p' (before ++ xs)) → Items s vs (integer_words fs ws) p before
  integer_reads [] p s vs ws before d = subst (Items s vs ws p) (append-nil before) (d p [] no_integer)
  integer_reads (f ∷ fs) p s vs ws before d = goes 7 (d (shift 3 p) _ (an_integer (p 1)))

  out_reads : (out : List ℕ) (a : NodeId) (p : ℕ → ℕ) (s : List Sym) (vs : List Value) (ws : List Word) (before : List Item)
      → Items s vs ws (shift 5 p) (before ++ out_at out a (p 1) (p 3) ∷ []) → Items s vs (out_words out a ws) p before
  out_reads out a p s vs ws before d = goes 12 d

  abbrev Samples : List Sym → List Value → List Word → (ℕ → ℕ) → List VPort → Type 0
  Samples s vs ws p xs = Reads (N SAMPLES ∷ s) (lang.ports xs ∷ vs) (placed p ws)

  samples_read : (s : List Sym) (vs : List Value) → ReadsEach sample_port sample_words (Samples s vs)
  samples_read s vs = each_read sample_port sample_words (Samples s vs) 9 (λ x p ws before d. goes 16 d)

  abbrev Inits : List Sym → List Value → List Word → (ℕ → ℕ) → List Init → Type 0
  Inits s vs ws p xs = Reads (N INITS ∷ s) (lang.inits xs ∷ vs) (placed p ws)

  starts_read : (s : List Sym) (vs : List Value) → ReadsEach reg_start start_words (Inits s vs)
  starts_read s vs = each_read reg_start start_words (Inits s vs) 4 (λ r p ws before d. goes 9 d)

  word_reads : (n : List ℕ) (w i u : ℕ) (us : List ℕ) (t : Bool) → (u == 0) ≡ t → (p : ℕ → ℕ) (s : List Sym) (vs : List Value) (ws : List Word) (before : List Init)
      → ((q : ℕ → ℕ) (so_far : List Init) → ((p' : ℕ → ℕ) (xs : List Init) → ShowsWords n w (i + 1) us xs → Inits s vs ws p' (so_far ++ xs)) → Inits s vs (content_words n w (i + 1) us ws) q so_far)
      → ((p' : ℕ → ℕ) (xs : List Init) → ShowsWords n w i (u ∷ us) xs → Inits s vs ws p' (before ++ xs))
      → Inits s vs (cond t (content_words n w (i + 1) us ws) (name n ∷ mark marks.OpenBracket ∷ number i ∷ mark marks.CloseBracket ∷ mark marks.Equals ∷ literal (literal_for (word w u)) ∷ mark marks.Semicolon ∷ content_words n w (i + 1) us ws)) p before
  word_reads n w i u us true e p s vs ws before rest d = rest p before (λ p' xs h. d p' xs (zero_word e h))
  word_reads n w i u us false e p s vs ws before rest d =
      let x = starts.Word (named_at n (p 0)) (number_at i (p 2)) (literal_at w u (p 5)) in
      goes 12 (rest (shift 7 p) (before ++ x ∷ [])
      (λ p' xs h. subst (Inits s vs ws p') (sym (append_assoc before (x ∷ []) xs)) (d p' (x ∷ xs) (some_word (p 0) (p 2) (p 5) e h))))

  words_read : (n : List ℕ) (w i : ℕ) (us : List ℕ) (p : ℕ → ℕ) (s : List Sym) (vs : List Value) (ws : List Word) (before : List Init)
      → ((p' : ℕ → ℕ) (xs : List Init) → ShowsWords n w i us xs → Inits s vs ws p' (before ++ xs)) → Inits s vs (content_words n w i us ws) p before
  words_read n w i [] p s vs ws before d = subst (Inits s vs ws p) (append-nil before) (d p [] no_words)
  words_read n w i (u ∷ us) p s vs ws before d = word_reads n w i u us (u == 0) refl p s vs ws before (λ q so_far k. words_read n w (i + 1) us q s vs ws so_far k) d

  fills_read : (fs : List NetFile) (p : ℕ → ℕ) (s : List Sym) (vs : List Value) (ws : List Word) (before : List Init)
      → ((p' : ℕ → ℕ) (xs : List Init) → ShowsFills fs xs → Inits s vs ws p' (before ++ xs)) → Inits s vs (fill_words fs ws) p before
  fills_read [] p s vs ws before d = subst (Inits s vs ws p) (append-nil before) (d p [] no_fill)
  fills_read (f ∷ fs) p s vs ws before d =
      let x = starts.Fill (fill_at f p) in
      goes 27 (words_read f.name f.width 0 f.words (shift 23 p) s vs (fill_words fs ws) (before ++ x ∷ []) (λ p' xs h.
      fills_read fs p' s vs ws ((before ++ x ∷ []) ++ xs) (λ p'' ys k.
      subst (Inits s vs ws p'') (sym (append_assoc (before ++ x ∷ []) xs ys ∙ append_assoc before (x ∷ []) (xs ++ ys))) (d p'' (x ∷ (xs ++ ys)) (a_fill p h k)))))

  abbrev Values : List Sym → List Value → List Word → (ℕ → ℕ) → List ResetValue → Type 0
  Values s vs ws p xs = Reads (N VALUES ∷ s) (lang.values xs ∷ vs) (placed p ws)

  values_read : (s : List Sym) (vs : List Value) → ReadsEach reset_value value_words (Values s vs)
  values_read s vs = each_read reset_value value_words (Values s vs) 4 (λ r p ws before d. goes 6 d)

  abbrev Updates : List Sym → List Value → List Word → (ℕ → ℕ) → List Update → Type 0
  Updates s vs ws p xs = Reads (N UPDATES ∷ s) (lang.updates xs ∷ vs) (placed p ws)

  updates_read : (s : List Sym) (vs : List Value) → ReadsEach reg_update update_words (Updates s vs)
  updates_read s vs = each_read reg_update update_words (Updates s vs) 4 (λ r p ws before d. goes 8 d)

  write_reads : (f : NetFile) (fs : List NetFile) (o : Option WritePort) → f.port ≡ o → (p : ℕ → ℕ) (s : List Sym) (vs : List Value) (ws : List Word) (before : List Update)
      → ((q : ℕ → ℕ) (so_far : List Update) → ((p' : ℕ → ℕ) (xs : List Update) → ShowsWrites fs xs → Updates s vs ws p' (so_far ++ xs)) → Updates s vs (writes_words fs ws) q so_far)
      → ((p' : ℕ → ℕ) (xs : List Update) → ShowsWrites (f ∷ fs) xs → Updates s vs ws p' (before ++ xs)) → Updates s vs (write_words f.name o (writes_words fs ws)) p before
  write_reads f fs None e p s vs ws before rest d = rest p before (λ p' xs h. d p' xs (not_written e h))
  write_reads f fs (Some w) e p s vs ws before rest d =
      let x = write_at f.name w p in
      goes 15 (rest (shift 11 p) (before ++ x ∷ []) (λ p' xs h. subst (Updates s vs ws p') (sym (append_assoc before (x ∷ []) xs)) (d p' (x ∷ xs) (a_write w p e h))))

  writes_read : (fs : List NetFile) (p : ℕ → ℕ) (s : List Sym) (vs : List Value) (ws : List Word) (before : List Update)
      → ((p' : ℕ → ℕ) (xs : List Update) → ShowsWrites fs xs → Updates s vs ws p' (before ++ xs)) → Updates s vs (writes_words fs ws) p before
  writes_read [] p s vs ws before d = subst (Updates s vs ws p) (append-nil before) (d p [] no_write)
  writes_read (f ∷ fs) p s vs ws before d = write_reads f fs f.port refl p s vs ws before (λ q so_far k. writes_read fs q s vs ws so_far k) d

  -- The end of the module follows the updates.
  abbrev pub LAST : List Sym
  LAST = lang.word keywords.End ∷ lang.word keywords.Endmodule ∷ Action lang.make_module ∷ []

  -- All that is represented after `always`, on top of what was built before.
  abbrev pub Ends : Parts → List Value → Type 0
  Ends pa vs = (p : ℕ → ℕ) (r : Option ResetList) (us xs : List Update) → ShowsEach reg_update pa.regs us → ShowsWrites pa.files xs
      → ((pa.reset ≡ false) × (r ≡ None)) ⊎ ((pa.reset ≡ true) × (values : List ResetValue) × (at : ℕ) × ShowsEach reset_value pa.regs values × (r ≡ Some (record { reset = named_at (codes "rst") at; values = values })))
      → Reads LAST (lang.updates (us ++ xs) ∷ lang.perhaps_reset r ∷ vs) (placed p w1)

  -- the updates of registers and files, after some
  changes_read : (pa : Parts) (rs : List NetReg) (p : ℕ → ℕ) (s : List Sym) (vs : List Value) (ws : List Word) (before : List Update)
      → ((p' : ℕ → ℕ) (us xs : List Update) → ShowsEach reg_update rs us → ShowsWrites pa.files xs → Updates s vs ws p' (before ++ (us ++ xs))) → Updates s vs (each_words update_words rs (writes_words pa.files ws)) p before
  changes_read pa rs p s vs ws before d =
      updates_read s vs rs p (writes_words pa.files ws) before (λ p' us h. writes_read pa.files p' s vs ws (before ++ us) (λ p'' xs k. subst (Updates s vs ws p'') (sym (append_assoc before us xs)) (d p'' us xs h k)))

  -- The first update shows that there is no reset; it may come after files that are not written.
  first_write : (f : NetFile) (fs : List NetFile) (o : Option WritePort) → f.port ≡ o → (p : ℕ → ℕ) (vs : List Value)
      → ((q : ℕ → ℕ) → ((p' : ℕ → ℕ) (xs : List Update) → ShowsWrites fs xs → Reads LAST (lang.updates xs ∷ lang.perhaps_reset None ∷ vs) (placed p' w1)) → Reads (N BODY ∷ LAST) vs (placed q (writes_words fs w1)))
      → ((p' : ℕ → ℕ) (xs : List Update) → ShowsWrites (f ∷ fs) xs → Reads LAST (lang.updates xs ∷ lang.perhaps_reset None ∷ vs) (placed p' w1))
      → Reads (N BODY ∷ LAST) vs (placed p (write_words f.name o (writes_words fs w1)))
  first_write f fs None e p vs rest d = rest p (λ p' xs h. d p' xs (not_written e h))
  first_write f fs (Some w) e p vs rest d =
      goes 15 (writes_read fs (shift 11 p) LAST (lang.perhaps_reset None ∷ vs) w1 (write_at f.name w p ∷ []) (λ p' xs h. goes 1 (d p' (write_at f.name w p ∷ xs) (a_write w p e h))))

  first_writes : (fs : List NetFile) (p : ℕ → ℕ) (vs : List Value)
      → ((p' : ℕ → ℕ) (xs : List Update) → ShowsWrites fs xs → Reads LAST (lang.updates xs ∷ lang.perhaps_reset None ∷ vs) (placed p' w1)) → Reads (N BODY ∷ LAST) vs (placed p (writes_words fs w1))
  first_writes [] p vs d = goes 3 (d p [] no_write)
  first_writes (f ∷ fs) p vs d = first_write f fs f.port refl p vs (λ q k. first_writes fs q vs k) d

  first_updates : (rs : List NetReg) (fs : List NetFile) (p : ℕ → ℕ) (vs : List Value)
      → ((p' : ℕ → ℕ) (us xs : List Update) → ShowsEach reg_update rs us → ShowsWrites fs xs → Reads LAST (lang.updates (us ++ xs) ∷ lang.perhaps_reset None ∷ vs) (placed p' w1))
      → Reads (N BODY ∷ LAST) vs (placed p (each_words update_words rs (writes_words fs w1)))
  first_updates [] fs p vs d = first_writes fs p vs (λ p' xs h. d p' [] xs none_shown h)
  first_updates (r ∷ rs) fs p vs d =
      let x = reg_update r p in
      goes 7 (updates_read LAST (lang.perhaps_reset None ∷ vs) rs (shift 4 p) (writes_words fs w1) (x ∷ []) (λ p' us h.
      writes_read fs p' LAST (lang.perhaps_reset None ∷ vs) w1 (x ∷ us) (λ p'' xs k. goes 1 (d p'' (x ∷ us) xs (one_shown p h) k))))

  body_reads : (pa : Parts) (b : Bool) → pa.reset ≡ b → (p : ℕ → ℕ) (vs : List Value) → Ends pa vs → Reads (N BODY ∷ LAST) vs (placed p (body_words b pa w1))
  body_reads pa false e p vs d = first_updates pa.regs pa.files p vs (λ p' us xs h k. d p' None us xs h k (inl (e, refl)))
  body_reads pa true e p vs d =
      goes 8 (values_read _ _ pa.regs (shift 5 p) _ [] (λ p' values shown.
      goes 6 (changes_read pa pa.regs (shift 3 p') (lang.word keywords.End ∷ LAST) _ (keyword keywords.End ∷ w1) [] (λ p'' us xs h k.
      goes 2 (d (shift 1 p'') _ us xs h k (inr (e, values, p 2, shown, refl)))))))

  -- what follows the sample ports
  abbrev pub REST : List Sym
  REST =
      lang.word keywords.Output ∷ N lang.PORT ∷ lang.mark marks.Comma ∷ lang.word keywords.Output ∷ N lang.PORT ∷ lang.mark marks.Comma ∷ lang.word keywords.Output ∷ N lang.PORT
      ∷ lang.mark marks.CloseParenthesis ∷ lang.mark marks.Semicolon ∷ Action lang.no_items ∷ N ITEMS
      ∷ lang.word keywords.Initial ∷ lang.word keywords.Begin ∷ Action lang.no_inits ∷ N INITS ∷ lang.word keywords.End
      ∷ lang.word keywords.Always ∷ lang.mark marks.At ∷ lang.mark marks.OpenParenthesis ∷ lang.word keywords.Posedge ∷ lang.ID ∷ lang.mark marks.CloseParenthesis ∷ lang.word keywords.Begin ∷ N BODY ∷ LAST

  header_reads : (n : List ℕ) (ext : ℕ) (b : Bool) (p : ℕ → ℕ) (ws : List Word)
      → ((q : ℕ → ℕ) (rst : Option Named) (a c e : ℕ) → IsReset b rst
      → Reads (N SAMPLES ∷ REST) (lang.ports [] ∷ lang.port (port_at ext (codes "ext") a c e) ∷ lang.perhaps_named rst ∷ lang.named (named_at (codes "clk") (p 5)) ∷ lang.named (named_at n (p 1)) ∷ []) (placed q ws))
      → Reads (N MODULE ∷ []) [] (placed p (keyword keywords.Module ∷ name n ∷ mark marks.OpenParenthesis ∷ keyword keywords.Input ∷ keyword keywords.Wire ∷ name (codes "clk") ∷ mark marks.Comma
      ∷ reset_words b (port_words keywords.Input ext (codes "ext") (mark marks.Comma ∷ ws))))
  header_reads n ext false p ws d = goes 25 (d (shift 16 p) _ (p 10) (p 12) (p 14) no_reset_port)
  header_reads n ext true p ws d = goes 31 (d (shift 20 p) _ (p 14) (p 16) (p 18) (a_reset_port (p 9)))

-- offsets by their numbers
abbrev places : List ℕ → ℕ → ℕ
places xs i = get_or xs i 0

reset_is : (rs : List NetReg) (b : Bool) (rst : Option Named) (r : Option ResetList) → IsReset b rst
    → ((b ≡ false) × (r ≡ None)) ⊎ ((b ≡ true) × (values : List ResetValue) × (at : ℕ) × ShowsEach reset_value rs values × (r ≡ Some (record { reset = named_at (codes "rst") at; values = values })))
    → ShowsReset rs b rst r
reset_is rs _ _ r no_reset_port (inl h) = subst (ShowsReset rs false None) (sym h.1) no_reset_shown
reset_is rs _ _ r no_reset_port (inr h) = absurd (false≢true h.0)
reset_is rs _ _ r (a_reset_port at) (inl h) = absurd (false≢true (sym h.0))
reset_is rs _ _ r (a_reset_port at) (inr h) = subst (ShowsReset rs true (Some (named_at (codes "rst") at))) (sym h.4) (reset_shown at h.2 h.3)

-- The tokens of a netlist are a sentence, and it builds a module that represents the netlist.
pub sentence : (net : Net) (p : ℕ → ℕ) → RightFrom net 0 net.nodes → Completes verilog tables (Built (IsShown net)) (N MODULE ∷ []) [] (placed p (net_words net))
sentence net p right =
    let pa = net.parts in
    let P = IsShown net in
    let full = wide net.nodes pa.full.0 in
    let ue = wide net.nodes pa.ue.0 in
    let back = wide net.nodes pa.back.0 in
    header_reads P pa.name pa.ext pa.reset p _ (λ q rst a c e is_rst.
    samples_read P (REST P) _ pa.samples q (outs_words full ue back (w8 net)) [] (λ q1 ss shows_ss.
    goes P 45 (regs_read P _ _ pa.regs (shift 28 q1) (each_words file_words pa.files (integer_words pa.files (w7 net))) [] (λ q2 rs shows_rs.
    files_read P _ _ pa.files q2 (integer_words pa.files (w7 net)) rs (λ q3 fs shows_fs.
    integer_reads P pa.files q3 _ _ (w7 net) (rs ++ fs) (λ q4 is shows_is.
    nodes_read P net 0 net.nodes q4 _ _ (w6 pa) ((rs ++ fs) ++ is) right (λ q5 ns shows_ns.
    out_reads P (codes "full") pa.full q5 _ _ (w5 pa) (((rs ++ fs) ++ is) ++ ns)
    (out_reads P (codes "ue") pa.ue (shift 5 q5) _ _ (w4 pa) _
    (out_reads P (codes "back") pa.back (shift 10 q5) _ _ (w3 pa) _
    (goes P 4 (starts_read P _ _ pa.regs (shift 17 q5) (fill_words pa.files (w2 pa)) [] (λ q6 st shows_st.
    fills_read P pa.files q6 _ _ (w2 pa) st (λ q7 fl shows_fl.
    goes P 9 (body_reads P pa pa.reset refl (shift 8 q7) _ (λ q8 r us xs shows_us shows_xs reset.
    let s : Shown net = record {
      p = places (p 1 ∷ p 5 ∷ a ∷ c ∷ e ∷ q1 3 ∷ q1 5 ∷ q1 7 ∷ q1 12 ∷ q1 14 ∷ q1 16 ∷ q1 21 ∷ q1 23 ∷ q1 25 ∷ q7 5 ∷ []);
      q = places (q5 1 ∷ q5 3 ∷ q5 6 ∷ q5 8 ∷ q5 11 ∷ q5 13 ∷ []);
      rst = rst;
      ports = ss;
      samples = shows_ss;
      regs = rs;
      files = fs;
      integer = is;
      nodes = ns;
      shows_regs = shows_rs;
      shows_files = shows_fs;
      shows_integer = shows_is;
      shows_nodes = shows_ns;
      start_part = st;
      fill_part = fl;
      shows_starts = shows_st;
      shows_fills = shows_fl;
      resets = r;
      reset = reset_is pa.regs pa.reset rst r is_rst reset;
      update_part = us;
      write_part = xs;
      shows_updates = shows_us;
      shows_writes = shows_xs;
    } in
    let items = (((((rs ++ fs) ++ is) ++ ns) ++ out_at (codes "full") pa.full (q5 1) (q5 3) ∷ []) ++ out_at (codes "ue") pa.ue (q5 6) (q5 8) ∷ []) ++ out_at (codes "back") pa.back (q5 11) (q5 13) ∷ [] in
    let m : VModule = record (module_of s) { items = items } in
    let same : items ≡ (module_of s).items = simp append_assoc in
    goes P 3 (record { built = lang.whole m ∷ []; holds = (m, refl, (s, λ i. record (module_of s) { items = same i })); derives = stay }))))))))))))))))
