-- A module that represents a netlist denotes it.
use Rattle.std.proofs.Common.{◌≡◌, ◌∙◌, ℕ, suc, ◌+◌, ◌-◌, ◌^◌, ◌≤◌, List, [], ◌∷◌, ◌++◌, length, get_or, set, map, Bool, true, false, cond, Option, Some, None, refl, sym, ap, arith, append_assoc, length-append}
use Rattle.std.proofs.lemmas.Bool.{eqb-true, agree_below_at, cond-true, cond-false, false_from_ne_true, or_parts}
use Rattle.std.proofs.{Math.Seq.set-append_seam, lemmas.List.Sums.fold-append}
use Rattle.std.proofs.lemmas.List.Elements.{All-nil, All-cons, All-head, All-tail}
use Rattle.std.specs.Prelude.{All, fold, replicate, ◌==◌, ◌||◌, if◌then◌else◌}
use Rattle.kp_net.specs.declared.{node.Node.Node, netlist.Port.Port, netlist.WritePort.WritePort, netlist.NetReg.NetReg, netlist.NetFile.NetFile}
use Rattle.kp_net.specs.{declared.netlist.Parts.Parts, Names.same, Names.among, Names.Differ, Netlist.Net, Parts.PortOk}
use Rattle.kp_vlog.proofs.Sentence.{ShowsEach, none_shown, one_shown, sample_port, fill_at, write_at, ShowsNodes, no_node_line, node_line, ShowsWords, no_words, zero_word, some_word, ShowsFills, no_fill, a_fill, ShowsWrites, no_write, not_written, a_write}
use Rattle.kp_vlog.specs.{declared.tree.VPort.VPort, declared.tree.Item.Item, declared.tree.Init.Init, declared.tree.Update.Update, Canon.wire, Canon.wire_name}
use Rattle.kp_vlog.specs.Scope.{Sized, Sizes, item_sizes, port_size, width_in, address_in, place_of, address_width, or_zero}
use Rattle.kp_vlog.{specs.Denote.word_init, specs.Denote.port_of, proofs.Tests.same_refl}
use Rattle.kp_vlog.proofs.{Distinct.apart, Distinct.tag, Distinct.wires_differ, Distinct.apart_all, Distinct.or_rest, Written.RightFrom}
use Rattle.kp_vlog.specs.declared.tree.Init.TheVariants as starts

-- The words of a file: the fill, and then each word that is not 0.

zeros : (done : List ℕ) (n : ℕ) → (done ++ 0 ∷ []) ++ replicate n 0 ≡ done ++ replicate (suc n) 0
zeros done n = append_assoc done (0 ∷ []) (replicate n 0)

words_filled : (n : List ℕ) (w i count : ℕ) (vs : List ℕ) (xs : List Init) (done : List ℕ) → ShowsWords n w i vs xs → length done ≡ i
    → fold (word_init count n) (done ++ replicate (length vs) 0) xs ≡ done ++ vs
words_filled n w i count _ _ done no_words e = refl
words_filled n w i count _ _ done (zero_word {v = v} {vs = vs} {xs = xs} z h) e =
    let zero_v : v ≡ 0 = eqb-true v 0 z in
    ap (λ ws. fold (word_init count n) ws xs) (sym (zeros done (length vs)) ∙ ap (λ u. (done ++ u ∷ []) ++ replicate (length vs) 0) (sym zero_v))
    ∙ words_filled n w (i + 1) count vs xs (done ++ v ∷ []) h (length-append done (v ∷ []) ∙ ap (λ k. k + 1) e)
    ∙ append_assoc done (v ∷ []) vs
words_filled n w i count _ _ done (some_word {v = v} {vs = vs} {xs = xs} a b c z h) e =
    ap (λ ws. fold (word_init count n) ws xs)
    (cond-true (same n n) (set (done ++ replicate (suc (length vs)) 0) i v) (done ++ replicate (suc (length vs)) 0) (same_refl n)
    ∙ ap (λ k. set (done ++ 0 ∷ replicate (length vs) 0) k v) (sym e) ∙ set-append_seam done 0 (replicate (length vs) 0) v ∙ sym (append_assoc done (v ∷ []) (replicate (length vs) 0)))
    ∙ words_filled n w (i + 1) count vs xs (done ++ v ∷ []) h (length-append done (v ∷ []) ∙ ap (λ k. k + 1) e)
    ∙ append_assoc done (v ∷ []) vs

-- words of other files leave it unchanged
words_skipped : (n other : List ℕ) (w i count : ℕ) (vs : List ℕ) (xs : List Init) (ws : List ℕ) → ShowsWords other w i vs xs → same n other ≡ false → fold (word_init count n) ws xs ≡ ws
words_skipped n other w i count _ _ ws no_words e = refl
words_skipped n other w i count _ _ ws (zero_word {vs = vs} {xs = xs} z h) e = words_skipped n other w (i + 1) count vs xs ws h e
words_skipped n other w i count _ _ ws (some_word {v = v} {vs = vs} {xs = xs} a b c z h) e =
    ap (λ us. fold (word_init count n) us xs) (cond-false (same n other) (set ws i v) ws e) ∙ words_skipped n other w (i + 1) count vs xs ws h e

fills_skipped : (n : List ℕ) (count : ℕ) (fs : List NetFile) (xs : List Init) (ws : List ℕ) → ShowsFills fs xs → among (map (λ f. f.name) fs) n ≡ false → fold (word_init count n) ws xs ≡ ws
fills_skipped n count _ _ ws no_fill e = refl
fills_skipped n count _ _ ws (a_fill {f = f} {fs = fs} {xs = xs} {ys = ys} p h k) e =
    let other = (or_parts (same n f.name) (among (map (λ f. f.name) fs) n) e).0 in
    ap (λ us. fold (word_init count n) us (xs ++ ys)) (cond-false (same n f.name) (replicate count 0) ws other)
    ∙ fold-append (word_init count n) ws xs ys
    ∙ ap (λ us. fold (word_init count n) us ys) (words_skipped n f.name f.width 0 count f.words xs ws h other)
    ∙ fills_skipped n count fs ys ws k ((or_parts (same n f.name) (among (map (λ f. f.name) fs) n) e).1)

-- each file has its words
abbrev pub HasWords : List Init → NetFile → Type 0
HasWords xs f = (ws : List ℕ) → fold (word_init (length f.words) f.name) ws xs ≡ f.words

pub words_are : (fs : List NetFile) (xs : List Init) → ShowsFills fs xs → Differ (map (λ f. f.name) fs) → All (HasWords xs) fs
words_are _ _ no_fill d = All-nil (HasWords [])
words_are _ _ (a_fill {f = f} {fs = fs} {xs = xs} {ys = ys} p h k) d =
    let rest = words_are fs ys k d.1 in
    let others = apart_all (λ f. f.name) f.name fs d.0 in
    let entire = starts.Fill (fill_at f p) ∷ (xs ++ ys) in
    let own : HasWords entire f = λ ws.
    ap (λ us. fold (word_init (length f.words) f.name) us (xs ++ ys)) (cond-true (same f.name f.name) (replicate (length f.words) 0) ws (same_refl f.name))
    ∙ fold-append (word_init (length f.words) f.name) (replicate (length f.words) 0) xs ys
    ∙ ap (λ us. fold (word_init (length f.words) f.name) us ys) (words_filled f.name f.width 0 (length f.words) f.words xs [] h refl)
    ∙ fills_skipped f.name (length f.words) fs ys f.words k d.0 in
    All-cons (HasWords entire) f fs own (λ i e l ws. let g = get_or fs i e in
    ap (λ us. fold (word_init (length g.words) g.name) us (xs ++ ys)) (cond-false (same g.name f.name) (replicate (length g.words) 0) ws (others i e l))
    ∙ fold-append (word_init (length g.words) g.name) ws xs ys
    ∙ ap (λ us. fold (word_init (length g.words) g.name) us ys) (words_skipped g.name f.name f.width 0 (length g.words) f.words xs ws h (others i e l))
    ∙ rest i e l ws)

-- Write ports.

abbrev pub port_in : List (List ℕ) → WritePort → WritePort
port_in wires w = record { enable = record { 0 = place_of wires (wire w.enable) }; address = record { 0 = place_of wires (wire w.address) }; value = record { 0 = place_of wires (wire w.value) } }

abbrev pub ported : List (List ℕ) → Option WritePort → Option WritePort
ported wires None = None
ported wires (Some w) = Some (port_in wires w)

writes_skipped : (wires : List (List ℕ)) (n : List ℕ) (fs : List NetFile) (ws : List Update) → ShowsWrites fs ws → among (map (λ f. f.name) fs) n ≡ false → port_of wires ws n ≡ None
writes_skipped wires n _ _ no_write e = refl
writes_skipped wires n _ _ (not_written {f = f} {fs = fs} {xs = xs} z h) e = writes_skipped wires n fs xs h ((or_parts (same n f.name) (among (map (λ f. f.name) fs) n) e).1)
writes_skipped wires n _ _ (a_write {f = f} {fs = fs} {xs = xs} w p z h) e =
    cond-false (same n f.name) (Some (port_in wires w)) (port_of wires xs n) ((or_parts (same n f.name) (among (map (λ f. f.name) fs) n) e).0)
    ∙ writes_skipped wires n fs xs h ((or_parts (same n f.name) (among (map (λ f. f.name) fs) n) e).1)

abbrev pub HasPort : List (List ℕ) → List Update → NetFile → Type 0
HasPort wires ws f = port_of wires ws f.name ≡ ported wires f.port

pub ports_are : (wires : List (List ℕ)) (fs : List NetFile) (ws : List Update) → ShowsWrites fs ws → Differ (map (λ f. f.name) fs) → All (HasPort wires ws) fs
ports_are wires _ _ no_write d = All-nil (HasPort wires [])
ports_are wires _ _ (not_written {f = f} {fs = fs} {xs = xs} z h) d =
    All-cons (HasPort wires xs) f fs (writes_skipped wires f.name fs xs h d.0 ∙ ap (ported wires) (sym z)) (ports_are wires fs xs h d.1)
ports_are wires _ _ (a_write {f = f} {fs = fs} {xs = xs} w p z h) d =
    let rest = ports_are wires fs xs h d.1 in
    let others = apart_all (λ f. f.name) f.name fs d.0 in
    All-cons (HasPort wires (write_at f.name w p ∷ xs)) f fs (cond-true (same f.name f.name) (Some (port_in wires w)) (port_of wires xs f.name) (same_refl f.name) ∙ ap (ported wires) (sym z))
    (λ i e l. let g = get_or fs i e in cond-false (same g.name f.name) (Some (port_in wires w)) (port_of wires xs g.name) (others i e l) ∙ rest i e l)

-- The table of widths.

abbrev pub no_size : Sized
no_size = record { name = []; width = 0; address = 0 }

pub found : Sizes → List ℕ → Sized
found [] n = no_size
found (s ∷ ss) n = if same n s.name then s else found ss n

abbrev pub sized : List ℕ → ℕ → ℕ → Sized
sized n w a = record { name = n; width = w; address = a }

cond_ap : {X Y : Type 0} (f : X → Y) (b : Bool) (x y : X) → f (cond b x y) ≡ cond b (f x) (f y)
cond_ap f true x y = refl
cond_ap f false x y = refl

pub width_found : (ss : Sizes) (n : List ℕ) → width_in ss n ≡ (found ss n).width
unfolding found
width_found [] n = refl
width_found (s ∷ ss) n = ap (λ k. cond (same n s.name) s.width k) (width_found ss n) ∙ sym (cond_ap (λ (s : Sized). s.width) (same n s.name) s (found ss n))

pub address_found : (ss : Sizes) (n : List ℕ) → address_in ss n ≡ (found ss n).address
unfolding found
address_found [] n = refl
address_found (s ∷ ss) n = ap (λ k. cond (same n s.name) s.address k) (address_found ss n) ∙ sym (cond_ap (λ (s : Sized). s.address) (same n s.name) s (found ss n))

pub found_past : (s : Sized) (ss : Sizes) (n : List ℕ) → same n s.name ≡ false → found (s ∷ ss) n ≡ found ss n
unfolding found
found_past s ss n e = cond-false (same n s.name) s (found ss n) e

pub found_here : (s : Sized) (ss : Sizes) (n : List ℕ) → same n s.name ≡ true → found (s ∷ ss) n ≡ s
unfolding found
found_here s ss n e = cond-true (same n s.name) s (found ss n) e

no_zero : (a : ℕ) → 1 ≤ a → (a == 0) ≡ false
no_zero a h = false_from_ne_true (a == 0) (λ e. let z : a ≡ 0 = eqb-true a 0 e in omega arith)

pub address_is : (a : ℕ) → 1 ≤ a → a ≤ 16 → or_zero (address_width (2 ^ a - 1)) ≡ a
address_is a low high =
    eqb-true (or_zero (address_width (2 ^ a - 1))) a
    (or_rest (a == 0) _ (agree_below_at (λ k. (k == 0) || (or_zero (address_width (2 ^ k - 1)) == k)) (λ _. true) 17 a refl (omega arith)) (no_zero a low))

-- the sizes that parts declare
abbrev pub port_sized : Port → Sized
port_sized s = sized s.name s.width 0

abbrev pub reg_sized : NetReg → Sized
reg_sized r = sized r.name r.start.width 0

abbrev pub file_sized : NetFile → Sized
file_sized f = sized f.name f.width f.address_width

pub range_back : (w : ℕ) → 1 ≤ w → w - 1 + 1 ≡ w
range_back w h = omega arith

pub samples_sized : (ss : List Port) (xs : List VPort) → ShowsEach sample_port ss xs → All PortOk ss → map port_size xs ≡ map port_sized ss
samples_sized _ _ none_shown k = refl
samples_sized _ _ (one_shown {x = s} {xs = ss} {ys = xs} p h) k =
    let w = range_back s.width (All-head PortOk s ss k).positive in let rest = samples_sized ss xs h (All-tail PortOk s ss k) in λ i. sized s.name (w i) 0 ∷ rest i

-- A name of another kind is found after these; and each of names that differ is found.
pub each_past : {X : Type 0} (size : X → Sized) (n : List ℕ) (t u : ℕ) (xs : List X) (rest : Sizes) → All (λ x. tag (size x).name ≡ u) xs → tag n ≡ t → (t == u) ≡ false → found (map size xs ++ rest) n ≡ found rest n
each_past size n t u [] rest k e d = refl
each_past size n t u (x ∷ xs) rest k e d =
    found_past (size x) (map size xs ++ rest) n (apart n (size x).name t u e (All-head (λ x. tag (size x).name ≡ u) x xs k) d) ∙ each_past size n t u xs rest (All-tail (λ x. tag (size x).name ≡ u) x xs k) e d

pub each_found : {X : Type 0} (size : X → Sized) (xs : List X) (rest : Sizes) → Differ (map (λ x. (size x).name) xs) → All (λ x. found (map size xs ++ rest) (size x).name ≡ size x) xs
each_found size [] rest d = All-nil (λ x. found rest (size x).name ≡ size x)
each_found size (x ∷ xs) rest d =
    All-cons (λ z. found (size x ∷ (map size xs ++ rest)) (size z).name ≡ size z) x xs (found_here (size x) (map size xs ++ rest) (size x).name (same_refl (size x).name))
    (λ i e l. found_past (size x) (map size xs ++ rest) (size (get_or xs i e)).name (apart_all (λ x. (size x).name) (size x).name xs d.0 i e l) ∙ each_found size xs rest d.1 i e l)

-- each node has its width
abbrev pub WidthsAre : Sizes → ℕ → List Node → Type 0
WidthsAre ss j [] = Unit {0}
WidthsAre ss j (n ∷ ns) = (width_in ss (wire_name j) ≡ n.width) × WidthsAre ss (j + 1) ns

pub nodes_sized : (net : Net) (p : Parts) (j : ℕ) (ns : List Node) (xs ys : List Item) (ss : Sizes) → ShowsNodes p j ns xs → j + length ns ≤ 16777216 → RightFrom net j ns
    → ((i : ℕ) → j ≤ i → i ≤ 16777216 → found ss (wire_name i) ≡ found (item_sizes (xs ++ ys)) (wire_name i)) → WidthsAre ss j ns
nodes_sized net p j _ _ ys ss no_node_line few k h = tt
nodes_sized net p j _ _ ys ss (node_line {n = n} {ns = ns} {xs = xs} a b c d r s) few k h =
    let here : Sized = sized (wire_name j) (n.width - 1 + 1) 0 in (
      width_found ss (wire_name j) ∙ ap (λ (s : Sized). s.width) (h j (omega arith) (omega arith) ∙ found_here here (item_sizes (xs ++ ys)) (wire_name j) (same_refl (wire_name j))) ∙ range_back n.width k.0.positive,
      nodes_sized net p (j + 1) ns xs ys ss s (omega arith) k.2
          (λ i l m. h i (omega arith) m ∙ found_past here (item_sizes (xs ++ ys)) (wire_name i) (wires_differ i j m (omega arith) (λ e. omega arith))),
    )
