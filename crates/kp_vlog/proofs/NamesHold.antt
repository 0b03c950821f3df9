-- A module that represents a netlist violates no rule of names, and none of drivers.
use Rattle.std.proofs.Common.{◌≡◌, ◌∙◌, ℕ, suc, ◌+◌, ◌≤◌, ◌<◌, List, [], ◌∷◌, ◌++◌, length, get_or, map, Bool, true, false, Option, Some, None, refl, sym, ap, subst, arith, append_assoc, append-nil, inl, inr, ◌-◌, eq-eqb}
use Rattle.std.proofs.lemmas.Bool.{false≢true, cases_lt, cond-true, and_from, or_from, not_from_false, or_left, or_right, and_parts}
use Rattle.std.proofs.lemmas.List.Elements.{All-nil, All-cons, All-head, All-tail}
use Rattle.std.specs.{Prelude.codes, Prelude.All, Prelude.◌==◌, Prelude.◌&&◌, Prelude.◌||◌, Prelude.decimal, Prelude.not, Option.is_some, List.list_all}
use Rattle.kp_net.specs.declared.{node.NodeId.NodeId, node.Kind.Kind, node.Node.Node, netlist.Port.Port, netlist.NetReg.NetReg, netlist.NetFile.NetFile}
use Rattle.kp_net.specs.{Names.same, Names.among, Names.Differ, Names.IsNamed, Names.is_reg_name, Names.is_file_name, Names.is_sample_name, Netlist.Net}
use Rattle.kp_net.specs.Parts.{no_port, no_reg, no_file, WriteOk, RegOk, FileOk, CellOk, NetOk}
use Rattle.kp_net.specs.Widths.{KindOk, wide}
use Rattle.kp_base.specs.Characters.{is_digit}
use Rattle.kp_vlog.specs.Occurrences.{Occurrence, occurs, declares_port, uses_source, uses_wire, uses_port, is_given, wires_used, right_names, items_names, inits_names, values_names, reset_names, updates_names, samples_names, reset_port_names, wide_port_names, body_names, names, start_in, is_literal, declares_reg}
use Rattle.kp_vlog.proofs.Sentence.{ShowsEach, none_shown, one_shown, sample_port, reg_item, file_item, reg_start, reset_value, reg_update, named_at, ShowsNames, no_name, a_name, ShowsRight, a_const, an_ext, a_sample, a_reg, a_word, a_not, a_binary, a_mux, a_concat, a_slice, ShowsInteger, no_integer, an_integer, ShowsNodes, no_node_line, node_line, ShowsWords, no_words, zero_word, some_word, ShowsFills, no_fill, a_fill, ShowsWrites, no_write, not_written, a_write, ShowsReset, no_reset_shown, reset_shown, Shown, outs, module_of}
use Rattle.kp_vlog.specs.Rules.{name_fits, learns, bad_name, Driven, nothing, drives, all_driven, driver_fits, bad_driver, module_driver}
use Rattle.kp_vlog.specs.declared.tree.{Named.Named, ResetList.ResetList, ResetValue.ResetValue, VPort.VPort, Right.Right, Item.Item, Init.Init, Update.Update}
use Rattle.kp_vlog.{specs.Canon.wire, specs.Canon.wire_name, specs.Scope.is_wire_name, proofs.Tests.same_refl}
use Rattle.kp_vlog.proofs.{Distinct.apart, Distinct.tag, Distinct.tag_wire, Distinct.wires_differ, Distinct.apart_all, Written.RightFrom, Written.all_right}
use Rattle.kp_vlog.proofs.Runs.{Led, decimal_led, decimal_names, all_of, literal_for}
use Rattle.kp_vlog.proofs.{Denoted.spelled, Denoted.samples_tagged, Denoted.regs_tagged, Denoted.files_tagged, Drives.DrivesAll, Drives.drives_all}
use Rattle.kp_vlog.proofs.Each.{found_each}

-- no known name is of this kind
abbrev Free : List (List ℕ) → ℕ → Type 0
Free known t = (x : List ℕ) → tag x ≡ t → among known x ≡ false

free_more : (known : List (List ℕ)) (n : List ℕ) (t u : ℕ) → tag n ≡ t → (u == t) ≡ false → Free known u → Free (n ∷ known) u
free_more known n t u e d f x g = or_from (same x n) (among known x) (apart x n u t g e d) (f x g)

-- what was declared stays declared, and all of it is of one kind
record Grows {X : Type 0} (f : X → List ℕ) (xs : List X) (t : ℕ) (known known' : List (List ℕ)) : Type 0 where
  pub has : All (λ x. among known' (f x) ≡ true) xs
  pub keeps : (n : List ℕ) → among known n ≡ true → among known' n ≡ true
  pub frees : (u : ℕ) → (u == t) ≡ false → Free known u → Free known' u

abbrev pub AllNew : {X : Type 0} → (X → List ℕ) → List (List ℕ) → List X → Type 0
AllNew f known xs = All (λ x. among known (f x) ≡ false) xs

grows_none : {X : Type 0} (f : X → List ℕ) (t : ℕ) (known : List (List ℕ)) → Grows f [] t known known
grows_none f t known = record { has = All-nil (λ x. among known (f x) ≡ true); keeps = λ n e. e; frees = λ u d h. h }

grows_more : {X : Type 0} (f : X → List ℕ) (x : X) (xs : List X) (t : ℕ) (known known' : List (List ℕ)) → tag (f x) ≡ t → Grows f xs t (f x ∷ known) known' → Grows f (x ∷ xs) t known known'
grows_more f x xs t known known' e g = record {
  has = All-cons (λ x. among known' (f x) ≡ true) x xs (g.keeps (f x) (or_left (same (f x) (f x)) (among known (f x)) (same_refl (f x)))) g.has;
  keeps = λ n h. g.keeps n (or_right (same n (f x)) (among known n) h);
  frees = λ u d h. g.frees u d (free_more known (f x) t u e d h);
}

pub new_more : {X : Type 0} (f : X → List ℕ) (x : X) (xs : List X) (known : List (List ℕ)) → Differ (map f (x ∷ xs)) → AllNew f known (x ∷ xs) → AllNew f (f x ∷ known) xs
new_more f x xs known d new i e l =
    let y = get_or xs i e in
    or_from (same (f y) (f x)) (among known (f y)) (apart_all f (f x) xs d.0 i e l) (All-tail (λ x. among known (f x) ≡ false) x xs new i e l)

all_new : {X : Type 0} (f : X → List ℕ) (xs : List X) (t : ℕ) (known : List (List ℕ)) → All (λ x. tag (f x) ≡ t) xs → Free known t → AllNew f known xs
all_new f xs t known tags free i d l = free (f (get_or xs i d)) (tags i d l)

led_wire : (ds : List ℕ) → Led ds → list_all is_digit ds ≡ true → is_wire_name (110 ∷ ds) ≡ true
led_wire ds l h = subst (λ (xs : List ℕ). is_wire_name (110 ∷ xs) ≡ true) (sym l.same) (subst (λ (xs : List ℕ). list_all is_digit xs ≡ true) l.same h)

wire_spelled : (j : ℕ) → j ≤ 16777216 → is_wire_name (wire_name j) ≡ true
wire_spelled j h = led_wire (decimal j) (decimal_led j (omega arith)) (all_of is_digit (decimal j) (decimal_names j (omega arith)))

source_known : (known : List (List ℕ)) (n : List ℕ) → (is_reg_name n || is_sample_name n) ≡ true → among known n ≡ true → name_fits known uses_source n ≡ true
source_known known n e f = or_right (same n (codes "ext")) _ (and_from (is_reg_name n || is_sample_name n) (among known n) e f)

keeps_more : (known : List (List ℕ)) (n x : List ℕ) → among known x ≡ true → among (n ∷ known) x ≡ true
keeps_more known n x e = or_right (same x n) (among known x) e

-- a new name
is_new : {X : Type 0} (f : X → List ℕ) (known : List (List ℕ)) (x : X) (xs : List X) → AllNew f known (x ∷ xs) → not (among known (f x)) ≡ true
is_new f known x xs new = not_from_false (among known (f x)) (All-head (λ x. among known (f x) ≡ false) x xs new)

-- a known name of a kind stays known
still_known : (kind : Bool) (known : List (List ℕ)) (n x : List ℕ) → (kind && among known x) ≡ true → (kind && among (n ∷ known) x) ≡ true
still_known kind known n x h = let p = and_parts kind (among known x) h in and_from kind _ p.0 (keeps_more known n x p.1)

-- the names of these registers are known, and those of these files
abbrev RegsKnown : List (List ℕ) → List NetReg → Type 0
RegsKnown known rs = All (λ r. (is_reg_name r.name && among known r.name) ≡ true) rs

abbrev FilesKnown : List (List ℕ) → List NetFile → Type 0
FilesKnown known fs = All (λ f. (is_file_name f.name && among known f.name) ≡ true) fs

-- of all wires, those of the first j nodes are in the list
record Wires (j : ℕ) (ns : List (List ℕ)) : Type 0 where
  pub old : (i : ℕ) → i < j → among ns (wire_name i) ≡ true
  pub new : (i : ℕ) → j ≤ i → i ≤ 16777216 → among ns (wire_name i) ≡ false

wires_more : (j : ℕ) (ns : List (List ℕ)) → j < 16777216 → Wires j ns → Wires (j + 1) (wire_name j ∷ ns)
wires_more j ns few k = record {
  old = λ i h. elim (cases_lt i j) [
    | inl l ↦ keeps_more ns (wire_name j) (wire_name i) (k.old i l)
    | inr g ↦ or_left (same (wire_name i) (wire_name j)) (among ns (wire_name i)) (ap (λ z. same (wire_name i) (wire_name z)) (let e : j ≡ i = omega arith in e) ∙ same_refl (wire_name i))
  ];
  new = λ i h b. or_from (same (wire_name i) (wire_name j)) (among ns (wire_name i)) (wires_differ i j b (omega arith) (λ e. omega arith)) (k.new i (omega arith) b);
}

-- what is known before node j, and what has its value there
record Knows (net : Net) (j : ℕ) (known given : List (List ℕ)) : Type 0 where
  pub samples : All (λ s. (is_sample_name s.name && among known s.name) ≡ true) net.parts.samples
  pub regs : RegsKnown known net.parts.regs
  pub files : FilesKnown known net.parts.files
  pub wires : Wires j known
  pub clk : among known (codes "clk") ≡ true
  pub integer : 0 < length net.parts.files → among known (codes "i") ≡ true
  pub rst : net.parts.reset ≡ true → among known (codes "rst") ≡ true
  pub wires_given : Wires j given
  pub full : among given (codes "full") ≡ false
  pub ue : among given (codes "ue") ≡ false
  pub back : among given (codes "back") ≡ false

knows_more : (net : Net) (j : ℕ) (known given : List (List ℕ)) → j < 16777216 → Knows net j known given → Knows net (j + 1) (wire_name j ∷ known) (wire_name j ∷ given)
knows_more net j known given few k = record {
  samples = λ i d l. still_known _ known (wire_name j) (get_or net.parts.samples i d).name (k.samples i d l);
  regs = λ i d l. still_known _ known (wire_name j) (get_or net.parts.regs i d).name (k.regs i d l);
  files = λ i d l. still_known _ known (wire_name j) (get_or net.parts.files i d).name (k.files i d l);
  wires = wires_more j known few k.wires;
  clk = keeps_more known (wire_name j) (codes "clk") k.clk;
  integer = λ l. keeps_more known (wire_name j) (codes "i") (k.integer l);
  rst = λ e. keeps_more known (wire_name j) (codes "rst") (k.rst e);
  wires_given = wires_more j given few k.wires_given;
  full = or_from (same (codes "full") (wire_name j)) _ refl k.full;
  ue = or_from (same (codes "ue") (wire_name j)) _ refl k.ue;
  back = or_from (same (codes "back") (wire_name j)) _ refl k.back;
}

-- what is driven so far, part by part
abbrev state : List (List ℕ) → List (List ℕ) → List (List ℕ) → List (List ℕ) → List (List ℕ) → List (List ℕ) → Driven
state g s f r u w = record { given = g; started = s; filled = f; reset = r; updated = u; written = w }

abbrev given_only : List (List ℕ) → Driven
given_only g = state g [] [] [] [] []

module _ (resets : Bool) (all : Driven) where
  -- no name is bad, and none is badly driven
  pub record Good (known : List (List ℕ)) (d : Driven) (os : List Occurrence) : Type 0 where
    pub no_bad_name : bad_name known os ≡ None
    pub no_bad_driver : bad_driver resets all d os ≡ None

  -- one name that fits
  fits : (known : List (List ℕ)) (d : Driven) (o : Occurrence) (os : List Occurrence) → name_fits known o.role o.named.name ≡ true → driver_fits resets all d o.role o.named.name ≡ true
      → Good (learns known o.role o.named.name) (drives d o.role o.named.name) os → Good known d (o ∷ os)
  fits known d o os e f h = record {
    no_bad_name = cond-true (name_fits known o.role o.named.name) (bad_name (learns known o.role o.named.name) os) (Some o.named.at) e ∙ h.no_bad_name;
    no_bad_driver = cond-true (driver_fits resets all d o.role o.named.name) (bad_driver resets all (drives d o.role o.named.name) os) (Some o.named.at) f ∙ h.no_bad_driver;
  }

  -- a wire is used
  used : (known : List (List ℕ)) (d : Driven) (a : NodeId) (at : ℕ) (os : List Occurrence) → a.0 ≤ 16777216 → among known (wire a) ≡ true → among d.given (wire a) ≡ true
      → Good known d os → Good known d (occurs uses_wire (named_at (wire a) at) ∷ os)
  used known d a at os few k g h = fits known d _ os (and_from (is_wire_name (wire a)) _ (wire_spelled a.0 few) k) g h

  -- a list of parts, each with a new name, which is added to those so far
  fit_each : {X Y : Type 0} (make : X → (ℕ → ℕ) → Y) (f : X → List ℕ) (t : ℕ) (names_of : List Y → List Occurrence) (At : List (List ℕ) → List Occurrence → Type 0) (Fine : X → Type 0)
      → ((x : X) (p : ℕ → ℕ) (zs : List Y) (l : List (List ℕ)) → Fine x → not (among l (f x)) ≡ true → At (f x ∷ l) (names_of zs) → At l (names_of (make x p ∷ zs)))
      → (xs : List X) (ys zs : List Y) (l : List (List ℕ)) → ShowsEach make xs ys → All Fine xs → All (λ x. tag (f x) ≡ t) xs → Differ (map f xs) → AllNew f l xs
      → ((l' : List (List ℕ)) → Grows f xs t l l' → At l' (names_of zs)) → At l (names_of (ys ++ zs))
  fit_each make f t names_of At Fine one _ _ zs l none_shown k tags d new h = h l (grows_none f t l)
  fit_each make f t names_of At Fine one _ _ zs l (one_shown {x = x} {xs = xs} {ys = ys} p sh) k tags d new h =
      one x p (ys ++ zs) l (All-head Fine x xs k) (is_new f l x xs new)
      (fit_each make f t names_of At Fine one xs ys zs (f x ∷ l) sh (All-tail Fine x xs k) (All-tail (λ x. tag (f x) ≡ t) x xs tags) d.1 (new_more f x xs l d new)
      (λ l' g. h l' (grows_more f x xs t l l' (All-head (λ x. tag (f x) ≡ t) x xs tags) g)))

  samples_fit : (ss : List Port) (xs : List VPort) (known : List (List ℕ)) (d : Driven) (rest : List Occurrence) → ShowsEach sample_port ss xs → All (λ s. is_sample_name s.name ≡ true) ss → All (λ s. tag s.name ≡ 1115) ss
      → Differ (map (λ s. s.name) ss) → AllNew (λ s. s.name) known ss → ((known' : List (List ℕ)) → Grows (λ s. s.name) ss 1115 known known' → Good known' d rest) → Good known d (samples_names xs ++ rest)
  samples_fit ss xs known d rest sh k tags e new h =
      subst (λ ys. Good known d (samples_names ys ++ rest)) (append-nil xs)
      (fit_each sample_port (λ s. s.name) 1115 (λ xs. samples_names xs ++ rest) (λ l os. Good l d os) (λ s. is_sample_name s.name ≡ true) (λ s p zs l k new h. fits l d _ _ (and_from (is_sample_name s.name) _ k new) refl h)
      ss xs [] known sh k tags e new h)

  -- node j, after its wire is declared
  module _ (net : Net) (named : IsNamed net) (j : ℕ) (known g : List (List ℕ)) (few : j < 16777216) (kn : Knows net j known g) where
    abbrev known' : List (List ℕ)
    known' = wire_name j ∷ known

    operand : (a : NodeId) (at : ℕ) (os : List Occurrence) → a.0 < j → Good known' (given_only g) os → Good known' (given_only g) (occurs uses_wire (named_at (wire a) at) ∷ os)
    operand a at os l h = used known' (given_only g) a at os (omega arith) (keeps_more known (wire_name j) (wire a) (kn.wires.old a.0 l)) (kn.wires_given.old a.0 l) h

    operands_fit : (parts : List NodeId) (xs : List Named) (os its rest : List Occurrence) → ShowsNames parts xs → All (λ a. a.0 < j) parts
        → Good known' (given_only g) ((os ++ its) ++ rest) → Good known' (given_only g) (((wires_used xs ++ os) ++ its) ++ rest)
    operands_fit _ _ os its rest no_name ok h = h
    operands_fit _ _ os its rest (a_name {a = a} {parts = parts} {xs = xs} at sh) ok h =
        operand a at _ (All-head (λ a. a.0 < j) a parts ok) (operands_fit parts xs os its rest sh (All-tail (λ a. a.0 < j) a parts ok) h)

    right_fits_here : (k at : ℕ) (kind : Kind) (r : Right) (its rest : List Occurrence) → ShowsRight net.parts k kind r → KindOk net.nodes j k kind → CellOk net.nodes net.parts k kind
        → Good known' (given_only (wire_name j ∷ g)) (its ++ rest)
        → Good known' (given_only g) (((right_names (named_at (wire_name j) at) r ++ (occurs is_given (named_at (wire_name j) at) ∷ [])) ++ its) ++ rest)
    right_fits_here k at _ _ its rest (a_const a) ok cell h = fits known' _ _ _ refl refl h
    right_fits_here k at _ _ its rest (an_ext a) ok cell h = fits known' _ _ _ refl refl (fits known' _ _ _ refl refl h)
    right_fits_here k at _ _ its rest (a_sample {i = x} a) ok cell h =
        let n = (get_or net.parts.samples x no_port).name in
        let p = and_parts (is_sample_name n) _ (kn.samples x no_port cell.0) in
        fits known' _ _ _ (source_known known' n (or_right (is_reg_name n) _ p.0) (keeps_more known (wire_name j) n p.1)) refl (fits known' _ _ _ refl refl h)
    right_fits_here k at _ _ its rest (a_reg {i = x} a) ok cell h =
        let n = (get_or net.parts.regs x no_reg).name in
        let p = and_parts (is_reg_name n) _ (kn.regs x no_reg cell.0) in
        fits known' _ _ _ (source_known known' n (or_left (is_reg_name n) _ p.0) (keeps_more known (wire_name j) n p.1)) refl (fits known' _ _ _ refl refl h)
    right_fits_here k at _ _ its rest (a_word {i = x} {n = n} a b) ok cell h =
        fits known' _ _ _ (still_known _ known (wire_name j) (get_or net.parts.files x no_file).name (kn.files x no_file cell.0)) refl (operand n b _ ok (fits known' _ _ _ refl refl h))
    right_fits_here k at _ _ its rest (a_not {n = n} a) ok cell h = operand n a _ ok.0 (fits known' _ _ _ refl refl h)
    right_fits_here k at _ _ its rest (a_binary {n = n} {m = o} a b) ok cell h = operand n a _ ok.0 (operand o b _ ok.1 (fits known' _ _ _ refl refl h))
    right_fits_here k at _ _ its rest (a_mux {t = t} {n = n} {m = o} a b c) ok cell h = operand t a _ ok.0 (operand n b _ ok.1 (operand o c _ ok.2 (fits known' _ _ _ refl refl h)))
    right_fits_here k at _ _ its rest (a_concat {parts = parts} {xs = xs} sh) ok cell h =
        operands_fit parts xs (occurs is_given (named_at (wire_name j) at) ∷ []) its rest sh ok.2 (fits known' _ _ _ refl refl h)
    right_fits_here k at _ _ its rest (a_slice {n = n} a b c) ok cell h = operand n a _ ok.0 (fits known' _ _ _ refl refl h)

  nodes_fit : (net : Net) (named : IsNamed net) (j : ℕ) (ns : List Node) (xs ys : List Item) (known g : List (List ℕ)) (rest : List Occurrence) → ShowsNodes net.parts j ns xs → RightFrom net j ns
      → j + length ns ≤ 16777216 → ((i : ℕ) → j ≤ i → i < j + length ns → among all.given (wire_name i) ≡ true) → Knows net j known g
      → ((known' g' : List (List ℕ)) → Knows net (j + length ns) known' g' → Good known' (given_only g') (items_names ys ++ rest)) → Good known (given_only g) (items_names (xs ++ ys) ++ rest)
  nodes_fit net named j _ _ ys known g rest no_node_line k few a kn h = h known g (subst (λ i. Knows net i known g) (let e : j ≡ j + 0 = omega arith in e) kn)
  nodes_fit net named j _ _ ys known g rest (node_line {n = n} {ns = ns} {r = r} {xs = xs} b c e f sh next) k few a kn h =
      let known' = wire_name j ∷ known in
      fits known (given_only g) _ _ (and_from (is_wire_name (wire_name j)) _ (wire_spelled j (omega arith)) (not_from_false (among known (wire_name j)) (kn.wires.new j (omega arith) (omega arith)))) (a j (omega arith) (omega arith))
      (fits known' (given_only g) _ _ (and_from (is_wire_name (wire_name j)) _ (wire_spelled j (omega arith)) (or_left _ _ (same_refl (wire_name j)))) (not_from_false (among g (wire_name j)) (kn.wires_given.new j (omega arith) (omega arith)))
      (right_fits_here net named j known g (omega arith) kn n.width f n.kind r (items_names (xs ++ ys)) rest sh k.0.kind k.1
      (nodes_fit net named (j + 1) ns xs ys known' (wire_name j ∷ g) rest next k.2 (omega arith) (λ i l m. a i (omega arith) (omega arith)) (knows_more net j known g (omega arith) kn)
      (λ known'' g' kn'. h known'' g' (subst (λ i. Knows net i known'' g') (let e : j + 1 + length ns ≡ j + suc (length ns) = omega arith in e) kn')))))

  words_fit : (known : List (List ℕ)) (d : Driven) (n : List ℕ) (w i : ℕ) (us : List ℕ) (xs ys : List Init) (rest : List Occurrence) → ShowsWords n w i us xs → (is_file_name n && among known n) ≡ true → among d.filled n ≡ true
      → Good known d (inits_names ys ++ rest) → Good known d (inits_names (xs ++ ys) ++ rest)
  words_fit known d n w i _ _ ys rest no_words e f h = h
  words_fit known d n w i _ _ ys rest (zero_word {vs = vs} {xs = xs} z sh) e f h = words_fit known d n w (i + 1) vs xs ys rest sh e f h
  words_fit known d n w i _ _ ys rest (some_word {vs = vs} {xs = xs} a b c z sh) e f h = fits known d _ _ e f (words_fit known d n w (i + 1) vs xs ys rest sh e f h)

  fills_fit : (known g s f : List (List ℕ)) (fs : List NetFile) (xs : List Init) (rest : List Occurrence) → ShowsFills fs xs → FilesKnown known fs → Differ (map (λ f. f.name) fs) → AllNew (λ f. f.name) f fs
      → (0 < length fs → among known (codes "i") ≡ true) → ((f' : List (List ℕ)) → Good known (state g s f' [] [] []) rest) → Good known (state g s f [] [] []) (inits_names xs ++ rest)
  fills_fit known g s f _ _ rest no_fill k d new int h = h f
  fills_fit known g s f _ _ rest (a_fill {f = x} {fs = fs} {xs = xs} {ys = ys} p sh next) k d new int h =
      let K : NetFile → Type 0 = λ f. (is_file_name f.name && among known f.name) ≡ true in
      let i = int (omega arith) in let file = All-head K x fs k in
      fits known _ _ _ i refl (fits known _ _ _ i refl (fits known _ _ _ i refl (fits known _ _ _ i refl (fits known _ _ _ file (is_new (λ f. f.name) f x fs new) (fits known _ _ _ i refl
      (words_fit known (state g s (x.name ∷ f) [] [] []) x.name x.width 0 x.words xs ys rest sh file (or_left _ _ (same_refl x.name))
      (fills_fit known g s (x.name ∷ f) fs ys rest next (All-tail K x fs k) d.1 (new_more (λ f. f.name) x fs f d new) (λ l. i) h)))))))

  values_fit : (known g s f r : List (List ℕ)) (inits : List Init) (rs : List NetReg) (xs : List ResetValue) (rest : List Occurrence) → ShowsEach reset_value rs xs → RegsKnown known rs → Differ (map (λ r. r.name) rs) → AllNew (λ r. r.name) r rs
      → All (λ r. start_in inits r.name ≡ Some (literal_for r.start)) rs → ((r' : List (List ℕ)) → Good known (state g s f r' [] []) rest) → Good known (state g s f r [] []) (values_names inits xs ++ rest)
  values_fit known g s f r inits _ _ rest none_shown k d new a h = h r
  values_fit known g s f r inits _ _ rest (one_shown {x = x} {xs = rs} {ys = xs} p sh) k d new a h =
      let K : NetReg → Type 0 = λ r. (is_reg_name r.name && among known r.name) ≡ true in
      let S : NetReg → Type 0 = λ r. start_in inits r.name ≡ Some (literal_for r.start) in
      fits known _ _ _ (All-head K x rs k) (is_new (λ r. r.name) r x rs new)
      (fits known _ _ _ refl (ap (λ o. is_literal o (literal_for x.start)) (All-head S x rs a) ∙ and_from (x.start.width == x.start.width) _ (eq-eqb x.start.width x.start.width refl) (eq-eqb x.start.value x.start.value refl))
      (values_fit known g s f (x.name ∷ r) inits rs xs rest sh (All-tail K x rs k) d.1 (new_more (λ r. r.name) x rs r d new) (All-tail S x rs a) h))

  reset_fit : (known g s f : List (List ℕ)) (inits : List Init) (rs : List NetReg) (b : Bool) (rst : Option Named) (r : Option ResetList) (rest : List Occurrence) → ShowsReset rs b rst r
      → (b ≡ true → among known (codes "rst") ≡ true) → RegsKnown known rs → Differ (map (λ r. r.name) rs) → All (λ r. start_in inits r.name ≡ Some (literal_for r.start)) rs
      → ((r' : List (List ℕ)) → Good known (state g s f r' [] []) rest) → Good known (state g s f [] [] []) (reset_names inits r ++ rest)
  reset_fit known g s f inits rs _ _ _ rest no_reset_shown e k d a h = h []
  reset_fit known g s f inits rs _ _ _ rest (reset_shown {xs = xs} b c sh) e k d a h = fits known _ _ _ (e refl) refl (values_fit known g s f [] inits rs xs rest sh k d (λ i e l. refl) a h)

  -- The nodes are given, and known: these are the updates.
  module _ (net : Net) (known g s f r : List (List ℕ)) (few : length net.nodes ≤ 16777216) (old : (i : ℕ) → i < length net.nodes → among known (wire_name i) ≡ true)
      (given : (i : ℕ) → i < length net.nodes → among g (wire_name i) ≡ true) where
    node_used : (u w : List (List ℕ)) (a : NodeId) (at : ℕ) (os : List Occurrence) → a.0 < length net.nodes → Good known (state g s f r u w) os → Good known (state g s f r u w) (occurs uses_wire (named_at (wire a) at) ∷ os)
    node_used u w a at os l h = used known (state g s f r u w) a at os (omega arith) (old a.0 l) (given a.0 l) h

    writes_fit : (u w : List (List ℕ)) (fs : List NetFile) (xs : List Update) → ShowsWrites fs xs → All (FileOk net.nodes) fs → FilesKnown known fs → Differ (map (λ f. f.name) fs) → AllNew (λ f. f.name) w fs
        → Good known (state g s f r u w) (updates_names xs)
    writes_fit u w _ _ no_write ok k d new = record { no_bad_name = refl; no_bad_driver = refl }
    writes_fit u w _ _ (not_written {f = x} {fs = fs} {xs = xs} z sh) ok k d new =
        writes_fit u w fs xs sh (All-tail (FileOk net.nodes) x fs ok) (All-tail (λ f. (is_file_name f.name && among known f.name) ≡ true) x fs k) d.1 (All-tail (λ z. among w z.name ≡ false) x fs new)
    writes_fit u w _ _ (a_write {f = x} {fs = fs} {xs = xs} port p z sh) ok k d new =
        let K : NetFile → Type 0 = λ f. (is_file_name f.name && among known f.name) ≡ true in
        let port_ok = subst (WriteOk net.nodes x.width x.address_width) z (All-head (FileOk net.nodes) x fs ok).port in
        node_used u w port.enable (p 2) _ port_ok.0.0 (fits known _ _ _ (All-head K x fs k) (is_new (λ f. f.name) w x fs new)
        (node_used u (x.name ∷ w) port.address (p 6) _ port_ok.1.0 (node_used u (x.name ∷ w) port.value (p 9) _ port_ok.2.0
        (writes_fit u (x.name ∷ w) fs xs sh (All-tail (FileOk net.nodes) x fs ok) (All-tail K x fs k) d.1 (new_more (λ f. f.name) x fs w d new)))))

  reset_port_fits : (known : List (List ℕ)) (d : Driven) (rs : List NetReg) (b : Bool) (rst : Option Named) (r : Option ResetList) (os rest : List Occurrence) → ShowsReset rs b rst r → among known (codes "rst") ≡ false
      → ((known' : List (List ℕ)) → (b ≡ true → among known' (codes "rst") ≡ true) → ((n : List ℕ) → among known n ≡ true → among known' n ≡ true) → ((u : ℕ) → (u == 114) ≡ false → Free known u → Free known' u) → Good known' d (os ++ rest))
      → Good known d ((reset_port_names rst (is_some r) ++ os) ++ rest)
  reset_port_fits known d rs _ _ _ os rest no_reset_shown e h = h known (λ e. absurd (false≢true e)) (λ n e. e) (λ u d f. f)
  reset_port_fits known d rs _ _ _ os rest (reset_shown a b sh) e h =
      fits known d _ _ (not_from_false (among known (codes "rst")) e) refl
      (fits (codes "rst" ∷ known) d _ _ refl refl (h (codes "rst" ∷ known) (λ e. refl) (λ n e. keeps_more known (codes "rst") n e) (λ u d f. free_more known (codes "rst") 114 u refl d f)))

  integer_fits : (known : List (List ℕ)) (d : Driven) (fs : List NetFile) (xs ys : List Item) (rest : List Occurrence) → ShowsInteger fs xs → among known (codes "i") ≡ false
      → ((known' : List (List ℕ)) → (0 < length fs → among known' (codes "i") ≡ true) → ((n : List ℕ) → among known n ≡ true → among known' n ≡ true) → ((u : ℕ) → (u == 105) ≡ false → Free known u → Free known' u)
      → Good known' d (items_names ys ++ rest))
      → Good known d (items_names (xs ++ ys) ++ rest)
  integer_fits known d _ _ ys rest no_integer e h = h known (λ l. absurd (omega arith)) (λ n e. e) (λ u d f. f)
  integer_fits known d _ _ ys rest (an_integer a) e h =
      fits known d _ _ (not_from_false (among known (codes "i")) e) refl (h (codes "i" ∷ known) (λ l. refl) (λ n e. keeps_more known (codes "i") n e) (λ u d f. free_more known (codes "i") 105 u refl d f))

  -- the outputs, and what is after the items
  outs_fit : (net : Net) (s : Shown net) (known g : List (List ℕ)) → NetOk net → IsNamed net → Knows net (length net.nodes) known g → Good known (given_only g) (items_names (outs s) ++ body_names (module_of s))
  outs_fit net s known g k named kn =
      let p = net.parts in
      let few = k.count in
      let found = found_each reg_start (λ r. r.name) start_in (λ r. Some (literal_for r.start)) (λ r p zs n. refl) p.regs s.start_part s.fill_part s.shows_starts named.regs_differ in
      let rest : List Occurrence = occurs (uses_port (codes "clk")) (module_of s).clock ∷ (reset_names (module_of s).inits s.resets ++ updates_names (module_of s).updates) in
      let g1 = codes "full" ∷ g in let g2 = codes "ue" ∷ g1 in let g3 = codes "back" ∷ g2 in
      let given = kn.wires_given.old in
      let old : (i : ℕ) → i < length net.nodes → among g3 (wire_name i) ≡ true = λ i l. keeps_more g2 (codes "back") (wire_name i) (keeps_more g1 (codes "ue") (wire_name i) (keeps_more g (codes "full") (wire_name i) (given i l))) in
      let out : (g : List (List ℕ)) (a : NodeId) (at : ℕ) (os : List Occurrence) → a.0 < length net.nodes → among g (wire a) ≡ true → Good known (given_only g) os → Good known (given_only g) (occurs uses_wire (named_at (wire a) at) ∷ os)
      = λ g a at os l e h. used known (given_only g) a at os (omega arith) (kn.wires.old a.0 l) e h in
      fits known _ _ _ refl (not_from_false (among g (codes "full")) kn.full) (out g p.full (s.q 1) _ k.parts.full (given p.full.0 k.parts.full) (fits known _ _ _ refl refl
      (fits known _ _ _ refl (not_from_false (among g1 (codes "ue")) (or_from (same (codes "ue") (codes "full")) _ refl kn.ue)) (out g1 p.ue (s.q 3) _ k.parts.ue (keeps_more g (codes "full") (wire p.ue) (given p.ue.0 k.parts.ue)) (fits known _ _ _ refl refl
      (fits known _ _ _ refl (not_from_false (among g2 (codes "back")) (or_from (same (codes "back") (codes "ue")) _ refl (or_from (same (codes "back") (codes "full")) _ refl kn.back)))
      (out g2 p.back (s.q 5) _ k.parts.back (keeps_more g1 (codes "ue") (wire p.back) (keeps_more g (codes "full") (wire p.back) (given p.back.0 k.parts.back))) (fits known _ _ _ refl refl
      (fit_each reg_start (λ r. r.name) 1114 (λ xs. inits_names xs ++ rest) (λ s os. Good known (state g3 s [] [] [] []) os) (λ r. (is_reg_name r.name && among known r.name) ≡ true) (λ r p zs s k new h. fits known _ _ _ k new h)
      p.regs s.start_part s.fill_part [] s.shows_starts kn.regs (regs_tagged net named) named.regs_differ (λ i d l. refl) (λ s' _.
      fills_fit known g3 s' [] p.files s.fill_part _ s.shows_fills kn.files named.files_differ (λ i d l. refl) kn.integer (λ f'.
      fits known _ _ _ kn.clk refl
      (reset_fit known g3 s' f' (s.start_part ++ s.fill_part) p.regs p.reset s.rst s.resets _ s.reset kn.rst kn.regs named.regs_differ found (λ r'.
      fit_each reg_update (λ r. r.name) 1114 updates_names (λ u os. Good known (state g3 s' f' r' u []) os) (λ r. RegOk net.nodes r × ((is_reg_name r.name && among known r.name) ≡ true))
      (λ r p zs u k new h. fits known _ _ _ k.1 new (node_used net known g3 s' f' r' few kn.wires.old old (r.name ∷ u) [] r.next (p 2) _ k.0.next.0 h))
      p.regs s.update_part s.write_part [] s.shows_updates (λ i d l. (k.parts.regs i d l, kn.regs i d l)) (regs_tagged net named) named.regs_differ (λ i d l. refl) (λ u' _.
      writes_fit net known g3 s' f' r' few kn.wires.old old u' [] p.files s.write_part s.shows_writes k.parts.files kn.files named.files_differ (λ i d l. refl)))))))))))))))

  all_fit : (net : Net) (s : Shown net) → NetOk net → IsNamed net → DrivesAll net resets all → Good [] nothing (names (module_of s))
  all_fit net s k named driven =
      let p = net.parts in
      let w = module_of s in
      let few = k.count in
      let regs = spelled is_reg_name (λ r. r.name) p.regs named.regs in
      let files = spelled is_file_name (λ f. f.name) p.files named.files in
      let samples = spelled is_sample_name (λ x. x.name) p.samples named.samples in
      let rest = items_names w.items ++ body_names w in
      let ports = wide_port_names (codes "full") w.ext w.full ++ (wide_port_names (codes "ue") w.ext w.ue ++ (occurs (declares_port (codes "back")) w.back.port ∷ [])) in
      fits [] _ _ _ named.name.kind refl (fits [] _ _ _ refl refl
      (reset_port_fits (codes "clk" ∷ []) nothing p.regs p.reset s.rst s.resets (occurs (declares_port (codes "ext")) w.ext.port ∷ (samples_names s.ports ++ ports)) rest s.reset refl (λ k1 rst keep1 free1.
      let base : (u : ℕ) → (u == 99) ≡ false → (u == 114) ≡ false → Free k1 u = λ u a b. free1 u b (free_more [] (codes "clk") 99 u refl a (λ x e. refl)) in
      fits k1 nothing _ _ (not_from_false (among k1 (codes "ext")) (base 101 refl refl (codes "ext") refl)) refl
      (subst (Good (codes "ext" ∷ k1) nothing) (sym (append_assoc (samples_names s.ports) ports rest))
      (samples_fit p.samples s.ports (codes "ext" ∷ k1) nothing (ports ++ rest) s.samples samples (samples_tagged net named) named.samples_differ
      (all_new (λ (x : Port). x.name) p.samples 1115 (codes "ext" ∷ k1) (samples_tagged net named) (free_more k1 (codes "ext") 101 1115 refl refl (base 1115 refl refl))) (λ k2 g.
      let k3 = codes "full" ∷ k2 in let k4 = codes "ue" ∷ k3 in let k5 = codes "back" ∷ k4 in
      let free2 : (u : ℕ) → (u == 99) ≡ false → (u == 114) ≡ false → (u == 101) ≡ false → (u == 1115) ≡ false → Free k2 u = λ u a b c d. g.frees u d (free_more k1 (codes "ext") 101 u refl c (base u a b)) in
      fits k2 nothing _ _ (not_from_false (among k2 (codes "full")) (free2 102 refl refl refl refl (codes "full") refl)) driven.full
      (fits k3 nothing _ _ refl (eq-eqb (wide net.nodes p.full.0 - 1) (p.ext - 1) (ap (λ x. x - 1) named.full))
      (fits k3 nothing _ _ (not_from_false (among k3 (codes "ue")) (free_more k2 (codes "full") 102 117 refl refl (free2 117 refl refl refl refl) (codes "ue") refl)) driven.ue
      (fits k4 nothing _ _ refl (eq-eqb (wide net.nodes p.ue.0 - 1) (p.ext - 1) (ap (λ x. x - 1) named.ue))
      (fits k4 nothing _ _ (not_from_false (among k4 (codes "back")) (free_more k3 (codes "ue") 117 98 refl refl (free_more k2 (codes "full") 102 98 refl refl (free2 98 refl refl refl refl)) (codes "back") refl)) driven.back
      (let free5 : (u : ℕ) → (u == 99) ≡ false → (u == 114) ≡ false → (u == 101) ≡ false → (u == 1115) ≡ false → (u == 102) ≡ false → (u == 117) ≡ false → (u == 98) ≡ false → Free k5 u = λ u a b c d e f h.
      free_more k4 (codes "back") 98 u refl h (free_more k3 (codes "ue") 117 u refl f (free_more k2 (codes "full") 102 u refl e (free2 u a b c d))) in
      let keep2 : (n : List ℕ) → among k2 n ≡ true → among k5 n ≡ true = λ n e. keeps_more k4 (codes "back") n (keeps_more k3 (codes "ue") n (keeps_more k2 (codes "full") n e)) in
      let keep1' : (n : List ℕ) → among k1 n ≡ true → among k5 n ≡ true = λ n e. keep2 n (g.keeps n (keeps_more k1 (codes "ext") n e)) in
      fit_each reg_item (λ r. r.name) 1114 (λ xs. items_names xs ++ body_names w) (λ l os. Good l nothing os) (λ r. (is_reg_name r.name ≡ true) × (driver_fits resets all nothing declares_reg r.name ≡ true))
      (λ r p zs l k new h. fits l nothing _ _ (and_from (is_reg_name r.name) _ k.0 new) k.1 h)
      p.regs s.regs (s.files ++ (s.integer ++ (s.nodes ++ outs s))) k5 s.shows_regs (λ i d l. (regs i d l, driven.regs i d l)) (regs_tagged net named) named.regs_differ
      (all_new (λ (x : NetReg). x.name) p.regs 1114 k5 (regs_tagged net named) (free5 1114 refl refl refl refl refl refl refl)) (λ k6 g6.
      fit_each file_item (λ f. f.name) 1102 (λ xs. items_names xs ++ body_names w) (λ l os. Good l nothing os) (λ f. (is_file_name f.name ≡ true) × (among all.filled f.name ≡ true))
      (λ f p zs l k new h. fits l nothing _ _ (and_from (is_file_name f.name) _ k.0 new) k.1 h)
      p.files s.files (s.integer ++ (s.nodes ++ outs s)) k6 s.shows_files (λ i d l. (files i d l, driven.filled i d l)) (files_tagged net named) named.files_differ
      (all_new (λ (x : NetFile). x.name) p.files 1102 k6 (files_tagged net named) (g6.frees 1102 refl (free5 1102 refl refl refl refl refl refl refl))) (λ k7 g7.
      integer_fits k7 nothing p.files s.integer (s.nodes ++ outs s) (body_names w) s.shows_integer
      (g7.frees 105 refl (g6.frees 105 refl (free5 105 refl refl refl refl refl refl refl)) (codes "i") refl) (λ k8 int keep8 free8.
      let keep5 : (n : List ℕ) → among k5 n ≡ true → among k8 n ≡ true = λ n e. keep8 n (g7.keeps n (g6.keeps n e)) in
      nodes_fit net named 0 net.nodes s.nodes (outs s) k8 [] (body_names w) s.shows_nodes (all_right net k) (omega arith) (λ i l h. driven.wires i (omega arith))
      (record {
        samples = λ i d l. let n = (get_or p.samples i d).name in and_from (is_sample_name n) _ (samples i d l) (keep5 n (keep2 n (g.has i d l)));
        regs = λ i d l. let n = (get_or p.regs i d).name in and_from (is_reg_name n) _ (regs i d l) (keep8 n (g7.keeps n (g6.has i d l)));
        files = λ i d l. let n = (get_or p.files i d).name in and_from (is_file_name n) _ (files i d l) (keep8 n (g7.has i d l));
        wires = record { old = λ i l. absurd (omega arith); new = λ i l b. free8 110 refl (g7.frees 110 refl (g6.frees 110 refl (free5 110 refl refl refl refl refl refl refl))) (wire_name i) (tag_wire i b) };
        clk = keep5 (codes "clk") (keep1' (codes "clk") (keep1 (codes "clk") refl));
        integer = int;
        rst = λ e. keep5 (codes "rst") (keep1' (codes "rst") (rst e));
        wires_given = record { old = λ i l. absurd (omega arith); new = λ i l b. refl };
        full = refl;
        ue = refl;
        back = refl;
      })
      (λ k9 g9 kn. outs_fit net s k9 g9 k named (subst (λ i. Knows net i k9 g9) (let e : 0 + length net.nodes ≡ length net.nodes = omega arith in e) kn))))))))))))))))

-- A module that represents a netlist violates no rule of names, and none of drivers.
all_hold : (net : Net) (s : Shown net) → NetOk net → IsNamed net → Good (is_some s.resets) (all_driven (module_of s)) [] nothing (names (module_of s))
all_hold net s k named = all_fit (is_some s.resets) (all_driven (module_of s)) net s k named (drives_all net s)

pub names_hold : (net : Net) (s : Shown net) → NetOk net → IsNamed net → bad_name [] (names (module_of s)) ≡ None
names_hold net s k named = (all_hold net s k named).no_bad_name

pub drivers_hold : (net : Net) (s : Shown net) → NetOk net → IsNamed net → module_driver (module_of s) ≡ None
drivers_hold net s k named = (all_hold net s k named).no_bad_driver
