-- What a module that represents a netlist drives.
use Rattle.std.proofs.Common.{◌≡◌, ◌∙◌, ℕ, ◌+◌, ◌≤◌, ◌<◌, List, [], ◌∷◌, ◌++◌, length, get_or, map, Bool, true, Option, refl, ap, arith, inl, inr}
use Rattle.std.proofs.lemmas.{Bool.cases_lt, Bool.and_from, Bool.or_left, Bool.or_right, List.Elements.All-nil, List.Elements.All-cons}
use Rattle.std.specs.{Prelude.codes, Prelude.All, Prelude.◌||◌, Prelude.not, Option.is_some}
use Rattle.kp_net.specs.declared.{node.Node.Node, netlist.NetReg.NetReg, netlist.NetFile.NetFile, netlist.Parts.Parts}
use Rattle.kp_net.specs.{Names.same, Names.among, Netlist.Net}
use Rattle.kp_vlog.proofs.Sentence.{ShowsEach, none_shown, one_shown, reg_item, file_item, reg_start, reset_value, reg_update, ShowsNodes, no_node_line, node_line, ShowsWords, no_words, zero_word, some_word, ShowsFills, no_fill, a_fill, ShowsReset, no_reset_shown, reset_shown, Shown, outs, module_of}
use Rattle.kp_vlog.specs.{Occurrences.declares_reg, declared.tree.Named.Named, declared.tree.ResetList.ResetList, declared.tree.ResetValue.ResetValue}
use Rattle.kp_vlog.specs.{declared.tree.Item.Item, declared.tree.Init.Init, Canon.wire_name}
use Rattle.kp_vlog.specs.Rules.{Driven, nothing, all_driven, items_given, inits_started, inits_filled, updates_updated, reset_values, driver_fits}
use Rattle.kp_vlog.proofs.{Tests.same_refl, Each.past_each, Each.among_each, Denoted.past_integer}

values_driven : (rs : List NetReg) (xs : List ResetValue) → ShowsEach reset_value rs xs → All (λ r. among (map (λ x. x.name.name) xs) r.name ≡ true) rs
values_driven _ _ none_shown = All-nil (λ (r : NetReg). among [] r.name ≡ true)
values_driven _ _ (one_shown {x = r} {xs = rs} {ys = xs} p h) =
    All-cons (λ z. among (r.name ∷ map (λ x. x.name.name) xs) z.name ≡ true) r rs (or_left _ _ (same_refl r.name))
    (λ i d l. or_right (same (get_or rs i d).name r.name) _ (values_driven rs xs h i d l))

words_past : (n : List ℕ) (w i : ℕ) (us : List ℕ) (xs ys : List Init) → ShowsWords n w i us xs → inits_filled (xs ++ ys) ≡ inits_filled ys
words_past n w i _ _ ys no_words = refl
words_past n w i _ _ ys (zero_word {vs = vs} {xs = xs} z h) = words_past n w (i + 1) vs xs ys h
words_past n w i _ _ ys (some_word {vs = vs} {xs = xs} a b c z h) = words_past n w (i + 1) vs xs ys h

fills_driven : (fs : List NetFile) (xs : List Init) → ShowsFills fs xs → All (λ f. among (inits_filled xs) f.name ≡ true) fs
fills_driven _ _ no_fill = All-nil (λ (f : NetFile). among [] f.name ≡ true)
fills_driven _ _ (a_fill {f = f} {fs = fs} {xs = xs} {ys = ys} p h k) =
    All-cons (λ z. among (f.name ∷ inits_filled (xs ++ ys)) z.name ≡ true) f fs (or_left _ _ (same_refl f.name))
    (λ i d l. or_right (same (get_or fs i d).name f.name) _ (ap (λ t. among t (get_or fs i d).name) (words_past f.name f.width 0 f.words xs ys h) ∙ fills_driven fs ys k i d l))

nodes_given : (p : Parts) (j : ℕ) (ns : List Node) (xs ys : List Item) (i : ℕ) → ShowsNodes p j ns xs → j ≤ i → i < j + length ns → among (items_given (xs ++ ys)) (wire_name i) ≡ true
nodes_given p j _ _ ys i no_node_line low high = absurd (omega arith)
nodes_given p j _ _ ys i (node_line {n = n} {ns = ns} {xs = xs} a b c d sh next) low high = elim (cases_lt j i) [
  | inl l ↦ or_right (same (wire_name i) (wire_name j)) _ (nodes_given p (j + 1) ns xs ys i next (omega arith) (omega arith))
  | inr g ↦ or_left _ _ (ap (λ z. same (wire_name i) (wire_name z)) (let e : j ≡ i = omega arith in e) ∙ same_refl (wire_name i))
]

outs_given : (p : Parts) (j : ℕ) (ns : List Node) (xs ys : List Item) (n : List ℕ) → ShowsNodes p j ns xs → among (items_given ys) n ≡ true → among (items_given (xs ++ ys)) n ≡ true
outs_given p j _ _ ys n no_node_line e = e
outs_given p j _ _ ys n (node_line {ns = ns} {xs = xs} a b c d sh next) e = or_right (same n (wire_name j)) _ (outs_given p (j + 1) ns xs ys n next e)

pub record DrivesAll (net : Net) (resets : Bool) (all : Driven) : Type 0 where
  pub wires : (i : ℕ) → i < length net.nodes → among all.given (wire_name i) ≡ true
  pub full : among all.given (codes "full") ≡ true
  pub ue : among all.given (codes "ue") ≡ true
  pub back : among all.given (codes "back") ≡ true
  pub regs : All (λ r. driver_fits resets all nothing declares_reg r.name ≡ true) net.parts.regs
  pub filled : All (λ f. among all.filled f.name ≡ true) net.parts.files

given_past : (net : Net) (s : Shown net) → items_given (s.regs ++ (s.files ++ (s.integer ++ (s.nodes ++ outs s)))) ≡ items_given (s.nodes ++ outs s)
given_past net s =
    past_each reg_item items_given (λ r p zs. refl) net.parts.regs s.regs (s.files ++ (s.integer ++ (s.nodes ++ outs s))) s.shows_regs
    ∙ past_each file_item items_given (λ f p zs. refl) net.parts.files s.files (s.integer ++ (s.nodes ++ outs s)) s.shows_files
    ∙ past_integer items_given net.parts.files s.integer (s.nodes ++ outs s) (λ n zs. refl) s.shows_integer

resets_all : (rs : List NetReg) (b : Bool) (rst : Option Named) (r : Option ResetList) → ShowsReset rs b rst r → All (λ x. (not (is_some r) || among (map (λ x. x.name.name) (reset_values r)) x.name) ≡ true) rs
resets_all rs _ _ _ no_reset_shown i d l = refl
resets_all rs _ _ _ (reset_shown {xs = xs} a b h) i d l = values_driven rs xs h i d l

pub drives_all : (net : Net) (s : Shown net) → DrivesAll net (is_some s.resets) (all_driven (module_of s))
drives_all net s =
    let given = given_past net s in
    record {
      wires = λ i l. ap (λ t. among t (wire_name i)) given ∙ nodes_given net.parts 0 net.nodes s.nodes (outs s) i s.shows_nodes (omega arith) (omega arith);
      full = ap (λ t. among t (codes "full")) given ∙ outs_given net.parts 0 net.nodes s.nodes (outs s) (codes "full") s.shows_nodes refl;
      ue = ap (λ t. among t (codes "ue")) given ∙ outs_given net.parts 0 net.nodes s.nodes (outs s) (codes "ue") s.shows_nodes refl;
      back = ap (λ t. among t (codes "back")) given ∙ outs_given net.parts 0 net.nodes s.nodes (outs s) (codes "back") s.shows_nodes refl;
      regs = λ i d l. let n = (get_or net.parts.regs i d).name in
          and_from (among (inits_started (s.start_part ++ s.fill_part)) n) _ (among_each reg_start (λ r. r.name) inits_started (λ r p zs. refl) net.parts.regs s.start_part s.fill_part s.shows_starts i d l)
          (and_from (among (updates_updated (s.update_part ++ s.write_part)) n) _ (among_each reg_update (λ r. r.name) updates_updated (λ r p zs. refl) net.parts.regs s.update_part s.write_part s.shows_updates i d l) (resets_all net.parts.regs net.parts.reset s.rst s.resets s.reset i d l));
      filled = λ i d l. ap (λ t. among t (get_or net.parts.files i d).name) (past_each reg_start inits_filled (λ r p zs. refl) net.parts.regs s.start_part s.fill_part s.shows_starts) ∙ fills_driven net.parts.files s.fill_part s.shows_fills i d l;
    }
