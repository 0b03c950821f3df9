-- In every state that a run reaches, registers and words fit their widths.
use Rattle.std.proofs.Common.{◌≡◌, ℕ, zero, ◌<◌, ◌≤◌, ◌^◌, List, [], length, get_or, set, sym, subst, ap, ◌∙◌, arith, ⊎_elim, All, Option, None, Some}
use Rattle.std.proofs.{Math.ListN.get_or-eq_default, lemmas.Nat.pow_pos, lemmas.Bool.cases_lt, lemmas.Bool.cond_both}
use Rattle.std.proofs.lemmas.{List.get_or-map, List.set_past, List.Elements.All-get_or, Slice.Zip.get_or-zip, Slice.Zip.length-zip}
use Rattle.std.specs.List.{zip}
use Rattle.kp_net.specs.declared.{node.Node.Node, netlist.NetReg.NetReg, netlist.NetFile.NetFile, netlist.WritePort.WritePort}
use Rattle.kp_net.specs.{Nodes.Cells, Nodes.at, Nodes.on, Widths.wide}
use Rattle.kp_net.specs.Netlist.{Net, Input, State, start_of, start_regs, regs_after, files_after, port_after, state_after, resets, cells_of}
use Rattle.kp_net.specs.Parts.{NetOk, RegOk, FileOk, WriteOk, no_reg, no_file}
use Rattle.kp_net.proofs.Values.{at_fits}
use Rattle.kp_cycle_plan.{specs.Storage.Stored, specs.Storage.Fits, specs.Storage.StateFits, specs.Storage.state_of, proofs.Lists.set_has}

-- each number of a list is below n, and so is the default past its end
all_below : (xs : List ℕ) (n a : ℕ) → zero < n → All (λ v. v < n) xs → get_or xs a 0 < n
all_below xs n a p h = ⊎_elim
    (λ (l : a < length xs). All-get_or (λ v. v < n) xs a 0 l h)
    (λ (l : length xs ≤ a). let P : ℕ → Type 0 = λ v. v < n in subst P (sym (get_or-eq_default xs 0 l)) p)
    (cases_lt a (length xs))

set_below : (xs : List ℕ) (n i v a : ℕ) → v < n → ((b : ℕ) → get_or xs b 0 < n) → get_or (set xs i v) a 0 < n
set_below xs n i v a h each =
    ⊎_elim
    (λ (l : i < length xs). set_has (λ _ x. x < n) xs i v 0 a l (λ _. h) (λ _. each a))
    (λ (l : length xs ≤ i). subst (λ ys. get_or ys a 0 < n) (sym (set_past xs i v l)) (each a))
    (cases_lt i (length xs))

below_as : (n w k : ℕ) → n < 2 ^ w → w ≡ k → n < 2 ^ k
below_as n w k h e = let P : ℕ → Type 0 = λ x. n < 2 ^ x in subst P e h

pub fits_start : (net : Net) → NetOk net → StateFits net (start_of net)
fits_start net ok = record {
  regs = λ r h.
      let n : RegOk net.nodes (get_or net.parts.regs r no_reg) = All-get_or (RegOk net.nodes) net.parts.regs r no_reg h ok.parts.regs in
      let P : ℕ → Type 0 = λ v. v < 2 ^ (get_or net.parts.regs r no_reg).start.width in
      subst P (sym (get_or-map (λ (x : NetReg). x.start.value) net.parts.regs r no_reg 0 h)) n.start.fits;
  words = λ f a h.
      let n : FileOk net.nodes (get_or net.parts.files f no_file) = All-get_or (FileOk net.nodes) net.parts.files f no_file h ok.parts.files in
      let w : ℕ = (get_or net.parts.files f no_file).width in
      let P : List ℕ → Type 0 = λ ws. get_or ws a 0 < 2 ^ w in
      subst P (sym (get_or-map (λ (x : NetFile). x.words) net.parts.files f no_file [] h)) (all_below (get_or net.parts.files f no_file).words (2 ^ w) a (pow_pos w) n.words);
}

port_fits : (c : Cells) (ns : List Node) (w k : ℕ) (port : Option WritePort) (words : List ℕ) (a : ℕ) → WriteOk ns w k port → ((b : ℕ) → get_or words b 0 < 2 ^ w) → get_or (port_after c ns port words) a 0 < 2 ^ w
port_fits c ns w k None words a ok each = each a
port_fits c ns w k (Some p) words a ok each =
    let v : ℕ = at c ns p.value.0 in
    let ws : List ℕ = set words (at c ns p.address.0) v in
    cond_both (on c ns p.enable.0) ws words (λ xs. get_or xs a 0 < 2 ^ w)
    (λ _. set_below words (2 ^ w) (at c ns p.address.0) v a (below_as v (wide ns p.value.0) w (at_fits c ns p.value.0 ok.2.0) ok.2.1) each)
    (λ _. each a)

clocked : (net : Net) (c : Cells) (st : State) → NetOk net → length st.files ≡ length net.parts.files → StateFits net st → StateFits net (record { regs = regs_after net c; files = files_after net c st.files })
clocked net c st ok e fits = record {
  regs = λ r h.
      let n : RegOk net.nodes (get_or net.parts.regs r no_reg) = All-get_or (RegOk net.nodes) net.parts.regs r no_reg h ok.parts.regs in
      let P : ℕ → Type 0 = λ v. v < 2 ^ (get_or net.parts.regs r no_reg).start.width in
      subst P (sym (get_or-map (λ (x : NetReg). at c net.nodes x.next.0) net.parts.regs r no_reg 0 h)) (below_as _ _ _ (at_fits c net.nodes _ n.next.0) n.next.1);
  words = λ f a h.
      let n : FileOk net.nodes (get_or net.parts.files f no_file) = All-get_or (FileOk net.nodes) net.parts.files f no_file h ok.parts.files in
      let w : ℕ = (get_or net.parts.files f no_file).width in
      let g : NetFile × List ℕ → List ℕ = λ p. port_after c net.nodes p.0.port p.1 in
      let lz : length (zip net.parts.files st.files) ≡ length net.parts.files = omega (arith, length-zip net.parts.files st.files, e) in
      let s : get_or (files_after net c st.files) f [] ≡ g (get_or net.parts.files f no_file, get_or st.files f []) =
      get_or-map g (zip net.parts.files st.files) f (no_file, []) [] (omega (arith, lz)) ∙ ap g (get_or-zip net.parts.files st.files f (no_file, []) h (omega (arith, e))) in
      let P : List ℕ → Type 0 = λ ws. get_or ws a 0 < 2 ^ w in
      subst P (sym s) (port_fits c net.nodes w (get_or net.parts.files f no_file).address_width (get_or net.parts.files f no_file).port (get_or st.files f []) a n.port (λ b. fits.words f b h));
}

pub fits_after : (net : Net) (i : Input) (st : State) → NetOk net → length st.files ≡ length net.parts.files → StateFits net st → StateFits net (state_after net i st)
fits_after net i st ok e fits =
    cond_both (resets net i) (record { regs = start_regs net; files = st.files }) (record { regs = regs_after net (cells_of i st); files = files_after net (cells_of i st) st.files }) (StateFits net)
    (λ _. record { regs = (fits_start net ok).regs; words = fits.words })
    (λ _. clocked net (cells_of i st) st ok e fits)

pub start_fits : (net : Net) (m : Stored) → Fits net m → m.regs ≡ start_regs net → m.files ≡ (start_of net).files → StateFits net (state_of m)
start_fits net m h r f = let s : state_of m ≡ start_of net = λ i. record { regs = r i; files = f i } in let P : State → Type 0 = StateFits net in subst P (sym s) (fits_start net h.right)
