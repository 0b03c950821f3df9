-- Complete files stay complete.
use Rattle.std.proofs.Common.{◌≡◌, ◌∙◌, ℕ, ◌^◌, ◌<◌, ⊎_elim, Bool, true, false, List, [], length, get_or, refl, sym, ap, subst, arith}
use Rattle.std.proofs.lemmas.{Bool.cases_eq, Grind.get_or-set_at, List.get_or-map, List.length-map, List.length-set, List.get_or-set_other}
use Rattle.std.proofs.lemmas.{List.Elements.All-get_or, Slice.Zip.get_or-zip, Slice.Zip.length-zip}
use Rattle.std.specs.{Prelude.set, Prelude.Option, Prelude.Some, Prelude.None, Prelude.if◌then◌else◌, List.zip}
use Rattle.kp_net.specs.{declared.netlist.NetFile.NetFile, declared.netlist.WritePort.WritePort, Nodes.Cells, Nodes.at, Nodes.on}
use Rattle.kp_net.specs.Netlist.{Net, Input, State, start_of as net_start, start_regs, cells_of, port_after, regs_after, files_after, resets, state_after}
use Rattle.kp_net.{specs.Parts.NetOk, specs.Parts.FileOk, specs.Parts.WriteOk, specs.Parts.no_file, proofs.Values.at_fits}
use Rattle.kp_implements.specs.Anew.{HasMemory}

-- an entry of a list of which another may have been replaced
pub at_set : {X : Type 0} (xs : List X) (i j : ℕ) (y d : X) (P : X → Type 0) → i < length xs → (j ≡ i → P y) → P (get_or xs j d) → P (get_or (set xs i y) j d)
at_set xs i j y d P l here there = ⊎_elim
    (λ (e : j ≡ i). subst P (sym (get_or-set_at xs i j y d e l)) (here e))
    (λ n. subst P (sym (get_or-set_other xs i j y d n)) there)
    (cases_eq j i)

-- only the files count
pub same_memory : (net : Net) (a b : State) → a.files ≡ b.files → HasMemory net b → HasMemory net a
same_memory net a b e m = record {
  count = ap length e ∙ m.count;
  sizes = λ f lf. ap (λ (fs : List (List ℕ)). length (get_or fs f [])) e ∙ m.sizes f lf;
  words = λ f x lf lx. subst (λ (fs : List (List ℕ)). get_or (get_or fs f []) x 0 < 2 ^ (get_or net.parts.files f no_file).width) (sym e) (m.words f x lf lx);
}

-- the words of a file: as many as it has addresses, each of its width
abbrev AreWords : ℕ → ℕ → List ℕ → Type 0
AreWords w a ws = (length ws ≡ 2 ^ a) × ((x : ℕ) → x < 2 ^ a → get_or ws x 0 < 2 ^ w)

module _ (net : Net) (ok : NetOk net) where
  file_ok : (f : ℕ) → f < length net.parts.files → FileOk net.nodes (get_or net.parts.files f no_file)
  file_ok f l = All-get_or (FileOk net.nodes) net.parts.files f no_file l ok.parts.files

  pub start_memory : HasMemory net (net_start net)
  start_memory = record {
    count = length-map net.parts.files (λ (x : NetFile). x.words);
    sizes = λ f l. ap length (get_or-map (λ (x : NetFile). x.words) net.parts.files f no_file [] l) ∙ (file_ok f l).full;
    words = λ f a l m.
        let file : NetFile = get_or net.parts.files f no_file in
        let right = file_ok f l in
        subst (λ (ws : List ℕ). get_or ws a 0 < 2 ^ file.width) (sym (get_or-map (λ (x : NetFile). x.words) net.parts.files f no_file [] l))
        (All-get_or (λ v. v < 2 ^ file.width) file.words a 0 (subst (λ (n : ℕ). a < n) (sym right.full) m) right.words);
  }

  written : (c : Cells) (w a : ℕ) (p : Option WritePort) (ws : List ℕ) → WriteOk net.nodes w a p → AreWords w a ws → AreWords w a (port_after c net.nodes p ws)
  written c w a None ws right h = h
  written c w a (Some p) ws right h = by (on c net.nodes p.enable.0)
    where
      place : ℕ
      place = at c net.nodes p.address.0

      value : ℕ
      value = at c net.nodes p.value.0

      inside : place < length ws
      inside = subst (λ (n : ℕ). place < n) (sym h.0) (subst (λ (k : ℕ). place < 2 ^ k) right.1.1 (at_fits c net.nodes p.address.0 right.1.0))

      fits : value < 2 ^ w
      fits = subst (λ (k : ℕ). value < 2 ^ k) right.2.1 (at_fits c net.nodes p.value.0 right.2.0)

      by : (b : Bool) → AreWords w a (if b then set ws place value else ws)
      by true = (length-set ws place value ∙ h.0, λ x m. at_set ws place x value 0 (λ v. v < 2 ^ w) inside (λ _. fits) (h.1 x m))
      by false = h

  module _ (c : Cells) (st : State) (m : HasMemory net st) where
    file_after : (f : ℕ) → f < length net.parts.files
        → get_or (files_after net c st.files) f [] ≡ port_after c net.nodes (get_or net.parts.files f no_file).port (get_or st.files f [])
    file_after f l =
        let n = m.count in
        let k = length-zip net.parts.files st.files in
        get_or-map (λ (p : NetFile × List ℕ). port_after c net.nodes p.0.port p.1) (zip net.parts.files st.files) f (no_file, []) [] (omega (arith, l, n, k))
        ∙ ap (λ (p : NetFile × List ℕ). port_after c net.nodes p.0.port p.1) (get_or-zip net.parts.files st.files f (no_file, []) l (omega (arith, l, n)))

    words_after : (f : ℕ) → f < length net.parts.files
        → AreWords (get_or net.parts.files f no_file).width (get_or net.parts.files f no_file).address_width (get_or (files_after net c st.files) f [])
    words_after f l =
        let file : NetFile = get_or net.parts.files f no_file in
        subst (AreWords file.width file.address_width) (sym (file_after f l))
        (written c file.width file.address_width file.port (get_or st.files f []) (file_ok f l).port (m.sizes f l, λ x k. m.words f x l k))

    after_memory : (regs : List ℕ) → HasMemory net (record { regs = regs; files = files_after net c st.files })
    after_memory regs = record {
      count = let n = m.count in let k = length-zip net.parts.files st.files in
          length-map (zip net.parts.files st.files) (λ (p : NetFile × List ℕ). port_after c net.nodes p.0.port p.1) ∙ omega (arith, n, k);
      sizes = λ f l. (words_after f l).0;
      words = λ f x l k. (words_after f l).1 x k;
    }

  pub memory_after : (i : Input) (st : State) → HasMemory net st → HasMemory net (state_after net i st)
  memory_after i st m = by (resets net i)
    where
      by : (b : Bool) → HasMemory net (if b then record { regs = start_regs net; files = st.files }
          else record { regs = regs_after net (cells_of i st); files = files_after net (cells_of i st) st.files })
      by true = same_memory net (record { regs = start_regs net; files = st.files }) st refl m
      by false = after_memory (cells_of i st) st m (regs_after net (cells_of i st))
