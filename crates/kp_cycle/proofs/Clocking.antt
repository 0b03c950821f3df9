-- Registers and files take the values of nodes.
use Rattle.std.proofs.Common.{◌≡◌, ◌==◌, ℕ, false, cond, ◌+◌, ◌<◌, ◌≤◌, ◌^◌, List, [], length, get_or, set, map, refl, sym, subst, ap, ◌∙◌, arith, ⊎_elim, Option, None, Some}
use Rattle.std.proofs.lemmas.{Bool.cases_lt, List.get_or-set_other, List.get_or-map, List.ext_get_or, List.length-map, Grind.get_or-set_at}
use Rattle.std.{proofs.lemmas.Slice.Zip.get_or-zip, proofs.lemmas.Slice.Zip.length-zip, specs.List.zip}
use Rattle.kp_net.specs.declared.{node.Node.Node, netlist.NetReg.NetReg, netlist.NetFile.NetFile, netlist.WritePort.WritePort}
use Rattle.kp_net.specs.Nodes.{Cells, at, on}
use Rattle.kp_net.specs.Netlist.{Net, Input, State, start_regs, port_after, files_after, regs_after, resets, state_after, cells_of}
use Rattle.kp_net.specs.Parts.{NetOk, WriteOk, no_reg, no_file}
use Rattle.kp_cycle_plan.specs.{Plans.OfPort, Plans.OfRoots, Storage.Stored, Storage.FitsBelow, Storage.PortReady, Storage.port_from}

-- the files up to here are updated by their ports, and the others are unchanged
pub record Written (files : List NetFile) (values : List ℕ) (old new : List (List ℕ)) (i : ℕ) : Type 0 where
  pub done : (f : ℕ) → f < i → get_or new f [] ≡ port_from (get_or files f no_file).port values (get_or old f [])
  pub rest : (f : ℕ) → i ≤ f → get_or new f [] ≡ get_or old f []

pub written_more : (files : List NetFile) (values : List ℕ) (old new : List (List ℕ)) (i : ℕ) → i < length new → Written files values old new i
    → Written files values old (set new i (port_from (get_or files i no_file).port values (get_or new i []))) (i + 1)
written_more files values old new i h w =
    let ws : List ℕ = port_from (get_or files i no_file).port values (get_or new i []) in
    record {
      done = λ f l. ⊎_elim
          (λ (k : f < i). get_or-set_other new i f ws [] (λ z. omega arith) ∙ w.done f k)
          (λ (k : i ≤ f). let z : i ≡ f = omega arith in
          get_or-set_at new i f ws [] (sym z) h ∙ ap (port_from (get_or files i no_file).port values) (w.rest i (omega arith)) ∙ ap (λ (x : ℕ). port_from (get_or files x no_file).port values (get_or old x [])) z)
          (cases_lt f i);
      rest = λ f l. get_or-set_other new i f ws [] (λ z. omega arith) ∙ w.rest f (omega arith);
    }

-- the ports of a right netlist are ready
ready : (ns : List Node) (m : Stored) (f w a : ℕ) (port : Option WritePort) → length m.nodes ≡ length ns → FitsBelow ns m.nodes (length ns) → length (get_or m.files f []) ≡ 2 ^ a → WriteOk ns w a port → PortReady m f port
ready ns m f w a None e fits l ok = tt
ready ns m f w a (Some p) e fits l ok =
    let k : get_or m.nodes p.address.0 0 < 2 ^ a = (let P : ℕ → Type 0 = λ x. get_or m.nodes p.address.0 0 < 2 ^ x in subst P ok.1.1 (fits p.address.0 ok.1.0)) in
    (omega (arith, ok.0.0, e), omega (arith, ok.1.0, e), omega (arith, ok.2.0, e), omega (arith, k, l))

port_same : (c : Cells) (ns : List Node) (values : List ℕ) (port : Option WritePort) (words : List ℕ) → OfPort (λ j. get_or values j 0 ≡ at c ns j) port → port_from port values words ≡ port_after c ns port words
unfolding on
port_same c ns values None words known = refl
port_same c ns values (Some p) words known =
    let x = known.0 in let y = known.1 in let z = known.2 in
    λ i. cond (x i == 1) (set words (y i) (z i)) words

-- all registers and files together
pub state_is : (net : Net) (input : Input) (st : State) (values regs : List ℕ) (files : List (List ℕ)) → NetOk net → resets net input ≡ false → length st.files ≡ length net.parts.files → length files ≡ length net.parts.files
    → OfRoots net (λ j. get_or values j 0 ≡ at (cells_of input st) net.nodes j)
    → length regs ≡ length net.parts.regs
    → ((r : ℕ) → r < length net.parts.regs → get_or regs r 0 ≡ at (cells_of input st) net.nodes (get_or net.parts.regs r no_reg).next.0)
    → ((f : ℕ) → f < length net.parts.files → get_or files f [] ≡ port_from (get_or net.parts.files f no_file).port values (get_or st.files f []))
    → record { regs = regs; files = files } ≡ state_after net input st
state_is net input st values regs files ok off e l known many r w =
    let c : Cells = cells_of input st in
    let next : NetReg → ℕ = λ x. at c net.nodes x.next.0 in
    let rs : regs ≡ regs_after net c = ext_get_or 0 regs (map next net.parts.regs) (many ∙ sym (length-map net.parts.regs next))
    (λ k h. let h' : k < length net.parts.regs = omega (arith, many) in r k h' ∙ sym (get_or-map next net.parts.regs k no_reg 0 h')) in
    let g : NetFile × List ℕ → List ℕ = λ p. port_after c net.nodes p.0.port p.1 in
    let lz : length (zip net.parts.files st.files) ≡ length net.parts.files = omega (arith, length-zip net.parts.files st.files, e) in
    let fs : files ≡ files_after net c st.files = ext_get_or [] _ _ (l ∙ sym lz ∙ sym (length-map (zip net.parts.files st.files) g))
    (λ k h. let h' : k < length net.parts.files = omega (arith, l) in
    w k h' ∙ port_same c net.nodes values (get_or net.parts.files k no_file).port (get_or st.files k []) (known.files k h')
    ∙ sym (get_or-map g (zip net.parts.files st.files) k (no_file, []) [] (omega (arith, lz)) ∙ ap g (get_or-zip net.parts.files st.files k (no_file, []) h' (omega (arith, e))))) in
    (λ i. record { regs = rs i; files = fs i }) ∙ sym (ap (λ b. cond b (record { regs = start_regs net; files = st.files }) (record { regs = regs_after net c; files = files_after net c st.files })) off)
