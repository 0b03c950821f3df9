-- Netlists whose roots agree run alike.
use Rattle.std.proofs.Common.{◌≡◌, ◌∙◌, ℕ, zero, suc, ◌+◌, ◌<◌, ◌≤◌, ◌&&◌, Bool, true, false, not, List, [], ◌∷◌, length, get_or, set, refl, sym, ap, subst, arith, Option, None, Some}
use Rattle.std.proofs.lemmas.{List.length-map, List.get_or-map, Slice.Zip.length-zip, Slice.Zip.get_or-zip}
use Rattle.std.specs.{Prelude.if◌then◌else◌, List.zip}
use Rattle.kp_bits.specs.Word.{Word}
use Rattle.kp_net.specs.Netlist.{Net, Input, State, cells_of, start_regs, start_of, regs_after, port_after, files_after, resets, state_after, row_of, states_from, rows_from}
use Rattle.kp_net.specs.declared.netlist.{Port.Port, NetReg.NetReg, NetFile.NetFile, WritePort.WritePort}
use Rattle.kp_net.specs.{Names.among, Nodes.Cells, Nodes.at, Parts.NetOk, Parts.no_port, Parts.no_reg, Parts.no_file}
use Rattle.kp_equiv.specs.Agreement.{Ports, Full, Ue, Back, names_of_second, RegsAlike, FilesAlike, WritesAlike, PortsAgree, RegisterAgrees, FileAgrees, Agrees, AllAgree}
use Rattle.kp_equiv.specs.{Alike.Alike, Alike.reg_name, Alike.file_name, Alike.sample_name, Named.reg_names, Sections.behind_regs, Verdicts.IsComparable}
use Rattle.kp_equiv.specs.{Runs.RunAlike, Runs.no_state, inner.Meaning.SameCells, inner.Meaning.SameStates}
use Rattle.kp_equiv.proofs.Ordered.{filter_some, is_new, among_reg}
use Rattle.kp_equiv.proofs.Counting.{later_root, root_count, none_second, root_of_ports, root_of_reg, behind_file, behind_output}
use Rattle.kp_equiv.proofs.Places.{registers, memories, ports, one_index, related, reg_names_are, reg_count}
use Rattle.kp_equiv.proofs.Meaning.{alike_values, alike_tests}

-- the roots of each section agree
pub record Agreed (a b : Net) : Type 0 where
  pub ports : PortsAgree a b
  pub regs : (r : ℕ) → r < length a.parts.regs → RegisterAgrees a b (reg_name a r)
  pub none : length (names_of_second a b) ≡ 0
  pub files : (f : ℕ) → f < length a.parts.files → FileAgrees a b (file_name a f)
  pub full : Alike a b a.parts.full b.parts.full
  pub ue : Alike a b a.parts.ue b.parts.ue
  pub back : Alike a b a.parts.back b.parts.back

pub agreed : (a b : Net) → AllAgree a b → Agreed a b
agreed a b h =
    let none = none_second a b h in
    let behind : (k : ℕ) → k < length a.parts.files + 3 → Agrees a b (get_or (behind_regs a) k Ports)
    = λ k l. subst (Agrees a b) (later_root a b k none) (h.agree (suc (length a.parts.regs + k)) (omega (arith, root_count a b, l))) in
    let output : (k : ℕ) → k < 3 → Agrees a b (get_or (Full ∷ Ue ∷ Back ∷ []) k Ports)
    = λ k l. subst (Agrees a b) (behind_output a k) (behind (length a.parts.files + k) (omega (arith, l))) in
    record {
      ports = subst (Agrees a b) (root_of_ports a b) (h.agree 0 (omega (arith, root_count a b)));
      regs = λ r l. subst (Agrees a b) (root_of_reg a b r l) (h.agree (suc r) (omega (arith, root_count a b, l)));
      none = none;
      files = λ f l. subst (Agrees a b) (behind_file a f l) (behind f (omega (arith, l)));
      full = output 0 (omega arith);
      ue = output 1 (omega arith);
      back = output 2 (omega arith);
    }

module _ (a b : Net) (oka : NetOk a) (okb : NetOk b) (fit : IsComparable a b) (h : Agreed a b) where
  -- namesakes are equivalent
  pub regs_alike : (r q : ℕ) → r < length a.parts.regs → q < length b.parts.regs → reg_name a r ≡ reg_name b q → RegsAlike a b (get_or a.parts.regs r no_reg) (get_or b.parts.regs q no_reg)
  regs_alike r q l m e =
      let g = h.regs r l in
      related registers (RegsAlike a b) a.parts.regs b.parts.regs fit.first.regs fit.second.regs g.first g.second r q g.in_first g.in_second l m g.named_first (g.named_second ∙ e) g.alike

  pub files_alike : (f g : ℕ) → f < length a.parts.files → g < length b.parts.files → file_name a f ≡ file_name b g → FilesAlike a b (get_or a.parts.files f no_file) (get_or b.parts.files g no_file)
  files_alike f g l m e =
      let x = h.files f l in
      related memories (FilesAlike a b) a.parts.files b.parts.files fit.first.files fit.second.files x.first x.second f g x.in_first x.in_second l m x.named_first (x.named_second ∙ e) x.alike

  -- the cells in equal states
  cells : (i : Input) (s t : State) → SameStates a b s t → SameCells a b (cells_of i s) (cells_of i t)
  cells i s t same = record {
    ext = refl;
    sample = λ x y l m e.
        let n : sample_name b y ≡ sample_name a y = ap (λ (ps : List Port). (get_or ps y no_port).name) (sym h.ports.samples) in
        let m2 : y < length a.parts.samples = subst (λ (ps : List Port). y < length ps) (sym h.ports.samples) m in
        ap (λ (k : ℕ). get_or i.samples k 0) (one_index ports a.parts.samples fit.first.samples x y l m2 (e ∙ n));
    reg = same.regs;
    word = λ f g x l m e. ap (λ (ws : List ℕ). get_or ws x 0) (same.words.files f g l m e);
  }

  -- at the start
  pub starts : SameStates a b (start_of a) (start_of b)
  starts = record {
    words = record {
      first = length-map a.parts.files (λ f. f.words);
      second = length-map b.parts.files (λ f. f.words);
      files = λ f g l m e.
          get_or-map (λ (x : NetFile). x.words) a.parts.files f no_file [] l ∙ (files_alike f g l m e).words ∙ sym (get_or-map (λ (x : NetFile). x.words) b.parts.files g no_file [] m);
    };
    regs = λ r q l m e.
        get_or-map (λ (x : NetReg). x.start.value) a.parts.regs r no_reg 0 l ∙ ap (λ (w : Word). w.value) (regs_alike r q l m e).start ∙ sym (get_or-map (λ (x : NetReg). x.start.value) b.parts.regs q no_reg 0 m);
  }

  -- one port
  ports_alike : (c d : Cells) → SameCells a b c d → (p q : Option WritePort) → WritesAlike a b p q → (ws : List ℕ) → port_after c a.nodes p ws ≡ port_after d b.nodes q ws
  ports_alike c d same None None w ws = refl
  ports_alike c d same (Some p) (Some q) w ws =
      let e = alike_tests a b oka okb c d same p.enable q.enable w.0 in
      let x = alike_values a b oka okb c d same p.address q.address w.1 in
      let y = alike_values a b oka okb c d same p.value q.value w.2 in
      λ i. if e i then set ws (x i) (y i) else ws
  ports_alike c d same _ _ w ws = absurd w

  file_after : (net : Net) (c : Cells) (files : List (List ℕ)) (f : ℕ) → f < length net.parts.files → length files ≡ length net.parts.files
      → get_or (files_after net c files) f [] ≡ port_after c net.nodes (get_or net.parts.files f no_file).port (get_or files f [])
  file_after net c files f l e =
      let m : f < length files = omega (arith, e) in
      let z : f < length (zip net.parts.files files) = omega (arith, length-zip net.parts.files files) in
      get_or-map (λ (p : NetFile × List ℕ). port_after c net.nodes p.0.port p.1) (zip net.parts.files files) f (no_file, []) [] z
      ∙ ap (λ (p : NetFile × List ℕ). port_after c net.nodes p.0.port p.1) (get_or-zip net.parts.files files f (no_file, []) l m)

  files_count : (net : Net) (c : Cells) (files : List (List ℕ)) → length files ≡ length net.parts.files → length (files_after net c files) ≡ length net.parts.files
  files_count net c files e = length-map (zip net.parts.files files) (λ p. port_after c net.nodes p.0.port p.1) ∙ omega (arith, length-zip net.parts.files files)

  moves : (i : Input) (s t : State) → SameStates a b s t
      → SameStates a b (record { regs = regs_after a (cells_of i s); files = files_after a (cells_of i s) s.files }) (record { regs = regs_after b (cells_of i t); files = files_after b (cells_of i t) t.files })
  moves i s t same =
      let c : Cells = cells_of i s in
      let d : Cells = cells_of i t in
      let cd = cells i s t same in
      record {
        regs = λ r q l m e.
            get_or-map (λ (x : NetReg). at c a.nodes x.next.0) a.parts.regs r no_reg 0 l
            ∙ alike_values a b oka okb c d cd (get_or a.parts.regs r no_reg).next (get_or b.parts.regs q no_reg).next (regs_alike r q l m e).next
            ∙ sym (get_or-map (λ (x : NetReg). at d b.nodes x.next.0) b.parts.regs q no_reg 0 m);
        words = record {
          first = files_count a c s.files same.words.first;
          second = files_count b d t.files same.words.second;
          files = λ f g l m e.
              file_after a c s.files f l same.words.first
              ∙ ports_alike c d cd (get_or a.parts.files f no_file).port (get_or b.parts.files g no_file).port (files_alike f g l m e).port (get_or s.files f [])
              ∙ ap (port_after d b.nodes (get_or b.parts.files g no_file).port) (same.words.files f g l m e)
              ∙ sym (file_after b d t.files g m same.words.second);
        };
      }

  resets_alike : (i : Input) → resets a i ≡ resets b i
  resets_alike i = ap (λ (r : Bool). r && i.reset) h.ports.reset

  pub steps : (i : Input) (s t : State) → SameStates a b s t → SameStates a b (state_after a i s) (state_after b i t)
  steps i s t same = subst (λ (r : Bool). SameStates a b (state_after a i s) (after_b r)) (resets_alike i) (by (resets a i))
    where
      after_b : Bool → State
      after_b r = if r then record { regs = start_regs b; files = t.files } else record { regs = regs_after b (cells_of i t); files = files_after b (cells_of i t) t.files }

      by : (r : Bool) → SameStates a b (if r then record { regs = start_regs a; files = s.files } else record { regs = regs_after a (cells_of i s); files = files_after a (cells_of i s) s.files }) (after_b r)
      by true = record { words = record { first = same.words.first; second = same.words.second; files = same.words.files }; regs = starts.regs }
      by false = moves i s t same

  rows_alike : (i : Input) (s t : State) → SameStates a b s t → row_of a i s ≡ row_of b i t
  rows_alike i s t same =
      let c : Cells = cells_of i s in
      let d : Cells = cells_of i t in
      let cd = cells i s t same in
      let x = alike_values a b oka okb c d cd a.parts.full b.parts.full h.full in
      let y = alike_values a b oka okb c d cd a.parts.ue b.parts.ue h.ue in
      let z = alike_values a b oka okb c d cd a.parts.back b.parts.back h.back in
      λ k. record { full = x k; ue = y k; back = z k }

  pub run_rows : (ins : List Input) (s t : State) → SameStates a b s t → rows_from a s ins ≡ rows_from b t ins
  run_rows [] s t same = refl
  run_rows (i ∷ ins) s t same = let x = rows_alike i s t same in let y = run_rows ins (state_after a i s) (state_after b i t) (steps i s t same) in λ k. x k ∷ y k

  pub run_states : (ins : List Input) (s t : State) → SameStates a b s t → (T : ℕ) → T ≤ length ins → SameStates a b (get_or (states_from a s ins) T no_state) (get_or (states_from b t ins) T no_state)
  run_states [] s t same zero l = same
  run_states [] s t same (suc T) l = absurd (omega (arith, l))
  run_states (i ∷ ins) s t same zero l = same
  run_states (i ∷ ins) s t same (suc T) l = run_states ins (state_after a i s) (state_after b i t) (steps i s t same) T (omega (arith, l))

  -- no register is only in the second netlist
  first_has : (q : ℕ) → q < length b.parts.regs → (r : ℕ) × (r < length a.parts.regs) × (reg_name a r ≡ reg_name b q)
  first_has q l = by (among (reg_names a) (reg_name b q)) refl
    where
      by : (t : Bool) → among (reg_names a) (reg_name b q) ≡ t → (r : ℕ) × (r < length a.parts.regs) × (reg_name a r ≡ reg_name b q)
      by true e = among_reg a (reg_name b q) e
      by false e =
          let some : 0 < length (names_of_second a b) = filter_some (is_new a) (reg_names b) q (omega (arith, reg_count b)) (ap (is_new a) (reg_names_are b q) ∙ ap not e) in
          absurd (omega (arith, some, h.none))

  pub runs_alike : RunAlike a b
  runs_alike = record {
    there = record {
      regs = λ r l. let g = h.regs r l in (g.second, g.in_second, g.named_second);
      files = λ f l. let g = h.files f l in (g.second, g.in_second, g.named_second);
    };
    back = record {
      regs = first_has;
      files = λ g l. let x = fit.back g l in (x.0, x.1, sym x.2.name);
    };
    rows = λ ins. run_rows ins (start_of a) (start_of b) starts;
    regs = λ ins T r q l lr lq e. (run_states ins (start_of a) (start_of b) starts T l).regs r q lr lq e;
    files = λ ins T f g x l lf lg e. ap (λ (ws : List ℕ). get_or ws x 0) ((run_states ins (start_of a) (start_of b) starts T l).words.files f g lf lg e);
  }

pub theorem : (a b : Net) → NetOk a → NetOk b → IsComparable a b → AllAgree a b → RunAlike a b
theorem a b oka okb fit all = runs_alike a b oka okb fit (agreed a b all)
