-- The registers and files that are made have the names, the widths and the words of the job.
use Rattle.std.proofs.Common.{◌≡◌, ◌∙◌, ℕ, zero, suc, ◌+◌, ◌-◌, ◌<◌, ◌≤◌, List, [], ◌∷◌, ◌++◌, map, Option, None, false, length, take, drop, get_or, append_assoc, refl, ap, sym, subst, arith}
use Rattle.std.{proofs.Math.Dec.eqb-suc-zero, proofs.lemmas.List.drop_more, specs.Prelude.codes, specs.Prelude.decimal, specs.Prelude.◌==◌, specs.List.filter}
use Rattle.kp_bits.specs.Word.{Word}
use Rattle.kp_ast.specs.declared.tree.{Decl.Decl, Job.Job}
use Rattle.kp_ast.specs.declared.tree.Decl.TheVariants as decls
use Rattle.kp_stage.specs.Start.{AreRegs}
use Rattle.kp_machine.{specs.Slots.Slot, specs.Slots.slot, specs.Slots.targets_of, specs.Slots.samples_of, specs.Slots.is_register, proofs.Widths.Fine}
use Rattle.kp_net.specs.declared.{node.NodeId.NodeId, netlist.WritePort.WritePort, netlist.NetReg.NetReg, netlist.NetFile.NetFile}
use Rattle.kp_net.specs.Parts.{no_port, no_reg, no_file}
use Rattle.kp_synth_registers.specs.{declared.key.Key.Key, declared.key.Key.TheVariants.Full}
use Rattle.kp_design.specs.Numbers.{no_slot, target_at, sample_at}
use Rattle.kp_synth_next.specs.{Nexts.no_node_id, Shows.named_with, Shows.reg_slot, Shows.file_slot, Shows.port_slot, Shows.other_names}
use Rattle.kp_synth.proofs.Numbers.{is_file}
use Rattle.kp_synth.specs.inner.Built.{no_word, reg_count, file_count, visible_regs, other_reg, other_regs, net_files, net_ports}

pub zero_plus : (i : ℕ) → 0 + i ≡ i
zero_plus i = omega arith

pub not_zero : (a : ℕ) → 1 ≤ a → (a == 0) ≡ false
not_zero zero h = absurd (omega arith)
not_zero (suc a) h = eqb-suc-zero a

-- a file among the slots
file_kept : (s : Slot) (ss : List Slot) → is_register s ≡ false → filter is_file (s ∷ ss) ≡ s ∷ filter is_file ss
file_kept s ss e = rw e refl

file_left : (s : Slot) (ss : List Slot) → is_register s ≡ false → filter is_register (s ∷ ss) ≡ filter is_register ss
file_left s ss e = rw e refl

-- THE VISIBLE REGISTERS are named after the registers of the job, in order.
module _ (starts : List Word) (nexts : List NodeId) where
  -- each start value has the width of its register
  abbrev pub Wide : ℕ → List Decl → Type 0
  Wide i [] = Unit {0}
  Wide i (decls.Reg n width start ∷ ds) = ((get_or starts i no_word).width ≡ width.value) × Wide (i + 1) ds
  Wide i (_ ∷ ds) = Wide i ds

  pub visible_named : (i : ℕ) (ds : List Decl) → Fine ds → Wide i ds
      → map reg_slot (visible_regs starts nexts i ds) ≡ map (named_with (codes "r_")) (filter is_register (targets_of ds))
  visible_named i [] f w = refl
  visible_named i (decls.Reg n width start ∷ ds) f w =
      let more = visible_named (i + 1) ds f.2 w.1 in
      let here = w.0 in
      λ j. record { name = codes "r_" ++ n.name; width = here j; address = 0 } ∷ more j
  visible_named i (decls.File n width address ∷ ds) f w =
      visible_named i ds f.3 w
      ∙ ap (map (named_with (codes "r_"))) (sym (file_left (slot n width address.value) (targets_of ds) (not_zero address.value f.2)))
  visible_named i (_ ∷ ds) f w = visible_named i ds f w

  pub visible_counted : (i : ℕ) (ds : List Decl) → length (visible_regs starts nexts i ds) ≡ reg_count ds
  visible_counted i [] = refl
  visible_counted i (decls.Reg n width start ∷ ds) = ap suc (visible_counted (i + 1) ds)
  visible_counted i (_ ∷ ds) = visible_counted i ds

  -- the register of number j has its start value and its next node
  pub visible_at : (i : ℕ) (ds : List Decl) (j : ℕ) → j < reg_count ds
      → ((get_or (visible_regs starts nexts i ds) j no_reg).start ≡ get_or starts (i + j) no_word) × ((get_or (visible_regs starts nexts i ds) j no_reg).next ≡ get_or nexts (i + j) no_node_id)
  visible_at i [] j l = absurd (omega (arith, l))
  visible_at i (decls.Reg n width start ∷ ds) zero l = let z : i ≡ i + 0 = omega arith in (ap (λ k. get_or starts k no_word) z, ap (λ k. get_or nexts k no_node_id) z)
  visible_at i (decls.Reg n width start ∷ ds) (suc j) l =
      let more = visible_at (i + 1) ds j (omega (arith, l)) in
      let z : (i + 1) + j ≡ i + suc j = omega arith in
      (more.0 ∙ ap (λ k. get_or starts k no_word) z, more.1 ∙ ap (λ k. get_or nexts k no_node_id) z)
  visible_at i (_ ∷ ds) j l = visible_at i ds j l

  -- so they are if each register of the job has its start value
  pub wide : (i : ℕ) (ds : List Decl) (values : List Word) → ((j : ℕ) → get_or starts (i + j) no_word ≡ get_or values j no_word) → AreRegs ds values → Wide i ds
  wide i [] values same r = tt
  wide i (decls.Reg n width start ∷ ds) [] same r = absurd r
  wide i (decls.Reg n width start ∷ ds) (v ∷ values) same r =
      let z : i ≡ i + 0 = omega arith in
      let here : get_or starts i no_word ≡ v = ap (λ k. get_or starts k no_word) z ∙ same 0 in
      let next : (j : ℕ) → get_or starts ((i + 1) + j) no_word ≡ get_or values j no_word = λ j. (let y : (i + 1) + j ≡ i + suc j = omega arith in ap (λ k. get_or starts k no_word) y ∙ same (suc j)) in
      (ap (λ (w : Word). w.width) here ∙ r.0, wide (i + 1) ds values next r.2)
  wide i (_ ∷ ds) values same r = wide i ds values same r

-- THE OTHER REGISTERS are numbered.
module _ (job : Job) (nexts : List NodeId) (from : ℕ) where
  pub others_counted : (r : ℕ) (keys : List Key) → length (other_regs job nexts from r keys) ≡ length keys
  others_counted r [] = refl
  others_counted r (key ∷ keys) = ap suc (others_counted (r + 1) keys)

  pub other_at : (r : ℕ) (keys : List Key) (j : ℕ) → j < length keys
      → get_or (other_regs job nexts from r keys) j no_reg ≡ other_reg job nexts from (r + j) (get_or keys j (Full 0))
  other_at r [] j l = absurd (omega (arith, l))
  other_at r (key ∷ keys) zero l = let z : r ≡ r + 0 = omega arith in ap (λ k. other_reg job nexts from k key) z
  other_at r (key ∷ keys) (suc j) l =
      let z : (r + 1) + j ≡ r + suc j = omega arith in
      other_at (r + 1) keys j (omega (arith, l)) ∙ ap (λ k. other_reg job nexts from k (get_or keys j (Full 0))) z

  -- one more of them is made
  pub others_step : (r : ℕ) (keys : List Key) (items new : List NetReg) (x : NetReg) (all : List NetReg) → r < length keys → x ≡ other_reg job nexts from r (get_or keys r (Full 0))
      → new ≡ items ++ x ∷ [] → items ++ other_regs job nexts from r (drop r keys) ≡ all → new ++ other_regs job nexts from (r + 1) (drop (r + 1) keys) ≡ all
  others_step r keys items new x all l ex en h =
      let rest = other_regs job nexts from (r + 1) (drop (r + 1) keys) in
      ap (λ (ys : List NetReg). ys ++ rest) en ∙ append_assoc items (x ∷ []) rest ∙ ap (λ (y : NetReg). items ++ (y ∷ rest)) ex
      ∙ ap (λ (ks : List Key). items ++ other_regs job nexts from r ks) (sym (drop_more keys r (Full 0) l)) ∙ h

  pub others_named : (r i : ℕ) (keys : List Key) → r ≡ from + i → map (λ (x : NetReg). x.name) (other_regs job nexts from r keys) ≡ other_names i (length keys)
  others_named r i [] e = refl
  others_named r i (key ∷ keys) e =
      let here : r - from ≡ i = omega (arith, e) in
      let more = others_named (r + 1) (suc i) keys (omega (arith, e)) in
      λ j. (codes "q_" ++ decimal (here j)) ∷ more j

-- THE PORTS of the samples.
module _ (job : Job) where
  pub ports_named : (x : ℕ) (ds : List Decl) → ((i : ℕ) → i < length (samples_of ds) → sample_at job (x + i) ≡ get_or (samples_of ds) i no_slot)
      → map port_slot (net_ports job x ds) ≡ map (named_with (codes "s_")) (samples_of ds)
  ports_named x [] is = refl
  ports_named x (decls.Sample n width stage ∷ ds) is =
      let z : x ≡ x + 0 = omega arith in
      let here : sample_at job x ≡ slot n width 0 = ap (sample_at job) z ∙ is 0 (omega arith) in
      let more = ports_named (x + 1) ds (λ i l. let y : (x + 1) + i ≡ x + suc i = omega arith in ap (sample_at job) y ∙ is (suc i) (omega (arith, l))) in
      λ j. record { name = codes "s_" ++ n.name; width = (here j).width; address = 0 } ∷ more j
  ports_named x (_ ∷ ds) is = ports_named x ds is

  pub port_at : (x : ℕ) (ds : List Decl) (i : ℕ) → i < length (samples_of ds)
      → (i < length (net_ports job x ds)) × ((get_or (net_ports job x ds) i no_port).width ≡ (sample_at job (x + i)).width)
  port_at x [] i l = absurd (omega (arith, l))
  port_at x (decls.Sample n width stage ∷ ds) zero l = let z : x ≡ x + 0 = omega arith in (omega arith, ap (λ k. (sample_at job k).width) z)
  port_at x (decls.Sample n width stage ∷ ds) (suc i) l =
      let more = port_at (x + 1) ds i (omega (arith, l)) in
      let z : (x + 1) + i ≡ x + suc i = omega arith in
      (omega (arith, more.0), more.1 ∙ ap (λ k. (sample_at job k).width) z)
  port_at x (_ ∷ ds) i l = port_at x ds i l

  pub ports_counted : (x : ℕ) (ds : List Decl) → length (net_ports job x ds) ≡ length (samples_of ds)
  ports_counted x [] = refl
  ports_counted x (decls.Sample n width stage ∷ ds) = ap suc (ports_counted (x + 1) ds)
  ports_counted x (_ ∷ ds) = ports_counted x ds

-- THE FILES, from the declarations from one on, whose first target has number t.
module _ (job : Job) (words : List (List ℕ)) (ports : List (Option WritePort)) where
  pub files_named : (t f : ℕ) (ds : List Decl) → Fine ds → ((i : ℕ) → i < length (targets_of ds) → target_at job (t + i) ≡ get_or (targets_of ds) i no_slot)
      → map file_slot (net_files job words ports t f ds) ≡ map (named_with (codes "f_")) (filter is_file (targets_of ds))
  files_named t f [] g is = refl
  files_named t f (decls.Reg n width start ∷ ds) g is =
      files_named (t + 1) f ds g.2 (λ i l. let z : (t + 1) + i ≡ t + suc i = omega arith in ap (target_at job) z ∙ is (suc i) (omega (arith, l)))
  files_named t f (decls.File n width address ∷ ds) g is =
      let s = slot n width address.value in
      let z : t ≡ t + 0 = omega arith in
      let here : target_at job t ≡ s = ap (target_at job) z ∙ is 0 (omega arith) in
      let more = files_named (t + 1) (f + 1) ds g.3 (λ i l. let y : (t + 1) + i ≡ t + suc i = omega arith in ap (target_at job) y ∙ is (suc i) (omega (arith, l))) in
      (λ j. record { name = codes "f_" ++ n.name; width = (here j).width; address = (here j).address } ∷ more j)
      ∙ ap (map (named_with (codes "f_"))) (sym (file_kept s (targets_of ds) (not_zero address.value g.2)))
  files_named t f (_ ∷ ds) g is = files_named t f ds g is

  abbrev pub FileIs : ℕ → ℕ → NetFile → Type 0
  FileIs t f x = (x.width ≡ (target_at job t).width) × (x.address_width ≡ (target_at job t).address) × (x.words ≡ get_or words f []) × (x.port ≡ get_or ports t None)

  abbrev pub before : List Slot → ℕ → ℕ
  before ss i = length (filter is_file (take i ss))

  -- the file of a target has its width, its addresses, its words and its port
  pub file_at : (t f : ℕ) (ds : List Decl) → Fine ds → (i : ℕ) → i < length (targets_of ds) → is_register (get_or (targets_of ds) i no_slot) ≡ false
      → (before (targets_of ds) i < length (net_files job words ports t f ds)) × FileIs (t + i) (f + before (targets_of ds) i) (get_or (net_files job words ports t f ds) (before (targets_of ds) i) no_file)
  file_at t f [] g i l e = absurd (omega (arith, l))
  file_at t f (decls.Reg n width start ∷ ds) g zero l e = cc
  file_at t f (decls.Reg n width start ∷ ds) g (suc i) l e =
      let z : (t + 1) + i ≡ t + suc i = omega arith in
      let more = file_at (t + 1) f ds g.2 i (omega (arith, l)) e in
      (more.0, subst (λ k. FileIs k (f + before (targets_of ds) i) (get_or (net_files job words ports (t + 1) f ds) (before (targets_of ds) i) no_file)) z more.1)
  file_at t f (decls.File n width address ∷ ds) g zero l e =
      let z : t ≡ t + 0 = omega arith in
      let y : f ≡ f + 0 = omega arith in
      (omega arith, (ap (λ k. (target_at job k).width) z, ap (λ k. (target_at job k).address) z, ap (λ k. get_or words k []) y, ap (λ k. get_or ports k None) z))
  file_at t f (decls.File n width address ∷ ds) g (suc i) l e =
      let s = slot n width address.value in
      let z : (t + 1) + i ≡ t + suc i = omega arith in
      let more = file_at (t + 1) (f + 1) ds g.3 i (omega (arith, l)) e in
      let count : before (s ∷ targets_of ds) (suc i) ≡ suc (before (targets_of ds) i) = ap length (file_kept s (take i (targets_of ds)) (not_zero address.value g.2)) in
      let y : (f + 1) + before (targets_of ds) i ≡ f + suc (before (targets_of ds) i) = omega arith in
      let x = get_or (net_files job words ports (t + 1) (f + 1) ds) (before (targets_of ds) i) no_file in
      let all = net_files job words ports t f (decls.File n width address ∷ ds) in
      subst (λ m. (m < length all) × FileIs (t + suc i) (f + m) (get_or all m no_file)) (sym count)
      (omega (arith, more.0), subst (λ k. FileIs k (f + suc (before (targets_of ds) i)) x) z (subst (λ k. FileIs ((t + 1) + i) k x) y more.1))
  file_at t f (_ ∷ ds) g i l e = file_at t f ds g i l e

  pub files_counted : (t f : ℕ) (ds : List Decl) → length (net_files job words ports t f ds) ≡ file_count ds
  files_counted t f [] = refl
  files_counted t f (decls.Reg n width start ∷ ds) = files_counted (t + 1) f ds
  files_counted t f (decls.File n width address ∷ ds) = ap suc (files_counted (t + 1) (f + 1) ds)
  files_counted t f (_ ∷ ds) = files_counted t f ds
