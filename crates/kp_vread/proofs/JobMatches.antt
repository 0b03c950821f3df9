-- A netlist differs in nothing from a job exactly if it is one of the job.
use Rattle.std.specs.Prelude.{is_some, MatchOption}
use Rattle.std.proofs.Common.{◌≡◌, ◌∙◌, ℕ, ◌<◌, ◌+◌, ◌==◌, Option, Some, None, List, [], ◌∷◌, ◌++◌, length, get_or, map, take, codes, true, false, not, ◌&&◌, ◌||◌, refl, ap, sym, arith}
use Rattle.std.{proofs.lemmas.Bool.false≢true, proofs.lemmas.Bool.Decides.Decides-eqb, specs.Bool.Decides}
use Rattle.std.specs.Cmp.Lexicographic.{bytes_decides}
use Rattle.kp_ast.specs.declared.tree.{Decl.Decl, Job.Job}
use Rattle.kp_ast.specs.declared.tree.Decl.TheVariants as decls
use Rattle.kp_machine.specs.{Slots.Slot, Slots.slot, Slots.targets_of, Slots.samples_of, Slots.is_register, Words.no_slot}
use Rattle.kp_net.specs.{Names.same, Netlist.Net, Parts.no_reg, Parts.no_file, declared.netlist.Port.Port, declared.netlist.NetReg.NetReg}
use Rattle.kp_net.specs.declared.netlist.{NetFile.NetFile, Parts.Parts}
use Rattle.kp_implements.specs.{Naming.place_among, Naming.register_name, Naming.file_name, Naming.sample_port, Shows.IsOfJob}
use Rattle.kp_vread.specs.Matching.{has_register, has_file, has_target, has_targets, names_register, names_file, is_visible, is_port_of, of_ports, of_targets, of_registers, of_files, of_stages, first_mismatch}
use Rattle.kp_vread.specs.declared.job_match.Mismatch.{Mismatch}
use Rattle.kp_vread.specs.declared.job_match.Mismatch.TheVariants as differs
use Rattle.kp_vread.proofs.Tests.{holds, fails, both, implied, either_way, as_well, each, some, named, tested, alone, and_true, both_true, true_both, none_first, none_last}

-- the first register of a name, and the first file
abbrev IsReg : ℕ → NetReg → Type 0
IsReg width r = r.start.width ≡ width

abbrev HasReg : List NetReg → List ℕ → ℕ → Type 0
HasReg rs name width = (place_among (map (λ r. r.name) rs) name < length rs) × IsReg width (get_or rs (place_among (map (λ r. r.name) rs) name) no_reg)

reg_found : (rs : List NetReg) (name : List ℕ) (width : ℕ) → Decides (has_register rs name width) (HasReg rs name width)
reg_found [] name width = (λ e. absurd (false≢true e), λ h. absurd (let l = h.0 in omega (arith, l)))
reg_found (r ∷ rs) name width =
    named (same r.name name) (r.start.width == width) (has_register rs name width) (place_among (map (λ x. x.name) rs) name) r rs no_reg
    (IsReg width) (Decides-eqb r.start.width width) (reg_found rs name width)

abbrev IsFile : ℕ → ℕ → NetFile → Type 0
IsFile width address f = (f.width ≡ width) × (f.address_width ≡ address)

abbrev HasWords : List NetFile → List ℕ → ℕ → ℕ → Type 0
HasWords fs name width address = (place_among (map (λ f. f.name) fs) name < length fs) × IsFile width address (get_or fs (place_among (map (λ f. f.name) fs) name) no_file)

file_found : (fs : List NetFile) (name : List ℕ) (width address : ℕ) → Decides (has_file fs name width address) (HasWords fs name width address)
file_found [] name width address = (λ e. absurd (false≢true e), λ h. absurd (let l = h.0 in omega (arith, l)))
file_found (f ∷ fs) name width address =
    named (same f.name name) ((f.width == width) && (f.address_width == address)) (has_file fs name width address) (place_among (map (λ x. x.name) fs) name) f fs no_file
    (IsFile width address) (both (f.width == width) (f.address_width == address) (Decides-eqb f.width width) (Decides-eqb f.address_width address)) (file_found fs name width address)

-- each target
abbrev HasTarget : Parts → Slot → Type 0
HasTarget p s = (is_register s ≡ true → HasReg p.regs (register_name s) s.width) × (is_register s ≡ false → HasWords p.files (file_name s) s.width s.address)

target_found : (p : Parts) (s : Slot) → Decides (has_target p s) (HasTarget p s)
target_found p s =
    either_way (is_register s) (has_register p.regs (register_name s) s.width) (has_file p.files (file_name s) s.width s.address)
    (reg_found p.regs (register_name s) s.width) (file_found p.files (file_name s) s.width s.address)

targets_found : (p : Parts) (ss : List Slot) → Decides (has_targets p ss) ((t : ℕ) → t < length ss → HasTarget p (get_or ss t no_slot))
targets_found p [] = (λ e t l. absurd (omega (arith, l)), λ h. refl)
targets_found p (s ∷ ss) =
    each (has_target p s) (has_targets p ss) (length ss) (λ t. HasTarget p (get_or (s ∷ ss) t no_slot)) (target_found p s) (targets_found p ss)

apart : (p : Parts) (d : Decl) (ds : List Decl) → has_targets p (targets_of (d ∷ ds)) ≡ has_targets p (targets_of (d ∷ [])) && has_targets p (targets_of ds)
apart p (decls.Reg n width start) ds = and_true (has_target p (slot n width 0)) (has_targets p (targets_of ds))
apart p (decls.File n width address) ds = and_true (has_target p (slot n width address.value)) (has_targets p (targets_of ds))
apart p d ds = refl

none_absent : (p : Parts) (i : ℕ) (ds : List Decl) → Decides (not (is_some (of_targets p i ds))) (has_targets p (targets_of ds) ≡ true)
none_absent p i [] = holds true
none_absent p i (d ∷ ds) =
    let here = has_targets p (targets_of (d ∷ [])) in
    let rest = has_targets p (targets_of ds) in
    tested here (of_targets p (i + 1) ds) (differs.Absent i)
    (as_well (here && not (is_some (of_targets p (i + 1) ds))) (λ h. apart p d ds ∙ both_true here rest h) (λ h. true_both here rest (sym (apart p d ds) ∙ h))
    (both here (not (is_some (of_targets p (i + 1) ds))) (holds here) (none_absent p (i + 1) ds)))

-- the names of targets
abbrev NamesReg : List ℕ → Slot → Type 0
NamesReg name s = (is_register s ≡ true) × (name ≡ register_name s)

reg_named : (ss : List Slot) (name : List ℕ) → Decides (names_register ss name) ((t : ℕ) × (t < length ss) × NamesReg name (get_or ss t no_slot))
reg_named [] name = (λ e. absurd (false≢true e), λ h. absurd (let l = h.1 in omega (arith, l)))
reg_named (s ∷ ss) name =
    some (is_register s && same name (register_name s)) (names_register ss name) (length ss) (λ t. NamesReg name (get_or (s ∷ ss) t no_slot))
    (both (is_register s) (same name (register_name s)) (holds (is_register s)) (bytes_decides name (register_name s))) (reg_named ss name)

abbrev NamesFile : List ℕ → Slot → Type 0
NamesFile name s = (is_register s ≡ false) × (name ≡ file_name s)

file_named : (ss : List Slot) (name : List ℕ) → Decides (names_file ss name) ((t : ℕ) × (t < length ss) × NamesFile name (get_or ss t no_slot))
file_named [] name = (λ e. absurd (false≢true e), λ h. absurd (let l = h.1 in omega (arith, l)))
file_named (s ∷ ss) name =
    some (not (is_register s) && same name (file_name s)) (names_file ss name) (length ss) (λ t. NamesFile name (get_or (s ∷ ss) t no_slot))
    (both (not (is_register s)) (same name (file_name s)) (fails (is_register s)) (bytes_decides name (file_name s))) (file_named ss name)

-- no other registers and files
abbrev KnowsReg : List Slot → List ℕ → Type 0
KnowsReg ss name = take 2 name ≡ codes "r_" → (t : ℕ) × (t < length ss) × NamesReg name (get_or ss t no_slot)

abbrev KnowsFile : List Slot → List ℕ → Type 0
KnowsFile ss name = (t : ℕ) × (t < length ss) × NamesFile name (get_or ss t no_slot)

regs_known : (ss : List Slot) (i : ℕ) (rs : List NetReg) → Decides (not (is_some (of_registers ss i rs))) ((r : ℕ) → r < length rs → KnowsReg ss (get_or (map (λ x. x.name) rs) r []))
regs_known ss i [] = (λ e r l. absurd (omega (arith, l)), λ h. refl)
regs_known ss i (r ∷ rs) =
    let here = not (is_visible r.name) || names_register ss r.name in
    tested here (of_registers ss (i + 1) rs) (differs.OtherRegister i)
    (each here (not (is_some (of_registers ss (i + 1) rs))) (length rs) (λ t. KnowsReg ss (get_or (map (λ x. x.name) (r ∷ rs)) t []))
    (implied (is_visible r.name) (names_register ss r.name) (bytes_decides (take 2 r.name) (codes "r_")) (reg_named ss r.name)) (regs_known ss (i + 1) rs))

words_known : (ss : List Slot) (i : ℕ) (fs : List NetFile) → Decides (not (is_some (of_files ss i fs))) ((f : ℕ) → f < length fs → KnowsFile ss (get_or (map (λ x. x.name) fs) f []))
words_known ss i [] = (λ e r l. absurd (omega (arith, l)), λ h. refl)
words_known ss i (f ∷ fs) =
    tested (names_file ss f.name) (of_files ss (i + 1) fs) (differs.OtherFile i)
    (each (names_file ss f.name) (not (is_some (of_files ss (i + 1) fs))) (length fs) (λ t. KnowsFile ss (get_or (map (λ x. x.name) (f ∷ fs)) t []))
    (file_named ss f.name) (words_known ss (i + 1) fs))

-- the sample ports
port_is : (p : Port) (s : Slot) → (p.name ≡ codes "s_" ++ s.name) × (p.width ≡ s.width) → p ≡ sample_port s
port_is p s h = ap (λ n. record { name = n; width = p.width }) h.0 ∙ ap (λ w. record { name = codes "s_" ++ s.name; width = w }) h.1

port_found : (p : Port) (s : Slot) → Decides (is_port_of p s) (p ≡ sample_port s)
port_found p s =
    as_well (is_port_of p s) (port_is p s) (λ e. (ap (λ q. q.name) e, ap (λ q. q.width) e))
    (both (same p.name (codes "s_" ++ s.name)) (p.width == s.width) (bytes_decides p.name (codes "s_" ++ s.name)) (Decides-eqb p.width s.width))

first_is : (p : Port) (ps : List Port) (s : Slot) (ss : List Slot) → (p ≡ sample_port s) × (ps ≡ map sample_port ss) → p ∷ ps ≡ map sample_port (s ∷ ss)
first_is p ps s ss h = ap (λ x. x ∷ ps) h.0 ∙ ap (λ xs. sample_port s ∷ xs) h.1

ports_found : (i : ℕ) (ds : List Decl) (ps : List Port) → Decides (not (is_some (of_ports i ds ps))) (ps ≡ map sample_port (samples_of ds))
ports_found i [] [] = (λ e. refl, λ e. refl)
ports_found i [] (p ∷ ps) = (λ e. absurd (false≢true e), λ e. cc)
ports_found i (decls.Sample n width stage ∷ ds) [] = (λ e. absurd (false≢true e), λ e. cc)
ports_found i (decls.Sample n width stage ∷ ds) (p ∷ ps) =
    let s = slot n width 0 in
    tested (is_port_of p s) (of_ports (i + 1) ds ps) (differs.Absent i)
    (as_well (is_port_of p s && not (is_some (of_ports (i + 1) ds ps))) (first_is p ps s (samples_of ds)) (λ e. (cc, cc))
    (both (is_port_of p s) (not (is_some (of_ports (i + 1) ds ps))) (port_found p s) (ports_found (i + 1) ds ps)))
ports_found i (d ∷ ds) ps = ports_found (i + 1) ds ps

-- all of it
abbrev Found : Parts → Job → Type 0
Found p job =
    (p.ext ≡ job.stages.value) × ((p.samples ≡ map sample_port (samples_of job.decls))
    × (((t : ℕ) → t < length (targets_of job.decls) → HasTarget p (get_or (targets_of job.decls) t no_slot))
    × (((r : ℕ) → r < length p.regs → KnowsReg (targets_of job.decls) (get_or (map (λ x. x.name) p.regs) r []))
    × ((f : ℕ) → f < length p.files → KnowsFile (targets_of job.decls) (get_or (map (λ x. x.name) p.files) f [])))))

found : (p : Parts) (job : Job) → Decides (not (is_some (first_mismatch p job))) (Found p job)
found p job =
    let ts = targets_of job.decls in
    let targets = as_well (not (is_some (of_targets p 0 job.decls))) (targets_found p ts).0 (targets_found p ts).1 (none_absent p 0 job.decls) in
    none_first (of_stages p job) _ (tested (p.ext == job.stages.value) None (differs.Stages p.ext job.stages.value) (alone (p.ext == job.stages.value) (Decides-eqb p.ext job.stages.value)))
    (none_first (of_ports 0 job.decls p.samples) _ (ports_found 0 job.decls p.samples)
    (none_first (of_targets p 0 job.decls) _ targets
    (none_first (of_registers ts 0 p.regs) _ (regs_known ts 0 p.regs)
    (none_last (of_files ts 0 p.files) (words_known ts 0 p.files)))))

of_job : (net : Net) (job : Job) → Found net.parts job → IsOfJob net job
of_job net job h = record {
  ext = h.0;
  samples = h.1.0;
  registers = λ t l e. let x = (h.1.1.0 t l).0 e in record { there = x.0; width = x.1 };
  files = λ t l e. let x = (h.1.1.0 t l).1 e in record { there = x.0; width = x.1.0; address = x.1.1 };
  no_more_registers = λ r l e. let x = h.1.1.1.0 r l e in (x.0, x.1, x.2.0, x.2.1);
  no_more_files = λ f l. let x = h.1.1.1.1 f l in (x.0, x.1, x.2.0, x.2.1);
}

then_found : (net : Net) (job : Job) → IsOfJob net job → Found net.parts job
then_found net job h = (
  h.ext,
  (
    h.samples,
    (
      λ t l. (λ e. let x = h.registers t l e in (x.there, x.width), λ e. let x = h.files t l e in (x.there, (x.width, x.address))),
      (
        λ r l e. let x = h.no_more_registers r l e in (x.0, x.1, (x.2, x.3)),
        λ f l. let x = h.no_more_files f l in (x.0, x.1, (x.2, x.3)),
      ),
    ),
  ),
)

by_answer : {P : Type 0} (o : Option Mismatch) → Decides (not (is_some o)) P → MatchOption o P (λ _. P → ⊥)
by_answer None d = d.0 refl
by_answer (Some m) d = λ p. false≢true (d.1 p)

pub exact : (net : Net) (job : Job) → MatchOption (first_mismatch net.parts job) (IsOfJob net job) (λ _. IsOfJob net job → ⊥)
exact net job = by_answer (first_mismatch net.parts job) (as_well (not (is_some (first_mismatch net.parts job))) (of_job net job) (then_found net job) (found net.parts job))
