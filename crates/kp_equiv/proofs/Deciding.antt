-- Two netlists that can be compared have one verdict.
use Rattle.std.proofs.Common.{◌≡◌, ◌∙◌, ℕ, suc, ◌==◌, ◌&&◌, ◌<◌, ◌≤◌, Bool, true, false, List, [], ◌∷◌, length, map, get_or, refl, sym, ap, subst, arith, ⊎_elim, Option, None, Some}
use Rattle.std.proofs.lemmas.Bool.{cases_lt, false≢true, Decides.Decides-and, Decides.Decides-eqb, Decides.Decides-like}
use Rattle.std.{proofs.lemmas.List.Elements.All-get_or, proofs.lemmas.List.length-map, specs.Bool.Decides, specs.Cmp.Lexicographic.bytes_decides}
use Rattle.kp_bits.specs.Word.{Word}
use Rattle.kp_net.specs.declared.{node.NodeId.NodeId, netlist.NetReg.NetReg, netlist.NetFile.NetFile, netlist.Port.Port, netlist.WritePort.WritePort}
use Rattle.kp_net.specs.{Names.same, Netlist.Net, Parts.NetOk, Parts.RegOk, Parts.FileOk, Parts.WriteOk, Parts.no_reg, Parts.no_file}
use Rattle.kp_equiv.specs.Agreement.{Root, Ports, Register, File, Full, Ue, Back, roots, RegsAlike, WritesAlike, FilesAlike, PortsAgree, RegisterAgrees, FileAgrees, Agrees}
use Rattle.kp_equiv.specs.declared.verdict.Verdict.{Verdict, TheVariants.Same, TheVariants.Differs}
use Rattle.kp_equiv.specs.{Verdicts.IsComparable, Verdicts.IsVerdict, Alike.Alike, Named.HasNames, Classes.place, Classes.class_in}
use Rattle.kp_equiv.{specs.Sections.Differing, specs.Sections.FirstOf, proofs.Determined.alike_found, proofs.Inputs.port_decides}
use Rattle.kp_equiv.proofs.Places.{Things, registers, memories, namesake, missing}
use Rattle.kp_equiv.proofs.Ordered.{register_found, file_found, agree_more, differ_more}
use Rattle.kp_equiv.proofs.Determining.{SomeDetermines, some_determines}

-- a fact that a test decides
record Decided (P : Type 0) : Type 0 where
  test : Bool
  decides : Decides test P

both : {P Q : Type 0} → Decided P → Decided Q → Decided (P × Q)
both p q = record { test = p.test && q.test; decides = Decides-and p.test q.test p.decides q.decides }

alike : {P Q : Type 0} → (P → Q) → (Q → P) → Decided P → Decided Q
alike f g p = record { test = p.test; decides = Decides-like p.test f g p.decides }

never : {P : Type 0} → (P → ⊥) → Decided P
never h = record { test = false; decides = (λ e. absurd (false≢true e), λ p. absurd (h p)) }

always : {P : Type 0} → P → Decided P
always p = record { test = true; decides = (λ _. p, λ _. refl) }

numbers : (n m : ℕ) → Decided (n ≡ m)
numbers n m = record { test = n == m; decides = Decides-eqb n m }

truths : (b c : Bool) → Decided (b ≡ c)
truths true true = always refl
truths false false = always refl
truths _ _ = never (λ e. cc)

starts : (v w : Word) → Decided (v ≡ w)
starts v w = alike (λ (h : (v.width ≡ w.width) × (v.value ≡ w.value)). let x = h.0 in let y = h.1 in λ t. record { width = x t; value = y t }) (λ e. (ap (λ (x : Word). x.width) e, ap (λ (x : Word). x.value) e)) (both (numbers v.width w.width) (numbers v.value w.value))

ports : (xs ys : List Port) → Decided (xs ≡ ys)
ports [] [] = always refl
ports (x ∷ xs) (y ∷ ys) =
    alike (λ (h : (x ≡ y) × (xs ≡ ys)). let e = h.0 in let f = h.1 in λ t. e t ∷ f t) (λ e. (cc, cc)) (both (record { test = _; decides = port_decides x y }) (ports xs ys))
ports _ _ = never (λ e. cc)

module _ (a b : Net) (oka : NetOk a) (okb : NetOk b) (na : HasNames a) (nb : HasNames b) (t : SomeDetermines a b) where
  nodes : (i j : NodeId) → i.0 < length a.nodes → j.0 < length b.nodes → Decided (Alike a b i j)
  nodes i j li lj = record {
    test = (class_in t.first i).0 == (class_in t.second j).0;
    decides = alike_found a b t.first t.second i j (class_in t.first i) (class_in t.second j) _ t.determines li lj refl refl refl;
  }

  regs : (r q : NetReg) → RegOk a.nodes r → RegOk b.nodes q → Decided (RegsAlike a b r q)
  regs r q okr okq =
      alike (λ (h : (r.start ≡ q.start) × Alike a b r.next q.next). record { start = h.0; next = h.1 }) (λ h. (h.start, h.next))
      (both (starts r.start q.start) (nodes r.next q.next okr.next.0 okq.next.0))

  writes : (p q : Option WritePort) (v x w y : ℕ) → WriteOk a.nodes v x p → WriteOk b.nodes w y q → Decided (WritesAlike a b p q)
  writes None None v x w y okp okq = always tt
  writes (Some p) (Some q) v x w y okp okq =
      alike (λ (h : Alike a b p.enable q.enable × (Alike a b p.address q.address × Alike a b p.value q.value)). (h.0, h.1.0, h.1.1)) (λ h. (h.0, (h.1, h.2)))
      (both (nodes p.enable q.enable okp.0.0 okq.0.0) (both (nodes p.address q.address okp.1.0 okq.1.0) (nodes p.value q.value okp.2.0 okq.2.0)))
  writes _ _ v x w y okp okq = never (λ h. h)

  files : (f g : NetFile) → FileOk a.nodes f → FileOk b.nodes g → Decided (FilesAlike a b f g)
  files f g okf okg =
      alike (λ (h : (f.words ≡ g.words) × WritesAlike a b f.port g.port). record { words = h.0; port = h.1 }) (λ h. (h.words, h.port))
      (both (record { test = same f.words g.words; decides = bytes_decides f.words g.words })
      (writes f.port g.port f.width f.address_width g.width g.address_width okf.port okg.port))

  -- a name that both have, and two of this name
  named : {X : Type 0} (T : Things X) (xs ys : List X) (Q : List ℕ → Type 0)
      → ((n : List ℕ) → Q n → ((i : ℕ) × (i < length xs) × (T.name (get_or xs i T.none) ≡ n)) × ((j : ℕ) × (j < length ys) × (T.name (get_or ys j T.none) ≡ n)))
      → ((i j : ℕ) → i < length xs → j < length ys → T.name (get_or ys j T.none) ≡ T.name (get_or xs i T.none) → Decided (Q (T.name (get_or xs i T.none)))) → (n : List ℕ) → Decided (Q n)
  named T xs ys Q some two n =
      let i : ℕ = place (map T.name xs) n in
      let j : ℕ = place (map T.name ys) n in
      ⊎_elim
      (λ (l : i < length xs). ⊎_elim
      (λ (m : j < length ys). let e = namesake T xs n l in subst (λ (k : List ℕ). Decided (Q k)) e (two i j l m (namesake T ys n m ∙ sym e)))
      (λ (m : length ys ≤ j). never (λ h. let g = (some n h).1 in missing T ys n g.0 (omega (arith, length-map ys T.name)) g.1 g.2))
      (cases_lt j (length ys)))
      (λ (l : length xs ≤ i). never (λ h. let g = (some n h).0 in missing T xs n g.0 (omega (arith, length-map xs T.name)) g.1 g.2))
      (cases_lt i (length xs))

  register : (name : List ℕ) → Decided (RegisterAgrees a b name)
  register = named registers a.parts.regs b.parts.regs (RegisterAgrees a b) (λ n h. ((h.first, h.in_first, h.named_first), (h.second, h.in_second, h.named_second)))
      (λ r q lr lq e.
      let d = regs (get_or a.parts.regs r no_reg) (get_or b.parts.regs q no_reg) (All-get_or (RegOk a.nodes) a.parts.regs r no_reg lr oka.parts.regs) (All-get_or (RegOk b.nodes) b.parts.regs q no_reg lq okb.parts.regs) in
      record { test = d.test; decides = register_found a b r q na.regs nb.regs lr lq e d.test d.decides })

  file : (name : List ℕ) → Decided (FileAgrees a b name)
  file = named memories a.parts.files b.parts.files (FileAgrees a b) (λ n h. ((h.first, h.in_first, h.named_first), (h.second, h.in_second, h.named_second)))
      (λ f g lf lg e.
      let d = files (get_or a.parts.files f no_file) (get_or b.parts.files g no_file) (All-get_or (FileOk a.nodes) a.parts.files f no_file lf oka.parts.files)
      (All-get_or (FileOk b.nodes) b.parts.files g no_file lg okb.parts.files) in
      record { test = d.test; decides = file_found a b f g na.files nb.files lf lg e d.test d.decides })

  inputs : Decided (PortsAgree a b)
  inputs =
      alike (λ (h : (a.parts.reset ≡ b.parts.reset) × ((a.parts.ext ≡ b.parts.ext) × (a.parts.samples ≡ b.parts.samples))). record { reset = h.0; ext = h.1.0; samples = h.1.1 })
      (λ h. (h.reset, (h.ext, h.samples)))
      (both (truths a.parts.reset b.parts.reset) (both (numbers a.parts.ext b.parts.ext) (ports a.parts.samples b.parts.samples)))

  root : (r : Root) → Decided (Agrees a b r)
  root Ports = inputs
  root (Register name) = register name
  root (File name) = file name
  root Full = nodes a.parts.full b.parts.full oka.parts.full okb.parts.full
  root Ue = nodes a.parts.ue b.parts.ue oka.parts.ue okb.parts.ue
  root Back = nodes a.parts.back b.parts.back oka.parts.back okb.parts.back

-- the first of a list of roots that doesn't agree
differ_here : (a b : Net) (r : Root) (rs : List Root) → (Agrees a b r → ⊥) → Differing a b (r ∷ rs) 0
differ_here a b r rs h = record { there = omega arith; before = λ k l. absurd (omega (arith, l)); differs = h }

behind_one : (a b : Net) (r : Root) (rs : List Root) → Agrees a b r → (f : Option ℕ) → FirstOf a b rs f → (g : Option ℕ) × FirstOf a b (r ∷ rs) g
behind_one a b r rs p None h = (None, agree_more a b r rs (length rs) p h)
behind_one a b r rs p (Some n) h = (Some (suc n), differ_more a b r rs n p h)

with_one : (a b : Net) (r : Root) (rs : List Root) (t : Bool) → Decides t (Agrees a b r) → (f : Option ℕ) → FirstOf a b rs f → (g : Option ℕ) × FirstOf a b (r ∷ rs) g
with_one a b r rs true d f h = behind_one a b r rs (d.0 refl) f h
with_one a b r rs false d f h = (Some 0, differ_here a b r rs (λ p. false≢true (d.1 p)))

first_of : (a b : Net) → ((r : Root) → Decided (Agrees a b r)) → (rs : List Root) → (f : Option ℕ) × FirstOf a b rs f
first_of a b d [] = (None, λ k l. absurd (omega (arith, l)))
first_of a b d (r ∷ rs) = let rest = first_of a b d rs in let one = d r in with_one a b r rs one.test one.decides rest.0 rest.1

verdict_of : (a b : Net) (f : Option ℕ) → FirstOf a b (roots a b) f → (verdict : Verdict) × IsVerdict a b verdict
verdict_of a b None h = (Same, record { agree = h })
verdict_of a b (Some n) h = (Differs n, record { there = h.there; before = h.before; differs = h.differs })

pub some_verdict : (a b : Net) → NetOk a → NetOk b → IsComparable a b → (verdict : Verdict) × IsVerdict a b verdict
some_verdict a b oka okb h =
    let f = first_of a b (root a b oka okb h.first h.second (some_determines a b oka okb)) (roots a b) in
    verdict_of a b f.0 f.1

pub one_verdict : (a b : Net) (v w : Verdict) → IsVerdict a b v → IsVerdict a b w → v ≡ w
one_verdict a b Same Same p q = refl
one_verdict a b Same (Differs m) p q = absurd (q.differs (p.agree m q.there))
one_verdict a b (Differs n) Same p q = absurd (p.differs (q.agree n p.there))
one_verdict a b (Differs n) (Differs m) p q =
    let f : n < m → ⊥ = λ h. p.differs (q.before n h) in let g : m < n → ⊥ = λ h. q.differs (p.before m h) in
    let e : n ≡ m = omega (arith, f, g) in ap Differs e
