-- The register or file of a netlist that stores a target.
use Rattle.std.proofs.Common.{◌≡◌, ◌∙◌, ℕ, zero, suc, ◌+◌, ◌<◌, ◌≤◌, ◌^◌, List, [], ◌∷◌, ◌++◌, map, length, get_or, Bool, true, false, drop, None, refl, ap, sym, subst, arith}
use Rattle.std.proofs.lemmas.{Bool.eqb-true, List.get_or-map, List.length-map, List.drop_more, List.append_assoc}
use Rattle.std.specs.Prelude.{◌==◌, if◌then◌else◌}
use Rattle.kp_base.specs.First.{first}
use Rattle.kp_width.specs.Widths.{widths_of}
use Rattle.kp_bits.specs.Word.{word}
use Rattle.kp_cycle.specs.Steps.{Running}
use Rattle.kp_ast.specs.declared.tree.{Decl.Decl, Job.Job, Lit.Lit, Named.Named, Num.Num}
use Rattle.kp_ast.specs.declared.tree.Decl.TheVariants as decls
use Rattle.kp_machine.{proofs.Widths.Fine, proofs.Widths.job_fine, specs.Slots.Slot, specs.Slots.slot, specs.Slots.targets_of, specs.Slots.is_register}
use Rattle.kp_machine.specs.Words.{HasWord, no_slot, target}
use Rattle.kp_net.specs.{Netlist.Net, Netlist.State, Parts.NetOk, Parts.no_reg, Parts.no_file}
use Rattle.kp_implements.specs.{Naming.register_of, Naming.file_of, Naming.value_shown, Shows.IsOfJob}
use Rattle.kp_run.specs.declared.places.Place.{Place, TheVariants.Register, TheVariants.File}
use Rattle.kp_run.specs.Places.{place_in, places_in, IsPlace, word_at}

-- ---- the addresses of a file

abbrev pub FitsAddress : Decl → Type 0
FitsAddress (decls.File n width address) = (1 ≤ address.value) × (address.value ≤ 16)
FitsAddress _ = Unit {0}

fits_at : (ds : List Decl) (i : ℕ) (d : Decl) → Fine ds → ((t : ℕ) → t < length (targets_of ds) → (get_or (targets_of ds) t no_slot).address ≤ 16) → i < length ds → FitsAddress (get_or ds i d)
fits_at [] i d fine low h = absurd (omega (arith, h))
fits_at (decls.File n width address ∷ ds) zero d fine low h = (fine.2, low 0 (omega arith))
fits_at (_ ∷ ds) zero d fine low h = tt
fits_at (decls.Reg n width start ∷ ds) (suc i) d fine low h = fits_at ds i d fine.2 (λ t l. low (suc t) (omega (arith, l))) (omega (arith, h))
fits_at (decls.File n width address ∷ ds) (suc i) d fine low h = fits_at ds i d fine.3 (λ t l. low (suc t) (omega (arith, l))) (omega (arith, h))
fits_at (_ ∷ ds) (suc i) d fine low h = fits_at ds i d fine low (omega (arith, h))

module _ (net : Net) (job : Job) (of_job : IsOfJob net job) (ok : NetOk net) where
  low_by : (t : ℕ) → t < length (targets_of job.decls) → (b : Bool) → is_register (target job t) ≡ b → (target job t).address ≤ 16
  low_by t h true e = let zero_bits : (target job t).address ≡ 0 = eqb-true (target job t).address 0 e in omega (arith, zero_bits)
  low_by t h false e =
      let file = of_job.files t h e in
      let right = ok.parts.files (file_of net (target job t)) no_file file.there in
      omega (arith, right.addressed_at_most, file.address)

  pub address_fits : first (widths_of job).asked ≡ None → (i : ℕ) (d : Decl) → i < length job.decls → FitsAddress (get_or job.decls i d)
  address_fits widths i d h = fits_at job.decls i d (job_fine job widths) (λ t l. low_by t l (is_register (target job t)) refl) h

-- ---- one declaration more

pub file_place : (net : Net) (n : Named) (width address : Num) (p : Place) → 1 ≤ address.value
    → p ≡ File (file_of net (slot n width address.value)) (2 ^ address.value) → p ≡ place_in net (slot n width address.value)
file_place net n width address p some is = go (address.value == 0) refl
  where
    go : (b : Bool) → (address.value == 0) ≡ b → p ≡ place_in net (slot n width address.value)
    go true e = let none : address.value ≡ 0 = eqb-true address.value 0 e in absurd (omega (arith, some, none))
    go false e = is ∙ rw e refl

pub no_target : (x : Decl) (ds : List Decl) → ((n : Named) (w : Num) (v : Lit) → x ≡ decls.Reg n w v → ⊥) → ((n : Named) (w a : Num) → x ≡ decls.File n w a → ⊥) → targets_of (x ∷ ds) ≡ targets_of ds
no_target (decls.Reg n w v) ds other another = absurd (other n w v refl)
no_target (decls.File n w a) ds other another = absurd (another n w a refl)
no_target _ ds other another = refl

module _ (net : Net) (ds : List Decl) (i : ℕ) (x : Decl) (places total : List Place) (low : i < length ds) (is : x ≡ get_or ds i x)
    (kept : places ++ map (place_in net) (targets_of (drop i ds)) ≡ total) where
  abbrev rest : List Decl
  rest = drop (i + 1) ds

  split : drop i ds ≡ x ∷ rest
  split = drop_more ds i x low ∙ ap (λ (y : Decl). y ∷ rest) (sym is)

  pub some_place : (s : Slot) (p : Place) → targets_of (x ∷ rest) ≡ s ∷ targets_of rest → p ≡ place_in net s → (places ++ p ∷ []) ++ map (place_in net) (targets_of rest) ≡ total
  some_place s p one placed =
      append_assoc places (p ∷ []) (map (place_in net) (targets_of rest))
      ∙ ap (λ (q : Place). places ++ q ∷ map (place_in net) (targets_of rest)) placed
      ∙ ap (λ (l : List Slot). places ++ map (place_in net) l) (sym one)
      ∙ ap (λ (l : List Decl). places ++ map (place_in net) (targets_of l)) (sym split)
      ∙ kept

  pub no_place : targets_of (x ∷ rest) ≡ targets_of rest → places ++ map (place_in net) (targets_of rest) ≡ total
  no_place none =
      ap (λ (l : List Slot). places ++ map (place_in net) l) (sym none)
      ∙ ap (λ (l : List Decl). places ++ map (place_in net) (targets_of l)) (sym split)
      ∙ kept

-- ---- the words of a register or file

pub few_targets : (ds : List Decl) → length (targets_of ds) ≤ length ds
few_targets [] = omega arith
few_targets (decls.Reg n width start ∷ ds) = let h = few_targets ds in omega (arith, h)
few_targets (decls.File n width address ∷ ds) = let h = few_targets ds in omega (arith, h)
few_targets (_ ∷ ds) = let h = few_targets ds in omega (arith, h)

pub as_many : (job : Job) (net : Net) (places : List Place) → places ≡ places_in job net → length places ≡ length (targets_of job.decls)
as_many job net places is = ap (λ (l : List Place). length l) is ∙ length-map (targets_of job.decls) (place_in net)

pub place_at : (job : Job) (net : Net) (places : List Place) (t : ℕ) (d : Place) → places ≡ places_in job net → t < length (targets_of job.decls) → get_or places t d ≡ place_in net (target job t)
place_at job net places t d is h = ap (λ (l : List Place). get_or l t d) is ∙ get_or-map (place_in net) (targets_of job.decls) t no_slot d h

-- a netlist of the job has the place of each target
pub place_there : (job : Job) (net : Net) (t : ℕ) (place : Place) → IsOfJob net job → t < length (targets_of job.decls) → place ≡ place_in net (target job t) → IsPlace net place
place_there job net t place of_job within is = subst (IsPlace net) (sym is) (go (is_register (target job t)) refl)
  where
    go : (b : Bool) → is_register (target job t) ≡ b → IsPlace net (place_in net (target job t))
    go true e = rw e (of_job.registers t within e).there
    go false e = let file = of_job.files t within e in rw e (file.there, ap (λ (w : ℕ). 2 ^ w) (sym file.address))

-- and the word there is the value of the target
pub place_shown : (job : Job) (sim : Running) (t : ℕ) (place : Place) (a : ℕ) → IsOfJob sim.net job → t < length (targets_of job.decls) → place ≡ place_in sim.net (target job t)
    → word_at sim place a ≡ word (target job t).width (value_shown job sim.net sim.state t a)
unfolding value_shown
place_shown job sim t place a of_job within is = ap (λ (p : Place). word_at sim p a) is ∙ go (is_register (target job t)) refl
  where
    go : (b : Bool) → is_register (target job t) ≡ b → word_at sim (place_in sim.net (target job t)) a ≡ word (target job t).width (value_shown job sim.net sim.state t a)
    go true e = rw e (ap (λ (w : ℕ). word w (get_or sim.state.regs (register_of sim.net (target job t)) 0)) (of_job.registers t within e).width)
    go false e = rw e (ap (λ (w : ℕ). word w (get_or (get_or sim.state.files (file_of sim.net (target job t)) []) a 0)) (of_job.files t within e).width)
