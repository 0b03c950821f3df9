-- The registers of a netlist that store those of its job, and their values.
use Rattle.std.proofs.Common.{◌≡◌, ◌∙◌, ℕ, zero, suc, ◌+◌, ◌<◌, ◌≤◌, List, [], ◌∷◌, length, get_or, drop, true, Some, refl, ap, ap₂, sym, subst, arith}
use Rattle.std.proofs.lemmas.List.{drop-drop}
use Rattle.kp_bits.specs.Word.{Word, word}
use Rattle.kp_ast.specs.declared.tree.{Decl.Decl, Job.Job}
use Rattle.kp_ast.specs.declared.tree.Decl.TheVariants as decls
use Rattle.kp_machine.specs.{Slots.Slot, Slots.slot, Slots.targets_of, Slots.is_register, Words.no_slot, Words.target}
use Rattle.kp_net.specs.{Netlist.Net, Netlist.State, Parts.no_reg}
use Rattle.kp_implements.specs.{Naming.register_names, Naming.register_of, Naming.value_of, Naming.value_shown, Shows.IsOfJob, Shows.HasRegister}
use Rattle.kp_vcd.specs.{Recording.Values, Dumps.register_values, inner.Shown.places_from, inner.Shown.shown_at, inner.Shown.ArePlaces}

slot_at : (ss : List Slot) (t : ℕ) (s : Slot) (more : List Slot) → drop t ss ≡ s ∷ more → (t < length ss) × (get_or ss t no_slot ≡ s)
slot_at [] zero s more e = cc
slot_at [] (suc t) s more e = cc
slot_at (x ∷ ss) zero s more e = (omega arith, cc)
slot_at (x ∷ ss) (suc t) s more e = let h = slot_at ss t s more e in (omega (arith, h.0), h.1)

past_one : (ss : List Slot) (t : ℕ) (s : Slot) (more : List Slot) → drop t ss ≡ s ∷ more → drop (t + 1) ss ≡ more
past_one ss t s more e = sym (drop-drop 1 t ss) ∙ ap (drop 1) e

-- a declaration has at most one register
places_few : (names : List (List ℕ)) (ds : List Decl) → length (places_from names ds) ≤ length ds
places_few names [] = omega arith
places_few names (decls.Reg n width start ∷ ds) = let h = places_few names ds in omega (arith, h)
places_few names (_ ∷ ds) = let h = places_few names ds in omega (arith, h)

module _ (job : Job) (net : Net) (of_job : IsOfJob net job) where
  abbrev slots : List Slot
  slots = targets_of job.decls

  -- the register of target t
  module _ (t : ℕ) (s : Slot) (more : List Slot) (at : drop t slots ≡ s ∷ more) (one : is_register s ≡ true) where
    is : target job t ≡ s
    is = (slot_at slots t s more at).1

    has : HasRegister net s
    has =
        subst (HasRegister net) is
        (of_job.registers t (slot_at slots t s more at).0 (ap is_register is ∙ one))

    shows : (st : State) → word (get_or net.parts.regs (register_of net s) no_reg).start.width (get_or st.regs (register_of net s) 0) ≡ word s.width (value_shown job net st t 0)
    unfolding value_shown
    shows st =
        ap (λ (w : ℕ). word w (get_or st.regs (register_of net s) 0)) has.width
        ∙ sym (ap (word s.width) (ap (λ (x : Slot). value_of net st x 0) is ∙ rw one refl))

  within_from : (ds : List Decl) (t : ℕ) → drop t slots ≡ targets_of ds → (i d : ℕ) → i < length (places_from (register_names net) ds)
      → get_or (places_from (register_names net) ds) i d < length net.parts.regs
  within_from [] t at i d h = absurd (omega (arith, h))
  within_from (decls.Reg n width start ∷ ds) t at zero d h = (has t (slot n width 0) (targets_of ds) at refl).there
  within_from (decls.Reg n width start ∷ ds) t at (suc i) d h = within_from ds (t + 1) (past_one slots t _ _ at) i d (omega (arith, h))
  within_from (decls.File n width address ∷ ds) t at i d h = within_from ds (t + 1) (past_one slots t _ _ at) i d h
  within_from (_ ∷ ds) t at i d h = within_from ds t at i d h

  shown_from : (st : State) (ds : List Decl) (t : ℕ) → drop t slots ≡ targets_of ds
      → shown_at (record { net = net; state = st; slots = [] }) (places_from (register_names net) ds) ≡ register_values (λ u. value_shown job net st u 0) t ds
  shown_from st [] t at = refl
  shown_from st (decls.Reg n width start ∷ ds) t at =
      ap₂ (λ (w : Word) (rest : Values). Some w ∷ rest) (shows t (slot n width 0) (targets_of ds) at refl st)
      (shown_from st ds (t + 1) (past_one slots t _ _ at))
  shown_from st (decls.File n width address ∷ ds) t at = shown_from st ds (t + 1) (past_one slots t _ _ at)
  shown_from st (_ ∷ ds) t at = shown_from st ds t at

  pub are_places : (places : List ℕ) → places ≡ places_from (register_names net) job.decls → ArePlaces job net places
  are_places places e =
      subst (ArePlaces job net) (sym e)
      (record { few = places_few (register_names net) job.decls; within = λ i d h. within_from job.decls 0 refl i d h; shown = λ st. shown_from st job.decls 0 refl })

-- ---- values that are alike

alike_from : (f g : ℕ → ℕ) (ds : List Decl) (t : ℕ) → ((u : ℕ) → u < t + length (targets_of ds) → f u ≡ g u) → register_values f t ds ≡ register_values g t ds
alike_from f g [] t h = refl
alike_from f g (decls.Reg n width start ∷ ds) t h =
    ap₂ (λ (x : ℕ) (rest : Values). Some (word width.value x) ∷ rest) (h t (omega arith)) (alike_from f g ds (t + 1) (λ u l. h u (omega (arith, l))))
alike_from f g (decls.File n width address ∷ ds) t h = alike_from f g ds (t + 1) (λ u l. h u (omega (arith, l)))
alike_from f g (_ ∷ ds) t h = alike_from f g ds t h

pub registers_alike : (job : Job) (f g : ℕ → ℕ) → ((t : ℕ) → t < length (targets_of job.decls) → f t ≡ g t) → register_values f 0 job.decls ≡ register_values g 0 job.decls
registers_alike job f g h = alike_from f g job.decls 0 (λ u l. h u (omega (arith, l)))
