-- The registers and files of a netlist that store the targets of its job, and their values.
use Rattle.std.proofs.Common.{◌≡◌, ◌∙◌, ℕ, zero, suc, ◌<◌, ◌≤◌, ◌^◌, List, [], ◌∷◌, ◌++◌, length, get_or, All, Bool, true, false, refl, ap, sym, subst, arith}
use Rattle.std.{proofs.lemmas.Bool.ne_eqb, specs.Prelude.◌==◌, specs.Prelude.if◌then◌else◌, specs.Prelude.codes}
use Rattle.kp_bits.specs.Word.{word}
use Rattle.kp_ast.specs.declared.tree.{Decl.Decl, Job.Job, Named.Named, Num.Num}
use Rattle.kp_ast.specs.declared.tree.Decl.TheVariants as decls
use Rattle.kp_machine.{proofs.Widths.Fine, specs.Slots.Slot, specs.Slots.slot, specs.Slots.is_register, specs.Words.HasWord, specs.Words.target}
use Rattle.kp_net.specs.{Netlist.Net, Netlist.State, Parts.no_reg, Parts.no_file}
use Rattle.kp_implements.specs.Naming.{place_among, register_names, file_names, register_of, file_of, value_shown}
use Rattle.kp_implements.specs.Shows.{IsOfJob}
use Rattle.kp_report.specs.inner.Targets.{IsTarget}
use Rattle.kp_debug.specs.inner.Standing.{IsRegisterOf, IsFileOf, HasAddresses}

module _ (job : Job) (net : Net) (t number : ℕ) (of_job : IsOfJob net job) where
  abbrev s : Slot
  s = target job t

  module _ (r : IsRegisterOf job net t number) where
    pub register_there : number < length net.parts.regs
    register_there = let h = (of_job.registers t r.there r.kind).there in omega (arith, h, r.is)

    pub register_value : (st : State) → word (get_or net.parts.regs number no_reg).start.width (get_or st.regs number 0) ≡ word s.width (value_shown job net st t 0)
    unfolding value_shown
    register_value st = rw (r.is, r.kind) (ap (λ (w : ℕ). word w (get_or st.regs (register_of net s) 0)) (of_job.registers t r.there r.kind).width)

  module _ (f : IsFileOf job net t number) where
    pub file_there : number < length net.parts.files
    file_there = let h = (of_job.files t f.there f.kind).there in omega (arith, h, f.is)

    pub address_there : (a : ℕ) → HasWord job t a → a < 2 ^ (get_or net.parts.files number no_file).address_width
    address_there a h = rw (f.is, (of_job.files t f.there f.kind).address) h.address

    pub file_value : (st : State) (a : ℕ) → word (get_or net.parts.files number no_file).width (get_or (get_or st.files number []) a 0) ≡ word s.width (value_shown job net st t a)
    unfolding value_shown
    file_value st a = rw (f.is, f.kind) (ap (λ (w : ℕ). word w (get_or (get_or st.files (file_of net s) []) a 0)) (of_job.files t f.there f.kind).width)

-- the register or file of a declaration
pub register_is : (job : Job) (net other : Net) (t number : ℕ) (n : Named) (width : Num) → IsTarget job t (slot n width 0) → other ≡ net
    → number ≡ place_among (register_names net) (codes "r_" ++ n.name) → IsRegisterOf job other t number
register_is job net other t number n width stands same is =
    subst (λ (m : Net). IsRegisterOf job m t number) (sym same)
    (record {
      there = stands.within;
      kind = ap is_register stands.is;
      is = is ∙ ap (register_of net) (sym stands.is);
    })

pub file_is : (job : Job) (net other : Net) (t number : ℕ) (n : Named) (width address : Num) → IsTarget job t (slot n width address.value) → 1 ≤ address.value → other ≡ net
    → number ≡ place_among (file_names net) (codes "f_" ++ n.name) → IsFileOf job other t number
file_is job net other t number n width address stands some same is =
    subst (λ (m : Net). IsFileOf job m t number) (sym same)
    (record {
      there = stands.within;
      kind = ap is_register stands.is ∙ ne_eqb address.value 0 (λ e. omega (arith, some, e));
      is = is ∙ ap (file_of net) (sym stands.is);
    })

-- ---- files have addresses

pub some_addresses : (ds : List Decl) → Fine ds → All HasAddresses ds
some_addresses [] fine i d h = absurd (omega (arith, h))
some_addresses (decls.File n width address ∷ ds) fine zero d h = fine.2
some_addresses (decls.File n width address ∷ ds) fine (suc i) d h = some_addresses ds fine.3 i d (omega (arith, h))
some_addresses (decls.Reg n width start ∷ ds) fine zero d h = tt
some_addresses (decls.Reg n width start ∷ ds) fine (suc i) d h = some_addresses ds fine.2 i d (omega (arith, h))
some_addresses (_ ∷ ds) fine zero d h = tt
some_addresses (_ ∷ ds) fine (suc i) d h = some_addresses ds fine i d (omega (arith, h))
