-- THE KEYS of a job: those of its registers come first, in the order of declaration, and no other key is one of a register.
use Rattle.std.proofs.Common.{◌≡◌, ◌∙◌, ℕ, zero, suc, ◌+◌, ◌<◌, List, [], ◌∷◌, ◌++◌, Bool, true, false, drop, length, get_or, length-append, refl, ap, sym, subst, arith}
use Rattle.std.{proofs.Math.Seq.drop-append_seam, proofs.lemmas.List.get_or_append_left, specs.List.AllByRecursion}
use Rattle.kp_bits.specs.Word.{Word, IsWord}
use Rattle.kp_ast.specs.declared.tree.{Decl.Decl, Job.Job}
use Rattle.kp_ast.specs.declared.tree.Decl.TheVariants as decls
use Rattle.kp_stage.specs.Start.{AreRegs}
use Rattle.kp_machine.specs.{Slots.Slot, Slots.targets_of, Slots.pipes_of, Slots.hints_of, Slots.is_register, Machine.registers_before}
use Rattle.kp_machine.proofs.Widths.{Fine}
use Rattle.kp_design.specs.Numbers.{no_slot, no_guess, guesses_of}
use Rattle.kp_synth_registers.specs.Keys.{visible_keys, pipe_keys, result_keys, stage_keys, stages_keys, later_keys, hint_keys, keys_of, key_at}
use Rattle.kp_synth_registers.specs.{declared.key.Key.Key, declared.key.Key.TheVariants.Visible, declared.key.Key.TheVariants.Full}
use Rattle.kp_design.proofs.Fitting.{all_at}
use Rattle.kp_synth_registers.proofs.Listed.{pipes, results, guesses, hints, each_both, each}
use Rattle.kp_synth.{specs.inner.Built.no_word, specs.inner.Built.reg_count, proofs.Parts.not_zero}

visible_count : (t : ℕ) (ds : List Decl) → Fine ds → length (visible_keys t (targets_of ds)) ≡ reg_count ds
visible_count t [] f = refl
visible_count t (decls.Reg n width start ∷ ds) f = ap suc (visible_count (suc t) ds f.2)
visible_count t (decls.File n width address ∷ ds) f = rw (not_zero address.value f.2) (visible_count (suc t) ds f.3)
visible_count t (_ ∷ ds) f = visible_count t ds f

-- The register of number j, whose key this is: the number of its target among these, from number t on, and its start value.
pub record Seen (ss : List Slot) (starts : List Word) (t j : ℕ) (key : Key) : Type 0 where
  pub target : ℕ
  pub inside : target < length ss
  pub register : is_register (get_or ss target no_slot) ≡ true
  pub before : registers_before ss target ≡ j
  pub is : key ≡ Visible (t + target)
  pub width : (get_or starts j no_word).width ≡ (get_or ss target no_slot).width
  pub word : IsWord (get_or starts j no_word)

pub seen : (ds : List Decl) (starts : List Word) (t j : ℕ) → Fine ds → AreRegs ds starts → j < reg_count ds
    → Seen (targets_of ds) starts t j (get_or (visible_keys t (targets_of ds)) j (Full 0))
seen [] starts t j f r l = absurd (omega (arith, l))
seen (decls.Reg n width start ∷ ds) [] t j f r l = absurd r
seen (decls.Reg n width start ∷ ds) (v ∷ starts) t zero f r l =
    let z : t ≡ t + 0 = omega arith in
    record { target = 0; inside = omega arith; register = refl; before = refl; is = ap Visible z; width = r.0; word = r.1 }
seen (decls.Reg n width start ∷ ds) (v ∷ starts) t (suc j) f r l =
    let s = seen ds starts (suc t) j f.2 r.2 (omega (arith, l)) in
    let z : suc t + s.target ≡ t + suc s.target = omega arith in
    record { target = suc s.target; inside = omega (arith, s.inside); register = s.register; before = ap suc s.before; is = s.is ∙ ap Visible z; width = s.width; word = s.word }
seen (decls.File n width address ∷ ds) starts t j f r l =
    let s = seen ds starts (suc t) j f.3 r l in
    let e = not_zero address.value f.2 in
    let z : suc t + s.target ≡ t + suc s.target = omega arith in
    record {
      target = suc s.target;
      inside = omega (arith, s.inside);
      register = s.register;
      before = rw e s.before;
      is = rw e (s.is ∙ ap Visible z);
      width = s.width;
      word = s.word;
    }
seen (_ ∷ ds) starts t j f r l = seen ds starts t j f r l

-- No key in a list is one of a register.
abbrev pub is_visible : Key → Bool
is_visible (Visible t) = true
is_visible _ = false

abbrev Hidden : Key → Type 0
Hidden key = is_visible key ≡ false

abbrev NoneVisible : List Key → Type 0
NoneVisible keys = AllByRecursion Hidden keys

module _ (job : Job) where
  stage_none : (k : ℕ) → NoneVisible (stage_keys job k)
  stage_none k = (
    refl,
    each_both Hidden (pipe_keys job k 0 (pipes_of job.decls)) _ (each (pipes job k) Hidden (pipes_of job.decls) no_slot (λ x l t. (refl, tt)))
        (each_both Hidden (result_keys job k 0 (targets_of job.decls)) _ (each (results job k) Hidden (targets_of job.decls) no_slot (λ x l t. (refl, (refl, tt))))
        (each (guesses k) Hidden (guesses_of job) no_guess (λ x l t. (refl, (refl, tt))))),
  )

  stages_none : (d k : ℕ) → NoneVisible (stages_keys job d k)
  stages_none zero k = tt
  stages_none (suc d) k = each_both Hidden (stage_keys job k) _ (stage_none k) (stages_none d (suc k))

  later_none : (n : ℕ) → NoneVisible (later_keys job n)
  later_none zero = tt
  later_none (suc n) = stages_none n 1

  abbrev pub rest_of : List Key
  rest_of = later_keys job job.stages.value ++ hint_keys 0 (hints_of job.decls)

  pub rest_none : NoneVisible rest_of
  rest_none = each_both Hidden (later_keys job job.stages.value) _ (later_none job.stages.value) (each hints Hidden (hints_of job.decls) no_slot (λ x l t. (refl, tt)))

  -- the list of keys, at the number of the registers
  pub keys_rest : Fine job.decls → drop (reg_count job.decls) (keys_of job) ≡ rest_of
  unfolding keys_of
  keys_rest f = subst (λ n. drop n (visible_keys 0 (targets_of job.decls) ++ rest_of) ≡ rest_of) (visible_count 0 job.decls f) (drop-append_seam (visible_keys 0 (targets_of job.decls)) rest_of)

  pub keys_count : Fine job.decls → length (keys_of job) ≡ reg_count job.decls + length rest_of
  unfolding keys_of
  keys_count f = let c = visible_count 0 job.decls f in omega (arith, c, length-append (visible_keys 0 (targets_of job.decls)) rest_of)

  pub key_seen : (starts : List Word) (j : ℕ) → Fine job.decls → AreRegs job.decls starts → j < reg_count job.decls → Seen (targets_of job.decls) starts 0 j (key_at job j)
  unfolding keys_of
  key_seen starts j f r l =
      let c = visible_count 0 job.decls f in
      subst (Seen (targets_of job.decls) starts 0 j) (sym (get_or_append_left (visible_keys 0 (targets_of job.decls)) rest_of (Full 0) j (omega (arith, c, l)))) (seen job.decls starts 0 j f r l)

-- a key after those of the registers
pub key_behind : (job : Job) (j : ℕ) → Fine job.decls → j < length (rest_of job) → is_visible (get_or (rest_of job) j (Full 0)) ≡ false
key_behind job j f l = all_at Hidden (rest_of job) (Full 0) (rest_none job) j l
