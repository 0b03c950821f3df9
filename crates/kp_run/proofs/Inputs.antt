-- The inputs of a netlist of a job are those that its sections specify.
use Rattle.std.proofs.Common.{◌≡◌, ◌∙◌, ℕ, zero, suc, ◌+◌, ◌%◌, ◌^◌, ◌<◌, ◌≤◌, List, [], ◌∷◌, ◌++◌, map, length, get_or, Bool, true, false, None, refl, ap, sym, arith}
use Rattle.std.proofs.{Math.Path.fun_ext, Math.Nat.mod-eq_of_lt, Math.Nat.div-eq_of_lt, lemmas.Bool.ltb-true, lemmas.Bool.ltb-false, lemmas.Bool.eqb-true}
use Rattle.std.proofs.lemmas.{Nat.pow_pos, List.Elements.All-head, List.Elements.All-push, List.Elements.All-tail}
use Rattle.std.specs.List.{All}
use Rattle.std.specs.Prelude.{◌==◌, nat_lt, ◌||◌, ◌&&◌, slice_index}
use Rattle.kp_base.specs.First.{first}
use Rattle.kp_bits.{specs.Word.Word, specs.Operators.no_word, proofs.Powers.pow_le}
use Rattle.kp_ast.specs.declared.tree.{Job.Job, Stalls.Stalls}
use Rattle.kp_width.specs.Widths.{widths_of}
use Rattle.kp_stage.specs.Start.{stall_word, stalls_at, is_stalled, bits_below, stalls_of, input, AreSamples}
use Rattle.kp_image.specs.Sections.{stall_of, sections_of}
use Rattle.kp_image.proofs.{Given.stalls_right, Given.rows_fit, Unbroken.stage_right}
use Rattle.kp_pipeline.specs.Pipeline.{Inputs}
use Rattle.kp_machine.specs.Machine.{inputs_at, inputs_from, values_in}
use Rattle.kp_net.specs.Netlist.{Input}
use Rattle.kp_sched.specs.Rows.{bit_of}
use Rattle.kp_sched.proofs.Bits.{word_fits, bit_below}
use Rattle.kp_implements.specs.Traces.{sample, input_seen, inputs_seen, AreQuiet}
use Rattle.kp_run.specs.Cycles.{input_at, inputs_to}
use Rattle.kp_run.proofs.Samples.{width_at, word_at, value_at, value_past}

-- ---- the bits of a stall word

bit_above : (n v k : ℕ) → v < 2 ^ n → n ≤ k → bit_of v k ≡ false
bit_above n v k low h =
    let wide : 2 ^ n ≤ 2 ^ k = pow_le n k h in
    let less : v < 2 ^ k = omega (arith, low, wide) in
    ap (λ (q : ℕ). q % 2 == 1) (div-eq_of_lt less)

-- ---- no entry stalls a stage that doesn't exist

other_stage : (stages s k : ℕ) (rest : Bool) → nat_lt s stages ≡ true → stages ≤ k → (s == k && rest) ≡ false
other_stage stages s k rest e h = go (s == k) refl
  where
    go : (c : Bool) → (s == k) ≡ c → (c && rest) ≡ false
    go true same =
        let low : s < stages = ltb-true s stages e in
        let it : s ≡ k = eqb-true s k same in
        absurd (omega (arith, low, it, h))
    go false other = refl

none_stalls : (stages : ℕ) (es : List Stalls) → All (λ e. stall_of stages e ≡ None) es → (k cycle : ℕ) → stages ≤ k → is_stalled es k cycle ≡ false
none_stalls stages [] u k cycle h = refl
none_stalls stages (e ∷ es) u k cycle h =
    let right = stage_right stages e (All-head (λ e. stall_of stages e ≡ None) e es u) in
    let here : stalls_at e k cycle ≡ false = other_stage stages e.stage.value k _ right h in
    ap (λ (b : Bool). b || is_stalled es k cycle) here ∙ none_stalls stages es (All-tail (λ e. stall_of stages e ≡ None) e es u) k cycle h

-- ---- a cycle

got : (xs : List ℕ) (x : ℕ) → get_or xs x 0 ≡ slice_index xs x
got [] x = refl
got (v ∷ xs) zero = refl
got (v ∷ xs) (suc x) = got xs x

module _ (job : Job) (widths : first (widths_of job).asked ≡ None) (sections : first (sections_of job).asked ≡ None) where
  abbrev stalled : ℕ → ℕ → Bool
  stalled cycle k = is_stalled (stalls_of job) k cycle

  stalls_alike : (cycle k : ℕ) → bit_of (stall_word job cycle % 2 ^ job.stages.value) k ≡ is_stalled (stalls_of job) k cycle
  unfolding stall_word
  stalls_alike cycle k = ap (λ (v : ℕ). bit_of v k) (mod-eq_of_lt (word_fits job.stages.value (stalled cycle))) ∙ go (nat_lt k job.stages.value) refl
    where
      go : (c : Bool) → nat_lt k job.stages.value ≡ c → bit_of (bits_below job.stages.value (stalled cycle)) k ≡ stalled cycle k
      go true e = bit_below job.stages.value (stalled cycle) k (ltb-true k job.stages.value e)
      go false e =
          let above : job.stages.value ≤ k = ltb-false k job.stages.value e in
          bit_above job.stages.value (bits_below job.stages.value (stalled cycle)) k (word_fits job.stages.value (stalled cycle)) above ∙ sym (none_stalls job.stages.value (stalls_of job) (stalls_right job sections) k cycle above)

  samples_alike : (cycle x : ℕ) → get_or (map (λ w. w.value) (input job cycle)) x 0 % 2 ^ (sample job x).width ≡ values_in (input job cycle) x
  samples_alike cycle x =
      let row : List Word = input job cycle in
      let fits : AreSamples job.decls row = rows_fit job widths sections cycle in
      let same : get_or (map (λ (w : Word). w.value) row) x 0 ≡ values_in row x = got (map (λ (w : Word). w.value) row) x in
      ap (λ (v : ℕ). v % 2 ^ (sample job x).width) same ∙ small row fits (nat_lt x (length row)) refl
    where
      small : (row : List Word) → AreSamples job.decls row → (c : Bool) → nat_lt x (length row) ≡ c → values_in row x % 2 ^ (sample job x).width ≡ values_in row x
      small row fits true e =
          let there : x < length row = ltb-true x (length row) e in
          let value = value_at row x there in
          ap (λ (v : ℕ). v % 2 ^ (sample job x).width) value
          ∙ ap (λ (w : ℕ). (get_or row x no_word).value % 2 ^ w) (sym (width_at job.decls row fits x there))
          ∙ mod-eq_of_lt (word_at job.decls row fits x there).fits
          ∙ sym value
      small row fits false e =
          let past : length row ≤ x = ltb-false x (length row) e in
          ap (λ (v : ℕ). v % 2 ^ (sample job x).width) (value_past row x past)
          ∙ mod-eq_of_lt (pow_pos (sample job x).width)
          ∙ sym (value_past row x past)

  seen_at : (cycle : ℕ) → input_seen job (input_at job cycle) ≡ inputs_at job cycle
  seen_at cycle = λ i. record { ext = fun_ext (stalls_alike cycle) i; samples = fun_ext (samples_alike cycle) i }

  seen_more : (ins : List Input) (i : Input) → inputs_seen job (ins ++ i ∷ []) ≡ inputs_seen job ins ++ input_seen job i ∷ []
  seen_more [] i = refl
  seen_more (j ∷ ins) i = ap (λ (more : List Inputs). input_seen job j ∷ more) (seen_more ins i)

  from_more : (cycle n : ℕ) → inputs_from job cycle (suc n) ≡ inputs_from job cycle n ++ inputs_at job (cycle + n) ∷ []
  from_more cycle zero = ap (λ (c : ℕ). inputs_at job c ∷ []) (let e : cycle ≡ cycle + 0 = omega arith in e)
  from_more cycle (suc n) =
      ap (λ (more : List Inputs). inputs_at job cycle ∷ more)
      (from_more (suc cycle) n ∙ ap (λ (c : ℕ). inputs_from job (suc cycle) n ++ inputs_at job c ∷ []) (let e : suc cycle + n ≡ cycle + suc n = omega arith in e))

  pub seen_to : (n : ℕ) → inputs_seen job (inputs_to job n) ≡ inputs_from job 0 n
  seen_to zero = refl
  seen_to (suc n) =
      seen_more (inputs_to job n) (input_at job n)
      ∙ ap (λ (ins : List Inputs). ins ++ input_seen job (input_at job n) ∷ []) (seen_to n)
      ∙ ap (λ (i : Inputs). inputs_from job 0 n ++ i ∷ []) (seen_at n)
      ∙ ap (λ (c : ℕ). inputs_from job 0 n ++ inputs_at job c ∷ []) (let e : n ≡ 0 + n = omega arith in e)
      ∙ sym (from_more 0 n)

pub quiet_to : (job : Job) (n : ℕ) → AreQuiet (inputs_to job n)
quiet_to job zero = λ i d h. absurd (omega (arith, h))
quiet_to job (suc n) = All-push (λ (i : Input). i.reset ≡ false) (inputs_to job n) (input_at job n) (quiet_to job n) refl
