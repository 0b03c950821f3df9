-- The inputs of the first cycles, from lists of stall words and of samples.
use Rattle.std.proofs.Common.{◌≡◌, ◌∙◌, ℕ, zero, suc, ◌+◌, ◌*◌, ◌<◌, ◌≤◌, false, None, List, [], ◌∷◌, ◌++◌, length, length-append, get_or, take, drop, refl, ap, sym, subst, arith, ⊎_elim}
use Rattle.std.proofs.{Math.Nat.mul-le-mul_right, lemmas.Bool.cases_lt}
use Rattle.std.proofs.lemmas.List.{take_all, take-append-le, drop-append-le, length-drop, get_or_append_left, get_or-append-add}
use Rattle.kp_base.specs.First.{first}
use Rattle.kp_bits.specs.{Word.Word, Operators.no_word}
use Rattle.kp_ast.specs.declared.tree.Job.{Job}
use Rattle.kp_stage.specs.Start.{stall_word, input}
use Rattle.kp_width.specs.Widths.{widths_of}
use Rattle.kp_image.specs.{Feeds.Fed, Feeds.row_in, Sections.sections_of, Spans.Pattern, Spans.word_in}
use Rattle.kp_net.specs.Netlist.{Net, Input}
use Rattle.kp_cycle.specs.Steps.{SamplesFit, given}
use Rattle.kp_debug.specs.{Sessions.inputs_of, Sessions.SamplesFitCycles, Inspecting.all_cycles, inner.Lists.words_to, inner.Lists.rows_to}
use Rattle.kp_run.{proofs.Given.rows_fed, proofs.Samples.fits_ports, specs.Cycles.inputs_to}
use Rattle.kp_implements.specs.Naming.{sample_ports}

pub inputs_many : (job : Job) (n : ℕ) → length (inputs_to job n) ≡ n
inputs_many job zero = refl
inputs_many job (suc n) = let e = inputs_many job n in simp length-append (omega (arith, e))

pub words_many : (word : ℕ → ℕ) (n : ℕ) → length (words_to word n) ≡ n
words_many word zero = refl
words_many word (suc n) = let e = words_many word n in simp length-append (omega (arith, e))

-- one cycle more, after all others
one_more : (ports : ℕ) (es : List ℕ) (ss : List Word) (e : ℕ) (row : List Word) → length ss ≡ length es * ports → length row ≡ ports
    → inputs_of ports (es ++ e ∷ []) (ss ++ row) ≡ inputs_of ports es ss ++ given e false row ∷ []
one_more ports [] [] e row many one = ap (λ (r : List Word). given e false r ∷ []) (take_all ports row (omega (arith, one)))
one_more ports [] (s ∷ ss) e row many one = absurd (omega (arith, many))
one_more ports (x ∷ es) ss e row many one =
    let step : suc (length es) * ports ≡ length es * ports + ports = omega arith in
    let room : ports ≤ length ss = omega (arith, many, step) in
    let left : length (drop ports ss) ≡ length es * ports = omega (arith, length-drop ports ss, many, step) in
    ap (λ (r : List Word). given x false r ∷ inputs_of ports (es ++ e ∷ []) (drop ports (ss ++ row))) (take-append-le ports ss row room)
    ∙ ap (λ (r : List Word). given x false (take ports ss) ∷ inputs_of ports (es ++ e ∷ []) r) (drop-append-le ports ss row room)
    ∙ ap (λ (more : List Input). given x false (take ports ss) ∷ more) (one_more ports es (drop ports ss) e row left one)

module _ (row : ℕ → List Word) (ports : ℕ) (each : (k : ℕ) → length (row k) ≡ ports) where
  pub rows_many : (n : ℕ) → length (rows_to row n) ≡ n * ports
  rows_many zero = omega arith
  rows_many (suc n) =
      let step : suc n * ports ≡ n * ports + ports = omega arith in
      length-append (rows_to row n) (row n) ∙ omega (arith, rows_many n, each n, step)

  -- the word of a sample in a cycle
  pub word_at : (n cycle s : ℕ) → cycle < n → s < ports → get_or (rows_to row n) (cycle * ports + s) no_word ≡ get_or (row cycle) s no_word
  word_at zero cycle s h l = absurd (omega (arith, h))
  word_at (suc n) cycle s h l = go (word_at n cycle s)
    where
      go : (cycle < n → s < ports → get_or (rows_to row n) (cycle * ports + s) no_word ≡ get_or (row cycle) s no_word)
          → get_or (rows_to row n ++ row n) (cycle * ports + s) no_word ≡ get_or (row cycle) s no_word
      go earlier = ⊎_elim
          (λ (z : cycle < n).
          let up : (cycle + 1) * ports ≤ n * ports = mul-le-mul_right ports (let u : cycle + 1 ≤ n = omega (arith, z) in u) in
          let step : (cycle + 1) * ports ≡ cycle * ports + ports = omega arith in
          get_or_append_left (rows_to row n) (row n) no_word (cycle * ports + s) (omega (arith, rows_many n, up, step, l)) ∙ earlier z l)
          (λ (z : n ≤ cycle).
          let same : n ≡ cycle = omega (arith, h, z) in
          let at : cycle * ports + s ≡ length (rows_to row n) + s = ap (λ (k : ℕ). k * ports + s) (sym same) ∙ ap (λ (k : ℕ). k + s) (sym (rows_many n)) in
          ap (λ (k : ℕ). get_or (rows_to row n ++ row n) k no_word) at
          ∙ get_or-append-add (rows_to row n) (row n) s no_word
          ∙ ap (λ (k : ℕ). get_or (row k) s no_word) same)
          (cases_lt cycle n)

  module _ (job : Job) (word : ℕ → ℕ) (words_are : word ≡ stall_word job) (rows_are : row ≡ input job) where
    -- they are the inputs of the job
    pub inputs_are : (n : ℕ) → inputs_of ports (words_to word n) (rows_to row n) ≡ inputs_to job n
    inputs_are zero = refl
    inputs_are (suc n) =
        one_more ports (words_to word n) (rows_to row n) (word n) (row n) (rows_many n ∙ ap (λ (k : ℕ). k * ports) (sym (words_many word n))) (each n)
        ∙ (λ i. inputs_are n i ++ given (words_are i n) false (rows_are i n) ∷ [])

-- and the samples fit the ports
pub rows_fit : (net : Net) (row : ℕ → List Word) (n : ℕ) → ((k : ℕ) → SamplesFit net (row k)) → SamplesFitCycles net n (rows_to row n)
rows_fit net row n fits = record {
  count = rows_many row (length net.parts.samples) (λ k. (fits k).count) n;
  widths = λ cycle s h l.
      ap (λ (w : Word). w.width) (word_at row (length net.parts.samples) (λ k. (fits k).count) n cycle s h l)
      ∙ (fits cycle).widths s (omega (arith, l, (fits cycle).count));
}

-- the inputs that the sections of an accepted job specify for a netlist with its sample ports
module _ (job : Job) (net : Net) (feeds : List Fed) (stalls : Pattern) (ports : net.parts.samples ≡ sample_ports job) (names : first (widths_of job).asked ≡ None)
    (unbroken : first (sections_of job).asked ≡ None) (fed : row_in feeds ≡ input job) (stalled : word_in stalls ≡ stall_word job) (count : ℕ) where
  each_fits : (k : ℕ) → SamplesFit net (row_in feeds k)
  each_fits k = fits_ports job net (row_in feeds k) ports (rows_fed job feeds names unbroken fed k)

  pub samples_fit : (n : ℕ) (samples : List Word) → n ≡ count → samples ≡ rows_to (row_in feeds) count → SamplesFitCycles net n samples
  samples_fit n samples many is =
      subst (λ (m : ℕ). SamplesFitCycles net m samples) (sym many)
      (subst (SamplesFitCycles net count) (sym is) (rows_fit net (row_in feeds) count each_fits))

  pub given_are : (exts : List ℕ) (samples : List Word) → exts ≡ words_to (word_in stalls) count → samples ≡ rows_to (row_in feeds) count
      → inputs_of (length net.parts.samples) exts samples ≡ inputs_to job count
  given_are exts samples words rows =
      (λ i. inputs_of (length net.parts.samples) (words i) (rows i))
      ∙ inputs_are (row_in feeds) (length net.parts.samples) (λ k. (each_fits k).count) job (word_in stalls) stalled fed count

-- they are few enough
pub few_cycles : all_cycles ≤ 100000
unfolding all_cycles
few_cycles = omega arith
