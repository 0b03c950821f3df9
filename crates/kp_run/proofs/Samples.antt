-- Input vectors of the samples, entry by entry.
use Rattle.std.proofs.Common.{◌≡◌, ◌∙◌, ℕ, zero, suc, ◌<◌, ◌≤◌, ◌+◌, List, [], ◌∷◌, ◌++◌, length, get_or, refl, ap, sym, arith, Option, Some}
use Rattle.std.proofs.lemmas.{List.get_or-map, List.length-map, List.take_all, List.take_more, List.take_more_set, Option.unwrap_or-slice_get}
use Rattle.std.specs.Prelude.{take, set, unwrap_or, slice_get}
use Rattle.kp_bits.specs.{Word.Word, Word.IsWord, Operators.no_word}
use Rattle.kp_ast.specs.declared.tree.{Decl.Decl, Job.Job}
use Rattle.kp_ast.specs.declared.tree.Decl.TheVariants as decls
use Rattle.kp_stage.specs.Start.{AreSamples}
use Rattle.kp_machine.specs.{Machine.values_in, Slots.samples_of, Slots.sample_stages, Words.no_slot}
use Rattle.kp_net.specs.{Netlist.Net, Parts.no_port, declared.netlist.Port.Port}
use Rattle.kp_cycle.specs.Steps.{SamplesFit}
use Rattle.kp_implements.specs.Naming.{sample_port, sample_ports}

pub many : (ds : List Decl) (row : List Word) → AreSamples ds row → length row ≡ length (sample_stages ds)
many [] [] fits = refl
many [] (v ∷ row) fits = cc
many (decls.Sample n width stage ∷ ds) [] fits = absurd fits
many (decls.Sample n width stage ∷ ds) (v ∷ row) fits = ap suc (many ds row fits.2)
many (_ ∷ ds) row fits = many ds row fits

pub as_many : (ds : List Decl) → length (samples_of ds) ≡ length (sample_stages ds)
as_many [] = refl
as_many (decls.Sample n width stage ∷ ds) = ap suc (as_many ds)
as_many (_ ∷ ds) = as_many ds

pub few : (ds : List Decl) → length (sample_stages ds) ≤ length ds
few [] = omega arith
few (decls.Sample n width stage ∷ ds) = let h = few ds in omega (arith, h)
few (_ ∷ ds) = let h = few ds in omega (arith, h)

-- the width of each entry, and that the entry exists
pub width_at : (ds : List Decl) (row : List Word) → AreSamples ds row → (x : ℕ) → x < length row → (get_or row x no_word).width ≡ (get_or (samples_of ds) x no_slot).width
width_at [] [] fits x h = absurd (omega (arith, h))
width_at [] (v ∷ row) fits x h = cc
width_at (decls.Sample n width stage ∷ ds) [] fits x h = absurd fits
width_at (decls.Sample n width stage ∷ ds) (v ∷ row) fits zero h = fits.0
width_at (decls.Sample n width stage ∷ ds) (v ∷ row) fits (suc x) h = width_at ds row fits.2 x (omega (arith, h))
width_at (_ ∷ ds) row fits x h = width_at ds row fits x h

pub word_at : (ds : List Decl) (row : List Word) → AreSamples ds row → (x : ℕ) → x < length row → IsWord (get_or row x no_word)
word_at [] [] fits x h = absurd (omega (arith, h))
word_at [] (v ∷ row) fits x h = cc
word_at (decls.Sample n width stage ∷ ds) [] fits x h = absurd fits
word_at (decls.Sample n width stage ∷ ds) (v ∷ row) fits zero h = fits.1
word_at (decls.Sample n width stage ∷ ds) (v ∷ row) fits (suc x) h = word_at ds row fits.2 x (omega (arith, h))
word_at (_ ∷ ds) row fits x h = word_at ds row fits x h

-- a word of the width of sample x
abbrev pub IsOf : List Decl → ℕ → Word → Type 0
IsOf ds x w = (w.width ≡ (get_or (samples_of ds) x no_slot).width) × IsWord w

pub fit_when : (ds : List Decl) (row : List Word) → length row ≡ length (sample_stages ds) → ((x : ℕ) → x < length row → IsOf ds x (get_or row x no_word)) → AreSamples ds row
fit_when [] [] e all = refl
fit_when [] (v ∷ row) e all = absurd (omega (arith, e))
fit_when (decls.Sample n width stage ∷ ds) [] e all = absurd (omega (arith, e))
fit_when (decls.Sample n width stage ∷ ds) (v ∷ row) e all =
    let here = all 0 (omega arith) in
    (here.0, here.1, fit_when ds row (omega (arith, e)) (λ x h. all (suc x) (omega (arith, h))))
fit_when (_ ∷ ds) row e all = fit_when ds row e all

pub value_at : (row : List Word) (x : ℕ) → x < length row → values_in row x ≡ (get_or row x no_word).value
value_at [] x h = absurd (omega (arith, h))
value_at (v ∷ row) zero h = refl
value_at (v ∷ row) (suc x) h = value_at row x (omega (arith, h))

pub value_past : (row : List Word) (x : ℕ) → length row ≤ x → values_in row x ≡ 0
value_past [] x h = refl
value_past (v ∷ row) zero h = absurd (omega (arith, h))
value_past (v ∷ row) (suc x) h = value_past row x (omega (arith, h))

-- an input vector fits the ports of a netlist of the job
pub fits_ports : (job : Job) (net : Net) (row : List Word) → net.parts.samples ≡ sample_ports job → AreSamples job.decls row → SamplesFit net row
fits_ports job net row ports fits =
    let ss = samples_of job.decls in
    let count : length row ≡ length ss = many job.decls row fits ∙ sym (as_many job.decls) in
    record {
      count = count ∙ sym (length-map ss sample_port) ∙ ap (λ (ps : List Port). length ps) (sym ports);
      widths = λ x h.
          let there : x < length ss = omega (arith, h, count) in
          width_at job.decls row fits x h
          ∙ sym (ap (λ (p : Port). p.width) (get_or-map sample_port ss x no_slot no_port there))
          ∙ ap (λ (ps : List Port). (get_or ps x no_port).width) (sym ports);
    }

-- one entry more of an input vector is written
pub set_next : (row room : List Word) (x : ℕ) (w : Word) → x < length room → x < length row → take x room ≡ take x row → w ≡ get_or row x no_word → take (x + 1) (set room x w) ≡ take (x + 1) row
set_next row room x w h there same is =
    take_more_set room x w h
    ∙ ap (λ (l : List Word). l ++ w ∷ []) same
    ∙ ap (λ (v : Word). take x row ++ v ∷ []) is
    ∙ sym (take_more row x no_word there)

pub is_got : (row : List Word) (x : ℕ) (w : Word) → slice_get row x ≡ Some w → w ≡ get_or row x no_word
is_got row x w e = ap (λ (o : Option Word). unwrap_or o no_word) (sym e) ∙ unwrap_or-slice_get row x no_word
