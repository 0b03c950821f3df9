-- The sections of an accepted job specify input vectors that fit its samples.
use Rattle.std.proofs.Common.{◌≡◌, ◌∙◌, ℕ, ◌<◌, ◌^◌, List, length, None, ap, sym, subst, arith}
use Rattle.std.proofs.lemmas.List.{length-map}
use Rattle.kp_base.specs.First.{first}
use Rattle.kp_bits.specs.Word.{Word}
use Rattle.kp_ast.specs.declared.tree.Job.{Job}
use Rattle.kp_width.specs.Widths.{widths_of}
use Rattle.kp_stage.specs.Start.{input, AreSamples}
use Rattle.kp_image.specs.{Sections.sections_of, Feeds.Fed, Feeds.row_in, Feeds.word_fed}
use Rattle.kp_image.proofs.Given.{rows_fit}
use Rattle.kp_machine.specs.Slots.{sample_stages}
use Rattle.kp_run.proofs.Samples.{many, few}

pub as_feeds : (feeds : List Fed) (cycle : ℕ) → length (row_in feeds cycle) ≡ length feeds
as_feeds feeds cycle = length-map feeds (λ (f : Fed). word_fed f cycle)

module _ (job : Job) (feeds : List Fed) (widths : first (widths_of job).asked ≡ None) (sections : first (sections_of job).asked ≡ None) (is : row_in feeds ≡ input job) where
  pub row_is : (cycle : ℕ) → row_in feeds cycle ≡ input job cycle
  row_is cycle = ap (λ (f : ℕ → List Word). f cycle) is

  pub rows_given : (cycle : ℕ) → AreSamples job.decls (input job cycle)
  rows_given cycle = rows_fit job widths sections cycle

  pub rows_fed : (cycle : ℕ) → AreSamples job.decls (row_in feeds cycle)
  rows_fed cycle = subst (AreSamples job.decls) (sym (row_is cycle)) (rows_given cycle)

  pub feeds_many : length feeds ≡ length (sample_stages job.decls)
  feeds_many = sym (as_feeds feeds 0) ∙ many job.decls (row_in feeds 0) (rows_fed 0)

  pub feeds_few : length job.decls < 2 ^ 32 → length feeds < 2 ^ 32
  feeds_few h = omega (arith, h, feeds_many, few job.decls)
