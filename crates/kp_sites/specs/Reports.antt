-- WHAT WAS REPORTED of an instruction, for the stages that read what it writes.
use Rattle.std.specs.Prelude.{◌≡◌, ℕ, ◌+◌, List, [], ◌∷◌, Option, Some, None, Bool, false, not, ◌&&◌, ◌||◌, ◌==◌, nat_le, nat_lt, length, get_or}
use Rattle.kp_ast.specs.declared.tree.Job.{Job}
use Rattle.kp_stage.specs.Counts.{summary_of}
use Rattle.kp_seq.specs.Recorded.{Recorded}
use Rattle.kp_sites.specs.declared.sites.{Site.Site, Writer.Writer}

abbrev pub nothing_recorded : Recorded
nothing_recorded = record { reads = []; writes = []; settings = [] }

-- a report of the size that the reports of a job have
pub record HasRoom (job : Job) (recorded : Recorded) : Type 0 where
  pub reads : length recorded.reads ≡ (summary_of job).reads
  pub writes : length recorded.writes ≡ (summary_of job).results
  pub settings : length recorded.settings ≡ (summary_of job).results

-- an instruction that wrote at this address
abbrev pub wrote_at : Option ℕ → ℕ → Bool
wrote_at None a = false
wrote_at (Some b) a = b == a

-- Stage k may write the target of w at address a: it isn't known there whether and where its instruction writes, or it writes there.
abbrev pub may_write : Writer → Recorded → ℕ → ℕ → Bool
may_write w recorded k a = not (nat_le w.known k) || wrote_at (get_or recorded.writes w.result None) a

-- the stage that sets the result
abbrev pub setting : Writer → Recorded → ℕ
setting w recorded = get_or recorded.settings w.result 0

-- The result is ready in stage k: the intent is known there, and the result was set before, or is set in it and the stage moves its instruction on.
abbrev pub is_ready : Writer → Recorded → ℕ → Bool → Bool
is_ready w recorded k moves = nat_le w.known k && (nat_lt (setting w recorded) k || (setting w recorded == k && moves))

-- Of the reads that are reported, one makes stage k wait if it is a read of this stage without a guess, its condition holds, and it isn't met.
abbrev pub unmet_by : (ℕ → ℕ → Bool) → ℕ → Site → Option ℕ → Bool
unmet_by met k site None = false
unmet_by met k site (Some a) = (site.stage == k && not site.guessed) && not (met site.target a)

-- some of these reads, from the one of number i on, isn't met
abbrev pub some_unmet_from : (Site → Option ℕ → Bool) → List (Option ℕ) → ℕ → List Site → Bool
some_unmet_from unmet reads i [] = false
some_unmet_from unmet reads i (site ∷ sites) = unmet site (get_or reads i None) || some_unmet_from unmet reads (i + 1) sites
