use Rattle.std.proofs.Common.{◌≡◌, ℕ, zero, suc, ◌+◌, ◌-◌, ◌<◌, ◌≤◌, Bool, List, [], ◌∷◌, Option, Some, None, is_some, refl, sym, ap, ap₂, ◌∙◌, arith}
use Rattle.std.proofs.lemmas.Bool.{cond-false, and_left}
use Rattle.kp_pipeline.specs.Timeline.{HasNoGuessOrSample, ReadyAbove, blocked, moves_on, next_hold, no_samples, ready_above, ready_below, ready_from, setting_stage, some_unmet, start_hold, timeline_rows, waits_given}
use Rattle.kp_pipeline.specs.{Machine.Machine, Machine.Tree, Sequential.seq}
use Rattle.kp_pipeline.specs.{Pipeline.Inputs, Pipeline.PipelineState, Pipeline.cycle, Pipeline.pipeline_start, Pipeline.ue, Accepted.Accepted}
use Rattle.kp_pipeline.specs.Rows.{Row, bit, one_if, pipe, row, rows_from, taken_from}
use Rattle.kp_pipeline.specs.SpeculativeTimeline.{blocked as path_blocked, hints_after, moves_on as path_moves_on, next_hold as path_next_hold, ready_above as path_ready_above, ready_below as path_ready_below, ready_from as path_ready_from, setting_stage as path_setting_stage, timeline_rows as path_rows, waits_given as path_waits_given}
use Rattle.kp_pipeline.{specs.RightPath.NoWrongGuess, proofs.Lists.bit-past, proofs.Lists.bits-same, proofs.Legality.inv-start, proofs.Reading.no_guess-right}
use Rattle.kp_pipeline.proofs.{Agreement.IsRight, Pending.start-near, Runs.rows-along, Runs.start-tie}

-- WITHOUT GUESSES AND SAMPLES no wrong guess is made and no sample is taken, and the timeline of any machine is the one that
-- mentions neither.
none-wrong : (m : Machine) (plain : HasNoGuessOrSample m) (s given : ℕ → ℕ → ℕ) (ins : List Inputs) (hints : ℕ → ℕ) (hold : ℕ → Option ℕ)
    → NoWrongGuess m s given hints hold ins
none-wrong m plain s given [] hints hold = tt
none-wrong m plain s given (i ∷ is) hints hold = (
  (λ k n b e. no_guess-right _ _ _ _ (plain.0 k i.samples _ b)),
  none-wrong m plain s given is (hints_after m s given hold i hints) (path_next_hold m s given hold i),
)

none-taken : (m : Machine) (plain : HasNoGuessOrSample m) (ins : List Inputs) (st : PipelineState) (updates : ℕ → ℕ) (n x : ℕ)
    → taken_from m updates ins (rows_from m st ins) n x ≡ 0
none-taken m plain [] st updates n x = refl
none-taken m plain (i ∷ is) st updates n x =
    cond-false _ _ _ (and_left (bit (row m st i).ue (m.sample_stage x)) _ (bit-past (ue m st i) m.stages 0 (m.sample_stage x) (plain.1 x)))
    ∙ none-taken m plain is (cycle m st i) (λ k. one_if (bit (row m st i).ue k) + updates k) n x

module _ (m : Machine) (acc : Accepted m) (plain : HasNoGuessOrSample m) (s : ℕ → ℕ → ℕ) (i : Inputs) (hold other : ℕ → Option ℕ) (same : (k : ℕ) → k < m.stages → hold k ≡ other k) where
  waits-same : (o : Option ℕ) (k : ℕ) (up : ReadyAbove) → k < m.stages → path_waits_given m s no_samples i o k up ≡ waits_given m s o k up
  waits-same None k up b = refl
  waits-same (Some n) k up b =
      ap (λ (x : Tree). some_unmet up.ready (seq m s no_samples n) x) (acc.own_samples k i.samples (λ x. 0) _ b (λ x q. let a = plain.1 x in absurd (omega arith)))

  below-same : (k : ℕ) (up : ReadyAbove) → k < m.stages → path_ready_below m s no_samples hold i k up ≡ ready_below m s other i k up
  unfolding path_setting_stage setting_stage
  below-same k up b = rw (same k b, waits-same (other k) k up b) refl

  from-same : (d k : ℕ) → k + d ≤ m.stages → path_ready_from m s no_samples hold i d k ≡ ready_from m s other i d k
  unfolding path_ready_from ready_from
  from-same zero k e = refl
  from-same (suc d) k e = rw (from-same d (suc k) (omega arith)) (below-same k _ (omega arith))

  blocked-same : (k : ℕ) → k < m.stages → path_blocked m s no_samples hold i k ≡ blocked m s other i k
  unfolding path_blocked blocked path_ready_above ready_above
  blocked-same k b = rw (from-same (m.stages - suc k) (suc k) (omega arith)) (ap (λ (r : ReadyAbove). r.blocked) (below-same k _ b))

  moves-same : (k : ℕ) → k < m.stages → path_moves_on m s no_samples hold i k ≡ moves_on m s other i k
  unfolding path_moves_on moves_on
  moves-same k b = rw (same k b, blocked-same k b) refl

  hold-same : (k : ℕ) → k < m.stages → path_next_hold m s no_samples hold i k ≡ next_hold m s other i k
  unfolding path_next_hold next_hold
  hold-same zero b = rw (moves-same 0 b, same 0 b) refl
  hold-same (suc k) b = rw (moves-same k (omega arith), blocked-same (suc k) b, same k (omega arith), same (suc k) b) refl

rows-same : (m : Machine) (acc : Accepted m) (plain : HasNoGuessOrSample m) (s : ℕ → ℕ → ℕ) (ins : List Inputs) (hold other : ℕ → Option ℕ)
    → ((k : ℕ) → k < m.stages → hold k ≡ other k) → path_rows m s no_samples hold ins ≡ timeline_rows m s other ins
rows-same m acc plain s [] hold other same = refl
rows-same m acc plain s (i ∷ is) hold other same =
    ap₂ (λ (x : Row) (y : List Row). x ∷ y)
    (ap₂ (λ (x y : List Bool). record { full = x; ue = y; back = 0 }) (bits-same _ _ m.stages 0 (λ k _ b. ap (λ (o : Option ℕ). is_some o) (same k (omega arith))))
    (bits-same _ _ m.stages 0 (λ k _ b. moves-same m acc plain s i hold other same k (omega arith))))
    (rows-same m acc plain s is _ _ (hold-same m acc plain s i hold other same))

-- The law.
pub same-rows : (m : Machine) (s : ℕ → ℕ → ℕ) (hints : ℕ → ℕ) (ins : List Inputs) → Accepted m → HasNoGuessOrSample m
    → (pipe m s hints ins).rows ≡ timeline_rows m s start_hold ins
same-rows m s hints ins acc plain =
    rows-along m acc s no_samples ins (pipeline_start s hints) (λ k. 0) (λ k. 0) (inv-start m s no_samples hints)
    (λ n x _. sym (none-taken m plain ins (pipeline_start s hints) (λ k. 0) n x)) start_hold (λ k b. start-tie k) (λ k b f. start-near (λ _. IsRight (seq m s no_samples 0)) k)
    (none-wrong m plain s no_samples ins hints start_hold)
    ∙ rows-same m acc plain s ins start_hold start_hold (λ k b. refl)
