-- THE LINES OF A RUN, from its rows.
use Rattle.std.specs.Prelude.{ℕ, zero, suc, List, [], ◌∷◌, ◌++◌, Bool, cond, leb, nat_lt}
use Rattle.kp_pipeline.specs.Rows.{Row, bit, count_after}
use Rattle.kp_sites.specs.Sites.{Sited}
use Rattle.kp_stalls.specs.declared.{cause.Line.Line, occupants.Stage.Stage, fate.Fate.Fate}
use Rattle.kp_stalls.specs.declared.fate.Fate.TheVariants.{Squashed, Retires, Open}
use Rattle.kp_stalls.specs.{Occupants.Report, Occupants.occupants_of, Causes.lines_down}

-- The stages below `back` are squashed.
abbrev pub is_squashed : Row → ℕ → Bool
is_squashed r k = nat_lt k r.back

-- What becomes of the instruction in stage k of n in these rows: it is squashed, or stays where the stage doesn't update, and else goes to the next stage;
-- from the last stage it retires.
abbrev pub fate_in : ℕ → List Row → ℕ → Fate
fate_in n [] k = Open
fate_in n (r ∷ rows) k =
    cond (is_squashed r k) Squashed
    (cond (bit r.ue k) (cond (leb n (suc k)) Retires (fate_in n rows (suc k))) (fate_in n rows k))

-- What stage k shows in a cycle with these rows from there on.
abbrev pub stage_of : ℕ → (ℕ → Bool) → (ℕ → ℕ → Bool) → (ℕ → ℕ) → Row → List Row → ℕ → Stage
stage_of n ext settled count r rows k = record {
  full = bit r.full k;
  moves = bit r.ue k;
  squashed = is_squashed r k;
  held = ext k;
  fate = fate_in n (r ∷ rows) k;
  settled = settled k (count k);
  number = count k;
}

abbrev pub stages_from : (ℕ → Stage) → ℕ → ℕ → List Stage
stages_from f zero k = []
stages_from f (suc d) k = f k ∷ stages_from f d (suc k)

-- The lines from cycle T on: `ext T k` says whether stage k is stalled from outside, `settled T k i` whether the samples of stage k have the values that
-- instruction i takes, `reports i` is what the sequential machine reports of instruction i, and `count` has the numbers in the stages.
abbrev pub lines_from : Sited → (ℕ → ℕ → Bool) → ((cycle stage instruction : ℕ) → Bool) → (ℕ → Report) → ℕ → (ℕ → ℕ) → List Row → List Line
lines_from s ext settled reports T count [] = []
lines_from s ext settled reports T count (r ∷ rows) =
    lines_down s T (occupants_of reports (stages_from (stage_of s.stages (ext T) (settled T) count r rows) s.stages 0)) s.stages
    ++ lines_from s ext settled reports (suc T) (count_after s.stages r count) rows
