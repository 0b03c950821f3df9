use Rattle.std.proofs.Common.{◌≡◌, ◌∙◌, ℕ, ◌+◌, ◌<◌, ◌∷◌, get_or, length, length-set, set, sym, subst, arith}
use Rattle.kp_sched.specs.Rows.{row_seen}
use Rattle.kp_stalls.{specs.declared.fate.Fate.TheVariants.Open, specs.Cycles.fate_in, proofs.Fates.below_set}
use Rattle.kp_stalls.proofs.fate.fates_before.Goals as goal

pub loop-k-preserved : goal.loop-k-preserved
loop-k-preserved c =
    let kept = c.loop-k.invariant in
    let n = c.args.n in
    let k = c.loop-k.k in
    let low : k < n = c.loop-k-test.true in
    let few = c.requires in
    let many = kept.length in
    let within : k < length c.loop-k.fates = omega (arith, low, few, many) in
    record {
      length = length-set _ _ _ ∙ kept.length;
      fates = λ rows all.
          subst (λ p. (j : ℕ) → j < k + 1 → get_or (set c.loop-k.fates p c.fate_of.result) j Open ≡ fate_in n (row_seen n c.args.row ∷ rows) j) (sym c.from.ensures)
          (below_set c.loop-k.fates k c.fate_of.result (fate_in n (row_seen n c.args.row ∷ rows)) within (c.fate_of.ensures rows all) (kept.fates rows all));
    }
