use Rattle.std.proofs.Common.{◌≡◌, ℕ, ◌<◌, ◌≤◌, length, get_or, map}
use Rattle.kp_stalls_run.specs.{Runs.line_with, inner.Replays.no_line, inner.Replays.run_at}
use Rattle.kp_stalls_run.proofs.guesses.fill.Given as goal

abbrev pub invariant-loop-i : goal.invariant-loop-i
invariant-loop-i l = record {
  at : l.sim ≡ run_at l.job.design.job l.fn.sim.net l.cycle;
  room : length l.room ≡ length l.job.sections.inputs;
  count : length l.lines ≡ length l.fn.lines;
  done : (k : ℕ) → k < l.i → get_or l.lines k no_line ≡ get_or (map (line_with l.job.design.job) l.fn.lines) k no_line;
  rest : (k : ℕ) → l.i ≤ k → get_or l.lines k no_line ≡ get_or l.fn.lines k no_line;
}
