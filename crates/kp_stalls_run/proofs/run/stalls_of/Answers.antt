use Rattle.std.proofs.Common.{◌≡◌, ◌∙◌, ◌++◌, ◌<◌, ℕ, List, ap, arith, drop, length, map, subst, sym, take}
use Rattle.std.{proofs.Math.Seq.take-append_seam, specs.List.All}
use Rattle.kp_diagram_run.specs.Figures.{IsRunOf}
use Rattle.kp_stalls_run.specs.Runs.{line_with, run_lines}
use Rattle.kp_stalls_run.proofs.{Jobs.job_lines, Jobs.run_close, Values.lines_below}
use Rattle.kp_stalls.specs.declared.cause.Line.{Line}
use Rattle.kp_stalls_run.proofs.run.stalls_of.Goals as goal

pub lines_of-lines-requires-clause-close : goal.lines_of-lines-requires-clause-close
lines_of-lines-requires-clause-close c =
    let run = c.in_ok-run.run' in
    rw c.as_slice.ensures.value (run_close c.args.job.now.design.job c.args.count run.rows.items run.words.items c.a_design_is_accepted.ensures c.in_ok-run.ensures)

-- The lines are those of the run, before their values are added.
pub add_values-requires : goal.add_values-requires
add_values-requires c =
    let job = c.args.job.now.design.job in
    let run : IsRunOf job c.args.count c.as_slice.result.now c.as_slice-2.result.now = rw (c.as_slice.ensures.value, c.as_slice-2.ensures.value) c.in_ok-run.ensures in
    let lines = c.in_ok-lines.ensures ∙ job_lines job c.args.count c.as_slice.result.now c.as_slice-2.result.now (c.a_job_gives_its_own_inputs.ensures.seen c.args.count) run in
    subst (λ (ls : List Line). All (λ (l : Line). l.stage < job.stages.value) ls) (sym (c.as_mut_slice.ensures.value ∙ lines)) (lines_below job c.args.count)

pub returns : goal.returns
returns c =
    let job = c.args.job.now.design.job in
    let run : IsRunOf job c.args.count c.as_slice.result.now c.as_slice-2.result.now = rw (c.as_slice.ensures.value, c.as_slice-2.ensures.value) c.in_ok-run.ensures in
    let old = c.in_ok-lines.lines in
    let lines : old.items ≡ run_lines c.args.count job =
    c.in_ok-lines.ensures ∙ job_lines job c.args.count c.as_slice.result.now c.as_slice-2.result.now (c.a_job_gives_its_own_inputs.ensures.seen c.args.count) run in
    let new = c.add_values.new.lines in
    let many : length new ≡ old.len = omega (arith, c.add_values.auto.lines, c.as_mut_slice.ensures.len) in
    ap (λ (k : ℕ). take k (new ++ drop (length new) old.items)) (sym many)
    ∙ take-append_seam new (drop (length new) old.items)
    ∙ c.in_ok-add_values.ensures
    ∙ ap (λ (ls : List Line). map (line_with job) ls) (c.as_mut_slice.ensures.value ∙ lines)
