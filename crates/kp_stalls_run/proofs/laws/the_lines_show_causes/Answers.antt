use Rattle.std.proofs.Common.{◌≡◌, ◌∙◌, ℕ, ◌+◌, ◌<◌, Some, length, get_or, slice_index_or, ap, sym, subst, arith}
use Rattle.std.proofs.lemmas.{Bool.eqb-false, List.Elements.All-map}
use Rattle.kp_bits.specs.Word.{Word}
use Rattle.kp_pipeline.specs.{Pipeline.Inputs, RightPath.IsRightFrom, RightPath.first_moment, RightPath.held, Rows.Row, Rows.row}
use Rattle.kp_diagram.specs.Claims.{stalls_of}
use Rattle.kp_stage.specs.Start.{start_of}
use Rattle.kp_machine.specs.Machine.{inputs_at, inputs_from, machine_of, sequential, start_hints, state_of}
use Rattle.kp_stalls.specs.{declared.cause.Cause.Cause, declared.cause.Line.Line, Claims.IsCause, Claims.read_site, Claims.run_rows}
use Rattle.kp_stalls.specs.Occupants.{occupants_of, report, value_before}
use Rattle.kp_sites.specs.Sites.{sited}
use Rattle.kp_stalls_run.specs.{Guessed.guessed_word, Claims.IsTrueOf, Claims.moment_in, Runs.given_in, Runs.line_with, Runs.run_lines, Runs.settled}
use Rattle.kp_stalls_run.proofs.Naming.{named, value_named}
use Rattle.kp_stalls_run.proofs.Reporting.{IsReportedIn, all_reported, input_at, many_inputs, row_at}
use Rattle.kp_stalls_run.proofs.Values.{filled, held_number, same_stages, state_of_moment, value_kept}
use Rattle.kp_stalls_run.proofs.laws.the_lines_show_causes.Goals as goal

pub returns : goal.returns
returns c = λ n. All-map (IsTrueOf c.args.job.now.design.job n) (line_with c.args.job.now.design.job) (run_lines n c.args.job.now.design.job) (λ k x b.
    let job = c.args.job.now.design.job in
    let sound = c.job-kept.ensures.sound in
    let m = machine_of job in
    let s = state_of job (start_of job) in
    let hints = start_hints job in
    let ins = inputs_from job 0 n in
    let given = given_in n job in
    let l : Line = slice_index_or (run_lines n job) k x in
    let p : IsReportedIn m (sited job) (same_stages job) (report job given) 0 (first_moment s hints) ins l =
    all_reported m (sited job) (same_stages job) (report job given) (stalls_of ins) (settled job given) ins (first_moment s hints) 0 k x b in
    let cycle : l.cycle ≡ p.d = (let e = p.cycle in omega (arith, e)) in
    let short : p.d < n = (let a = p.within in let many = many_inputs job 0 n in omega (arith, a, many)) in
    let from : 0 + p.d ≡ l.cycle = omega (arith, cycle) in
    let input : p.i ≡ inputs_at job l.cycle = p.input ∙ input_at job 0 n p.d p.i short ∙ ap (inputs_at job) from in
    let r : Row = row m (moment_in n job p.d).state p.i in
    let is_row : r ≡ get_or (run_rows job hints ins) p.d r = sym (row_at m ins (first_moment s hints) p.d p.i r p.within p.input) in
    let there : held (moment_in n job l.cycle) l.stage ≡ Some l.number = subst (λ (T : ℕ). held (moment_in n job T) l.stage ≡ Some l.number) (sym cycle) p.recorded.there in
    record {
      cycle = omega (arith, cycle, short);
      there = there;
      cause = λ w is right.
          let right_there = subst (λ (T : ℕ). IsRightFrom m s given (moment_in n job T) p.i l.stage) cycle
          (subst (λ (i : Inputs). IsRightFrom m s given (moment_in n job l.cycle) i l.stage) (sym input) right) in
          let recorded = p.recorded.cause ∙ ap (λ (q : Cause). Some q) (value_kept job l.cycle l.stage l.cause w is) in
          let found = c.each_reported_wait_is_a_cause.ensures job hints ins p.d p.i r p.recorded.stages l.stage w sound.names sound.stages c.a_design_is_accepted.ensures
          p.within p.input is_row p.recorded.shows right_there p.recorded.below recorded in
          subst (λ (i : Inputs). IsCause job given (moment_in n job l.cycle) i l.stage w) input
          (subst (λ (T : ℕ). IsCause job given (moment_in n job T) p.i l.stage w) (sym cycle) found);
      guess = λ w g is names.
          let f = filled job l.cycle l.stage l.cause w g is names in
          let count : length p.recorded.stages ≡ m.stages = p.recorded.shows.count in
          let below = p.recorded.below in
          let number = p.recorded.shows.number l.stage below ∙ held_number ((moment_in n job p.d).state.stage l.stage).full ((moment_in n job p.d).count l.stage) l.number p.recorded.there in
          let known = named (sited job) (occupants_of (report job given) p.recorded.stages) l.stage f.wrong f.named (p.recorded.cause ∙ ap (λ (q : Cause). Some q) f.is) f.names in
          let value = value_named job given p.recorded.stages l.stage l.number f.named (omega (arith, count, below)) number known in
          record {
            guessed = f.guessed;
            recorded = f.recorded;
            held =
                (λ j. guessed_word job (read_site job (f.read j)).target (((state_of_moment job n l.cycle (omega (arith, cycle, short))) j).stage l.stage).pending)
                ∙ f.held;
            value = f.value ∙ value ∙ ap (λ (i : ℕ). value_before job (sequential job given l.number) (read_site job i)) (sym f.read);
            wrong = λ e. eqb-false f.guessed.value f.named.value.value f.differs (e ∙ ap (λ (u : Word). u.value) f.value);
          };
    })
