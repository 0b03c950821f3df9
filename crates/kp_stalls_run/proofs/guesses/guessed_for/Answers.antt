use Rattle.std.proofs.Common.{◌∙◌, ◌<◌, ◌≤◌, length, get_or, ap, sym, subst}
use Rattle.kp_ast.specs.declared.tree.Job.{Job}
use Rattle.kp_net.specs.Netlist.{cells_of, stalled}
use Rattle.kp_pipeline.specs.Trimming.{trimmed}
use Rattle.kp_sites.specs.Sites.{Sited, no_site}
use Rattle.kp_stalls_run.specs.{Guessed.guessed_word, Runs.state_at}
use Rattle.kp_synth_registers.specs.Holding.{Holds, inputs_of}
use Rattle.kp_design.proofs.Limits.{few}
use Rattle.kp_design.specs.{Numbers.guesses_of, Spans.is_alive}
use Rattle.kp_synth_registers.specs.Keys.{keys_of}
use Rattle.kp_stalls_run.proofs.guesses.guessed_for.Goals as goal

pub guessed-requires-clause-keys : goal.guessed-requires-clause-keys
guessed-requires-clause-keys c = c.requires.tables.keys ∙ ap keys_of (sym c.requires.tables.layout)

pub guessed-requires-clause-registers : goal.guessed-requires-clause-registers
guessed-requires-clause-registers c = c.requires.registers ∙ ap (λ (j : Job). length (keys_of j)) (sym c.requires.tables.layout)

pub guessed-requires-clause-few : goal.guessed-requires-clause-few
guessed-requires-clause-few c =
    subst (λ (j : Job). length (guesses_of j) ≤ 8) (sym c.requires.tables.layout) (few c.args.job.now.design.job c.job-kept.ensures.sound.stages).guesses

pub guessed-requires-clause-stage : goal.guessed-requires-clause-stage
guessed-requires-clause-stage c = subst (λ (j : Job). c.args.stage < j.stages.value) (sym c.requires.tables.layout) c.requires.stage

pub returns : goal.returns
returns c =
    let job = c.args.job.now.design.job in
    let st = trimmed (is_alive job) (state_at job c.args._cycle) in
    let i = inputs_of job (stalled 0) in
    let register = c.target_of-register.ensures ∙ ap (λ (s : Sited). (get_or s.reads c.args.read no_site).target) c.requires.tables.sites in
    c.guessed.ensures st i (subst (λ (j : Job). Holds j (cells_of (stalled 0) c.args.sim.now.state) st i) (sym c.requires.tables.layout) c.requires.holds)
    ∙ (λ j. guessed_word (c.requires.tables.layout j) (register j) ((state_at job c.args._cycle).stage c.args.stage).pending)
