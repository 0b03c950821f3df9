use Rattle.std.proofs.Common.{◌≡◌, ◌∙◌, ℕ, suc, ◌+◌, ◌<◌, ◌≤◌, List, [], ◌∷◌, ◌++◌, get_or, length, ap, ap₂, append-nil, append_assoc, arith, refl, subst, sym}
use Rattle.std.proofs.lemmas.List.{length_push}
use Rattle.kp_base.specs.declared.row.Row as masks
use Rattle.kp_stage.specs.Start.{stall_word}
use Rattle.kp_pipeline.specs.Rows.{counts}
use Rattle.kp_sched.specs.{Monitors.HasSeen, Rows.rows_seen}
use Rattle.kp_net.specs.Netlist.{last_of, run}
use Rattle.kp_run.specs.Cycles.{HasRows, after_cycles, input_at, inputs_to}
use Rattle.kp_run.proofs.{Machines.stages_fit, Prefixes.rows_many, Steps.rows_next}
use Rattle.kp_diagram_run.{specs.inner.Words.words_to, proofs.Walking.numbered-more}
use Rattle.kp_diagram_run.proofs.window.recorded.Goals as goal

pub loop-cycle-init : goal.loop-cycle-init
loop-cycle-init c =
    let job = c.args.job.now.design.job in
    let net = c.args.sim.now.net in
    let from = c.args.from in
    let here : from ≡ from + 0 = omega arith in
    let walked = c.requires.walked in
    let none : (run net (inputs_to job from)).rows ++ [] ≡ (run net (inputs_to job from)).rows = append-nil _ in
    let start : HasRows job net (from + 0) ((run net (inputs_to job from)).rows ++ []) c.args.walk.monitor = record {
      rows = none ∙ ap (λ (m : ℕ). (run net (inputs_to job m)).rows) here;
      seen = subst (HasSeen c.args.walk.monitor) (sym none) walked.seen;
      stages = walked.stages;
    } in
    record {
      at = c.requires.at ∙ ap (after_cycles job net) here;
      room = refl;
      has = rw c.new-rows.ensures.items start;
      count = rw c.new-rows.ensures.items refl;
      words = c.new-words.ensures.items;
      numbered = rw c.new-numbers.ensures.items refl;
      numbers = λ T b. absurd (omega (arith, b));
    }

pub next_cycle-row-requires-clause-samples : goal.next_cycle-row-requires-clause-samples
next_cycle-row-requires-clause-samples c = rw c.loop-cycle.invariant.at c.requires.shows.of_job.samples

pub count-requires : goal.count-requires
count-requires c =
    let fit = stages_fit c.args.job.now.design.job c.job-kept.ensures.sound.stages in
    omega (arith, fit.0, c.loop-cycle.invariant.has.stages)

pub cycle-requires : goal.cycle-requires
cycle-requires c =
    let kept = c.loop-cycle.invariant in
    let long = ap (λ (rs : List masks.Row). length rs) kept.has.rows ∙ rows_many c.args.job.now.design.job c.args.sim.now.net (c.args.from + c.loop-cycle.cycle) in
    omega (arith, kept.has.seen.cycles, long, c.loop-cycle-test.true, c.requires.early, c.requires.few)

pub loop-cycle-preserved : goal.loop-cycle-preserved
loop-cycle-preserved c =
    let accepted = c.args.job.now in
    let job = accepted.design.job in
    let s = job.stages.value in
    let net = c.args.sim.now.net in
    let from = c.args.from in
    let n = c.loop-cycle.cycle in
    let at = from + n in
    let kept = c.loop-cycle.invariant in
    let before = (run net (inputs_to job from)).rows in
    let items = c.loop-cycle.rows.items in
    let all = before ++ items in
    let row = c.next_cycle-row.result in
    let ran = c.next_cycle-row.ensures in
    let on : at + 1 ≡ from + (n + 1) = omega arith in
    let suc_n : suc n ≡ n + 1 = omega arith in
    let pushed : c.push-in-loop-cycle-2.new.self.items ≡ items ++ row ∷ [] = c.in_ok-push-3.ensures.items in
    let more : all ++ row ∷ [] ≡ before ++ (items ++ row ∷ []) = append_assoc before items (row ∷ []) in
    let long : length all ≡ at = ap (λ (rs : List masks.Row). length rs) kept.has.rows ∙ rows_many job net at in
    let has : HasRows job net (at + 1) (all ++ row ∷ []) c.cycle.new.self =
    rows_next job net at (input_at job at) refl (last_of net (inputs_to job at)) row all c.loop-cycle.monitor c.cycle.new.self refl (ran.row net kept.at) kept.has c.cycle.ensures.stages c.cycle.ensures.seen in
    let word = c.word.ensures ∙ ap (λ (f : ℕ → ℕ). f c.from.result) accepted.stalls ∙ ap (stall_word job) c.from.ensures in
    let number = c.count.ensures.seen all kept.has.seen ∙ ap (λ (m : ℕ). counts m (rows_seen m all) (length all) 0) kept.has.stages in
    record {
      at = ran.sim net kept.at ∙ ap (after_cycles job net) on;
      room = ran.room ∙ kept.room;
      has = rw pushed (subst (λ (m : ℕ). HasRows job net m (before ++ (items ++ row ∷ [])) c.cycle.new.self) on
          (subst (λ (rs : List masks.Row). HasRows job net (at + 1) rs c.cycle.new.self) more has));
      count = ap (λ (rs : List masks.Row). length rs) pushed ∙ length_push items row ∙ ap (λ (m : ℕ). m + 1) kept.count;
      words = c.in_ok-push-2.ensures.items ∙ ap₂ (λ (ws : List ℕ) (w : ℕ). ws ++ w ∷ []) kept.words word ∙ ap (words_to (λ T. stall_word job (from + T))) suc_n;
      numbered = ap (λ (ns : List ℕ). length ns) c.in_ok-push.ensures.items ∙ length_push c.loop-cycle.numbers.items c.count.result ∙ ap (λ (m : ℕ). m + 1) kept.numbered;
      numbers = λ T b.
          ap (λ (ns : List ℕ). get_or ns T 0) c.in_ok-push.ensures.items
          ∙ numbered-more s all row c.loop-cycle.numbers.items from c.count.result (omega (arith, long, kept.numbered))
          (λ U d. kept.numbers U (omega (arith, d, kept.numbered))) number T (omega (arith, b, kept.numbered))
          ∙ ap (λ (rs : List masks.Row). counts s (rows_seen s rs) (from + T) 0) (more ∙ ap (λ (rs : List masks.Row). before ++ rs) (sym pushed));
    }

pub returns : goal.returns
returns c =
    let job = c.args.job.now.design.job in
    let net = c.args.sim.now.net in
    let from = c.args.from in
    let kept = c.loop-cycle.invariant in
    let all : c.loop-cycle.cycle ≡ c.args.count = omega (arith, c.loop-cycle-test.false, c.loop-cycle.auto.cycle-end) in
    record {
      monitor = c.loop-cycle.monitor;
      has = subst (λ (n : ℕ). HasRows job net (from + n) ((run net (inputs_to job from)).rows ++ c.loop-cycle.rows.items) c.loop-cycle.monitor) all kept.has;
      count = kept.count ∙ all;
      words = kept.words ∙ ap (words_to (λ T. stall_word job (from + T))) all;
      numbered = kept.numbered ∙ all;
      numbers = λ T b. kept.numbers T (omega (arith, b, all));
      flight = refl;
      losses = refl;
    }
