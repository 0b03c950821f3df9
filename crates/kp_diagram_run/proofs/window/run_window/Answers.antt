use Rattle.std.proofs.Common.{◌≡◌, ◌∙◌, ℕ, ◌+◌, ◌<◌, List, All, ap, get_or, length, map, refl, subst, sym}
use Rattle.std.proofs.lemmas.Result.{IfOk-weaker}
use Rattle.kp_bits.specs.Word.{Word}
use Rattle.kp_stage.specs.Start.{stall_word}
use Rattle.kp_image.proofs.Given.{starts}
use Rattle.kp_net.specs.Netlist.{Net, run}
use Rattle.kp_cycle.specs.Steps.{Running}
use Rattle.kp_sched.specs.Rows.{bit_of}
use Rattle.kp_implements.specs.Shows.{Shows}
use Rattle.kp_run.{specs.Cycles.HasRows, specs.Cycles.after_cycles, specs.Cycles.inputs_to, proofs.Given.as_feeds, proofs.Prefixes.rows_many}
use Rattle.kp_diagram_text.specs.{Losses.losses_shown, Windows.placed_seen, declared.account.Loss.Loss, declared.window.Placed.Placed}
use Rattle.kp_diagram_run.specs.inner.Walks.{IsWalked}
use Rattle.kp_diagram_run.proofs.Words.{word-at, words-many}
use Rattle.kp_diagram_run.proofs.window.run_window.Goals as goal

pub synth-requires-clause-suits : goal.synth-requires-clause-suits
synth-requires-clause-suits c = rw c.args.job.now.start (starts _ c.job-kept.ensures.sound.names c.args.job.now.unbroken)

pub open-requires : goal.open-requires
open-requires c =
    let outputs = c.in_ok-net.ensures.shows.outputs in
    record { ext = outputs.few; full = outputs.full; ue = outputs.ue; back = outputs.back }

pub pass_all-requires-clause-shows : goal.pass_all-requires-clause-shows
pass_all-requires-clause-shows c = subst (λ (s : Running). Shows s.net c.args.job.now.design.job) (sym c.in_ok-sim.ensures) c.in_ok-net.ensures.shows

pub pass_all-requires-clause-at : goal.pass_all-requires-clause-at
pass_all-requires-clause-at c =
    c.in_ok-sim.ensures ∙ ap (λ (m : Net). after_cycles c.args.job.now.design.job m 0) (sym (ap (λ (s : Running). s.net) c.in_ok-sim.ensures))

pub pass_all-requires-clause-room : goal.pass_all-requires-clause-room
pass_all-requires-clause-room c =
    rw c.as_mut_slice-room.ensures.value (ap (λ (l : List Word). length l) c.in_ok-samples.ensures ∙ as_feeds c.args.job.now.sections.inputs 0)

pub pass_all-requires-clause-walked : goal.pass_all-requires-clause-walked
pass_all-requires-clause-walked c = c.in_ok-walk.ensures (λ T. bit_of (stall_word c.args.job.now.design.job T))

pub recorded-requires-clause-shows : goal.recorded-requires-clause-shows
recorded-requires-clause-shows c =
    let job = c.args.job.now.design.job in
    subst (λ (s : Running). Shows s.net job) (sym c.in_ok-pass_all.ensures.at) (subst (λ (s : Running). Shows s.net job) (sym c.in_ok-sim.ensures) c.in_ok-net.ensures.shows)

pub recorded-requires-clause-at : goal.recorded-requires-clause-at
recorded-requires-clause-at c =
    let at = c.in_ok-pass_all.ensures.at in
    at ∙ ap (λ (m : Net). after_cycles c.args.job.now.design.job m c.args.from) (sym (ap (λ (s : Running). s.net) at))

pub recorded-requires-clause-room : goal.recorded-requires-clause-room
recorded-requires-clause-room c =
    c.in_ok-pass_all.ensures.room
    ∙ rw c.as_mut_slice-room.ensures.value (ap (λ (l : List Word). length l) c.in_ok-samples.ensures ∙ as_feeds c.args.job.now.sections.inputs 0)

pub recorded-requires-clause-walked : goal.recorded-requires-clause-walked
recorded-requires-clause-walked c =
    let job = c.args.job.now.design.job in
    subst (λ (m : Net). IsWalked job.stages.value (λ T. bit_of (stall_word job T)) (run m (inputs_to job c.args.from)).rows c.pass_all.new.walk)
    (sym (ap (λ (s : Running). s.net) c.in_ok-pass_all.ensures.at)) c.in_ok-pass_all.ensures.walked

pub returns : goal.returns
returns c = IfOk-weaker c.recorded.result _ _ (λ w is.
    let job = c.args.job.now.design.job in
    let s = job.stages.value in
    let from = c.args.from in
    let n = c.args.count in
    let net = c.pass_all.new.sim.net in
    let walk = c.pass_all.new.walk in
    let before = (run net (inputs_to job from)).rows in
    let at = ap (λ (m : Running). m.net) c.in_ok-pass_all.ensures.at in
    let walked : IsWalked s (λ T. bit_of (stall_word job T)) before walk =
    subst (λ (m : Net). IsWalked s (λ T. bit_of (stall_word job T)) (run m (inputs_to job from)).rows walk) (sym at) c.in_ok-pass_all.ensures.walked in
    let shows : Shows net job =
    subst (λ (m : Running). Shows m.net job) (sym c.in_ok-pass_all.ensures.at) (subst (λ (m : Running). Shows m.net job) (sym c.in_ok-sim.ensures) c.in_ok-net.ensures.shows) in
    let has : HasRows job net from before walk.monitor = record { rows = refl; seen = walked.seen; stages = walked.stages } in
    let given = is.words in
    record {
      before = before;
      long = rows_many job net from;
      early = c.a_run_shows_the_pipeline.ensures.rows net from before walk.monitor shows has;
      all = c.a_run_shows_the_pipeline.ensures.rows net (from + n) _ is.monitor shows is.has;
      count = is.count;
      many = ap (λ (ws : List ℕ). length ws) given ∙ words-many (λ T. stall_word job (from + T)) n;
      words = λ T b. ap (λ (ws : List ℕ). get_or ws T 0) given ∙ word-at (λ T. stall_word job (from + T)) n T b;
      numbered = is.numbered;
      numbers = is.numbers;
      flight = ap (λ (ps : List Placed). map placed_seen ps) is.flight ∙ walked.flight;
      within = subst (λ (ps : List Placed). All (λ (p : Placed). p.stage < s) ps) (sym is.flight) walked.within;
      losses = λ k b. ap (λ (ls : List Loss). losses_shown ls k) is.losses ∙ walked.losses k b;
      twelve = ap (λ (ls : List Loss). length ls) is.losses ∙ walked.twelve;
    }) c.recorded.ensures
