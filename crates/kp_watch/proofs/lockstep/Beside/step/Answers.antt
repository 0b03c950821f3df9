use Rattle.std.proofs.Common.{◌≡◌, ◌∙◌, ◌++◌, ◌∷◌, [], ℕ, ◌+◌, ◌<◌, refl, ap, sym, subst, arith, length, length-append, false, List, Option}
use Rattle.std.specs.Prelude.{vec_len, vec_capacity}
use Rattle.kp_base.specs.declared.row.Row.{Row}
use Rattle.kp_bits.specs.Word.{Word}
use Rattle.kp_cycle.specs.Steps.{written_in, Running, SamplesFit, given}
use Rattle.kp_image.specs.{Feeds.row_in, Spans.word_in}
use Rattle.kp_net.specs.Netlist.{Input, State, last_of, row_of, state_after}
use Rattle.kp_sched.specs.{Monitors.HasSeen, Rows.rows_seen}
use Rattle.kp_seq.specs.Running.{Running as Machine}
use Rattle.kp_run.specs.{Columns.Taken, Cycles.input_at, Cycles.inputs_to}
use Rattle.kp_run.proofs.{Given.as_feeds, Given.rows_fed, Given.feeds_many, Given.feeds_few, Samples.fits_ports}
use Rattle.kp_run.proofs.{Steps.given_at, Steps.state_next, Steps.rows_next, Prefixes.rows_many}
use Rattle.kp_watch.specs.inner.{Changes.AreNoted, Machines.HaveRun, Machines.given as given_by}
use Rattle.kp_watch.proofs.Rows.{run_within, first_of, written_back}
use Rattle.kp_watch.proofs.lockstep.Beside.step.Goals as goal

pub fill-requires-clause-room : goal.fill-requires-clause-room
fill-requires-clause-room c =
    let job = c.args.job.now in
    ap (λ (l : List Word). length l) c.as_mut_slice-room.ensures.value
    ∙ c.requires.come.room ∙ c.requires.many
    ∙ sym (feeds_many job.design.job job.sections.inputs c.job-kept.ensures.sound.names job.unbroken job.inputs)

pub fill-requires-clause-few : goal.fill-requires-clause-few
fill-requires-clause-few c =
    let job = c.args.job.now in
    let sound = c.job-kept.ensures.sound in
    let fed = feeds_many job.design.job job.sections.inputs sound.names job.unbroken job.inputs in
    let few = feeds_few job.design.job job.sections.inputs sound.names job.unbroken job.inputs job.few in
    let room : length c.as_mut_slice-room.result.now ≡ length c.args.tables.now.columns.items =
    ap (λ (l : List Word). length l) c.as_mut_slice-room.ensures.value ∙ c.requires.come.room in
    omega (arith, few, fed, room, c.requires.many)

pub step_noting-row-requires-clause-samples : goal.step_noting-row-requires-clause-samples
step_noting-row-requires-clause-samples c =
    let job = c.args.job.now in
    let net = c.args.self.now.sim.net in
    let row = row_in job.sections.inputs c.from-now.result in
    subst (SamplesFit net) (sym c.fill.ensures)
    (fits_ports job.design.job net row c.requires.samples (rows_fed job.design.job job.sections.inputs c.job-kept.ensures.sound.names job.unbroken job.inputs c.from-now.result))

pub unwrap-requires : goal.unwrap-requires
unwrap-requires c =
    let rows = c.args.self.now.rows in
    let many : length rows.items ≡ c.args.cycle =
    ap (λ (l : List Row). length l) c.requires.come.rows.rows ∙ rows_many c.args.job.now.design.job c.args.self.now.sim.net c.args.cycle in
    let left : vec_len rows < vec_capacity rows = omega (arith, many, rows.ok.0, c.requires.space) in
    c.push.ensures.succeeds left

pub cycle-requires : goal.cycle-requires
cycle-requires c =
    let seen = c.requires.come.rows.seen.cycles in
    let many : length c.args.self.now.rows.items ≡ c.args.cycle =
    ap (λ (l : List Row). length l) c.requires.come.rows.rows ∙ rows_many c.args.job.now.design.job c.args.self.now.sim.net c.args.cycle in
    let few = c.ranges.cycle.fits in
    omega (arith, seen, many, few)

pub advance-requires : goal.advance-requires
advance-requires c =
    let job = c.args.job.now.design.job in
    let come = c.requires.come in
    let xs = c.args.self.now.rows.items in
    let row = c.step_noting-row.result in
    let T = c.args.cycle in
    let columns = c.as_slice-columns.ensures.value in
    let many : length xs ≡ T = ap (λ (l : List Row). length l) come.rows.rows ∙ rows_many job c.args.self.now.sim.net T in
    let items : c.as_slice-rows.result.now ≡ xs ++ row ∷ [] = c.as_slice-rows.ensures.value ∙ (rw c.unwrap.ensures at c.push.ensures.items) in
    let first = first_of xs row T many in
    record {
      stages = come.rows.stages;
      seen = rw items (subst (HasSeen c.args.self.now.monitor) (sym first) come.rows.seen);
      there = rw items (let more = length-append xs (row ∷ []) in omega (arith, many, more));
      room = rw columns (ap (λ (l : List Word). length l) (c.fill.ensures) ∙ as_feeds _ _ ∙ feeds_many job _ c.job-kept.ensures.sound.names c.args.job.now.unbroken c.args.job.now.inputs ∙ sym c.requires.many);
      needed = rw c.as_slice-needed.ensures.value c.requires.needed;
      samples = λ i. rw columns (c.requires.fit i);
      run = rw (columns, items, c.as_mut_slice-machines.ensures.value) (run_within job (given_by c.args.tables.now.columns.items) xs (xs ++ row ∷ []) T c.args.self.now.machines.items first come.machines);
    }

pub returns-clause-come : goal.returns-clause-come
returns-clause-come c =
    let accepted = c.args.job.now in
    let job = accepted.design.job in
    let both = c.args.self.now in
    let net = both.sim.net in
    let T = c.args.cycle in
    let come = c.requires.come in
    let begin = last_of net (inputs_to job T) in
    let xs = both.rows.items in
    let row = c.step_noting-row.result in
    let taken : Input = given c.word-stalls.result false c.fill.new.room in
    let is : taken ≡ input_at job T =
    (λ i. given (c.word-stalls.ensures i) false (c.fill.ensures i))
    ∙ given_at job (word_in accepted.sections.stalls) (row_in accepted.sections.inputs) c.from-now.result T accepted.stalls accepted.inputs c.from-now.ensures in
    let row_is : row ≡ row_of net taken begin = c.step_noting-row.ensures.row ∙ ap (λ (s : Running). row_of s.net taken s.state) come.sim in
    let items : c.push.new.self.items ≡ xs ++ row ∷ [] = rw c.unwrap.ensures at c.push.ensures.items in
    let rows : c.as_slice-rows.result.now ≡ xs ++ row ∷ [] = c.as_slice-rows.ensures.value ∙ items in
    let machines = c.advance.new.machines in
    record {
      sim =
          c.step_noting-row.ensures.state
          ∙ ap (λ (s : Running). record s { state = state_after s.net taken s.state }) come.sim
          ∙ ap (λ (st : State). record { net = net; state = st; slots = [] }) (state_next job net T taken is begin refl);
      rows = rw items (rows_next job net T taken is begin row xs both.monitor c.cycle.new.self refl row_is come.rows c.cycle.ensures.stages c.cycle.ensures.seen);
      machines =
          subst (λ (ms : List Machine). HaveRun job (given_by c.args.tables.now.columns.items) (rows_seen job.stages.value c.push.new.self.items) (T + 1) ms)
          (sym (written_back both.machines.items machines both.machines.len (omega (arith, c.advance.auto.machines, c.as_mut_slice-machines.ensures.len))))
          (subst (λ (l : List Row). HaveRun job (given_by c.args.tables.now.columns.items) (rows_seen job.stages.value l) (T + 1) machines) (rows ∙ sym items)
          (rw c.as_slice-columns.ensures.value at c.advance.ensures.run));
      room =
          ap (λ (l : List Word). length l) (written_back both.room.items c.advance.new.room both.room.len
          (omega (arith, c.advance.auto.room, c.fill.auto.room, c.as_mut_slice-room.ensures.len)))
          ∙ c.advance.ensures.room ∙ ap (λ (l : List Taken). length l) c.as_slice-columns.ensures.value;
      noted =
          ap (λ (l : List (Option ℕ)). length l) (written_back both.written.items c.step_noting-row.new.written both.written.len
          (omega (arith, c.step_noting-row.auto.written, c.as_mut_slice-written.ensures.len)))
          ∙ c.step_noting-row.ensures.room;
    }

pub returns-clause-noted : goal.returns-clause-noted
returns-clause-noted c =
    let accepted = c.args.job.now in
    let job = accepted.design.job in
    let sim = c.args.self.now.sim in
    let T = c.args.cycle in
    let old = c.args.self.now.written in
    let new = c.step_noting-row.new.written in
    let taken : Input = given c.word-stalls.result false c.fill.new.room in
    let is : taken ≡ input_at job T =
    (λ i. given (c.word-stalls.ensures i) false (c.fill.ensures i))
    ∙ given_at job (word_in accepted.sections.stalls) (row_in accepted.sections.inputs) c.from-now.result T accepted.stalls accepted.inputs c.from-now.ensures in
    let many : old.len ≡ length new = omega (arith, c.step_noting-row.auto.written, c.as_mut_slice-written.ensures.len) in
    let whole = written_back old.items new old.len many in
    let noted : AreNoted job sim.net T new =
    record {
      count = c.step_noting-row.ensures.room;
      each = λ f low.
          c.step_noting-row.ensures.written f low
          ∙ ap (λ (i : Input). written_in sim.net i sim.state f) is
          ∙ ap (λ (s : Running). written_in sim.net (input_at job T) s.state f) c.requires.come.sim;
    } in
    subst (AreNoted job sim.net T) (sym whole) noted
