use Rattle.std.proofs.Common.{◌≡◌, ◌∙◌, ap, sym, arith, length, List}
use Rattle.kp_bits.specs.Word.{Word}
use Rattle.kp_net.specs.declared.netlist.Parts.{Parts}
use Rattle.kp_run.proofs.{Given.as_feeds, Given.feeds_many, Steps.rows_begin}
use Rattle.kp_sched.specs.Rows.{rows_seen}
use Rattle.kp_watch.specs.inner.Machines.{given}
use Rattle.kp_watch.proofs.lockstep.Beside.open.Goals as goal

pub returns-clause-come : goal.returns-clause-come
returns-clause-come c =
    let accepted = c.args.job.now in
    let job = accepted.design.job in
    let net = c.args.net.now in
    let columns = c.args.tables.now.columns.items in
    let files : length c.as_slice.result.now ≡ length net.parts.files = ap length (c.as_slice.ensures ∙ ap (λ (p : Parts). p.files) c.parts.ensures.parts) in
    record {
      sim = c.in_ok-sim.ensures;
      rows = rw c.in_ok-rows.ensures.items (rows_begin job net c.monitor_of-monitor.result c.monitor_of-monitor.ensures.stages c.monitor_of-monitor.ensures.seen);
      machines = c.in_ok-machines.ensures (given columns) (rows_seen job.stages.value c.in_ok-rows.rows.items);
      room =
          ap (λ (l : List Word). length l) c.in_ok-room.ensures
          ∙ as_feeds accepted.sections.inputs 0
          ∙ feeds_many job accepted.sections.inputs c.job-kept.ensures.sound.names accepted.unbroken accepted.inputs
          ∙ sym c.requires.samples;
      noted = omega (arith, c.in_ok-written.ensures.len, c.in_ok-written.written.ok.0, files);
    }
