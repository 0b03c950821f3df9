use Rattle.std.proofs.Common.{◌≡◌, ◌∙◌, length, refl, ap, subst, arith, List}
use Rattle.kp_bits.specs.Word.{Word}
use Rattle.kp_cycle.specs.Steps.{Running}
use Rattle.kp_net.specs.Netlist.{Net}
use Rattle.kp_until_run.specs.inner.Pasts.{IsPast}
use Rattle.kp_net.specs.declared.netlist.Parts.{Parts}
use Rattle.kp_run.proofs.{Given.as_feeds, Given.feeds_many, Steps.rows_begin}
use Rattle.kp_until_run.proofs.{Races.reached_first, Reaching.agrees}
use Rattle.kp_until_run.proofs.race.Race.open.Goals as goal

pub open-requires : goal.open-requires
open-requires c =
    let outputs = c.requires.shows.outputs in
    record { ext = outputs.few; full = outputs.full; ue = outputs.ue; back = outputs.back }

pub returns : goal.returns
returns c =
    let accepted = c.args.job.now in
    let job = accepted.design.job in
    let net = c.args.net.now in
    let agree = agrees job net c.job-kept.ensures.sound.names accepted.unbroken c.requires.shows in
    let files : length c.as_slice.result.now ≡ length net.parts.files = ap length (c.as_slice.ensures ∙ ap (λ (p : Parts). p.files) c.parts.ensures.parts) in
    record {
      sim = c.in_ok-sim.ensures;
      rows = rows_begin job net c.monitor_of.result c.monitor_of.ensures.stages c.monitor_of.ensures.seen;
      past = subst (λ (m : Net). IsPast job m c.args._limit 0 c.in_ok-past.past) (ap (λ (r : Running). r.net) c.in_ok-sim.ensures) c.in_ok-past.ensures;
      reached = reached_first job net agree _ refl refl;
      room =
          ap (λ (l : List Word). length l) c.in_ok-room.ensures
          ∙ as_feeds accepted.sections.inputs 0
          ∙ feeds_many job accepted.sections.inputs c.job-kept.ensures.sound.names accepted.unbroken accepted.inputs;
      written = omega (arith, c.in_ok-written.ensures.len, c.in_ok-written.written.ok.0, files);
    }
