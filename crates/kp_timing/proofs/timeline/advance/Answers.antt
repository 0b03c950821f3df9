use Rattle.std.{proofs.Common.◌-◌, proofs.Common.◌<◌, proofs.Common.◌^◌, proofs.Common.sym, proofs.Common.subst, specs.Prelude.unwrap_or}
use Rattle.kp_timing.proofs.Keeping.{can_fetch}
use Rattle.kp_timing.proofs.timeline.advance.Goals as goal

pub fetch-requires : goal.fetch-requires
fetch-requires c =
    let q = c.requires in
    let can = can_fetch c.args.machine.now.job c.args.found.now.blocked c.args.stages c.args.held.now c.move_on.new.held c.move_on.ensures q.hold q.flights q.some q.room in
    record {
      samples = q.samples;
      hold = can.hold;
      flights = can.flights;
      room = can.room;
      reads = q.reads;
      results = q.results;
      parts = q.parts;
      small = subst (λ o. unwrap_or o 0 < 2 ^ 64 - 1) (sym can.first) q.small;
    }
