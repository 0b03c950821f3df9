use Rattle.std.proofs.Common.{◌≡◌, ◌∙◌, ◌<◌, ℕ, length, length-append, ap, arith}
use Rattle.std.proofs.lemmas.Nat.{pow_pos}
use Rattle.kp_machine.specs.{Slots.targets_of, Words.target}
use Rattle.kp_run.{specs.Places.places_in, specs.Places.words_at, proofs.Placing.as_many, proofs.Placing.place_at, proofs.Placing.place_there}
use Rattle.kp_until_run.specs.inner.Pasts.{IsHistory}
use Rattle.kp_until_run.specs.declared.history.History.{History}
use Rattle.kp_until_run.proofs.{Opening.first_history, Opening.more_items, Pasts.words_there}
use Rattle.kp_until_run.proofs.past.Past.open.Goals as goal

pub words_in-requires : goal.words_in-requires
words_in-requires c =
    let job = c.args.job.now.design.job in
    let net = c.args.sim.now.net in
    let t = c.loop-t.t in
    let places = c.in_ok-places.ensures ∙ ap (places_in job) c.netlist.ensures in
    let many = as_many job net c.in_ok-places.places.items places in
    let low : t < length (targets_of job.decls) = omega (arith, c.loop-t-test.true, c.len-t-end.ensures, many) in
    place_there job net t c.index-place.result.now c.requires.of_job low (c.index-place.ensures ∙ place_at job net c.in_ok-places.places.items t _ places low)

pub new-history-requires : goal.new-history-requires
new-history-requires c =
    let job = c.args.job.now.design.job in
    let net = c.args.sim.now.net in
    let t = c.loop-t.t in
    let places = c.in_ok-places.ensures ∙ ap (places_in job) c.netlist.ensures in
    let many = as_many job net c.in_ok-places.places.items places in
    let low : t < length (targets_of job.decls) = omega (arith, c.loop-t-test.true, c.len-t-end.ensures, many) in
    let placed = c.index-place.ensures ∙ place_at job net c.in_ok-places.places.items t _ places low in
    let size = c.in_ok-words.ensures.count ∙ ap words_at placed ∙ words_there net (target job t) in
    let some = pow_pos (target job t).address in
    omega (arith, size, some)

pub loop-t-preserved : goal.loop-t-preserved
loop-t-preserved c =
    let job = c.args.job.now.design.job in
    let net = c.args.sim.now.net in
    let limit = c.args._limit in
    let t = c.loop-t.t in
    let inv = c.loop-t.invariant in
    let places = c.in_ok-places.ensures ∙ ap (places_in job) c.netlist.ensures in
    let many = as_many job net c.in_ok-places.places.items places in
    let low : t < length (targets_of job.decls) = omega (arith, c.loop-t-test.true, c.len-t-end.ensures, many) in
    let placed = c.index-place.ensures ∙ place_at job net c.in_ok-places.places.items t _ places low in
    let words = c.in_ok-words.words.items in
    let here = first_history job net limit t c.requires.of_job c.requires.shown low c.index-place.result.now placed c.args.sim.now c.requires.start words c.in_ok-words.ensures.count
    c.in_ok-words.ensures.words c.new-history.result c.new-history.ensures.count c.new-history.ensures.remembers in
    rw c.in_ok-push.ensures.items (record {
      count = simp length-append (omega (arith, inv.count));
      each = more_items (λ (u : ℕ) (h : History). IsHistory job limit 0 u h) c.loop-t.histories.items c.new-history.result t inv.count inv.each here;
    })

pub returns : goal.returns
returns c =
    let job = c.args.job.now.design.job in
    let net = c.args.sim.now.net in
    let inv = c.loop-t.invariant in
    let places = c.in_ok-places.ensures ∙ ap (places_in job) c.netlist.ensures in
    let many = as_many job net c.in_ok-places.places.items places in
    let all : c.loop-t.t ≡ length (targets_of job.decls) = omega (arith, c.loop-t-test.false, c.loop-t.auto.t-end, c.len-t-end.ensures, many) in
    record {
      places = places;
      homes = c.in_ok-homes.ensures;
      histories = record { count = inv.count ∙ all; each = λ u d h. inv.each u d (omega (arith, h, all)) };
    }
