use Rattle.std.proofs.{Common.◌∙◌, Common.ap, Common.sym, Common.subst, Common.arith, lemmas.Result.err_from_is_err_and, KnownBytes.Appends-nil}
use Rattle.kp_base.proofs.Bytes.{written_piece, written_part, rest_whole}
use Rattle.kp_net.specs.Netlist.{Net}
use Rattle.kp_cycle.specs.Steps.{Running}
use Rattle.kp_implements.specs.Shows.{IsOfJob}
use Rattle.kp_report.proofs.Lines.{left_is}
use Rattle.kp_page.specs.inner.Seen.{states_of}
use Rattle.kp_page.proofs.Lines.{appends_as, part_as, cycle_is, cycles_next, cycles_end}
use Rattle.kp_page.proofs.cycles.write_later.Goals as goal

pub next_cycle-requires-clause-samples : goal.next_cycle-requires-clause-samples
next_cycle-requires-clause-samples g c = rw c.loop-cycle.invariant.now c.requires.shows.of_job.samples

pub next_cycle-requires-in-loop-cycle-clause-samples : goal.next_cycle-requires-in-loop-cycle-clause-samples
next_cycle-requires-in-loop-cycle-clause-samples g c = rw c.loop-cycle.invariant.before c.requires.shows.of_job.samples

pub write_cycle-requires-clause-net : goal.write_cycle-requires-clause-net
write_cycle-requires-clause-net g c =
    let net : Running → Net = λ s. s.net in
    ap net c.loop-cycle.invariant.before ∙ sym (ap net (c.next_cycle.ensures.sim c.args.now.now.net c.loop-cycle.invariant.now))

pub write_cycle-requires-clause-of_job : goal.write_cycle-requires-clause-of_job
write_cycle-requires-clause-of_job g c =
    let net : Running → Net = λ s. s.net in
    subst (λ (n : Net). IsOfJob n c.args.job.now.design.job) (sym (ap net (c.next_cycle.ensures.sim c.args.now.now.net c.loop-cycle.invariant.now))) c.requires.shows.of_job

pub loop-cycle-preserved : goal.loop-cycle-preserved
loop-cycle-preserved g c =
    let job = c.args.job.now.design.job in
    let net = c.args.now.now.net in
    let k = c.loop-cycle.cycle in
    let inv = c.loop-cycle.invariant in
    let now_is = c.next_cycle.ensures.sim net inv.now in
    let next = cycles_next job.decls (states_of job net) c.args.count k c.loop-cycle-test.true in
    record {
      now = now_is;
      before = c.next_cycle-in-loop-cycle.ensures.sim net inv.before;
      room = c.next_cycle-in-loop-cycle.ensures.room ∙ c.next_cycle.ensures.room ∙ inv.room;
      text = written_piece _ _ _ _ _ _ (left_is _ _ _ _ _ next inv.text)
          (appends_as _ _ _ _ (cycle_is job net k _ _ inv.before now_is) c.in_ok-write_cycle.ensures.text);
      later = omega arith;
    }

pub returns-in_err-write_cycle-clause-text : goal.returns-in_err-write_cycle-clause-text
returns-in_err-write_cycle-clause-text g c =
    let job = c.args.job.now.design.job in
    let net = c.args.now.now.net in
    let k = c.loop-cycle.cycle in
    let inv = c.loop-cycle.invariant in
    let now_is = c.next_cycle.ensures.sim net inv.now in
    let next = cycles_next job.decls (states_of job net) c.args.count k c.loop-cycle-test.true in
    let exit = err_from_is_err_and c.from_residual.result c.from_residual.ensures.1 in
    rw exit.1 (written_part _ _ _ _ _ _ (left_is _ _ _ _ _ next inv.text)
    (part_as _ _ _ _ (cycle_is job net k _ _ inv.before now_is) c.in_err-write_cycle.ensures.text))

pub returns-clause-text : goal.returns-clause-text
returns-clause-text g c =
    let job = c.args.job.now.design.job in
    let none = cycles_end job.decls (states_of job c.args.now.now.net) c.args.count c.loop-cycle.cycle (omega arith) in
    rest_whole _ _ _ _ _ (left_is _ _ _ _ _ none c.loop-cycle.invariant.text) (Appends-nil _)
