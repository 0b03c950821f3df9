use Rattle.std.proofs.Common.{arith}
use Rattle.kp_vlog.proofs.Parting.{reported, past_fits, closes_fits, stopped, closed, passed}
use Rattle.kp_vlog.proofs.first_module.first_module_end.Goals as goal

pub returns-in-Stops-clause-ends : goal.returns-in-Stops-clause-ends
returns-in-Stops-clause-ends c = stopped _ _ _ _ c.loop-len.invariant (reported _ _ c.in-Stops.ensures)

pub overflow_cast-result-in-Closes : goal.overflow_cast-result-in-Closes
overflow_cast-result-in-Closes c =
    let fits = (closes_fits c.loop-len.rest.now c.in-Closes.len (reported _ _ c.in-Closes.ensures)).1 in
    let within = c.loop-len.invariant.within in
    omega (arith, c.requires.fits)

pub overflow_add-result : goal.overflow_add-result
overflow_add-result c =
    let fits = (closes_fits c.loop-len.rest.now c.in-Closes.len (reported _ _ c.in-Closes.ensures)).1 in
    let within = c.loop-len.invariant.within in
    omega (arith, c.requires.fits)

pub returns-in-Closes-clause-ends : goal.returns-in-Closes-clause-ends
returns-in-Closes-clause-ends c = closed _ _ _ _ c.loop-len.invariant c.in-Closes.len (reported _ _ c.in-Closes.ensures)

pub returns-in-Closes-clause-within : goal.returns-in-Closes-clause-within
returns-in-Closes-clause-within c =
    let fits = (closes_fits c.loop-len.rest.now c.in-Closes.len (reported _ _ c.in-Closes.ensures)).1 in
    let within = c.loop-len.invariant.within in
    omega arith

pub split_at-requires : goal.split_at-requires
split_at-requires c = (past_fits c.loop-len.rest.now c.in-Past.len (reported _ _ c.in-Past.ensures)).1

pub loop-len-smaller : goal.loop-len-smaller
loop-len-smaller c =
    let low = (past_fits c.loop-len.rest.now c.in-Past.len (reported _ _ c.in-Past.ensures)).0 in
    omega (arith, c.split_at.ensures.back_len)

pub loop-len-preserved : goal.loop-len-preserved
loop-len-preserved c = rw c.split_at.ensures.back (passed _ _ _ _ c.loop-len.invariant c.in-Past.len (reported _ _ c.in-Past.ensures))
