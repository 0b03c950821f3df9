use Rattle.kp_view_expected.proofs.Exact.{exact, readable}
use Rattle.kp_view_expected.proofs.goes_on.expected.Goals as goal

pub expected-requires-clause-readable : goal.expected-requires-clause-readable
expected-requires-clause-readable c = λ κs. readable

pub returns : goal.returns
returns c = λ text t.
    exact text c.args.front.now c.as_slice.result.now c.all.result.now (record { listed = c.expected.new.answers }) (cc (c.as_slice.ensures.value, c.in_ok-classes.ensures)) c.all.ensures
    c.in_ok-expected.ensures.exact t
