use Rattle.std.proofs.Common.{refl}
use Rattle.kp_view_verilog_faults.proofs.Exact.{exact, readable}
use Rattle.kp_view_verilog_faults.proofs.set.following.Goals as goal

pub expected-requires-clause-readable : goal.expected-requires-clause-readable
expected-requires-clause-readable c = λ κs. readable

pub returns : goal.returns
returns c = λ tokens t same.
    exact (record { listed = c.expected.new.answers }) c.as_slice.result.now _ refl c.in_ok-expected.ensures.exact tokens t (cc (same, c.as_slice.ensures.value, c.in_ok-classes.ensures))
