use Rattle.kp_vread.proofs.Reading.{answered, few}
use Rattle.kp_vread.proofs.read.read_verilog.Goals as goal

pub checked-netlist-requires-clause-samples : goal.checked-netlist-requires-clause-samples
checked-netlist-requires-clause-samples c = (few c.args.text.now c.args.from c.in_ok-whole.whole c.requires.fits c.in_ok-whole.ensures).0

pub checked-netlist-requires-clause-items : goal.checked-netlist-requires-clause-items
checked-netlist-requires-clause-items c = (few c.args.text.now c.args.from c.in_ok-whole.whole c.requires.fits c.in_ok-whole.ensures).1

pub returns : goal.returns
returns c = answered c.args.text.now c.args.from c.in_ok-whole.whole c.checked-netlist.result c.in_ok-whole.ensures c.checked-netlist.ensures
