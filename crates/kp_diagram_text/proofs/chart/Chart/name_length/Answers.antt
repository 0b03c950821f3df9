use Rattle.std.proofs.Common.{arith}
use Rattle.kp_diagram_text.{specs.Charts.names_of, proofs.Names.short_name}
use Rattle.kp_diagram_text.proofs.chart.Chart.name_length.Goals as goal

pub returns-clause-few : goal.returns-clause-few
returns-clause-few c =
    let chart = c.args.self.now in
    omega (arith, c.bytes_of_name.ensures, short_name (names_of chart) chart.stages c.args.k c.requires.names (omega (arith, c.ranges.k)))
