-- AN UPPER BOUND on the number of nodes of a netlist.
use Rattle.std.specs.Prelude.{ℕ, ◌+◌, ◌*◌}
use Rattle.kp_stage.specs.declared.counts.Summary.{Summary}

abbrev pub node_bound : Summary → ℕ
node_bound s =
    8 * s.size + 64 * (s.stages * (s.reads + s.results + s.pipes + s.hints + s.files + s.regs + 1)) + 64 * (s.stages * (s.stages * s.guesses)) + 4096

-- the most nodes that `read_cells` and `close_nodes` need, where k is the number of registers, t that of the targets and x that of the samples
abbrev pub closing_cost : (registers targets samples : ℕ) → ℕ
closing_cost k t x = (k + x + 1) + (159 + 9 * k + 9 * t)
