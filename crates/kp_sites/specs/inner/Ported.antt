-- How a target is written, by the tables of a design.
use Rattle.std.specs.Prelude.{ℕ, Option, Some, None}
use Rattle.kp_design.specs.declared.layout.Port.{Port}
use Rattle.kp_sites.specs.declared.sites.Writer.{Writer}

-- from its port and the number of its result
abbrev pub writer_with : Option Port → Option ℕ → Option Writer
writer_with None i = None
writer_with (Some p) None = None
writer_with (Some p) (Some i) = Some (record { result = i; write = p.write; known = p.known })
