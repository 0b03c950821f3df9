-- A rule of one of the three languages, violated at a position.
use Rattle.std.specs.Prelude.{ℕ}
use Rattle.kp_base.specs.declared.{place.Place.Place, refusal.Family.Family, refusal.Refusal.Refusal}

-- rule E of this number: of descriptions
abbrev pub e_rule : ℕ → Place → Refusal
e_rule number place = record { family = Family.E; number = number; place = place }

-- rule V of this number: of Verilog
abbrev pub v_rule : ℕ → Place → Refusal
v_rule number place = record { family = Family.V; number = number; place = place }

-- rule A of this number: of assembler programs
abbrev pub a_rule : ℕ → Place → Refusal
a_rule number place = record { family = Family.A; number = number; place = place }
