-- The outcome of a call that reads lines.
use Rattle.std.specs.Prelude.{◌≡◌, ℕ, List, take, Result, Ok, Err, ⊤}
use Rattle.kp_base.specs.Place.{place_after}
use Rattle.kp_core_ports.specs.declared.port.{PortRule.PortRule, PortRefusal.PortRefusal, PortsRefused.PortsRefused}
use Rattle.kp_core_ports.specs.declared.port.PortsRefused.TheVariants.{Rule, NoMemory}

-- the rule is violated by the token at this offset of the text
abbrev pub broken : {X : Type 0} → List ℕ → PortRule → ℕ → Result X PortRefusal
broken text rule at = Err (record { rule = rule; place = place_after (take at text) })

-- what a call returns that reads lines: what is specified, of which `value` is a view, or out of memory
abbrev pub Yields : {T X : Type 0} → Result T PortsRefused → Result X PortRefusal → (T → X) → Type 0
Yields (Ok t) found value = found ≡ Ok (value t)
Yields (Err (Rule refusal)) found value = found ≡ Err refusal
Yields (Err NoMemory) found value = ⊤
