-- The result of checking a module.
use Rattle.std.specs.Prelude.{ℕ, ◌≡◌, List, Some, ⊤}
use Rattle.kp_base.specs.declared.refusal.Refused.{Refused}
use Rattle.kp_base.specs.declared.refusal.Refused.TheVariants as refused
use Rattle.kp_vlog.specs.{declared.tree.VModule.VModule, Rules.Fault, Rules.broken, Verdict.refusal_of}

-- the error is the first of the rules V3 to V5 that a module of the text violates, or out of memory
abbrev pub IsBroken : List ℕ → VModule → Refused → Type 0
IsBroken text m (refused.Rule r) = (f : Fault) × (broken m ≡ Some f) × (r ≡ refusal_of text f)
IsBroken text m refused.NoMemory = ⊤
