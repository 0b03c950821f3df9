-- Which rules are checked in statements at all.
use Rattle.std.specs.Prelude.{◌==◌, length, Bool, true, false, not}
use Rattle.kp_stage.specs.declared.{rules.Rule.Rule, facts.Facts.Facts}

-- E15, E19, E22, E24 and E35 are checked only at declarations and blocks; E17, E25 and E34 concern pipes that are put, hints and samples
abbrev pub asks_stmts : Facts → Rule → Bool
asks_stmts t Rule.E15 = false
asks_stmts t Rule.E17 = not (length t.given.puts == 0)
asks_stmts t Rule.E19 = false
asks_stmts t Rule.E22 = false
asks_stmts t Rule.E24 = false
asks_stmts t Rule.E25 = not (length t.named.hints == 0)
asks_stmts t Rule.E34 = not (length t.named.samples == 0)
asks_stmts t Rule.E35 = false
asks_stmts t _ = true
