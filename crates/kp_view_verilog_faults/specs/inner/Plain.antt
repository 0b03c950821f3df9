-- The grammar over classes of tokens, without what it builds.
use Rattle.std.specs.Prelude.{ℕ, ◌==◌, cond}
use Rattle.kp_grammar.specs.Ranks.{Ranks}
use Rattle.kp_expected.specs.Plain.{PlainRules, stripped_rules}
use Rattle.kp_vlog.specs.Language.{rules, IDENTIFIER, NUMBER, LITERAL, keyword_class, mark_class, MODULE, WIRE, RANGE, PORT, STALLS, SAMPLES, ITEMS, ITEM, DECLARED, RIGHT, BEHIND, INDEX, INITS, INIT, START, BODY, CONDITION, VALUES, UPDATES, UPDATE, NAMES}
use Rattle.kp_view_verilog_faults.specs.declared.{class.Class.Class, part.Part.Part}
use Rattle.kp_view_verilog_faults.specs.declared.class.Class.TheVariants as classes
use Rattle.kp_view_verilog_faults.specs.declared.part.Part.TheVariants as parts

-- the number of a class in the grammar
abbrev pub number : Class → ℕ
number (classes.Keyword k) = keyword_class k
number (classes.Mark m) = mark_class m
number classes.Name = IDENTIFIER
number classes.Number = NUMBER
number classes.Literal = LITERAL

-- the number of a name in the grammar
abbrev pub name : Part → ℕ
name parts.Module = MODULE
name parts.Wire = WIRE
name parts.Range = RANGE
name parts.Port = PORT
name parts.Stalls = STALLS
name parts.Samples = SAMPLES
name parts.Items = ITEMS
name parts.Item = ITEM
name parts.Declared = DECLARED
name parts.Right = RIGHT
name parts.Behind = BEHIND
name parts.Index = INDEX
name parts.Inits = INITS
name parts.Init = INIT
name parts.Start = START
name parts.Body = BODY
name parts.Condition = CONDITION
name parts.Values = VALUES
name parts.Updates = UPDATES
name parts.Update = UPDATE
name parts.Names10 = NAMES 10
name parts.Names9 = NAMES 9
name parts.Names8 = NAMES 8
name parts.Names7 = NAMES 7
name parts.Names6 = NAMES 6
name parts.Names5 = NAMES 5
name parts.Names4 = NAMES 4
name parts.Names3 = NAMES 3
name parts.Names2 = NAMES 2
name parts.Names1 = NAMES 1
name parts.Names0 = NAMES 0

-- the rules
abbrev pub plain_rules : PlainRules
plain_rules = stripped_rules rules

-- a port begins with `wire` or a range, and a list with what it is a list of
abbrev pub ranks : Ranks
ranks n = cond (n == PORT) 2 (cond (n == STALLS) 1 (cond (n == ITEMS) 1 (cond (n == DECLARED) 1 (cond (n == INITS) 1 (cond (n == UPDATES) 1 0)))))
