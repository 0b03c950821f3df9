-- THE LINES AFTER A JOB THAT ASK FOR PORTS of its module, and their rules.
--
-- A line is `show R`, `peek F`, `load F`, `probe P at k`, `next P at k` or `commit`, or empty; a comment begins with `//`. A line of another form, or one
-- that asks for a port whose name an earlier line gave already, violates rule P1 at its first token. If R is no register's name, F no file's, or P no
-- pipe's, rule P2 is violated at the name, and if k isn't a stage that holds the pipe, rule P3 at the number. Of the rules that a line violates the
-- one with the lowest number counts, and of the lines that violate one the first.
use Rattle.std.specs.Prelude.{◌≡◌, ℕ, ◌+◌, ◌<◌, Bool, true, false, not, ◌&&◌, ◌==◌, nat_lt, if◌then◌else◌, List, [], ◌∷◌, ◌++◌, All, length, drop, codes, decimal, Option, Some, None, unwrap_or, Result, Ok, Err}
use Rattle.std.specs.{List.list_any, Str.bytes_eq}
use Rattle.kp_bits.specs.Literals.{is_number, number_of}
use Rattle.kp_base.specs.Lines.{Piece, lines_of, words_of}
use Rattle.kp_ast.specs.declared.tree.Job.{Job}
use Rattle.kp_machine.specs.Slots.{Slot, targets_of, pipes_of, is_register}
use Rattle.kp_design.specs.{Spans.is_piped, Numbers.target_at}
use Rattle.kp_synth_registers.specs.Keys.{HasKey}
use Rattle.kp_synth_registers.specs.declared.key.Key.TheVariants as keys
use Rattle.kp_core_ports.specs.declared.port.Ask.{Ask}
use Rattle.kp_core_ports.specs.declared.port.Ask.TheVariants.{Show, Peek, Load, Probe, Next, Commit}
use Rattle.kp_core_ports.specs.declared.port.{Port.Port, Verb.Verb, TargetVerb.TargetVerb, PipeVerb.PipeVerb, PortRule.PortRule, PortRefusal.PortRefusal}
use Rattle.kp_core_ports.specs.Rules.{broken}
use Rattle.kp_core_ports.specs.declared.port.Verb.TheVariants as verbs
use Rattle.kp_core_ports.specs.declared.port.TargetVerb.TheVariants as targets
use Rattle.kp_core_ports.specs.declared.port.PipeVerb.TheVariants as pipes
use Rattle.kp_core_ports.specs.declared.port.PortRule.TheVariants as port_rules

-- P1, P2 and P3
abbrev pub rule_number : PortRule → ℕ
rule_number port_rules.Form = 1
rule_number port_rules.Taken = 1
rule_number port_rules.NoRegister = 2
rule_number port_rules.NoFile = 2
rule_number port_rules.NoPipe = 2
rule_number port_rules.NoStage = 3

-- ---- tokens

-- the bytes before `//`
abbrev pub begins_comment : List ℕ → Bool
begins_comment (a ∷ b ∷ rest) = a == 47 && b == 47
begins_comment _ = false

abbrev pub uncommented : List ℕ → List ℕ
uncommented [] = []
uncommented (c ∷ cs) = if begins_comment (c ∷ cs) then [] else c ∷ uncommented cs

-- the tokens of a line without its comment
abbrev pub tokens_of : Piece → List Piece
tokens_of line = words_of (record { at = line.at; bytes = uncommented line.bytes })

abbrev pub verb_of : List ℕ → Option Verb
verb_of word =
    if bytes_eq word (codes "show") then Some (verbs.Target targets.Show) else (if bytes_eq word (codes "peek") then Some (verbs.Target targets.Peek)
    else (if bytes_eq word (codes "load") then Some (verbs.Target targets.Load) else (if bytes_eq word (codes "probe") then Some (verbs.Pipe pipes.Probe)
    else (if bytes_eq word (codes "next") then Some (verbs.Pipe pipes.Next) else (if bytes_eq word (codes "commit") then Some verbs.Commit else None)))))

-- the stage that digits denote; a number of more than 64 bits is no stage, and neither is 0
abbrev pub stage_of : List ℕ → ℕ
stage_of digits = unwrap_or (number_of digits) 0

-- ---- the names of ports

-- how the name of a port begins: `o_R`, `p_F`, `l_F`, `o_P_k`, `d_P_k` and `commit`. A line that asks for p_F or l_F also asks for pa_F, or for le_F and
-- la_F, which no other line asks for.
abbrev pub prefix_of : Verb → List ℕ
prefix_of (verbs.Target targets.Show) = codes "o_"
prefix_of (verbs.Target targets.Peek) = codes "p_"
prefix_of (verbs.Target targets.Load) = codes "l_"
prefix_of (verbs.Pipe pipes.Probe) = codes "o_"
prefix_of (verbs.Pipe pipes.Next) = codes "d_"
prefix_of verbs.Commit = codes "commit"

abbrev pub verb_for : Ask → Verb
verb_for (Show t) = verbs.Target targets.Show
verb_for (Peek t) = verbs.Target targets.Peek
verb_for (Load t) = verbs.Target targets.Load
verb_for (Probe x k) = verbs.Pipe pipes.Probe
verb_for (Next x k) = verbs.Pipe pipes.Next
verb_for Commit = verbs.Commit

-- what follows: the name of the register or the file, or that of the pipe with the stage
abbrev pub pipe_label : List ℕ → ℕ → List ℕ
pipe_label name k = name ++ (codes "_" ++ decimal k)

-- one of the ports has this name
abbrev pub is_named : Verb → List ℕ → Port → Bool
is_named verb label p = bytes_eq (prefix_of (verb_for p.ask)) (prefix_of verb) && bytes_eq p.label label

abbrev pub is_there : List Port → Verb → List ℕ → Bool
is_there ports verb label = list_any (is_named verb label) ports

-- a port with a name that isn't there yet
abbrev pub fresh : List ℕ → List Port → ℕ → Verb → List ℕ → Result Port PortRefusal → Result Port PortRefusal
fresh text ports at verb label next = if is_there ports verb label then broken text port_rules.Taken at else next

-- ---- registers, files and pipes

-- a target is a register, or a file, by the width of its addresses
abbrev pub is_of : Bool → ℕ → Bool
is_of true address = address == 0
is_of false address = not (address == 0)

-- the number of the register, or of the file, with this name, among targets the first of which has number n
abbrev pub target_from : Bool → ℕ → List Slot → List ℕ → Option ℕ
target_from register n [] name = None
target_from register n (s ∷ ss) name = if bytes_eq s.name name && is_of register s.address then Some n else target_from register (n + 1) ss name

-- the number of the pipe with this name
abbrev pub pipe_from : ℕ → List Slot → List ℕ → Option ℕ
pipe_from n [] name = None
pipe_from n (s ∷ ss) name = if bytes_eq s.name name then Some n else pipe_from (n + 1) ss name

-- a stage holds a pipe; stage 0 has no registers
abbrev pub is_held : Job → ℕ → ℕ → Bool
is_held job x k = nat_lt 0 k && (nat_lt k job.stages.value && is_piped job x k)

-- ---- a line

-- `show R`, `peek F`, `load F`
abbrev pub asks_register : TargetVerb → Bool
asks_register targets.Show = true
asks_register _ = false

abbrev pub target_ask : TargetVerb → ℕ → Ask
target_ask targets.Show t = Show t
target_ask targets.Peek t = Peek t
target_ask targets.Load t = Load t

abbrev pub no_target : TargetVerb → PortRule
no_target targets.Show = port_rules.NoRegister
no_target _ = port_rules.NoFile

abbrev pub target_port : List ℕ → TargetVerb → Piece → Option ℕ → Result Port PortRefusal
target_port text verb name None = broken text (no_target verb) name.at
target_port text verb name (Some t) = Ok (record { ask = target_ask verb t; label = name.bytes })

abbrev pub of_target : Job → List ℕ → List Port → ℕ → TargetVerb → List Piece → Result Port PortRefusal
of_target job text ports at verb (name ∷ []) =
    fresh text ports at (verbs.Target verb) name.bytes (target_port text verb name (target_from (asks_register verb) 0 (targets_of job.decls) name.bytes))
of_target job text ports at verb _ = broken text port_rules.Form at

-- `probe P at k`, `next P at k`
abbrev pub pipe_ask : PipeVerb → ℕ → ℕ → Ask
pipe_ask pipes.Probe x k = Probe x k
pipe_ask pipes.Next x k = Next x k

abbrev pub pipe_port : Job → List ℕ → PipeVerb → Piece → Piece → Option ℕ → Result Port PortRefusal
pipe_port job text verb name stage None = broken text port_rules.NoPipe name.at
pipe_port job text verb name stage (Some x) =
    if is_held job x (stage_of stage.bytes) then Ok (record { ask = pipe_ask verb x (stage_of stage.bytes); label = pipe_label name.bytes (stage_of stage.bytes) })
    else broken text port_rules.NoStage stage.at

abbrev pub of_pipe : Job → List ℕ → List Port → ℕ → PipeVerb → List Piece → Result Port PortRefusal
of_pipe job text ports at verb (name ∷ word ∷ stage ∷ []) =
    if bytes_eq word.bytes (codes "at") && is_number stage.bytes
    then fresh text ports at (verbs.Pipe verb) (pipe_label name.bytes (stage_of stage.bytes)) (pipe_port job text verb name stage (pipe_from 0 (pipes_of job.decls) name.bytes))
    else broken text port_rules.Form at
of_pipe job text ports at verb _ = broken text port_rules.Form at

-- `commit`
abbrev pub of_commit : List ℕ → List Port → ℕ → List Piece → Result Port PortRefusal
of_commit text ports at [] = fresh text ports at verbs.Commit [] (Ok (record { ask = Commit; label = [] }))
of_commit text ports at _ = broken text port_rules.Form at

abbrev pub port_by : Job → List ℕ → List Port → ℕ → Option Verb → List Piece → Result Port PortRefusal
port_by job text ports at None args = broken text port_rules.Form at
port_by job text ports at (Some (verbs.Target verb)) args = of_target job text ports at verb args
port_by job text ports at (Some (verbs.Pipe verb)) args = of_pipe job text ports at verb args
port_by job text ports at (Some verbs.Commit) args = of_commit text ports at args

-- what the tokens of a line ask for, after these ports, if it has any tokens
abbrev pub port_in : Job → List ℕ → List Port → List Piece → Option (Result Port PortRefusal)
port_in job text ports [] = None
port_in job text ports (verb ∷ args) = Some (port_by job text ports verb.at (verb_of verb.bytes) args)

-- ---- all lines

-- a line, and then those after it
abbrev pub with_line : List Port → Option (Result Port PortRefusal) → (List Port → Result (List Port) PortRefusal) → Result (List Port) PortRefusal
with_line ports None rest = rest ports
with_line ports (Some (Err refusal)) rest = Err refusal
with_line ports (Some (Ok port)) rest = rest (ports ++ port ∷ [])

abbrev pub ports_from : Job → List ℕ → List Port → List Piece → Result (List Port) PortRefusal
ports_from job text ports [] = Ok ports
ports_from job text ports (line ∷ lines) = with_line ports (port_in job text ports (tokens_of line)) (λ more. ports_from job text more lines)

-- The ports that the lines from this offset of a text on ask for.
unfoldable pub ports_of : Job → List ℕ → ℕ → Result (List Port) PortRefusal
ports_of job text from = ports_from job text [] (lines_of (record { at = from; bytes = drop from text }))

-- What a port shows or takes exists: its register, its file, or the register of its pipe.
abbrev pub Exists : Job → Ask → Type 0
Exists job (Show t) = (t < length (targets_of job.decls)) × (is_register (target_at job t) ≡ true)
Exists job (Peek t) = (t < length (targets_of job.decls)) × (is_register (target_at job t) ≡ false)
Exists job (Load t) = (t < length (targets_of job.decls)) × (is_register (target_at job t) ≡ false)
Exists job (Probe x k) = HasKey job (keys.Pipe x k)
Exists job (Next x k) = HasKey job (keys.Pipe x k)
Exists job Commit = Unit {0}

abbrev pub AllExist : Job → List Port → Type 0
AllExist job ports = All (λ (p : Port). Exists job p.ask) ports
