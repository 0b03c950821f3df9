use Rattle.std.proofs.Common.{◌≡◌, ◌==◌, map, take}
use Rattle.clap.specs.Words.{app_of}
use Rattle.kp_command_line.specs.{Words.name_seen, inner.Programs.program_of}
use Rattle.kp_command_line.proofs.command.Given as goal

abbrev pub invariant-loop-name : goal.invariant-loop-name
invariant-loop-name l =
    app_of l.command ≡ program_of l.program l.most (l.name-index == 0) (map name_seen (take l.name-index l.names))
