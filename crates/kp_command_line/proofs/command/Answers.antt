use Rattle.std.proofs.lemmas.List.{map_more}
use Rattle.kp_command_line.{specs.Words.name_seen, proofs.Parses.added}
use Rattle.kp_command_line.proofs.command.Goals as goal

pub loop-name-preserved : goal.loop-name-preserved
loop-name-preserved c =
    added c.args.program.now c.args.most c.loop-name.name-index _ _ _ _ _ c.in_ok-command-2.ensures c.loop-name.invariant
    (map_more name_seen c.args.names.now c.loop-name.name-index _ c.loop-name-test.true)
