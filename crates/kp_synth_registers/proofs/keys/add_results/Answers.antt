use Rattle.std.proofs.Common.{◌∙◌, List, [], ◌∷◌, ◌++◌, cond, ap, arith}
use Rattle.kp_machine.specs.Slots.{targets_of}
use Rattle.kp_design.specs.Numbers.{no_slot}
use Rattle.kp_synth_registers.specs.declared.key.Key.{Key, TheVariants.Value}
use Rattle.kp_synth_registers.proofs.{Listed.results, Steps.turn, Steps.done, Steps.both_kept}
use Rattle.kp_synth_registers.proofs.keys.add_results.Goals as goal

pub loop-t-preserved : goal.loop-t-preserved
loop-t-preserved c =
    turn _ (results c.args.layout.now c.args.stage) (targets_of c.args.layout.now.decls) no_slot c.loop-t.keys.items _ c.loop-t.t _ c.is_stored-is_stored.result (omega (arith, c.loop-t-test.true, c.target_count-t-end.ensures))
    c.is_stored-is_stored.ensures
    (c.in_ok-add_if-2.ensures ∙ ap (λ (zs : List Key). zs ++ cond c.is_stored-is_stored.result (Value c.loop-t.t c.args.stage ∷ []) []) c.in_ok-add_if.ensures ∙ both_kept c.is_stored-is_stored.result c.loop-t.keys.items _ _) c.loop-t.invariant

pub returns : goal.returns
returns c = done _ (results c.args.layout.now c.args.stage) (targets_of c.args.layout.now.decls) no_slot c.loop-t.keys.items _ c.loop-t.t (omega (arith, c.loop-t-test.false, c.target_count-t-end.ensures)) c.loop-t.invariant
