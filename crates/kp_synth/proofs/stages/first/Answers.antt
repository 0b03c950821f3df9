use Rattle.std.proofs.Common.{List, sym, subst}
use Rattle.kp_synth_registers.specs.declared.outcome.Outcome.{Outcome}
use Rattle.kp_build.specs.Names.{Scope}
use Rattle.kp_synth.{specs.inner.Descending.SayFrom, specs.inner.Descending.NamedFrom, proofs.Naming.named_from_kept, specs.Stages.own_room, proofs.Spoken.say_from_kept}
use Rattle.kp_synth.proofs.stages.first.Goals as goal

pub returns-clause-says : goal.returns-clause-says
returns-clause-says c =
    subst (λ (os : List Outcome). SayFrom c.args.layout.now c.stage_in.new.pool 0 os) (sym c.in_ok-put_first.ensures.outcomes)
    (c.in_ok-built.ensures.says, say_from_kept c.args.layout.now c.args.pool.now c.stage_in.new.pool (own_room c.args.layout.now 0) 1 c.args.stages.now.outcomes.items c.in_ok-built.ensures.added.kept c.requires.says)

pub returns-clause-names : goal.returns-clause-names
returns-clause-names c =
    subst (λ (envs : List Scope). NamedFrom c.args.layout.now c.stage_in.new.pool 0 envs) (sym c.in_ok-put_first.ensures.names)
    (c.in_ok-built.ensures.names, named_from_kept c.args.layout.now c.args.pool.now c.stage_in.new.pool (own_room c.args.layout.now 0) 1 c.args.stages.now.names.items c.in_ok-built.ensures.added.kept c.requires.names)
