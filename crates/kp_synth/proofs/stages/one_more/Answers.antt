use Rattle.std.proofs.Common.{suc, List, sym, subst}
use Rattle.kp_synth_registers.specs.declared.outcome.Outcome.{Outcome}
use Rattle.kp_build.specs.Names.{Scope}
use Rattle.kp_synth.{specs.inner.Descending.SayFrom, specs.inner.Descending.NamedFrom, proofs.Naming.named_from_kept, specs.Stages.stage_room, proofs.Spoken.say_from_kept}
use Rattle.kp_synth.proofs.stages.one_more.Goals as goal

pub returns-clause-says : goal.returns-clause-says
returns-clause-says c =
    subst (λ (os : List Outcome). SayFrom c.args.layout.now c.stage_above.new.pool c.args.k os) (sym c.in_ok-put_first.ensures.outcomes)
    (c.in_ok-built.ensures.says, say_from_kept c.args.layout.now c.args.pool.now c.stage_above.new.pool (stage_room c.args.layout.now c.args.k) (suc c.args.k) c.args.stages.now.outcomes.items c.in_ok-built.ensures.added.kept c.requires.says)

pub returns-clause-names : goal.returns-clause-names
returns-clause-names c =
    subst (λ (envs : List Scope). NamedFrom c.args.layout.now c.stage_above.new.pool c.args.k envs) (sym c.in_ok-put_first.ensures.names)
    (c.in_ok-built.ensures.names, named_from_kept c.args.layout.now c.args.pool.now c.stage_above.new.pool (stage_room c.args.layout.now c.args.k) (suc c.args.k) c.args.stages.now.names.items c.in_ok-built.ensures.added.kept c.requires.names)
