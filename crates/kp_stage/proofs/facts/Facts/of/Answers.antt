use Rattle.std.proofs.Common.{◌∙◌, refl, ap, None, []}
use Rattle.kp_stage.specs.Facts.{largest}
use Rattle.kp_stage.specs.inner.Tables.{look_up, between, none_named, decls_noted, blocks_noted}
use Rattle.kp_stage.proofs.Noted.{facts_fit}
use Rattle.kp_stage.proofs.facts.Facts.of.Goals as goal

pub returns : goal.returns
returns c =
    let job = c.args.job.now in
    let named = c.in_ok-named.named in
    facts_fit job (record { stages = job.stages.value; named = named; given = c.in_ok-given.given; top = c.top_of-top.result }) refl
    (c.in_ok-named.ensures ∙ ap (decls_noted none_named 0) c.as_slice-decls.ensures)
    (c.in_ok-given.ensures ∙ ap (blocks_noted (between (λ q. None) (λ q. None) []) 0) c.as_slice-blocks.ensures)
    (c.top_of-top.ensures ∙ ap (largest (look_up named.writes) 0) c.as_slice-blocks.ensures)
