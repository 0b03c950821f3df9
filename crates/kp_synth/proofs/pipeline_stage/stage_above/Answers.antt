use Rattle.std.proofs.Common.{List, Option, sym, subst, arith}
use Rattle.kp_net.proofs.Growing.{kept_then, wire_kept}
use Rattle.kp_synth_registers.specs.declared.outcome.Set.{Set}
use Rattle.kp_synth_registers.proofs.Growth.{test_kept, says_kept, grown_added, added_then, added_more, ready_kept}
use Rattle.kp_synth.{specs.inner.Whole.SetsMean, proofs.Naming.named_kept, proofs.Spoken.faces_kept, proofs.Spoken.sets_of, proofs.Following.faces_below}
use Rattle.kp_synth.proofs.pipeline_stage.stage_above.Goals as goal

pub add_rows-requires-clause-sources : goal.add_rows-requires-clause-sources
add_rows-requires-clause-sources c =
    (faces_kept _ _ _ _ _ _ _ (kept_then _ _ _ _ _ c.in_ok-built.ensures.added.kept c.full_in-full.ensures.grown.kept) c.requires.faces).sources

pub add_rows-requires-clause-few : goal.add_rows-requires-clause-few
add_rows-requires-clause-few c = c.requires.faces.few

pub add_rows-requires-clause-sets : goal.add_rows-requires-clause-sets
add_rows-requires-clause-sets c =
    subst (λ (ss : List (Option Set)). SetsMean c.args.layout.now c.full_in-full.new.pool c.args.k ss) (sym c.as_slice.ensures)
    (sets_of _ _ _ c.in_ok-built.built.outcome (says_kept _ _ _ _ _ _ c.full_in-full.ensures.grown.kept c.in_ok-built.ensures.says))

pub add_rows-requires-clause-halt_is_test : goal.add_rows-requires-clause-halt_is_test
add_rows-requires-clause-halt_is_test c = test_kept _ _ _ _ 1 _ _ c.full_in-full.ensures.grown.kept c.in_ok-built.ensures.says.stall_wire c.in_ok-built.ensures.says.stall

pub returns-clause-says : goal.returns-clause-says
returns-clause-says c = says_kept _ _ _ _ _ _ (kept_then _ _ _ _ _ c.full_in-full.ensures.grown.kept c.in_ok-add_rows.ensures.grown.kept) c.in_ok-built.ensures.says

pub returns-clause-faces : goal.returns-clause-faces
returns-clause-faces c = λ j e.
    let full = c.full_in-full.ensures.grown.kept in
    let rows = c.in_ok-add_rows.ensures in
    let says = c.in_ok-built.ensures.says in
    let h = kept_then _ _ _ _ _ full rows.grown.kept in
    faces_below _ c.args.k j _ _ _ _ _ c.in_ok-built.built.outcome.stall e c.requires.stage (faces_kept _ _ _ _ _ _ _ (kept_then _ _ _ _ _ c.in_ok-built.ensures.added.kept full) c.requires.faces)
    rows.sources (rows.few j e) rows.nearer (wire_kept _ _ _ _ _ h says.stall_wire) (test_kept _ _ _ _ 1 _ _ h says.stall_wire says.stall)

pub returns-clause-added : goal.returns-clause-added
returns-clause-added c =
    let full = grown_added c.args.layout.now _ _ _ c.full_in-full.ensures.grown in
    let rows = grown_added c.args.layout.now _ _ _ c.in_ok-add_rows.ensures.grown in
    added_more _ _ _ _ _ (added_then _ _ _ _ _ _ (added_then _ _ _ _ _ _ c.in_ok-built.ensures.added full) rows) (omega arith)

pub full_in-full-requires-clause-ready : goal.full_in-full-requires-clause-ready
full_in-full-requires-clause-ready c = ready_kept _ _ _ _ _ c.in_ok-built.ensures.added.kept c.requires.ready

pub add_rows-requires-clause-ready : goal.add_rows-requires-clause-ready
add_rows-requires-clause-ready c = ready_kept _ _ _ _ _ (kept_then _ _ _ _ _ c.in_ok-built.ensures.added.kept c.full_in-full.ensures.grown.kept) c.requires.ready

pub returns-clause-names : goal.returns-clause-names
returns-clause-names c = named_kept _ _ _ _ _ _ (kept_then _ _ _ _ _ c.full_in-full.ensures.grown.kept c.in_ok-add_rows.ensures.grown.kept) c.in_ok-built.ensures.names
