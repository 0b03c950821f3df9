use Rattle.std.proofs.Common.{List, sym, subst, arith}
use Rattle.kp_machine.specs.Slots.{samples_of}
use Rattle.kp_net.{proofs.Growing.kept_then, proofs.Growing.wire_kept, specs.declared.node.NodeId.NodeId}
use Rattle.kp_synth_registers.proofs.Growth.{test_kept, grown_added, added_then, added_more, ready_kept}
use Rattle.kp_synth_stage.specs.Work.{SlotsHave}
use Rattle.kp_build.specs.Names.{Scope}
use Rattle.kp_synth.specs.{Known.Named, inner.Seeing.SamplesIn}
use Rattle.kp_synth.proofs.Spoken.{samples_have, samples_in, entered_kept, faces_kept, says_of}
use Rattle.kp_synth.proofs.pipeline_stage.stage_in.Goals as goal

pub miss_in-requires-clause-sources : goal.miss_in-requires-clause-sources
miss_in-requires-clause-sources c = (faces_kept _ _ _ _ _ _ _ c.in_ok-entered.ensures.grown.kept c.requires.faces).sources

pub miss_in-requires-clause-sees : goal.miss_in-requires-clause-sees
miss_in-requires-clause-sees c = (faces_kept _ _ _ _ _ _ _ c.in_ok-entered.ensures.grown.kept c.requires.faces).sees

pub ran-requires-clause-entered : goal.ran-requires-clause-entered
ran-requires-clause-entered c = entered_kept _ _ _ _ _ _ c.in_ok-miss.ensures.added.kept c.in_ok-entered.ensures.entered

pub ran-requires-clause-faces : goal.ran-requires-clause-faces
ran-requires-clause-faces c =
    faces_kept _ _ _ _ _ _ _ (kept_then _ _ _ _ _ c.in_ok-entered.ensures.grown.kept c.in_ok-miss.ensures.added.kept) c.requires.faces

pub returns-clause-says : goal.returns-clause-says
returns-clause-says c =
    let o = c.built_of.ensures in
    let r = c.in_ok-ran.ensures in
    let miss = c.in_ok-miss.ensures in
    says_of _ _ _ c.in_ok-ran.ran.work c.in_ok-ran.ran.stall c.in_ok-miss.miss c.built_of.result.outcome o.stall o.miss o.puts o.sets o.made o.aims r.fits r.computes r.wire r.stall
    (wire_kept _ _ _ _ _ r.added.kept miss.wire) (test_kept _ _ _ _ 1 _ _ r.added.kept miss.wire miss.is_test)

pub returns-clause-added : goal.returns-clause-added
returns-clause-added c =
    let entered = grown_added c.args.layout.now _ _ _ c.in_ok-entered.ensures.grown in
    added_more _ _ _ _ _ (added_then _ _ _ _ _ _ (added_then _ _ _ _ _ _ entered c.in_ok-miss.ensures.added) c.in_ok-ran.ensures.added) (omega arith)

pub ran-requires-clause-samples : goal.ran-requires-clause-samples
ran-requires-clause-samples c =
    subst (λ (ns : List NodeId). SlotsHave c.miss_in.new.pool (samples_of c.args.layout.now.decls) ns) (sym c.as_slice.ensures)
    (samples_have _ _ _ _ _ (kept_then _ _ _ _ _ c.in_ok-entered.ensures.grown.kept c.in_ok-miss.ensures.added.kept) c.requires.ready)

pub ran-requires-clause-samples_in : goal.ran-requires-clause-samples_in
ran-requires-clause-samples_in c =
    subst (λ (ns : List NodeId). SamplesIn c.args.layout.now c.miss_in.new.pool ns) (sym c.as_slice.ensures)
    (samples_in _ _ _ _ _ (kept_then _ _ _ _ _ c.in_ok-entered.ensures.grown.kept c.in_ok-miss.ensures.added.kept) c.requires.ready)

pub miss_in-requires-clause-ready : goal.miss_in-requires-clause-ready
miss_in-requires-clause-ready c = ready_kept _ _ _ _ _ c.in_ok-entered.ensures.grown.kept c.requires.ready

pub returns-clause-names : goal.returns-clause-names
returns-clause-names c = subst (λ (env : Scope). Named c.args.layout.now c.ran.new.pool c.args.k env) (sym c.built_of.ensures.names) c.in_ok-ran.ensures.names
