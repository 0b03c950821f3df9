use Rattle.std.proofs.Common.{◌≡◌, ◌∙◌, ◌*◌, ◌+◌, ◌-◌, ℕ, length, ap, arith}
use Rattle.kp_net.{specs.Nodes.Cells, specs.Nodes.at, specs.Nodes.on, proofs.Growing.grown_then, proofs.Growing.wire_kept}
use Rattle.kp_fwd.specs.Forward.{enable_on}
use Rattle.kp_synth_registers.{specs.Holding.optional, proofs.Growth.grown_added, proofs.Growth.added_then, proofs.Growth.added_more}
use Rattle.kp_synth_stage.specs.{Reading.given, Rows.asked, Rows.source_view}
use Rattle.kp_synth_stage.proofs.Nearest.{ask_inside, asked_kept, source_kept, source_view_kept, orzero_kept, lacks_is}
use Rattle.kp_design.specs.Numbers.{target_at}
use Rattle.kp_synth_stage.proofs.bypass.read_source.Goals as goal

pub source_truth-requires-clause-source : goal.source_truth-requires-clause-source
source_truth-requires-clause-source c =
    source_kept c.args.d.now.job c.args.pool.now c.value_or_zero-miss.new.pool 2 c.args.t c.args.source.now
    (grown_then c.args.pool.now c.condition-test.new.pool c.value_or_zero-miss.new.pool 1 1 c.condition-test.ensures.grown c.value_or_zero-miss.ensures.grown).kept c.requires.source

pub returns : goal.returns
returns c =
    let job = c.args.d.now.job in
    let p = c.args.pool.now in
    let q = c.value_or_zero-miss.new.pool in
    let r = c.source_truth.new.pool in
    let a : ℕ = (target_at job c.args.t).address in
    let both = grown_then p c.condition-test.new.pool q 1 1 c.condition-test.ensures.grown c.value_or_zero-miss.ensures.grown in
    let g = both.kept in
    let h = c.in_ok-found.ensures.added.kept in
    let t = c.condition-test.ensures.wire in
    let tq = wire_kept c.condition-test.new.pool q 1 c.condition-test.result 1 c.value_or_zero-miss.ensures.grown.kept t in
    let k : ℕ = 20 * length c.args.source.now.rows.items + 9 in
    let few = c.requires.source.few in
    let test : (y : Cells) → on y r.nodes c.condition-test.result.0 ≡ enable_on y p c.args.when
    = λ y. h.tests y c.condition-test.result.0 tq.inside ∙ c.value_or_zero-miss.ensures.grown.kept.tests y c.condition-test.result.0 t.inside ∙ c.condition-test.ensures.value y in
    let truth : (y : Cells) → optional (on y r.nodes c.in_ok-found.found.ok.0) (at y r.nodes c.in_ok-found.found.value.0) ≡ source_view y p c.args.source.now (asked y p c.args.address)
    = λ y. c.in_ok-found.ensures.value y ∙ ap (source_view y q c.args.source.now) (asked_kept p q 2 c.args.address g (ask_inside p a c.args.address c.requires.address) y)
    ∙ source_view_kept job y p q 2 c.args.t c.args.source.now (asked y p c.args.address) g c.requires.source in
    record {
      value_wire = c.taken.ensures.value_wire;
      lacks_wire = c.taken.ensures.lacks_wire;
      value = λ y.
          let miss = h.same y c.value_or_zero-miss.result.0 c.value_or_zero-miss.ensures.wire.inside ∙ c.value_or_zero-miss.ensures.value y
          ∙ orzero_kept y p c.condition-test.new.pool 1 c.args.source.now.width c.args.guess c.condition-test.ensures.grown.kept c.requires.guess in
          let when = test y in
          let found = truth y in
          c.taken.ensures.value y ∙ (λ i. given (when i) (found i) (miss i));
      lacks = λ y. lacks_is _ _ _ _ _ _ (c.taken.ensures.lacks y) (test y) (truth y);
      added = added_more job p c.taken.new.pool (2 + k + 5) (20 * job.stages.value - 4)
          (added_then job p r c.taken.new.pool (2 + k) 5 (added_then job p q r 2 k (grown_added job p q 2 both) c.in_ok-found.ensures.added) (grown_added job r c.taken.new.pool 5 c.taken.ensures.grown)) (omega arith);
    }
