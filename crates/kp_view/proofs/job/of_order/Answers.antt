use Rattle.std.proofs.{Common.◌∙◌, Common.◌≤◌, Common.sym, Common.ap, Common.arith, Common.true, lemmas.List.length-map}
use Rattle.std.specs.Prelude.{List, ℕ, length, string_bytes, ⊤}
use Rattle.kp_ast.specs.declared.tree.Job.{Job}
use Rattle.kp_run.proofs.Machines.{stages_fit}
use Rattle.kp_diagram_text.specs.Charts.{are_names}
use Rattle.kp_view_words.specs.Asked.{order_seen}
use Rattle.kp_view.proofs.Ends.{names_wrong}
use Rattle.kp_view.proofs.job.of_order.Goals as goal

pub overflow_cast-stages : goal.overflow_cast-stages
overflow_cast-stages g c =
    let few : c.job.result.now.stages.value ≤ 12 = rw c.job.ensures.job (stages_fit c.args.job.now.design.job c.job.ensures.sound.stages).1 in
    omega (arith, few)

pub with_labels-requires : goal.with_labels-requires
with_labels-requires g c =
    ap (λ (names : List (List ℕ)). are_names names c.args.job.now.design.job.stages.value) (sym c.names-names.ensures)
    ∙ rw c.job.ensures.job at (sym c.are_names.ensures ∙ c.if-are_names.true)

pub returns-then-are_names : goal.returns-then-are_names
returns-then-are_names g c = λ file. c.with_labels.ensures file

pub returns-else-are_names : goal.returns-else-are_names
returns-else-are_names g c = λ file.
    let order = order_seen c.args.order.now in
    names_wrong g.K.Sink.held g.K.Sink.faults file ⊤ order c.args.input.now c.args.job.now.design.job _ _ c.args.out.now
    (ap (λ (names : List (List ℕ)). are_names names c.args.job.now.design.job.stages.value) (sym c.names-names.ensures)
    ∙ rw c.job.ensures.job at (sym c.are_names.ensures ∙ c.if-are_names.false))
    (sym (length-map c.names-names.result.now string_bytes) ∙ ap (λ (names : List (List ℕ)). length names) c.names-names.ensures)
    (ap (λ (j : Job). j.stages.value) c.job.ensures.job)
