use Rattle.std.proofs.{Common.◌∙◌, Common.sym, Common.ap, Common.arith, Common.get_or, Common.List, lemmas.List.drop_all}
use Rattle.kp_ast.specs.declared.tree.Image.{Image}
use Rattle.kp_stage.specs.Start.{laid_over}
use Rattle.kp_image.proofs.Loops.{words_from_start}
use Rattle.kp_image.proofs.state.file_words.Goals as goal

pub returns : goal.returns
returns c =
    let name = c.args.name.now in
    let words = c.loop-e.words.items in
    words_from_start c.args.entries.now name words c.args.count (omega (arith, c.loop-e.words.ok.0, c.loop-e.invariant.0))
    (λ k h. sym (ap (λ (es : List Image). laid_over es name k (get_or words k 0)) (drop_all c.loop-e.e-index c.args.entries.now (omega arith))) ∙ c.loop-e.invariant.1 k h)
