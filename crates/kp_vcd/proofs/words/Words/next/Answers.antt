use Rattle.std.proofs.Common.{◌∙◌, ◌+◌, sym, ap, arith}
use Rattle.kp_vcd.{specs.inner.Left.Left, proofs.Left.next_word, proofs.Left.no_word, proofs.Left.same_end, proofs.Left.part_is, proofs.Left.within_is}
use Rattle.kp_vcd.proofs.words.Words.next.Goals as goal

pub returns-then-start-end-clause-none : goal.returns-then-start-end-clause-none
returns-then-start-end-clause-none c =
    ap (λ (l : Left). l.words) (sym c.self.view_is)
    ∙ no_word c.self.inside.text.now c.self.inside.at c.layout_length.result c.layout_length.ensures.value c.word_length.result c.word_length.ensures.value (omega arith)

pub returns-then-start-end-clause-end : goal.returns-then-start-end-clause-end
returns-then-start-end-clause-end c =
    same_end c.self.inside.text.now (c.self.inside.at + c.layout_length.result + c.word_length.result) c.self.inside.at
    ∙ ap (λ (l : Left). l.end) c.self.view_is

pub returns-clause-end : goal.returns-clause-end
returns-clause-end c =
    same_end c.self.inside.text.now (c.self.inside.at + c.layout_length.result + c.word_length.result) c.self.inside.at
    ∙ ap (λ (l : Left). l.end) c.self.view_is

pub returns-clause-some : goal.returns-clause-some
returns-clause-some c =
    ap (λ (l : Left). l.words) (sym c.self.view_is)
    ∙ next_word c.self.inside.text.now c.self.inside.at c.layout_length.result c.layout_length.ensures.value c.word_length.result c.word_length.ensures.value _ (part_is c.self.inside.text.now (c.self.inside.at + c.layout_length.result) c.word_length.result) (omega arith) (within_is c.self.inside.text.now (c.self.inside.at + c.layout_length.result) c.word_length.result c.word_length.ensures.within)
