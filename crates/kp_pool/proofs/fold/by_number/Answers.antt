use Rattle.std.proofs.Common.{ℕ, sym, ap, subst, ◌∙◌, ◌&&◌, leb}
use Rattle.kp_bits.specs.{Word.IsWord, Word.word, Operators.is_shift}
use Rattle.kp_pool.proofs.Folds.{zero_fits, shifted_out, right_wins, right_yields, undecided}
use Rattle.kp_pool.proofs.fold.by_number.Goals as goal

pub returns-then-is_past : goal.returns-then-is_past
returns-then-is_past c = λ k ok. shifted_out c.args.nodes.now k c.args.op c.args.a c.args.b c.args.right _ c.width_of-width.result c.requires.right ok c.requires.number c.width_of-width.ensures (sym c.is_past.ensures ∙ c.if-is_past.true) c.word_of.ensures

pub returns-in-Wins : goal.returns-in-Wins
returns-in-Wins c = λ k ok. right_wins c.args.nodes.now k c.args.op c.args.a c.args.b c.args.right c.requires.right ok c.requires.number c.in-Wins.ensures

pub returns-in-Yields : goal.returns-in-Yields
returns-in-Yields c = λ k ok. right_yields c.args.nodes.now k c.args.op c.args.a c.args.b c.args.right c.requires.right ok c.requires.number c.in-Yields.ensures

pub returns-in-Neither : goal.returns-in-Neither
returns-in-Neither c = λ k ok. undecided c.args.nodes.now k c.args.op c.args.a c.args.b c.args.right ok c.requires.left_open c.requires.number c.in-Neither.ensures (ap (λ (x : ℕ). is_shift c.args.op && leb x c.args.right.value) (sym c.width_of-width.ensures) ∙ sym c.is_past.ensures ∙ c.if-is_past.false)

pub word_of-requires : goal.word_of-requires
word_of-requires c =
    subst (λ (x : ℕ). IsWord (word x 0)) (sym c.width_of-width.ensures) (zero_fits c.args.nodes.now c.args.a c.requires.right c.requires.left_inside)
