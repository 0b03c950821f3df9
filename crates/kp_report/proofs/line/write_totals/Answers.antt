use Rattle.std.proofs.Common.{◌≡◌, ℕ, List, ◌++◌, append_assoc, decimal, subst}
use Rattle.std.specs.Prelude.{codes}
use Rattle.kp_base.specs.Bytes.{Writes}
use Rattle.kp_report.specs.Line.{machine_words, run_words}
use Rattle.kp_report.proofs.line.write_totals.Goals as goal

split : (a b c d e f g h i j k l m n o : List ℕ) → a ++ (b ++ (c ++ (d ++ (e ++ (f ++ (g ++ (h ++ (i ++ (j ++ (k ++ (l ++ (m ++ (n ++ o)))))))))))))
    ≡ (((((a ++ b) ++ c) ++ d) ++ e) ++ f) ++ ((((((((g ++ h) ++ i) ++ j) ++ k) ++ l) ++ m) ++ n) ++ o)
split a b c d e f g h i j k l m n o = simp append_assoc

pub returns-clause-text : goal.returns-clause-text
unfolding machine_words run_words
returns-clause-text g c =
    let t = c.args.totals in
    subst (λ (text : List ℕ). Writes (g.K.Sink.held c.args.sink.now) (g.K.Sink.held c.put_pieces.new.sink) text c.put_pieces.result)
    (split (codes "gen ") (decimal c.args.number) (codes " stages ") (decimal t.stages) (codes " registers ") (decimal t.registers)
    (codes " cycles ") (decimal t.cycles) (codes " retired ") (decimal t.retired) (codes " waits ") (decimal t.waits) (codes " sum ") (decimal t.sum) (codes "\n"))
    c.put_pieces.ensures.text
