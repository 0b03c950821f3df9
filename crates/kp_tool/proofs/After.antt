-- The text after a job, with what is left of the job's own text before it, denotes the same netlist.
use Rattle.std.proofs.Common.{◌≡◌, ℕ, ◌+◌, ◌≤◌, List, [], ◌∷◌, ◌++◌, length, drop, sym, subst, arith, length-append, false}
use Rattle.std.proofs.lemmas.List.{drop-append-le}
use Rattle.kp_ast.specs.declared.tree.Job.{Job}
use Rattle.kp_net.specs.{Names.IsNamed, Netlist.Net, Parts.NetOk}
use Rattle.kp_lex.specs.Text.{gap_length}
use Rattle.kp_vlog.{specs.Denote.Denotes, proofs.Sound.denoted_named, proofs.Sound.denoted_right, proofs.Round.round_from}
use Rattle.kp_frontend.specs.Judging.{most_bytes}
use Rattle.kp_tool.{specs.Written.IsVerilogOf, proofs.Heads.EndsLine, proofs.Heads.ends_after, proofs.Skips.skip_gap}

-- ---- the text after the job

denotes_after : (gap text : List ℕ) (net : Net) (at : ℕ) → EndsLine gap → gap_length false gap ≡ length gap → Denotes (at + length gap) text net → Denotes at (gap ++ text) net
denotes_after [] text net at ends full denotes = subst (λ (k : ℕ). Denotes k text net) (let same : at + length {A = ℕ} [] ≡ at = omega arith in same) denotes
denotes_after (b ∷ rest) text net at ends full denotes = record {
  shown = denotes.shown;
  is = record {
    tokens = denotes.is.tokens;
    lexes = skip_gap text (length (b ∷ rest) + 1) b rest (omega arith) ends full at denotes.is.tokens denotes.is.lexes;
    sentence = denotes.is.sentence;
  };
  sound = denotes.sound;
  same_net = denotes.same_net;
}

module _ (input text : List ℕ) (job : Job) (verilog : IsVerilogOf job text) (ends : EndsLine input) (short : length (input ++ text) ≤ most_bytes) where
  pub reads_after : (rest : ℕ) → rest ≤ length input → gap_length false (drop rest input) ≡ length (drop rest input) → Denotes rest (drop rest (input ++ text)) verilog.net
  reads_after rest low full =
      let few : length text ≤ 16777216 = omega (arith, length-append input text, short) in
      let right : NetOk verilog.net = denoted_right 0 text verilog.net few verilog.denotes in
      let named : IsNamed verilog.net = denoted_named 0 text verilog.net verilog.denotes in
      let gap : List ℕ = drop rest input in
      subst (λ (x : List ℕ). Denotes rest x verilog.net) (sym (drop-append-le rest input text low))
      (denotes_after gap text verilog.net rest (ends_after rest input ends) full
      (subst (λ (x : List ℕ). Denotes (rest + length gap) x verilog.net) (sym verilog.canonical) (round_from (rest + length gap) verilog.net right named)))
