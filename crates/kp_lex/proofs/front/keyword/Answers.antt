use Rattle.std.{proofs.Common.◌∙◌, proofs.Common.ap, specs.Prelude.find, specs.Str.bytes_eq}
use Rattle.kp_lex.specs.Words.{spelling}
use Rattle.kp_lex.proofs.Lengths.{found_by_length}
use Rattle.kp_lex.proofs.front.keyword.Goals as goal

pub returns : goal.returns
returns c = c.keyword_among.ensures ∙ ap (λ ks. find (λ k. bytes_eq c.args.run.now (spelling k)) ks) c.of_length.ensures ∙ found_by_length c.args.run.now
