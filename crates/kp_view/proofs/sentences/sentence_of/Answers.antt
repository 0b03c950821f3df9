use Rattle.std.proofs.Common.{refl}
use Rattle.kp_view.{specs.declared.sentences.TheConstants.SENTENCES, proofs.Tables.found, proofs.Tables.missing}
use Rattle.kp_view.proofs.sentences.sentence_of.Goals as goal

pub returns-in-Some : goal.returns-in-Some
returns-in-Some c =
    found c.in-Some.sentence.now c.as_slice.result.now _ SENTENCES (λ s. s.now) (λ s. s.now) c.from.result c.args.number c.from.ensures
    c.in-Some.ensures.lookup.3.0 c.in-Some.ensures.lookup.1 c.as_slice.ensures refl

pub returns-in-None : goal.returns-in-None
returns-in-None c =
    missing c.as_slice.result.now _ SENTENCES (λ s. s.now) c.from.result c.args.number c.from.ensures c.in-None.ensures.lookup.3 c.as_slice.ensures refl
