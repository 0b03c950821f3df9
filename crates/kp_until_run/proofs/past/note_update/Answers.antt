use Rattle.std.proofs.Common.{◌∙◌, sym, subst, arith}
use Rattle.std.proofs.lemmas.Nat.{pow_pos}
use Rattle.kp_net.specs.Parts.{no_file}
use Rattle.std.proofs.Common.{get_or}
use Rattle.kp_run.specs.Places.{IsPlace, words_at}
use Rattle.kp_until_run.proofs.Histories.{is_update}
use Rattle.kp_until_run.proofs.past.note_update.Goals as goal

pub changed_in-address-requires : goal.changed_in-address-requires
changed_in-address-requires c = record {
  files = λ f words is.
      let p = subst (IsPlace c.args.sim.now.net) is c.requires.place in
      let b = pow_pos (get_or c.args.sim.now.net.parts.files f no_file).address_width in
      (omega (arith, p.0, c.requires.files), omega (arith, p.1, b));
}

pub returns-then-moves-clause-remembers : goal.returns-then-moves-clause-remembers
returns-then-moves-clause-remembers c on f is others here =
    c.update.ensures.remembers f (words_at c.args.place) is
    (is_update f (words_at c.args.place) c.args.history.now.count c.changed_in-address.result c.word-value.result
    (λ a low other. others a low (c.changed_in-address.ensures.others a low other))
    (λ low. here c.changed_in-address.result low ∙ sym c.word-value.ensures))
