use Rattle.std.proofs.Common.{◌≡◌, ◌∙◌, ◌*◌, ◌+◌, ◌-◌, ℕ, List, Some, refl, ap, sym, subst, arith}
use Rattle.std.specs.Prelude.{slice_get}
use Rattle.kp_stage.specs.Sizes.{size_of_option, size_of_kind}
use Rattle.kp_machine.specs.Slots.{Slot, number_of}
use Rattle.kp_net.specs.Growth.{Wire}
use Rattle.kp_design.specs.Numbers.{target_at}
use Rattle.kp_synth_registers.proofs.Growth.{grown_added, added_then, added_more}
use Rattle.kp_synth_stage.{specs.Rows.SourceOk, specs.Rows.AskOk, specs.Doing.target_of, proofs.Binding.kept_same}
use Rattle.kp_synth_stage.proofs.Taking.{ReadRight, AskNodes, read_right, ask_nodes, source_there, put_there, read_gives, guess_kept}
use Rattle.kp_synth_stage.proofs.statement.read_nodes.Goals.{After-number_of-t, After-source_at-source, After-spare-spare}
use Rattle.kp_ast.specs.declared.tree.StmtKind.TheVariants as stmts
use Rattle.kp_synth_stage.proofs.statement.read_nodes.Goals as goal

right : (c : After-spare-spare) → ReadRight c.args.d.now.job c.args.k c.args.j c.args.r.now
right c = read_right c.args.d.now.job c.job-job.ensures.sound.names c.args.k c.args.j c.args.r.now c.requires.right

target : (c : After-number_of-t) → c.number_of-t.result ≡ target_of c.args.d.now.job.decls c.args.r.now
target c = c.number_of-t.ensures ∙ ap (λ (ss : List Slot). number_of ss c.args.r.now.target.name) (c.as_slice.ensures.value ∙ c.requires.slots.targets)

there : (c : After-source_at-source) → slice_get c.args.sources.now (target_of c.args.d.now.job.decls c.args.r.now) ≡ Some c.source_at-source.result.now
there c = subst (λ t. slice_get c.args.sources.now t ≡ Some c.source_at-source.result.now)
    (c.number_of-t.ensures ∙ ap (λ (ss : List Slot). number_of ss c.args.r.now.target.name) (c.as_slice.ensures.value ∙ c.requires.slots.targets)) c.source_at-source.ensures

asked : (c : After-number_of-t) → ReadRight c.args.d.now.job c.args.k c.args.j c.args.r.now
    → AskNodes c.args.d.now.job c.args.k c.args.j c.args.r.now c.args.pool.now c.value_if-3.new.pool c.args.env.now c.in_ok-address.address c.in_ok-when.when c.in_ok-guess.guess
asked c is =
    let a = c.in_ok-address.ensures in
    let w = c.in_ok-when.ensures in
    let g = c.in_ok-guess.ensures in
    ask_nodes c.args.d.now.job c.job-job.ensures.sound.names c.args.k c.args.j c.args.r.now is c.args.pool.now c.value_if.new.pool c.value_if-2.new.pool c.value_if-3.new.pool _ _ _ a.grown.kept w.grown.kept g.grown.kept
    c.args.env.now c.requires.env c.spare-spare.ensures.right a.right w.right c.in_ok-address.address c.in_ok-when.when c.in_ok-guess.guess a.wire w.wire g.wire a.gives w.gives g.gives

pub value_if-requires-clause-right : goal.value_if-requires-clause-right
value_if-requires-clause-right c = (right (goal.at.value_if-requires-clause-right c).After-spare-spare).address

pub value_if-requires-2-clause-right : goal.value_if-requires-2-clause-right
value_if-requires-2-clause-right c = (right (goal.at.value_if-requires-2-clause-right c).After-spare-spare).when

pub value_if-requires-3-clause-right : goal.value_if-requires-3-clause-right
value_if-requires-3-clause-right c = (right (goal.at.value_if-requires-3-clause-right c).After-spare-spare).guess

pub source_at-source-requires : goal.source_at-source-requires
source_at-source-requires c =
    let at = goal.at.source_at-source-requires c in
    omega (arith, target at.After-number_of-t, (right at.After-spare-spare).inside, c.requires.sources.count)

pub read_source-requires : goal.read_source-requires
read_source-requires c =
    let job = c.args.d.now.job in
    let at = goal.at.read_source-requires c in
    let is = right at.After-spare-spare in
    let e = target at.After-number_of-t in
    let q = c.value_if-3.new.pool in
    let nodes = asked at.After-number_of-t is in
    let source = c.source_at-source.result.now in
    record {
      room = omega (arith, c.in_ok-address.ensures.grown.kept.room, c.in_ok-when.ensures.grown.kept.room, c.in_ok-guess.ensures.grown.kept.room);
      target = omega (arith, e, is.inside);
      source = subst (λ t. SourceOk job q t source) (sym e) (source_there job c.args.k c.args.j c.args.r.now is.inside c.args.pool.now q q _ (kept_same q) c.args.env.now _ _ _ nodes c.args.sources.now c.requires.sources source (there at.After-source_at-source));
      address = subst (λ t. AskOk q (target_at job t).address c.in_ok-address.address) (sym e) nodes.address;
      when = nodes.when;
      guess = put_there job c.args.k c.args.j c.args.r.now is.inside c.args.pool.now q q _ (kept_same q) c.args.env.now _ _ _ nodes c.args.sources.now c.requires.sources source (there at.After-source_at-source);
    }

pub returns : goal.returns
returns c =
    let job = c.args.d.now.job in
    let at = goal.at.returns c in
    let is = right at.After-spare-spare in
    let nodes = asked at.After-number_of-t is in
    let found = there at.After-source_at-source in
    let source = c.source_at-source.result.now in
    let q = c.value_if-3.new.pool in
    let z = c.read_source.new.pool in
    let got = c.in_ok-got in
    let m : ℕ = 20 * job.stages.value - 4 in
    let w = (source_there job c.args.k c.args.j c.args.r.now is.inside c.args.pool.now q z m got.ensures.added.kept c.args.env.now _ _ _ nodes c.args.sources.now c.requires.sources source found).width in
    let x : ℕ = 8 * size_of_option job.decls c.args.r.now.address in
    let y : ℕ = 8 * size_of_option job.decls c.args.r.now.when in
    let g : ℕ = 8 * size_of_option job.decls c.args.r.now.guess in
    record {
      value_wire = subst (Wire z got.got.value) w got.ensures.value_wire;
      lacks_wire = got.ensures.lacks_wire;
      guess = guess_kept q z m _ c.args.r.now.guess c.in_ok-guess.guess got.ensures.added.kept nodes.guess;
      gives = read_gives job c.args.k c.args.j c.args.r.now is.inside c.args.pool.now q z m got.ensures.added.kept c.args.env.now _ _ _ nodes c.args.sources.now c.requires.sources source found
          (record { value = got.got.value; lacks = got.got.lacks; guess = c.in_ok-guess.guess }) refl got.ensures.value got.ensures.lacks;
      added = added_more job c.args.pool.now z (((x + y) + g) + m) (8 * size_of_kind job.decls (stmts.Read c.args.r.now) + m)
          (added_then job _ _ _ ((x + y) + g) m (added_then job _ _ _ (x + y) g (added_then job _ _ _ x y (grown_added job _ _ _ c.in_ok-address.ensures.grown) (grown_added job _ _ _ c.in_ok-when.ensures.grown)) (grown_added job _ _ _ c.in_ok-guess.ensures.grown)) got.ensures.added) (omega arith);
    }
