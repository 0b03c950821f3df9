use Rattle.std.proofs.Common.{◌≡◌, ◌∷◌, [], List, length, length-append, refl, sym, ap, subst, arith}
use Rattle.kp_machine.specs.Slots.{targets_of}
use Rattle.kp_synth_stage.specs.declared.row.Source.{Source}
use Rattle.kp_synth.proofs.Entered.{AllBare, none_bare, one_bare, bare_ok, bare_few, bare_sees}
use Rattle.kp_synth.proofs.stage_inputs.sources_in.Goals as goal

pub loop-t-init : goal.loop-t-init
loop-t-init c = record {
  count = ap length c.new-sources.ensures.items;
  bare = subst (λ (ss : List Source). AllBare c.args.layout.now c.args.pool.now ss) (sym c.new-sources.ensures.items) (none_bare c.args.layout.now c.args.pool.now);
  registers = refl;
  few = omega arith;
}

pub loop-t-preserved : goal.loop-t-preserved
loop-t-preserved c =
    let ss : List Source = c.loop-t.sources.items in
    let s : Source = c.source_of.result in
    let v = c.loop-t.invariant in
    let items = c.in_ok-push.ensures.items in
    record {
      count = (let e = ap length items in let m = length-append ss (s ∷ []) in let z = v.count in omega (arith, e, m, z));
      bare = subst (λ (xs : List Source). AllBare c.args.layout.now c.args.pool.now xs) (sym items) (one_bare c.args.layout.now c.args.pool.now ss s c.loop-t.t v.count v.bare c.source_of.ensures);
      registers = c.registers_with-registers.ensures.registers;
      few = c.registers_with-registers.ensures.few;
    }

pub returns-clause-sources : goal.returns-clause-sources
returns-clause-sources c =
    let n : length c.loop-t.sources.items ≡ length (targets_of c.args.layout.now.decls) = (let z = c.loop-t.invariant.count in let e = c.target_count-t-end.ensures in omega (arith, z, e)) in
    bare_ok c.args.layout.now c.args.pool.now c.loop-t.sources.items n c.loop-t.invariant.bare

pub returns-clause-few : goal.returns-clause-few
returns-clause-few c = bare_few c.args.layout.now c.args.pool.now c.loop-t.sources.items c.loop-t.invariant.bare

pub returns-clause-sees : goal.returns-clause-sees
returns-clause-sees c =
    let n : length c.loop-t.sources.items ≡ length (targets_of c.args.layout.now.decls) = (let z = c.loop-t.invariant.count in let e = c.target_count-t-end.ensures in omega (arith, z, e)) in
    bare_sees c.args.layout.now c.args.pool.now c.loop-t.sources.items n c.loop-t.invariant.bare
