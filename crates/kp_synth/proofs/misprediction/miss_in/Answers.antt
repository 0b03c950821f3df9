use Rattle.std.proofs.Common.{◌≡◌, ℕ, ◌+◌, ◌*◌, length, ap, subst, arith}
use Rattle.kp_synth_registers.{specs.Meaning.Added, proofs.Growth.test_kept, proofs.Growth.grown_added, proofs.Growth.added_then, proofs.Growth.ready_kept}
use Rattle.kp_synth_stage.proofs.Nearest.{sources_kept}
use Rattle.kp_synth.proofs.{Stalling.sees_above_kept, Wrong.no_misses, Wrong.all_misses, Wrong.guess_step, Wrong.guess_left}
use Rattle.kp_synth.specs.Stages.{guess_room}
use Rattle.kp_design.specs.Numbers.{guesses_of}
use Rattle.kp_synth.proofs.misprediction.miss_in.Goals as goal

pub loop-g-init : goal.loop-g-init
loop-g-init c =
    let none : 1 ≡ guess_room c.args.layout.now 0 + 1 = omega arith in
    record {
      wire = c.bit-miss.ensures.wire;
      misses = no_misses c.args.layout.now c.bit-miss.new.pool c.args.k c.bit-miss.result c.bit-miss.ensures.value;
      added = subst (λ m. Added c.args.layout.now c.args.pool.now c.bit-miss.new.pool m) none (grown_added c.args.layout.now c.args.pool.now c.bit-miss.new.pool 1 c.bit-miss.ensures.grown);
    }

pub with_guess-requires-clause-sources : goal.with_guess-requires-clause-sources
with_guess-requires-clause-sources c = sources_kept c.args.layout.now c.args.pool.now c.loop-g.pool (guess_room c.args.layout.now c.loop-g.g + 1) c.args.sources.now c.loop-g.invariant.added.kept c.requires.sources

pub with_guess-requires-clause-sees : goal.with_guess-requires-clause-sees
with_guess-requires-clause-sees c =
    sees_above_kept _ _ _ _ c.args.sources.now c.args.k c.loop-g.invariant.added.kept c.requires.sources c.requires.sees

pub with_guess-requires-clause-is_test : goal.with_guess-requires-clause-is_test
with_guess-requires-clause-is_test c = test_kept c.args.layout.now c.args.pool.now c.loop-g.pool (guess_room c.args.layout.now c.loop-g.g + 1) 1 c.args.full _ c.loop-g.invariant.added.kept c.requires.full c.requires.is_test

pub returns-clause-is_test : goal.returns-clause-is_test
returns-clause-is_test c = all_misses c.args.layout.now c.loop-g.pool c.args.k c.loop-g.g c.loop-g.miss c.requires.stage (let e = ap length c.guesses-g-end.ensures in omega (arith, e)) c.loop-g.invariant.misses

pub with_guess-requires-clause-room : goal.with_guess-requires-clause-room
with_guess-requires-clause-room c =
    let left = guess_left c.args.layout.now c.loop-g.g (length (guesses_of c.args.layout.now)) (omega (arith, ap length c.guesses-g-end.ensures, c.loop-g-test.true)) in
    omega (arith, left, c.loop-g.invariant.added.kept.room, c.requires.room)

pub loop-g-preserved : goal.loop-g-preserved
loop-g-preserved c =
    let job = c.args.layout.now in
    let g : ℕ = c.loop-g.g in
    let around : guess_room job g + 1 + 20 * job.stages.value ≡ guess_room job (g + 1) + 1 = (let e = guess_step job g in omega (arith, e)) in
    record {
      wire = c.in_ok-miss.ensures.wire;
      misses = c.in_ok-miss.ensures.misses;
      added = subst (λ m. Added job c.args.pool.now c.with_guess.new.pool m) around
          (added_then job c.args.pool.now c.loop-g.pool c.with_guess.new.pool (guess_room job g + 1) (20 * job.stages.value) c.loop-g.invariant.added c.in_ok-miss.ensures.added);
    }

pub with_guess-requires-clause-ready : goal.with_guess-requires-clause-ready
with_guess-requires-clause-ready c = ready_kept c.args.layout.now c.args.pool.now c.loop-g.pool (guess_room c.args.layout.now c.loop-g.g + 1) c.args.reads.now c.loop-g.invariant.added.kept c.requires.ready
