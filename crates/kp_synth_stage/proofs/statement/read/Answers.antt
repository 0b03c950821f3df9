use Rattle.std.proofs.Common.{◌*◌, ◌+◌, ◌-◌, ℕ, ◌≤◌, suc, sym, subst, arith}
use Rattle.kp_ast.specs.declared.tree.StmtKind.TheVariants as stmts
use Rattle.kp_stage.specs.Sizes.{size_of_kind}
use Rattle.kp_build.specs.Names.{Scope}
use Rattle.kp_synth_registers.proofs.Growth.{grown_added, added_then, added_more}
use Rattle.kp_synth_stage.specs.{Doing.target_of, inner.Standing.WorkOk, inner.Standing.GoesBy, Work.cost_of}
use Rattle.kp_synth_stage.proofs.{Taking.ReadRight, Taking.read_right, Noting.some_stage, Noting.read_step, statement.read.Goals.In_ok-answer}
use Rattle.kp_synth_stage.proofs.statement.read.Goals as goal

right : (c : In_ok-answer) → ReadRight c.args.d.now.job c.args.k c.args.j c.args.r.now
right c = read_right c.args.d.now.job c.job-job.ensures.sound.names c.args.k c.args.j c.args.r.now c.requires.right

some : (c : In_ok-answer) → 1 ≤ c.args.d.now.job.stages.value
some c = some_stage c.args.d.now.job c.args.pool.now c.args.sources.now (target_of c.args.d.now.job.decls c.args.r.now) c.requires.sources (right c).inside

pub note-requires-clause-room : goal.note-requires-clause-room
note-requires-clause-room c = omega (arith, some (goal.at.note-requires-clause-room c).In_ok-answer, c.in_ok-answer.ensures.added.kept.room)

pub returns : goal.returns
returns c =
    let job = c.args.d.now.job in
    let at = (goal.at.returns c).In_ok-answer in
    let a = c.in_ok-answer.ensures in
    let h = c.in_ok-hazard in
    let m : ℕ = 8 * size_of_kind job.decls (stmts.Read c.args.r.now) + (20 * job.stages.value - 4) in
    let few = some at in
    let step = read_step job c.args.k c.args.j c.args.r.now (right at) c.args.pool.now c.read_nodes.new.pool c.note.new.pool m 1 a.added.kept h.ensures.grown.kept c.args.work.now c.requires.work
    c.in_ok-answer.answer a.value_wire a.lacks_wire a.guess h.hazard h.ensures.wire c.note.new.made h.ensures.made c.args.sources.now a.gives h.ensures.hazard in
    let bound = sym c.in_ok-bind.ensures.bound in
    record {
      work = subst (λ (e : Scope). WorkOk job c.args.k (suc c.args.j) c.note.new.pool (record { env = e; hazard = h.hazard; puts = c.args.work.now.puts; sets = c.args.work.now.sets; made = c.note.new.made; aims = c.args.work.now.aims })) bound step.0;
      goes = subst (λ (e : Scope). GoesBy job c.args.k c.args.j (stmts.Read c.args.r.now) c.args.pool.now c.args.work.now c.args.sources.now c.note.new.pool (record { env = e; hazard = h.hazard; puts = c.args.work.now.puts; sets = c.args.work.now.sets; made = c.note.new.made; aims = c.args.work.now.aims })) bound step.1;
      added = added_more job c.args.pool.now c.note.new.pool (m + 1) (cost_of job (stmts.Read c.args.r.now)) (added_then job _ _ _ m 1 a.added (grown_added job _ _ _ h.ensures.grown)) (omega arith);
    }
