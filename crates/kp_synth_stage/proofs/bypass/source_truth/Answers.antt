use Rattle.std.proofs.Common.{◌∙◌, ◌*◌, ◌+◌, ℕ, List, length, ap, sym, subst, arith}
use Rattle.kp_net.specs.{Nodes.at, Widths.wide, Growth.Wire}
use Rattle.kp_design.specs.Numbers.{target_at}
use Rattle.kp_synth_registers.proofs.Growth.{grown_added, added_then, added_more}
use Rattle.kp_synth_stage.specs.{declared.row.Row.Row, Rows.asked, Rows.own_value, Rows.rows_view, Rows.RowsOk, Reading.ask_width}
use Rattle.kp_synth_stage.proofs.Nearest.{ask_inside, ask_wide, ask_kept, asked_kept, rows_kept, rows_view_kept}
use Rattle.kp_synth_stage.proofs.bypass.source_truth.Goals as goal

pub truth-requires-clause-rows : goal.truth-requires-clause-rows
truth-requires-clause-rows c =
    let p = c.args.pool.now in
    let q = c.own_node-own.new.pool in
    let a : ℕ = (target_at c.args.d.now.job c.args.t).address in
    let w : ℕ = (target_at c.args.d.now.job c.args.t).width in
    let g = c.own_node-own.ensures.added.kept in
    let rows = rows_kept p q 1 a w c.args.source.now.rows.items g c.requires.source.rows in
    let ask = ask_wide q a c.args.address (ask_kept p q 1 a c.args.address g c.requires.address) in
    subst (λ (xs : List Row). RowsOk q (ask_width q c.args.address) (wide q.nodes c.own_node-own.result.0) xs) (sym c.as_slice.ensures.value)
    (subst (λ n. RowsOk q (ask_width q c.args.address) n c.args.source.now.rows.items) (sym c.own_node-own.ensures.wire.wide)
    (subst (λ n. RowsOk q n w c.args.source.now.rows.items) (sym ask) rows))

pub returns : goal.returns
returns c =
    let job = c.args.d.now.job in
    let p = c.args.pool.now in
    let q = c.own_node-own.new.pool in
    let r = c.truth.new.pool in
    let s = c.args.source.now in
    let a : ℕ = (target_at job c.args.t).address in
    let w : ℕ = (target_at job c.args.t).width in
    let g = c.own_node-own.ensures.added.kept in
    let n : ℕ = 20 * length c.as_slice.result.now + 8 in
    let e = ap length c.as_slice.ensures.value in
    record {
      ok_wire = c.in_ok-found.ensures.ok_wire;
      value_wire = subst (Wire r c.in_ok-found.found.value) (c.own_node-own.ensures.wire.wide ∙ sym c.requires.source.width) c.in_ok-found.ensures.value_wire;
      value = λ y.
          let own = own_value y p s.width s.own (asked y p c.args.address) in
          c.in_ok-found.ensures.value y
          ∙ ap (λ (xs : List Row). rows_view y q xs (at y q.nodes c.own_node-own.result.0) (asked y q c.args.address)) c.as_slice.ensures.value
          ∙ ap (λ v. rows_view y q s.rows.items v (asked y q c.args.address)) (c.own_node-own.ensures.value y)
          ∙ ap (λ v. rows_view y q s.rows.items own v) (asked_kept p q 1 c.args.address g (ask_inside p a c.args.address c.requires.address) y)
          ∙ rows_view_kept y p q 1 a w s.rows.items own (asked y p c.args.address) g c.requires.source.rows;
      added = added_more job p r (1 + n) (20 * length s.rows.items + 9)
          (added_then job p q r 1 n c.own_node-own.ensures.added (grown_added job q r n c.in_ok-found.ensures.grown)) (omega arith);
    }
