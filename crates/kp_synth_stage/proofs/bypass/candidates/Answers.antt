use Rattle.std.proofs.Common.{◌≡◌, ◌∙◌, ℕ, ◌+◌, ◌*◌, ◌<◌, ◌++◌, ◌∷◌, [], List, length, get_or, take, All, sym, subst, refl, ap, arith}
use Rattle.std.proofs.lemmas.List.{take_more, length_push, Elements.All-nil, Elements.All-push}
use Rattle.kp_net.{specs.Nodes.on, proofs.Growing.grown_then, proofs.Growing.grown_more}
use Rattle.kp_fwd.specs.{declared.entries.Candidate.Candidate, Forward.CandidateOk}
use Rattle.kp_fwd.proofs.Standing.{grown_nothing, candidates_grown}
use Rattle.kp_synth_stage.specs.{declared.row.Row.Row, Rows.asked, Rows.row_hits, Rows.RowOk, Reading.Matched, Reading.ask_width}
use Rattle.kp_synth_stage.proofs.Nearest.{row_at, row_kept, no_row, ask_width_kept, asked_kept, hits_kept, matched_kept, matched_more}
use Rattle.kp_synth_stage.proofs.bypass.candidates.Goals as goal

pub loop-row-init : goal.loop-row-init
loop-row-init c =
    let p = c.args.pool.now in
    let none = c.new-all.ensures.items in
    record {
      count = ap length none;
      ok = subst (λ (xs : List Candidate). All (CandidateOk p c.args.width) xs) (sym none) (All-nil (CandidateOk p c.args.width));
      matched = λ y. subst (λ (xs : List Candidate). Matched y p (asked y p c.args.address) p [] xs) (sym none) tt;
      grown = grown_nothing p;
    }

pub row_hit-hit-requires-clause-row : goal.row_hit-hit-requires-clause-row
row_hit-hit-requires-clause-row c =
    let g = c.loop-row.invariant.grown.kept in
    let r : Row = get_or c.args.rows.now c.loop-row.row-index no_row in
    let h = row_at c.args.pool.now (ask_width c.args.pool.now c.args.address) c.args.width c.args.rows.now c.loop-row.row-index c.requires.rows (omega arith) in
    let e = ask_width_kept c.args.pool.now c.loop-row.pool (4 * c.loop-row.row-index) c.args.address g c.requires.address in
    subst (λ a. RowOk c.loop-row.pool a c.args.width r) (sym e) (row_kept c.args.pool.now c.loop-row.pool (4 * c.loop-row.row-index) (ask_width c.args.pool.now c.args.address) c.args.width r g h)

pub loop-row-preserved : goal.loop-row-preserved
loop-row-preserved c =
    let v = c.loop-row.invariant in
    let p = c.args.pool.now in
    let m = c.loop-row.pool in
    let q = c.row_hit-hit.new.pool in
    let i : ℕ = c.loop-row.row-index in
    let rows : List Row = c.args.rows.now in
    let r : Row = get_or rows i no_row in
    let x : Candidate = record { hit = c.row_hit-hit.result; ok = r.ok; value = r.value } in
    let w = ask_width p c.args.address in
    let l : i < length rows = omega arith in
    let h = row_at p w c.args.width rows i c.requires.rows l in
    let g = c.row_hit-hit.ensures.grown in
    let items : c.push.new.self.items ≡ c.loop-row.all.items ++ x ∷ [] = c.in_ok-push.ensures.items in
    let both = grown_then p m q (4 * i) 4 v.grown g in
    let hm = row_kept p q (4 * i + 4) w c.args.width r both.kept h in
    record {
      count = ap length items ∙ length_push c.loop-row.all.items x ∙ ap (λ n. n + 1) v.count;
      ok = subst (λ xs. All (CandidateOk q c.args.width) xs) (sym items)
          (All-push (CandidateOk q c.args.width) c.loop-row.all.items x (candidates_grown m q 4 c.args.width c.loop-row.all.items g v.ok)
          (record { hit = c.row_hit-hit.ensures.wire; ok = hm.ok; value = hm.value }));
      matched = λ y.
          let a = asked y p c.args.address in
          let old = matched_kept y p a m q 4 c.args.width (take i rows) c.loop-row.all.items g.kept v.ok (v.matched y) in
          let f : on y q.nodes c.row_hit-hit.result.0 ≡ row_hits y p r a =
          c.row_hit-hit.ensures.value y
          ∙ ap (λ n. row_hits y m r n) (asked_kept p m (4 * i) c.args.address v.grown.kept c.requires.address y)
          ∙ hits_kept p m (4 * i) w c.args.width r v.grown.kept h y a in
          subst (λ xs. Matched y p a q (take (i + 1) rows) xs) (sym items)
          (subst (λ rs. Matched y p a q rs (c.loop-row.all.items ++ x ∷ [])) (sym (take_more rows i no_row l))
          (matched_more y p a q (take i rows) c.loop-row.all.items r x old f refl refl));
      grown = grown_more p q (4 * i + 4) (4 * (i + 1)) both (omega arith);
    }
