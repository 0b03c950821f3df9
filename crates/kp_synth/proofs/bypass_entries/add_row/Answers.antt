use Rattle.std.proofs.{Common.◌∙◌, Common.le-leb, Common.refl, Common.sym, Common.subst, lemmas.Bool.lt-leb}
use Rattle.kp_net.{specs.Widths.wide, proofs.Growing.kept_none, proofs.Growing.kept_then}
use Rattle.kp_synth_registers.proofs.Growth.{ready_kept}
use Rattle.kp_synth_stage.specs.Rows.{RowOk}
use Rattle.kp_design.specs.{Numbers.target_at, Fits.ResultFits}
use Rattle.kp_synth.proofs.{Ports.no_candidate, Ports.candidate_by, Ports.row_nearer, Ports.source_more, Downward.nearer_none}
use Rattle.kp_synth.proofs.bypass_entries.add_row.Goals as goal

pub enable_in-enable-requires-clause-ready : goal.enable_in-enable-requires-clause-ready
enable_in-enable-requires-clause-ready c = ready_kept c.args.layout.now c.args.pool.now c.result_in-stored.new.pool 2 c.args.reads.now c.result_in-stored.ensures.grown.kept c.requires.ready

pub address_in-address-requires-clause-ready : goal.address_in-address-requires-clause-ready
address_in-address-requires-clause-ready c = ready_kept _ _ _ _ _ (kept_then _ _ _ _ _ c.result_in-stored.ensures.grown.kept c.enable_in-enable.ensures.grown.kept) c.requires.ready

pub returns-in-None-clause-nearer : goal.returns-in-None-clause-nearer
returns-in-None-clause-nearer c =
    nearer_none c.args.layout.now c.args.k c.args.t c.args.pool.now c.args.pool.now 1 c.args.source.now (kept_none c.args.pool.now) c.requires.source
    (no_candidate c.args.layout.now c.args.k c.args.t (sym c.port.ensures.port ∙ c.in-None.is))

pub returns-else-k-port-clause-nearer : goal.returns-else-k-port-clause-nearer
returns-else-k-port-clause-nearer c =
    nearer_none c.args.layout.now c.args.k c.args.t c.args.pool.now c.args.pool.now 1 c.args.source.now (kept_none c.args.pool.now) c.requires.source
    (candidate_by c.args.layout.now c.args.k c.args.t c.in-Some.port (sym c.port.ensures.port ∙ c.in-Some.is) ∙ lt-leb c.args.k c.in-Some.port.write c.if-k-port.false)

pub returns-in_ok-put_first-in-Some-clause-nearer : goal.returns-in_ok-put_first-in-Some-clause-nearer
returns-in_ok-put_first-in-Some-clause-nearer c =
    let job = c.args.layout.now in
    row_nearer job c.args.k c.args.t c.in-Some.port (sym c.port.ensures.port ∙ c.in-Some.is) (subst (λ o. ResultFits job c.args.t o) c.in-Some.is c.port.ensures.fits).2
    c.args.pool.now c.result_in-stored.new.pool c.enable_in-enable.new.pool c.address_in-address.new.pool c.row_of-row.new.pool
    c.result_in-stored.ensures.grown.kept c.enable_in-enable.ensures.grown.kept c.address_in-address.ensures.grown.kept c.row_of-row.ensures.grown.kept
    c.result_in-stored.result c.enable_in-enable.result c.address_in-address.result c.args.set c.args.full c.args.halt c.row_of-row.result _ _ (target_at job c.args.t).width
    c.result_in-stored.ensures.enabled c.result_in-stored.ensures.value c.result_in-stored.ensures.gives c.enable_in-enable.ensures.bit c.enable_in-enable.ensures.value
    c.address_in-address.ensures.address c.address_in-address.ensures.value c.requires.set c.requires.set_means c.requires.full c.requires.full_is_test c.requires.halt c.requires.halt_is_test
    refl refl c.row_of-row.ensures.hits c.row_of-row.ensures.value
    c.args.source.now c.put_first.new.source c.requires.source (le-leb _ _ c.if-k-port.true) c.in_ok-put_first-in-Some.ensures.own c.in_ok-put_first-in-Some.ensures.width c.in_ok-put_first-in-Some.ensures.rows

pub returns-in_ok-put_first-in-Some-clause-source : goal.returns-in_ok-put_first-in-Some-clause-source
returns-in_ok-put_first-in-Some-clause-source c =
    let job = c.args.layout.now in
    let stored = c.result_in-stored.ensures in
    let row = c.row_of-row.ensures in
    let put = c.in_ok-put_first-in-Some.ensures in
    let g3 = kept_then _ _ _ _ _ c.enable_in-enable.ensures.grown.kept c.address_in-address.ensures.grown.kept in
    let g5 = kept_then _ _ _ _ _ (kept_then _ _ _ _ _ stored.grown.kept g3) row.grown.kept in
    let w = g3.widths c.result_in-stored.result.value.0 stored.value.inside ∙ stored.value.wide in
    source_more job c.args.t _ _ _ c.args.source.now c.put_first.new.source c.row_of-row.result g5 c.requires.source
    (subst (λ n. RowOk c.row_of-row.new.pool (target_at job c.args.t).address n c.row_of-row.result) w (row.ok (target_at job c.args.t).address c.address_in-address.ensures.address))
    c.requires.few put.own put.width put.rows
