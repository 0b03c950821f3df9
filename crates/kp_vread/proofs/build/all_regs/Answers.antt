use Rattle.std.proofs.{Common.◌∙◌, Common.List, Common.All, Common.sym, Common.ap, Common.subst, lemmas.Result.IfOk-weaker}
use Rattle.kp_vlog.specs.{declared.tree.Item.Item, declared.tree.Init.Init, declared.tree.Update.Update, Occurrences.start_in}
use Rattle.kp_vread.{specs.inner.Nexts.AreNexts, specs.inner.Parts.RegFits, specs.inner.Parts.regs_by, proofs.Beside.regs_same}
use Rattle.kp_vread.proofs.build.all_regs.Goals as goal

pub regs-requires : goal.regs-requires
regs-requires c =
    subst (λ (xs : List Item). All (RegFits c.in_ok-starts.starts) xs) (sym c.as_slice-items.ensures)
    (c.requires.starts c.in_ok-starts.starts (λ n. c.in_ok-starts.ensures n ∙ ap (λ (xs : List Init). start_in xs n) c.as_slice.ensures))

pub returns : goal.returns
returns c =
    let m = c.args.whole.now in
    let es = c.in_ok-starts.starts in
    let ns = c.in_ok-nexts.nexts in
    IfOk-weaker c.regs.result _ _
    (λ x e. λ ks a. e ∙ ap (λ (xs : List Item). regs_by es ns xs) c.as_slice-items.ensures
    ∙ regs_same c.args.wires.now ks a m es ns (λ n. c.in_ok-starts.ensures n ∙ ap (λ (xs : List Init). start_in xs n) c.as_slice.ensures)
    (subst (λ (xs : List Update). AreNexts c.args.wires.now ns xs) c.as_slice-2.ensures c.in_ok-nexts.ensures) m.items) c.regs.ensures
