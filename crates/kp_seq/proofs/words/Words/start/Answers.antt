use Rattle.std.proofs.Common.{◌≡◌, ◌∙◌, ℕ, ◌+◌, List, ◌∷◌, get_or, drop, sym, subst, ap}
use Rattle.std.proofs.lemmas.List.{drop_more}
use Rattle.kp_bits.specs.Word.{Word}
use Rattle.kp_ast.specs.declared.tree.Decl.{Decl}
use Rattle.kp_seq.specs.inner.Ready.{words_of_start}
use Rattle.kp_seq.proofs.Laying.{AreLaid, reg_laid, file_laid, other_laid}
use Rattle.kp_seq.proofs.words.Words.start.Goals.{in-Reg+in_ok-add-in-Reg, in-File+in_ok-add-in-File, in_default}
use Rattle.kp_seq.proofs.words.Words.start.Goals as goal

pub loop-decl-preserved : goal.loop-decl-preserved
loop-decl-preserved c =
    let regs = c.args.start.now.regs in
    let files = c.args.start.now.files in
    let i = c.loop-decl.decl-index in
    let p = c.loop-decl.regs in
    let q = c.loop-decl.files in
    let x = c.decl-item.result in
    let ds = drop (i + 1) c.args.decls.now in
    let r = c.loop-decl.region in
    let spans = c.loop-decl.targets.items in
    let all = words_of_start c.args.decls.now regs files in
    let size = c.in_ok-size.size in
    let now : AreLaid all size (x ∷ ds) (drop p regs) (drop q files) r spans =
    (let P : List Decl → Type 0 = λ l. AreLaid all size l (drop p regs) (drop q files) r spans in
    subst P (drop_more c.args.decls.now i x c.loop-decl-test.true ∙ ap (λ (y : Decl). y ∷ ds) (sym c.decl-item.is)) c.loop-decl.invariant) in
    let P : Decl → Type 0 = λ y. AreLaid all size (y ∷ ds) (drop p regs) (drop q files) r spans in
    elim c.match-decl.branch [
      | in-Reg+in_ok-add-in-Reg w ↦
          let e = w.in_ok-add-in-Reg.ensures in
          let d = w.index-as_slice-regs.result in
          let value : w.value-value.result ≡ (get_or regs p d).value =
          w.value-value.ensures.value ∙ ap (λ (b : Word). b.value) (w.index-as_slice-regs.is ∙ ap (λ (l : List Word). get_or l p d) w.as_slice.ensures) in
          rw (w.region-is, w.targets-is, w.regs-is, w.files-is)
          (reg_laid all size w.in-Reg.field-0 w.in-Reg.field-1 ds r w.add.new.region spans w.add.new.targets.items w.in-Reg.field-2 p w.value-value.result d regs (drop q files) (subst P w.in-Reg.is now) value
          (record { apart = e.apart; words = e.words; used = e.used; size = e.size }))
      | in-File+in_ok-add-in-File w ↦
          let e = w.in_ok-add-in-File.ensures in
          let d = w.index-as_slice-files.result in
          let words : w.as_slice-words.result.now ≡ get_or files q d =
          w.as_slice-words.ensures ∙ w.index-as_slice-files.is ∙ ap (λ (l : List (List ℕ)). get_or l q d) w.as_slice-in-File.ensures in
          rw (w.region-is, w.targets-is, w.regs-is, w.files-is)
          (file_laid all size w.in-File.field-0 w.in-File.field-1 ds r w.add-in-File.new.region spans w.add-in-File.new.targets.items w.in-File.field-2 q w.as_slice-words.result.now d (drop p regs) files (subst P w.in-File.is now) words
          (record { apart = e.apart; words = e.words; used = e.used; size = e.size }))
      | in_default w ↦ rw (w.region-is, w.targets-is, w.regs-is, w.files-is) (other_laid all size x ds (drop p regs) (drop q files) r spans w.in_default.not-Reg w.in_default.not-File now)
    ]
