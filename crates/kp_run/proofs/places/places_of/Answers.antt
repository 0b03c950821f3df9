use Rattle.std.proofs.Common.{◌≡◌, ◌<◌, ◌∙◌, ◌∷◌, ◌+◌, drop, ap, sym, subst, length, get_or, List, ◌^◌}
use Rattle.kp_ast.specs.declared.tree.Decl.{Decl}
use Rattle.kp_ast.specs.declared.tree.Decl.TheVariants as decls
use Rattle.kp_machine.specs.Slots.{targets_of, slot}
use Rattle.kp_run.specs.{Places.place_in, declared.places.Place.TheVariants.Register, declared.places.Place.TheVariants.File}
use Rattle.kp_run.proofs.Placing.{FitsAddress, address_fits, file_place, no_target, some_place, no_place}
use Rattle.kp_run.proofs.places.places_of.Goals.{in-Reg+in_ok-push-in-Reg, in-File+in_ok-push-in-File, in_default}
use Rattle.kp_run.proofs.places.places_of.Goals as goal

pub words_of-requires : goal.words_of-requires
words_of-requires c =
    let job = c.args.design.now.job in
    let are : c.as_slice-decls.result.now ≡ job.decls = c.as_slice-decls.ensures ∙ ap (λ (j : _). j.decls) c.job.ensures.job in
    let low : c.loop-decl.decl-index < length job.decls = rw (sym are) c.loop-decl-test.true in
    let fits : FitsAddress c.decl-item.result =
    subst FitsAddress (sym (c.decl-item.is ∙ ap (λ (l : List Decl). get_or l c.loop-decl.decl-index c.decl-item.result) are))
    (address_fits c.args.net.now job c.requires c.parts-parts.ensures.right c.job.ensures.sound.names c.loop-decl.decl-index c.decl-item.result low) in
    let here : FitsAddress (decls.File c.in-File.n c.in-File.field-1 c.in-File.address) = subst FitsAddress c.in-File.is fits in
    here.1

pub loop-decl-preserved : goal.loop-decl-preserved
loop-decl-preserved c =
    let net = c.args.net.now in
    let job = c.args.design.now.job in
    let ds = c.as_slice-decls.result.now in
    let i = c.loop-decl.decl-index in
    let x = c.decl-item.result in
    let are : ds ≡ job.decls = c.as_slice-decls.ensures ∙ ap (λ (j : _). j.decls) c.job.ensures.job in
    let low : i < length job.decls = rw (sym are) c.loop-decl-test.true in
    let fits : FitsAddress x =
    subst FitsAddress (sym (c.decl-item.is ∙ ap (λ (l : List Decl). get_or l i x) are))
    (address_fits net job c.requires c.parts-parts.ensures.right c.job.ensures.sound.names i x low) in
    elim c.match-decl.branch [
      | in-Reg+in_ok-push-in-Reg w ↦
          let s = slot w.in-Reg.n w.in-Reg.field-1 0 in
          let placed : Register w.register_named.result ≡ place_in net s = ap Register (rw (c.as_slice-regs.ensures, c.parts-parts.ensures.parts) at w.register_named.ensures) in
          rw w.places-is (rw w.in_ok-push-in-Reg.ensures.items
          (some_place net ds i x c.loop-decl.places.items _ c.loop-decl-test.true c.decl-item.is c.loop-decl.invariant s (Register w.register_named.result)
          (ap (λ (y : Decl). targets_of (y ∷ drop (i + 1) ds)) w.in-Reg.is) placed))
      | in-File+in_ok-push-in-File w ↦
          let s = slot w.in-File.n w.in-File.field-1 w.in-File.address.value in
          let here : FitsAddress (decls.File w.in-File.n w.in-File.field-1 w.in-File.address) = subst FitsAddress w.in-File.is fits in
          let p = File w.file_named.result w.words_of.result in
          let many : w.words_of.result ≡ 2 ^ w.in-File.address.value = w.words_of.ensures in
          let number = (rw (c.as_slice-files.ensures, c.parts-parts.ensures.parts) at w.file_named.ensures) in
          let placed : p ≡ place_in net s = file_place net w.in-File.n w.in-File.field-1 w.in-File.address p here.0 (λ k. File (number k) (many k)) in
          rw w.places-is (rw w.in_ok-push-in-File.ensures.items
          (some_place net ds i x c.loop-decl.places.items _ c.loop-decl-test.true c.decl-item.is c.loop-decl.invariant s p
          (ap (λ (y : Decl). targets_of (y ∷ drop (i + 1) ds)) w.in-File.is) placed))
      | in_default w ↦ rw w.places-is (no_place net ds i x c.loop-decl.places.items _ c.loop-decl-test.true c.decl-item.is c.loop-decl.invariant (no_target x (drop (i + 1) ds) w.in_default.not-Reg w.in_default.not-File))
    ]
