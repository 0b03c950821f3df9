use Rattle.std.proofs.Common.{refl, ◌*◌, ◌<◌, ◌+◌, ◌++◌, ◌∷◌, [], length, take, ap, sym, subst, arith}
use Rattle.std.proofs.lemmas.{Result.IfOk-weaker, List.Elements.All-push, List.Elements.All-nil, List.Elements.All-same}
use Rattle.std.{proofs.lemmas.List.Sums.sum_by_more, proofs.lemmas.List.Sums.sum_by_more_le, proofs.lemmas.List.Sums.get_or-le-sum_by, specs.Prelude.sum_by}
use Rattle.kp_bits.specs.Checked.{checked_literal, checked_joined, checked_slice, checked_zext, checked_sext}
use Rattle.kp_ast.proofs.Parts.{value_Lit, value_Concat, value_Slice, value_Zext, value_Sext, size_Not, size_Binary, size_Mux, size_Concat, size_Slice, size_Zext, size_Sext, size_Call}
use Rattle.kp_ast.specs.{Size.Bodies, Size.size, Size.bodies_of, Size.body_size_of, Size.no_bodies, Checked.checked_calls_of}
use Rattle.kp_net.proofs.Growing.{grown_then, grown_more}
use Rattle.kp_build.proofs.Forms.{sound_Not, gives_Not, sound_left, sound_right, fits_Binary, gives_Binary, sound_test, sound_yes, sound_no, fits_Mux, gives_Mux}
use Rattle.kp_build.proofs.{Lists.grown_same, Lists.element_sound, Lists.none_show, Lists.more_show, Work.steps, Work.work, Work.work_of}
use Rattle.kp_build.proofs.Names.{still_inside, call_inside}
use Rattle.kp_build.proofs.Giving.{sound_later, gives_earlier, gives_later, gives_by, one_sound, one_fits, one_gives, all_sound, all_fits, all_gives}
use Rattle.kp_build.proofs.Calls.{literal_there, names_found, name_gives, call_value, body_sound, body_shows, body_count, last_there, no_function}
use Rattle.kp_build.specs.{Names.known_at, inner.Showing.AllShow, inner.Showing.values_in}
use Rattle.kp_build.proofs.Rows as rows
use Rattle.kp_build.proofs.walk.+walk.Goals as goal

pub node_for-number-requires-clause-right : goal.node_for-number-requires-clause-right
node_for-number-requires-clause-right t c =
    literal_there c.args.pool.now c.args.env.now c.args.e.now c.in-Lit.literal c.in-Lit.is c.requires.sound

pub node_for-returns-in-Lit-clause-gives : goal.node_for-returns-in-Lit-clause-gives
node_for-returns-in-Lit-clause-gives t c =
    gives_by c.args.pool.now c.args.env.now c.args.e.now (λ c'. checked_literal c.in-Lit.literal) (λ c'. value_Lit c.args.e.now (known_at c' c.args.pool.now c.args.env.now) c.in-Lit.literal c.in-Lit.is) c.number.new.pool c.number.result c.number.ensures.shows

pub node_for-named-requires : goal.node_for-named-requires
node_for-named-requires t c =
    names_found c.args.pool.now c.args.env.now c.args.e.now c.in-Name.name c.in-Name.is c.requires.sound

pub node_for-returns-in-Name-clause-gives : goal.node_for-returns-in-Name-clause-gives
node_for-returns-in-Name-clause-gives t c =
    name_gives c.args.pool.now c.args.env.now c.args.e.now c.in-Name.name c.in-Name.is c.named.result c.named.ensures

pub node_for-node_for-requires : goal.node_for-node_for-requires
node_for-node_for-requires t c =
    let of = λ (b : Bodies). size_Not c.args.e.now b c.in-Not.a c.get.result.now c.in-Not.is c.get.ensures in
    (omega (arith, of no_bodies, c.decreases), (omega (arith, of (bodies_of c.args.env.now.decls), c.requires.room), (c.requires.inside, sound_Not c.args.pool.now c.args.env.now c.args.e.now c.in-Not.a c.get.result.now c.in-Not.is c.get.ensures c.requires.sound)))

pub node_for-returns-in_ok-a-in-Not-clause-gives : goal.node_for-returns-in_ok-a-in-Not-clause-gives
node_for-returns-in_ok-a-in-Not-clause-gives t c =
    gives_Not c.args.pool.now c.args.env.now c.args.e.now c.in-Not.a c.get.result.now c.in-Not.is c.get.ensures c.node_for.new.pool c.inverted.new.pool c.in_ok-a-in-Not.a c.inverted.result
    c.in_ok-a-in-Not.ensures.gives c.inverted.ensures.word

pub node_for-node_for-requires-in-Slice : goal.node_for-node_for-requires-in-Slice
node_for-node_for-requires-in-Slice t c =
    let of = λ (b : Bodies). size_Slice c.args.e.now b c.in-Slice.a c.get-in-Slice.result.now c.in-Slice.hi c.in-Slice.lo c.in-Slice.is c.get-in-Slice.ensures in
    (omega (arith, of no_bodies, c.decreases), (omega (arith, of (bodies_of c.args.env.now.decls), c.requires.room), (c.requires.inside, one_sound c.args.pool.now c.args.env.now c.args.e.now (checked_slice c.in-Slice.hi c.in-Slice.lo) c.get-in-Slice.result.now (λ c'. value_Slice c.args.e.now (known_at c' c.args.pool.now c.args.env.now) c.in-Slice.a c.get-in-Slice.result.now c.in-Slice.hi c.in-Slice.lo c.in-Slice.is c.get-in-Slice.ensures) c.requires.sound)))

pub node_for-sliced-requires-clause-fit : goal.node_for-sliced-requires-clause-fit
node_for-sliced-requires-clause-fit t c =
    one_fits c.args.pool.now c.args.env.now c.args.e.now (checked_slice c.in-Slice.hi c.in-Slice.lo) c.get-in-Slice.result.now
    (λ c'. value_Slice c.args.e.now (known_at c' c.args.pool.now c.args.env.now) c.in-Slice.a c.get-in-Slice.result.now c.in-Slice.hi c.in-Slice.lo c.in-Slice.is c.get-in-Slice.ensures) c.node_for-in-Slice.new.pool c.in_ok-a-in-Slice.a c.in_ok-a-in-Slice.ensures.gives c.requires.sound

pub node_for-returns-in_ok-a-in-Slice-clause-gives : goal.node_for-returns-in_ok-a-in-Slice-clause-gives
node_for-returns-in_ok-a-in-Slice-clause-gives t c =
    one_gives c.args.pool.now c.args.env.now c.args.e.now (checked_slice c.in-Slice.hi c.in-Slice.lo) c.get-in-Slice.result.now
    (λ c'. value_Slice c.args.e.now (known_at c' c.args.pool.now c.args.env.now) c.in-Slice.a c.get-in-Slice.result.now c.in-Slice.hi c.in-Slice.lo c.in-Slice.is c.get-in-Slice.ensures) c.node_for-in-Slice.new.pool c.in_ok-a-in-Slice.a c.in_ok-a-in-Slice.ensures.gives c.sliced.new.pool c.sliced.result c.sliced.ensures.shows

pub node_for-node_for-requires-in-Zext : goal.node_for-node_for-requires-in-Zext
node_for-node_for-requires-in-Zext t c =
    let of = λ (b : Bodies). size_Zext c.args.e.now b c.in-Zext.a c.get-in-Zext.result.now c.in-Zext.width c.in-Zext.is c.get-in-Zext.ensures in
    (omega (arith, of no_bodies, c.decreases), (omega (arith, of (bodies_of c.args.env.now.decls), c.requires.room), (c.requires.inside, one_sound c.args.pool.now c.args.env.now c.args.e.now (checked_zext c.in-Zext.width.value) c.get-in-Zext.result.now (λ c'. value_Zext c.args.e.now (known_at c' c.args.pool.now c.args.env.now) c.in-Zext.a c.get-in-Zext.result.now c.in-Zext.width c.in-Zext.is c.get-in-Zext.ensures) c.requires.sound)))

pub node_for-zero_extended-requires-clause-fit : goal.node_for-zero_extended-requires-clause-fit
node_for-zero_extended-requires-clause-fit t c =
    one_fits c.args.pool.now c.args.env.now c.args.e.now (checked_zext c.in-Zext.width.value) c.get-in-Zext.result.now
    (λ c'. value_Zext c.args.e.now (known_at c' c.args.pool.now c.args.env.now) c.in-Zext.a c.get-in-Zext.result.now c.in-Zext.width c.in-Zext.is c.get-in-Zext.ensures) c.node_for-in-Zext.new.pool c.in_ok-a-in-Zext.a c.in_ok-a-in-Zext.ensures.gives c.requires.sound

pub node_for-returns-in_ok-a-in-Zext-clause-gives : goal.node_for-returns-in_ok-a-in-Zext-clause-gives
node_for-returns-in_ok-a-in-Zext-clause-gives t c =
    one_gives c.args.pool.now c.args.env.now c.args.e.now (checked_zext c.in-Zext.width.value) c.get-in-Zext.result.now
    (λ c'. value_Zext c.args.e.now (known_at c' c.args.pool.now c.args.env.now) c.in-Zext.a c.get-in-Zext.result.now c.in-Zext.width c.in-Zext.is c.get-in-Zext.ensures) c.node_for-in-Zext.new.pool c.in_ok-a-in-Zext.a c.in_ok-a-in-Zext.ensures.gives c.zero_extended.new.pool c.zero_extended.result c.zero_extended.ensures.shows

pub node_for-node_for-requires-in-Sext : goal.node_for-node_for-requires-in-Sext
node_for-node_for-requires-in-Sext t c =
    let of = λ (b : Bodies). size_Sext c.args.e.now b c.in-Sext.a c.get-in-Sext.result.now c.in-Sext.width c.in-Sext.is c.get-in-Sext.ensures in
    (omega (arith, of no_bodies, c.decreases), (omega (arith, of (bodies_of c.args.env.now.decls), c.requires.room), (c.requires.inside, one_sound c.args.pool.now c.args.env.now c.args.e.now (checked_sext c.in-Sext.width.value) c.get-in-Sext.result.now (λ c'. value_Sext c.args.e.now (known_at c' c.args.pool.now c.args.env.now) c.in-Sext.a c.get-in-Sext.result.now c.in-Sext.width c.in-Sext.is c.get-in-Sext.ensures) c.requires.sound)))

pub node_for-sign_extended-requires-clause-fit : goal.node_for-sign_extended-requires-clause-fit
node_for-sign_extended-requires-clause-fit t c =
    one_fits c.args.pool.now c.args.env.now c.args.e.now (checked_sext c.in-Sext.width.value) c.get-in-Sext.result.now
    (λ c'. value_Sext c.args.e.now (known_at c' c.args.pool.now c.args.env.now) c.in-Sext.a c.get-in-Sext.result.now c.in-Sext.width c.in-Sext.is c.get-in-Sext.ensures) c.node_for-in-Sext.new.pool c.in_ok-a-in-Sext.a c.in_ok-a-in-Sext.ensures.gives c.requires.sound

pub node_for-returns-in_ok-a-in-Sext-clause-gives : goal.node_for-returns-in_ok-a-in-Sext-clause-gives
node_for-returns-in_ok-a-in-Sext-clause-gives t c =
    one_gives c.args.pool.now c.args.env.now c.args.e.now (checked_sext c.in-Sext.width.value) c.get-in-Sext.result.now
    (λ c'. value_Sext c.args.e.now (known_at c' c.args.pool.now c.args.env.now) c.in-Sext.a c.get-in-Sext.result.now c.in-Sext.width c.in-Sext.is c.get-in-Sext.ensures) c.node_for-in-Sext.new.pool c.in_ok-a-in-Sext.a c.in_ok-a-in-Sext.ensures.gives c.sign_extended.new.pool c.sign_extended.result c.sign_extended.ensures.shows

pub node_for-two_for-requires : goal.node_for-two_for-requires
node_for-two_for-requires t c =
    let of = λ (b : Bodies). size_Binary c.args.e.now b c.in-Binary.op c.in-Binary.a c.in-Binary.b c.get-in-Binary.result.now c.get-in-Binary-2.result.now c.in-Binary.is c.get-in-Binary.ensures c.get-in-Binary-2.ensures in (
      omega (arith, of no_bodies, c.decreases),
      (
        omega (arith, of (bodies_of c.args.env.now.decls), c.requires.room),
        (c.requires.inside, (sound_left c.args.pool.now c.args.env.now c.args.e.now c.in-Binary.op c.in-Binary.a c.in-Binary.b c.get-in-Binary.result.now c.get-in-Binary-2.result.now c.in-Binary.is c.get-in-Binary.ensures c.get-in-Binary-2.ensures c.requires.sound, sound_right c.args.pool.now c.args.env.now c.args.e.now c.in-Binary.op c.in-Binary.a c.in-Binary.b c.get-in-Binary.result.now c.get-in-Binary-2.result.now c.in-Binary.is c.get-in-Binary.ensures c.get-in-Binary-2.ensures c.requires.sound)),
      ),
    )

pub node_for-operated-requires-clause-fit : goal.node_for-operated-requires-clause-fit
node_for-operated-requires-clause-fit t c =
    fits_Binary c.args.pool.now c.args.env.now c.args.e.now c.in-Binary.op c.in-Binary.a c.in-Binary.b c.get-in-Binary.result.now c.get-in-Binary-2.result.now c.in-Binary.is c.get-in-Binary.ensures c.get-in-Binary-2.ensures
    c.two_for.new.pool c.in_ok-a-in-Binary.a c.in_ok-a-in-Binary.b c.in_ok-a-in-Binary.ensures.gives c.requires.sound

pub node_for-returns-in_ok-a-in-Binary-clause-gives : goal.node_for-returns-in_ok-a-in-Binary-clause-gives
node_for-returns-in_ok-a-in-Binary-clause-gives t c =
    gives_Binary c.args.pool.now c.args.env.now c.args.e.now c.in-Binary.op c.in-Binary.a c.in-Binary.b c.get-in-Binary.result.now c.get-in-Binary-2.result.now c.in-Binary.is c.get-in-Binary.ensures c.get-in-Binary-2.ensures
    c.two_for.new.pool c.in_ok-a-in-Binary.a c.in_ok-a-in-Binary.b c.in_ok-a-in-Binary.ensures.gives c.operated.new.pool c.operated.result c.operated.ensures.shows

pub node_for-node_for-requires-in-Mux : goal.node_for-node_for-requires-in-Mux
node_for-node_for-requires-in-Mux t c =
    let of = λ (b : Bodies). size_Mux c.args.e.now b c.in-Mux.test c.in-Mux.a c.in-Mux.b c.get-in-Mux.result.now c.in-Mux.a c.in-Mux.b c.in-Mux.is c.get-in-Mux.ensures refl refl in
    (omega (arith, of no_bodies, c.decreases), (omega (arith, of (bodies_of c.args.env.now.decls), c.requires.room), (c.requires.inside, sound_test c.args.pool.now c.args.env.now c.args.e.now c.in-Mux.test c.in-Mux.a c.in-Mux.b c.get-in-Mux.result.now c.in-Mux.a c.in-Mux.b c.in-Mux.is c.get-in-Mux.ensures refl refl c.requires.sound)))

pub node_for-two_for-requires-in-Mux : goal.node_for-two_for-requires-in-Mux
node_for-two_for-requires-in-Mux t c =
    let of = λ (b : Bodies). size_Mux c.args.e.now b c.in-Mux.test c.in-Mux.a c.in-Mux.b c.get-in-Mux.result.now c.get-in-Mux-2.result.now c.get-in-Mux-3.result.now c.in-Mux.is c.get-in-Mux.ensures c.get-in-Mux-2.ensures c.get-in-Mux-3.ensures in
    let g = c.in_ok-test-in-Mux.ensures.grown in
    let later = sound_later c.args.pool.now c.node_for-in-Mux.new.pool (8 * size c.args.env.now.decls c.get-in-Mux.result.now) g c.args.env.now c.requires.inside in (
      omega (arith, of no_bodies, c.decreases),
      (
        omega (arith, of (bodies_of c.args.env.now.decls), c.requires.room, g.kept.room),
        (
          still_inside c.args.pool.now c.node_for-in-Mux.new.pool (8 * size c.args.env.now.decls c.get-in-Mux.result.now) c.args.env.now g c.requires.inside,
          (later c.get-in-Mux-2.result.now (sound_yes c.args.pool.now c.args.env.now c.args.e.now c.in-Mux.test c.in-Mux.a c.in-Mux.b c.get-in-Mux.result.now c.get-in-Mux-2.result.now c.get-in-Mux-3.result.now c.in-Mux.is c.get-in-Mux.ensures c.get-in-Mux-2.ensures c.get-in-Mux-3.ensures c.requires.sound), later c.get-in-Mux-3.result.now (sound_no c.args.pool.now c.args.env.now c.args.e.now c.in-Mux.test c.in-Mux.a c.in-Mux.b c.get-in-Mux.result.now c.get-in-Mux-2.result.now c.get-in-Mux-3.result.now c.in-Mux.is c.get-in-Mux.ensures c.get-in-Mux-2.ensures c.get-in-Mux-3.ensures c.requires.sound)),
        ),
      ),
    )

pub node_for-chosen-requires-clause-fit : goal.node_for-chosen-requires-clause-fit
node_for-chosen-requires-clause-fit t c =
    let one = c.in_ok-test-in-Mux.ensures in
    let two = c.in_ok-a-in-Mux.ensures in
    fits_Mux c.args.pool.now c.args.env.now c.args.e.now c.in-Mux.test c.in-Mux.a c.in-Mux.b c.get-in-Mux.result.now c.get-in-Mux-2.result.now c.get-in-Mux-3.result.now c.in-Mux.is c.get-in-Mux.ensures c.get-in-Mux-2.ensures c.get-in-Mux-3.ensures
    c.two_for-in-Mux.new.pool c.in_ok-test-in-Mux.test c.in_ok-a-in-Mux.a c.in_ok-a-in-Mux.b (gives_later _ _ _ _ _ _ _ two.grown one.inside one.gives)
    (gives_earlier _ _ _ one.grown c.args.env.now c.requires.inside _ _ _ two.gives.0) (gives_earlier _ _ _ one.grown c.args.env.now c.requires.inside _ _ _ two.gives.1) c.requires.sound

pub node_for-returns-in_ok-a-in-Mux-clause-gives : goal.node_for-returns-in_ok-a-in-Mux-clause-gives
node_for-returns-in_ok-a-in-Mux-clause-gives t c =
    let one = c.in_ok-test-in-Mux.ensures in
    let two = c.in_ok-a-in-Mux.ensures in
    gives_Mux c.args.pool.now c.args.env.now c.args.e.now c.in-Mux.test c.in-Mux.a c.in-Mux.b c.get-in-Mux.result.now c.get-in-Mux-2.result.now c.get-in-Mux-3.result.now c.in-Mux.is c.get-in-Mux.ensures c.get-in-Mux-2.ensures c.get-in-Mux-3.ensures
    c.two_for-in-Mux.new.pool c.in_ok-test-in-Mux.test c.in_ok-a-in-Mux.a c.in_ok-a-in-Mux.b (gives_later _ _ _ _ _ _ _ two.grown one.inside one.gives)
    (gives_earlier _ _ _ one.grown c.args.env.now c.requires.inside _ _ _ two.gives.0) (gives_earlier _ _ _ one.grown c.args.env.now c.requires.inside _ _ _ two.gives.1)
    c.chosen.new.pool c.chosen.result c.chosen.ensures.shows

pub two_for-node_for-requires : goal.two_for-node_for-requires
two_for-node_for-requires t c = (omega (arith, c.decreases), (omega (arith, c.requires.room), (c.requires.inside, c.requires.left)))

pub two_for-node_for-requires-2 : goal.two_for-node_for-requires-2
two_for-node_for-requires-2 t c =
    let g = c.in_ok-a.ensures.grown in (
      omega (arith, c.decreases),
      (
        omega (arith, c.requires.room, g.kept.room),
        (
          still_inside c.args.pool.now c.node_for.new.pool (8 * size c.args.env.now.decls c.args.a.now) c.args.env.now g c.requires.inside,
          sound_later c.args.pool.now c.node_for.new.pool (8 * size c.args.env.now.decls c.args.a.now) g c.args.env.now c.requires.inside c.args.b.now c.requires.right,
        ),
      ),
    )

pub two_for-returns-clause-inside : goal.two_for-returns-clause-inside
two_for-returns-clause-inside t c = (omega (arith, c.in_ok-a.ensures.inside, c.in_ok-b.ensures.grown.kept.longer), c.in_ok-b.ensures.inside)

pub two_for-returns-clause-gives : goal.two_for-returns-clause-gives
two_for-returns-clause-gives t c =
    let one = c.in_ok-a.ensures in
    let two = c.in_ok-b.ensures in
    (gives_later _ _ _ _ _ _ _ two.grown one.inside one.gives, gives_earlier _ _ _ one.grown c.args.env.now c.requires.inside _ _ _ two.gives)

pub two_for-returns-clause-grown : goal.two_for-returns-clause-grown
two_for-returns-clause-grown t c = grown_more _ _ _ _ (grown_then _ _ _ _ _ c.in_ok-a.ensures.grown c.in_ok-b.ensures.grown) (omega arith)

pub node_for-nodes_for-requires : goal.node_for-nodes_for-requires
node_for-nodes_for-requires t c =
    let of = λ (b : Bodies). size_Concat c.args.e.now b c.in-Concat.parts c.as_slice.result.now c.in-Concat.is c.as_slice.ensures in
    (omega (arith, of no_bodies, c.decreases), (omega (arith, of (bodies_of c.args.env.now.decls), c.requires.room), (c.requires.inside, all_sound c.args.pool.now c.args.env.now c.args.e.now checked_joined c.as_slice.result.now (λ c'. value_Concat c.args.e.now (known_at c' c.args.pool.now c.args.env.now) c.in-Concat.parts c.as_slice.result.now c.in-Concat.is c.as_slice.ensures) c.requires.sound)))

pub node_for-joined-requires-clause-room : goal.node_for-joined-requires-clause-room
node_for-joined-requires-clause-room t c =
    let sz = size_Concat c.args.e.now (bodies_of c.args.env.now.decls) c.in-Concat.parts c.as_slice.result.now c.in-Concat.is c.as_slice.ensures in
    omega (arith, sz, c.requires.room, c.in_ok-parts-in-Concat.ensures.grown.kept.room)

pub node_for-joined-requires-clause-fit : goal.node_for-joined-requires-clause-fit
node_for-joined-requires-clause-fit t c =
    all_fits c.args.pool.now c.args.env.now c.args.e.now checked_joined c.as_slice.result.now
    (λ c'. value_Concat c.args.e.now (known_at c' c.args.pool.now c.args.env.now) c.in-Concat.parts c.as_slice.result.now c.in-Concat.is c.as_slice.ensures)
    c.nodes_for.new.pool _ _ c.as_slice-in-Concat.ensures.value c.in_ok-parts-in-Concat.ensures.shows c.requires.sound

pub node_for-returns-in_ok-parts-in-Concat-clause-gives : goal.node_for-returns-in_ok-parts-in-Concat-clause-gives
node_for-returns-in_ok-parts-in-Concat-clause-gives t c =
    IfOk-weaker _ _ _ (λ n h. all_gives c.args.pool.now c.args.env.now c.args.e.now checked_joined c.as_slice.result.now
    (λ c'. value_Concat c.args.e.now (known_at c' c.args.pool.now c.args.env.now) c.in-Concat.parts c.as_slice.result.now c.in-Concat.is c.as_slice.ensures)
    c.nodes_for.new.pool _ _ c.as_slice-in-Concat.ensures.value c.in_ok-parts-in-Concat.ensures.shows c.joined.new.pool n h) c.joined.ensures.shows

pub node_for-returns-in_ok-parts-in-Concat-clause-grown : goal.node_for-returns-in_ok-parts-in-Concat-clause-grown
node_for-returns-in_ok-parts-in-Concat-clause-grown t c =
    let sz = size_Concat c.args.e.now (bodies_of c.args.env.now.decls) c.in-Concat.parts c.as_slice.result.now c.in-Concat.is c.as_slice.ensures in
    grown_more _ _ _ _ (grown_then _ _ _ _ _ c.in_ok-parts-in-Concat.ensures.grown c.joined.ensures.grown) (omega (arith, sz))

pub node_for-nodes_for-requires-in-Call : goal.node_for-nodes_for-requires-in-Call
node_for-nodes_for-requires-in-Call t c =
    let of = λ (b : Bodies). size_Call c.args.e.now b c.in-Call.name c.in-Call.args c.as_slice-in-Call.result.now c.in-Call.is c.as_slice-in-Call.ensures in
    (omega (arith, of no_bodies, c.decreases), (omega (arith, of (bodies_of c.args.env.now.decls), c.requires.room), (c.requires.inside, all_sound c.args.pool.now c.args.env.now c.args.e.now (checked_calls_of c.args.env.now.decls c.in-Call.name) c.as_slice-in-Call.result.now (call_value c.args.pool.now c.args.env.now c.args.e.now _ refl c.in-Call.name c.in-Call.args c.as_slice-in-Call.result.now c.in-Call.is c.as_slice-in-Call.ensures) c.requires.sound)))

pub node_for-called-requires : goal.node_for-called-requires
node_for-called-requires t c =
    let of = λ (b : Bodies). size_Call c.args.e.now b c.in-Call.name c.in-Call.args c.as_slice-in-Call.result.now c.in-Call.is c.as_slice-in-Call.ensures in
    let d = c.decls.ensures in
    let bodies = ap (λ ds. bodies_of ds c.in-Call.name) d in (
      omega (arith, of no_bodies, c.decreases, ap work d),
      (
        omega (arith, of (bodies_of c.args.env.now.decls), bodies, c.requires.room, c.in_ok-args-in-Call.ensures.grown.kept.room),
        (
          All-same (λ n. n.0 < length c.nodes_for-in-Call.new.pool.nodes) c.as_slice-in-Call-2.result.now c.in_ok-args-in-Call.args.items c.as_slice-in-Call-2.ensures.value c.in_ok-args-in-Call.ensures.inside,
          all_fits c.args.pool.now c.args.env.now c.args.e.now (checked_calls_of c.decls.result.now c.in-Call.name) c.as_slice-in-Call.result.now
              (call_value c.args.pool.now c.args.env.now c.args.e.now c.decls.result.now d c.in-Call.name c.in-Call.args c.as_slice-in-Call.result.now c.in-Call.is c.as_slice-in-Call.ensures)
              c.nodes_for-in-Call.new.pool _ _ c.as_slice-in-Call-2.ensures.value c.in_ok-args-in-Call.ensures.shows c.requires.sound,
        ),
      ),
    )

pub node_for-returns-in_ok-args-in-Call-clause-gives : goal.node_for-returns-in_ok-args-in-Call-clause-gives
node_for-returns-in_ok-args-in-Call-clause-gives t c =
    IfOk-weaker _ _ _ (λ n h. all_gives c.args.pool.now c.args.env.now c.args.e.now (checked_calls_of c.decls.result.now c.in-Call.name) c.as_slice-in-Call.result.now
    (call_value c.args.pool.now c.args.env.now c.args.e.now c.decls.result.now c.decls.ensures c.in-Call.name c.in-Call.args c.as_slice-in-Call.result.now c.in-Call.is c.as_slice-in-Call.ensures)
    c.nodes_for-in-Call.new.pool _ _ c.as_slice-in-Call-2.ensures.value c.in_ok-args-in-Call.ensures.shows c.called.new.pool n h) c.called.ensures.shows

pub node_for-returns-in_ok-args-in-Call-clause-grown : goal.node_for-returns-in_ok-args-in-Call-clause-grown
node_for-returns-in_ok-args-in-Call-clause-grown t c =
    let sz = size_Call c.args.e.now (bodies_of c.args.env.now.decls) c.in-Call.name c.in-Call.args c.as_slice-in-Call.result.now c.in-Call.is c.as_slice-in-Call.ensures in
    let bodies = ap (λ ds. bodies_of ds c.in-Call.name) c.decls.ensures in
    grown_more _ _ _ _ (grown_then _ _ _ _ _ c.in_ok-args-in-Call.ensures.grown c.called.ensures.grown) (omega (arith, sz, bodies))

pub nodes_for-loop-e-init : goal.nodes_for-loop-e-init
nodes_for-loop-e-init t c =
    record {
      inside = All-same (λ n. n.0 < length c.args.pool.now.nodes) c.new-nodes.result.items [] c.new-nodes.ensures.items (All-nil (λ n. n.0 < length c.args.pool.now.nodes));
      shows = subst (λ ns. AllShow c.args.pool.now ns (values_in c.args.pool.now c.args.env.now (take 0 c.args.es.now))) (sym c.new-nodes.ensures.items) (none_show c.args.pool.now c.args.env.now c.args.es.now);
      grown = grown_same c.args.pool.now;
    }

pub nodes_for-node_for-requires : goal.nodes_for-node_for-requires
nodes_for-node_for-requires t c =
    let f = size c.args.env.now.decls in
    let more = sum_by_more_le f c.args.es.now c.loop-e.e-index c.e-item.result c.loop-e-test.true in
    let s = ap f c.e-item.is in
    let g = c.loop-e.invariant.grown in
    let k = 8 * sum_by (size c.args.env.now.decls) (take c.loop-e.e-index c.args.es.now) in
    let at_most = get_or-le-sum_by steps c.args.es.now c.loop-e.e-index c.e-item.result c.loop-e-test.true in
    let same = ap steps c.e-item.is in (
      omega (arith, at_most, same, c.decreases),
      (
        omega (arith, more, s, c.requires.room, g.kept.room),
        (
          still_inside c.args.pool.now c.loop-e.pool k c.args.env.now g c.requires.inside,
          sound_later c.args.pool.now c.loop-e.pool k g c.args.env.now c.requires.inside c.e-item.result (element_sound c.args.pool.now c.args.env.now c.args.es.now c.loop-e.e-index c.e-item.result c.loop-e-test.true c.e-item.is c.requires.sound),
        ),
      ),
    )

pub nodes_for-loop-e-preserved : goal.nodes_for-loop-e-preserved
nodes_for-loop-e-preserved t c =
    let f = size c.args.env.now.decls in
    let i = c.loop-e.e-index in
    let e = c.e-item.result in
    let n = c.in_ok-node_for.field-0 in
    let q = c.loop-e.pool in
    let r = c.node_for.new.pool in
    let ns = c.loop-e.nodes.items in
    let ok = c.in_ok-node_for.ensures in
    let inv = c.loop-e.invariant in
    let k = 8 * sum_by (size c.args.env.now.decls) (take i c.args.es.now) in
    let j = 8 * size c.args.env.now.decls e in
    let more = sum_by_more f c.args.es.now i e c.loop-e-test.true in
    let s = ap f c.e-item.is in
    let items = c.in_ok-push.ensures.items in
    record {
      inside = All-same (λ m. m.0 < length r.nodes) c.push.new.self.items (ns ++ n ∷ []) items (All-push (λ m. m.0 < length r.nodes) ns n (rows.still_inside q r j ok.grown ns inv.inside) ok.inside);
      shows = subst (λ ms. AllShow r ms (values_in c.args.pool.now c.args.env.now (take (i + 1) c.args.es.now))) (sym items)
          (more_show c.args.pool.now q r j c.args.env.now c.args.es.now i e ns n ok.grown c.loop-e-test.true c.e-item.is inv.inside inv.shows (gives_earlier c.args.pool.now q k inv.grown c.args.env.now c.requires.inside e r n ok.gives));
      grown = grown_more c.args.pool.now r (k + j) (8 * sum_by (size c.args.env.now.decls) (take (i + 1) c.args.es.now)) (grown_then c.args.pool.now q r k j inv.grown ok.grown) (omega (arith, more, s));
    }

pub called-unreachable-requires : goal.called-unreachable-requires
called-unreachable-requires t c =
    last_there c.args.pool.now c.args.decls.now c.args.name.now c.args.args.now c.in-None.ensures.cases c.requires.sound

pub body-unreachable-requires : goal.body-unreachable-requires
body-unreachable-requires t c =
    no_function c.args.pool.now c.args.earlier.now c.args.decl.now c.args.args.now c.in_default.not-Func c.requires.sound

pub body-of_call-requires : goal.body-of_call-requires
body-of_call-requires t c =
    body_count c.args.pool.now c.args.earlier.now c.args.decl.now c.args.args.now c.in-Func.f c.in-Func.is c.as_slice.result.now c.as_slice.ensures c.requires.sound

pub body-node_for-requires : goal.body-node_for-requires
body-node_for-requires t c =
    let env = c.in_ok-env-in-Func in
    let w = ap work_of c.in-Func.is in
    let d = ap work env.ensures.decls in
    let room = ap (body_size_of (bodies_of c.args.earlier.now)) c.in-Func.is in
    let sz = ap (λ ds. size ds c.in-Func.f.body) env.ensures.decls in (
      omega (arith, w, d, c.decreases),
      (
        omega (arith, room, sz, c.requires.room),
        (
          call_inside c.args.pool.now env.env c.as_slice.result.now c.args.args.now env.ensures.names c.requires.inside,
          body_sound c.args.pool.now c.args.earlier.now c.args.decl.now c.args.args.now c.in-Func.f c.in-Func.is c.as_slice.result.now c.as_slice.ensures c.requires.sound env.env env.ensures.decls env.ensures.names,
        ),
      ),
    )

pub body-returns-clause-shows : goal.body-returns-clause-shows
body-returns-clause-shows t c =
    let env = c.in_ok-env-in-Func in
    IfOk-weaker _ _ _
    (λ n h. body_shows c.args.pool.now c.args.earlier.now c.args.decl.now c.args.args.now c.in-Func.f c.in-Func.is c.as_slice.result.now c.as_slice.ensures c.requires.sound env.env env.ensures.decls env.ensures.names c.node_for.new.pool n h)
    c.node_for.ensures.gives
