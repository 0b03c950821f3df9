use Rattle.std.proofs.Common.{◌≡◌, ◌∙◌, refl, ap, ℕ, ◌+◌, [], ◌++◌, drop, get_or, arith, rules}
use Rattle.std.{proofs.Output.has_written_append, proofs.Output.has_written_to_eq, proofs.Output.writes_in_calls_nil, specs.Char.encode_utf8}
use Rattle.kp_view_help.{specs.Phrases.phrase_text, specs.Phrases.terms_texts, proofs.Written.after_brace, proofs.Written.after_byte, proofs.Written.after_term}
use Rattle.kp_view_help.proofs.phrase.write_phrase.Goals.{in-123+in_ok-write_term-in-123, in-125, in_default+in_ok-write_char-in_default}
use Rattle.kp_view_help.proofs.phrase.write_phrase.Goals as goal

pub loop-byte-init : goal.loop-byte-init
loop-byte-init g c = (omega arith, λ plain. ([], record { wrote = writes_in_calls_nil _ _; plain = plain }, refl))

pub loop-byte-preserved : goal.loop-byte-preserved
loop-byte-preserved g c =
    let i = c.loop-byte.byte-index in
    let n = c.loop-byte.number in
    let items = c.as_bytes-byte-items.result.now in
    let terms = terms_texts c.args.terms.now in
    let all = phrase_text items terms in
    let rest = λ (m : ℕ). phrase_text (drop (i + 1) items) (drop m terms) in
    elim c.match-byte.branch [
      | in-123+in_ok-write_term-in-123 w ↦
          let more : c.match-byte.number ≡ n + 1 = omega (arith, w.number-is, w.saturating_add-number.ensures, c.as_bytes-byte-items.ensures.len) in (
            omega arith,
            λ plain.
                let so_far = c.loop-byte.invariant.1 plain in (
                  so_far.0 ++ get_or terms n [],
                  has_written_to_eq _ _ _ _ _ w.f-is (has_written_append _ _ _ _ _ _ so_far.1 (search rules)),
                  ap (λ (m : ℕ). (so_far.0 ++ get_or terms n []) ++ rest m) more
                      ∙ after_term so_far.0 items all terms i n c.loop-byte-test.true w.in-123.is so_far.2,
                ),
          )
      | in-125 w ↦ (
        omega (arith, w.number-is),
        λ plain.
            let so_far = c.loop-byte.invariant.1 plain in (
              so_far.0,
              has_written_to_eq _ _ _ _ _ w.f-is so_far.1,
              ap (λ (m : ℕ). so_far.0 ++ rest m) w.number-is
                  ∙ after_brace so_far.0 items all (drop n terms) i c.loop-byte-test.true w.in-125.is so_far.2,
            ),
      )
      | in_default+in_ok-write_char-in_default w ↦ (
        omega (arith, w.number-is),
        λ plain.
            let so_far = c.loop-byte.invariant.1 plain in (
              so_far.0 ++ encode_utf8 (get_or items i 0),
              has_written_to_eq _ _ _ _ _ w.f-is (has_written_append _ _ _ _ _ _ so_far.1 (search rules)),
              ap (λ (m : ℕ). (so_far.0 ++ encode_utf8 (get_or items i 0)) ++ rest m) w.number-is
                  ∙ after_byte so_far.0 items all (drop n terms) i _ c.loop-byte-test.true refl (omega (arith, w.in_default))
                  (omega (arith, w.in_default)) so_far.2,
            ),
      )
    ]
