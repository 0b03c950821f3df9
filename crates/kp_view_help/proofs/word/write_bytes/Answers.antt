use Rattle.std.proofs.{Common.[], Common.ap, Common.sym, Common.◌∙◌, Common.take, Common.rules, Output.has_written_append, Output.has_written_of_eq}
use Rattle.std.{proofs.lemmas.List.flat_map_more, proofs.lemmas.List.take_more, proofs.lemmas.List.take_all, specs.Prelude.flat_map, specs.Char.encode_utf8}
use Rattle.kp_view_help.proofs.word.write_bytes.Goals as goal

pub loop-byte-preserved : goal.loop-byte-preserved
loop-byte-preserved g c = λ plain.
    let more = flat_map_more encode_utf8 [] (take c.loop-byte.byte-index c.args.bytes.now) _ ∙ ap (flat_map encode_utf8) (sym (take_more c.args.bytes.now c.loop-byte.byte-index 0 c.loop-byte-test.true)) in
    has_written_of_eq _ _ _ _ _ more (has_written_append _ _ _ _ _ _ (c.loop-byte.invariant plain) (search rules))

pub returns : goal.returns
returns g c = λ plain ok. has_written_of_eq _ _ _ _ _ (ap (flat_map encode_utf8) (take_all c.loop-byte.byte-index c.args.bytes.now c.loop-byte-test.false)) (c.loop-byte.invariant plain)
