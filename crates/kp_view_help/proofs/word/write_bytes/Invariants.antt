use Rattle.std.{proofs.Common.take, specs.Prelude.flat_map, specs.Char.encode_utf8, specs.Fmt.HasWritten, specs.Fmt.IsPlainFormatter}
use Rattle.kp_view_help.proofs.word.write_bytes.Given as goal

abbrev pub invariant-loop-byte : goal.invariant-loop-byte
invariant-loop-byte g l = IsPlainFormatter l.initial.f → HasWritten g.W.Write.write_str_gives l.initial.f (flat_map encode_utf8 (take l.byte-index l.bytes)) l.f
