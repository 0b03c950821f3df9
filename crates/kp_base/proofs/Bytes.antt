-- Known bytes over several calls.
use Rattle.std.proofs.Common.{◌∙◌, append_assoc, ℕ, List, ◌+◌, [], ◌++◌, take, drop, sym, subst, refl, arith, Ok, Err}
use Rattle.std.{proofs.Math.Seq.take-add, proofs.KnownBytes.Appends-nil, proofs.KnownBytes.Appends-trans, specs.declared.option.Option.Option}
use Rattle.std.specs.{declared.result.Result.Result, Io.KnownBytes.Appends}
use Rattle.kp_base.specs.{Bytes.AppendsPart, Bytes.Writes, inner.Bytes.WrittenUpTo}

-- the next bytes of a piece, after those that were taken
pub appends_next : (a b c : Option (List ℕ)) (piece : List ℕ) (done count : ℕ) → Appends a b (take done piece) → Appends b c (take count (drop done piece)) → Appends a c (take (done + count) piece)
appends_next a b c piece done count before now =
    subst (Appends a c) (sym (take-add done count piece)) (Appends-trans a b c _ _ before now)

-- a prefix of a piece, after what was appended before it
pub part_next : (a b c : Option (List ℕ)) (before piece after : List ℕ) → Appends a b before → AppendsPart b c piece → AppendsPart a c (before ++ (piece ++ after))
part_next a b c before piece after appended (front, rest, split, part) =
    (before ++ front, rest ++ after, grind (arith, append_assoc), Appends-trans a b c _ _ appended part)

-- a prefix of a text is a prefix of a longer text
pub part_more : (a b : Option (List ℕ)) (text more : List ℕ) → AppendsPart a b text → AppendsPart a b (text ++ more)
part_more a b text more (front, rest, split, part) = (front, rest ++ more, grind (arith, append_assoc), part)

-- a text after one that was appended
pub writes_next : {T E : Type 0} (a b c : Option (List ℕ)) (before text : List ℕ) (result : Result T E) → Appends a b before → Writes b c text result → Writes a c (before ++ text) result
writes_next a b c before text (Ok value) appended written = Appends-trans a b c before text appended written
writes_next a b c before text (Err error) appended (front, rest, split, part) =
    (before ++ front, rest, grind (arith, append_assoc), Appends-trans a b c before front appended part)

-- nothing is written yet
pub written_none : (whole : List ℕ) (a : Option (List ℕ)) → WrittenUpTo whole whole a a
written_none whole a = record { done = []; split = refl; appended = Appends-nil a }

-- one more piece
pub written_piece : (whole piece rest : List ℕ) (a b c : Option (List ℕ)) → WrittenUpTo whole (piece ++ rest) a b → Appends b c piece → WrittenUpTo whole rest a c
written_piece whole piece rest a b c so_far piece_appended = record {
  done = so_far.done ++ piece;
  split = so_far.split ∙ sym (append_assoc so_far.done piece rest);
  appended = Appends-trans a b c _ _ so_far.appended piece_appended;
}

-- a part of the next piece
pub written_part : (whole piece rest : List ℕ) (a b c : Option (List ℕ)) → WrittenUpTo whole (piece ++ rest) a b → AppendsPart b c piece → AppendsPart a c whole
written_part whole piece rest a b c so_far part =
    subst (AppendsPart a c) (sym so_far.split) (part_next a b c _ piece rest so_far.appended part)

-- all that was left, or a part of it
pub written_rest : {T E : Type 0} (whole rest : List ℕ) (a b c : Option (List ℕ)) (result : Result T E) → WrittenUpTo whole rest a b → Writes b c rest result → Writes a c whole result
written_rest whole rest a b c result so_far written =
    subst (λ (text : List ℕ). Writes a c text result) (sym so_far.split) (writes_next a b c so_far.done rest result so_far.appended written)

-- all that was left is appended
pub rest_whole : (whole rest : List ℕ) (a b c : Option (List ℕ)) → WrittenUpTo whole rest a b → Appends b c rest → Appends a c whole
rest_whole whole rest a b c so_far appended =
    written_rest {T = ℕ} {E = ℕ} whole rest a b c (Ok 0) so_far appended
