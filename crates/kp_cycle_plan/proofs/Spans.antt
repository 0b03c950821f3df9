-- What the spans of a memory hold.
use Rattle.std.proofs.Common.{◌≡◌, ℕ, ◌+◌, ◌<◌, List, [], ◌∷◌, ◌++◌, length, get_or, set, map, take, drop, suc, sym, subst, ap, ◌∙◌, arith, Option}
use Rattle.std.proofs.lemmas.List.{get_or-map, get_or_default, length-take-le, length-map, take_more, drop_more, set-set, get_or-set_same, map_push, map_more, append_assoc}
use Rattle.std.proofs.{lemmas.List.Elements.All-get_or, Math.Seq.set-append_seam}
use Rattle.kp_region.specs.{declared.span.Span.Span, Words.Words, Words.IsWithin, Words.span_words, Words.written, Spans.Apart, Spans.no_span}
use Rattle.kp_region.proofs.Spans.{span_length, write_one}
use Rattle.kp_cycle_plan.specs.Storage.{Stored, Fits}
use Rattle.kp_net.specs.{declared.netlist.NetFile.NetFile, Netlist.Net, Netlist.State, Parts.NetOk, Parts.FileOk, Parts.no_file}

-- a memory, as what its spans hold
abbrev pub stored : List ℕ → List (Option State) → List (List ℕ) → Stored
stored values slots l = record { nodes = values; regs = get_or l 0 []; files = drop 1 l; slots = slots }

abbrev pub stored_in : List ℕ → Span → List Span → List (Option State) → Words → Stored
stored_in values g fs slots r = record { nodes = values; regs = span_words r g; files = map (span_words r) fs; slots = slots }

-- the span of a file
pub file_is : (r : Words) (fs : List Span) (file : ℕ) → file < length fs → get_or (map (span_words r) fs) file [] ≡ span_words r (get_or fs file no_span)
file_is r fs file h = get_or-map (span_words r) fs file no_span [] h

-- an address of a file is one in its span
pub address_in : (r : Words) (g : Span) (fs : List Span) (file address : ℕ) → Apart r (g ∷ fs) → file < length fs → address < length (get_or (map (span_words r) fs) file []) → address < (get_or fs file no_span).len
address_in r g fs file address h l m = omega (arith, m, ap length (file_is r fs file l), span_length r (get_or fs file no_span) h.sound (h.within (suc file) (omega arith)))

-- spans of the right lengths fit the netlist
pub fits_laid : (net : Net) (values : List ℕ) (r : Words) (g : Span) (fs : List Span) (slots : List (Option State)) → NetOk net → length values ≡ length net.nodes → Apart r (g ∷ fs) → g.len ≡ length net.parts.regs
    → map (λ (s : Span). s.len) fs ≡ map (λ (f : NetFile). length f.words) net.parts.files → Fits net (stored_in values g fs slots r)
fits_laid net values r g fs slots ok a h b e =
    let len : Span → ℕ = λ s. s.len in
    let size : NetFile → ℕ = λ f. length f.words in
    let same : length fs ≡ length net.parts.files = sym (length-map fs len) ∙ ap length e ∙ length-map net.parts.files size in
    record {
      right = ok;
      nodes = a;
      regs = span_length r g h.sound (h.within 0 (omega arith)) ∙ b;
      files = length-map fs (span_words r) ∙ same;
      words = λ f l. let l' : f < length fs = omega (arith, same) in
          let file : FileOk net.nodes (get_or net.parts.files f no_file) = All-get_or (FileOk net.nodes) net.parts.files f no_file l ok.parts.files in
          ap length (file_is r fs f l') ∙ span_length r (get_or fs f no_span) h.sound (h.within (suc f) (omega arith))
          ∙ sym (get_or-map len fs f no_span 0 l') ∙ ap (λ (xs : List ℕ). get_or xs f 0) e ∙ get_or-map size net.parts.files f no_file 0 l ∙ file.full;
    }

-- the span that a memory has of a file holds each address of it
pub file_span : (values : List ℕ) (r : Words) (g : Span) (fs : List Span) (slots : List (Option State)) (m : Stored) (file address : ℕ) (s : Span) → Apart r (g ∷ fs) → stored_in values g fs slots r ≡ m → file < length m.files → address < length (get_or m.files file []) → s ≡ get_or fs file s
    → IsWithin s r × (address < s.len) × (s ≡ get_or fs file no_span) × (file < length fs)
file_span values r g fs slots m file address s h v l a e =
    let l' : file < length fs = omega (arith, l, ap (λ (x : Stored). length x.files) v, length-map fs (span_words r)) in
    let i : s ≡ get_or fs file no_span = e ∙ get_or_default fs file s no_span l' in
    let a' : address < length (get_or (map (span_words r) fs) file []) = omega (arith, a, ap (λ (x : Stored). length (get_or x.files file [])) v) in
    let P : Span → Type 0 = λ x. IsWithin x r in
    (subst P (sym i) (h.within (suc file) (omega arith)), omega (arith, address_in r g fs file address h l' a', ap (λ (x : Span). x.len) i), i, l')

-- a write into the span of a file is a write into the file
pub write_file : (values : List ℕ) (r : Words) (g : Span) (fs : List Span) (slots : List (Option State)) (file address v : ℕ) → Apart r (g ∷ fs) → file < length fs → address < (get_or fs file no_span).len
    → stored_in values g fs slots (written r (get_or fs file no_span) address v) ≡ record (stored_in values g fs slots r) { files = set (map (span_words r) fs) file (set (get_or (map (span_words r) fs) file []) address v) }
write_file values r g fs slots file address v h l m =
    ap (stored values slots) (write_one r (g ∷ fs) (suc file) address v h (omega arith) m)
    ∙ ap (λ (ws : List ℕ). record (stored_in values g fs slots r) { files = set (map (span_words r) fs) file (set ws address v) }) (sym (file_is r fs file l))

-- the spans of files have their lengths, one by one
pub lens_more : (files : List NetFile) (spans : List Span) (i : ℕ) (s : Span) (x : NetFile) → i < length files → s.len ≡ length x.words → x ≡ get_or files i x
    → map (λ (t : Span). t.len) spans ≡ map (λ (f : NetFile). length f.words) (take i files) → map (λ (t : Span). t.len) (spans ++ s ∷ []) ≡ map (λ (f : NetFile). length f.words) (take (i + 1) files)
lens_more files spans i s x h a b e =
    let len : Span → ℕ = λ t. t.len in
    let size : NetFile → ℕ = λ f. length f.words in
    let l : s.len ≡ size (get_or files i x) = a ∙ ap size b in
    map_push len spans s ∙ (λ j. e j ++ l j ∷ []) ∙ sym (map_more size files i x h)

-- one more word of a file is filled in
pub filled_more : (files : List (List ℕ)) (file i : ℕ) (ws : List ℕ) → file < length files → length ws ≡ length (get_or files file []) → i < length ws
    → let x : List ℕ = take i ws ++ drop i (get_or files file []) in set (set files file x) file (set (get_or (set files file x) file []) i (get_or ws i 0)) ≡ set files file (take (i + 1) ws ++ drop (i + 1) (get_or files file []))
filled_more files file i ws h e l =
    let old : List ℕ = get_or files file [] in
    let x : List ℕ = take i ws ++ drop i old in
    let v : ℕ = get_or ws i 0 in
    let n : length (take i ws) ≡ i = length-take-le i ws (omega arith) in
    let one : set x i v ≡ take (i + 1) ws ++ drop (i + 1) old =
    ap (λ (ys : List ℕ). set (take i ws ++ ys) i v) (drop_more old i 0 (omega (arith, e)))
    ∙ ap (λ (k : ℕ). set (take i ws ++ get_or old i 0 ∷ drop (i + 1) old) k v) (sym n)
    ∙ set-append_seam (take i ws) (get_or old i 0) (drop (i + 1) old) v
    ∙ sym (append_assoc (take i ws) (v ∷ []) (drop (i + 1) old))
    ∙ ap (λ (ys : List ℕ). ys ++ drop (i + 1) old) (sym (take_more ws i 0 l)) in
    set-set files file x (set (get_or (set files file x) file []) i v)
    ∙ ap (λ (ys : List ℕ). set files file (set ys i v)) (get_or-set_same files file x [] h)
    ∙ ap (set files file) one
