-- The canonical text of a netlist has one line with its ports, which ends with `);`, and a last line `endmodule`. So the ports and the lines that are added
-- are before these.
use Rattle.std.proofs.Common.{◌≡◌, ◌∙◌, ℕ, zero, suc, ◌+◌, ◌-◌, ◌%◌, ◌^◌, ◌<◌, Bool, true, false, cond, ◌==◌, not, List, [], ◌∷◌, ◌++◌, length, take, drop, refl, sym, ap, subst, arith, append_assoc}
use Rattle.std.proofs.lemmas.{Bool.agree_below_at, Bool.and_from, Bool.and_parts, Bool.eqb-true, Fmt.decimal_by_steps, List.Folds.list_all-append}
use Rattle.std.proofs.{lemmas.List.length-append, Math.Seq.take-append_seam, Math.Seq.drop-append_seam, Math.Seq.drop-append-add}
use Rattle.std.specs.{Prelude.codes, Prelude.decimal, Prelude.slice_range, Prelude.All, Prelude.map, Prelude.◌&&◌, List.list_all}
use Rattle.kp_base.specs.Characters.{run_length}
use Rattle.kp_net.specs.declared.{node.Node.Node, netlist.Port.Port, netlist.Parts.Parts}
use Rattle.kp_net.specs.{Names.IsNamed, Names.IsSpelled, Names.is_in_identifier, Netlist.Net, Parts.NetOk, Parts.PortOk, Widths.wide}
use Rattle.kp_vlog.specs.Canon.{Pieces, text_of, reset_port, sample_ports, out_ports, header, reg_lines, file_lines, integer_line, node_lines, out_line, start_lines, fill_lines, body_lines, pieces, canon}
use Rattle.kp_vwrite.proofs.Lines.{text_append}
use Rattle.kp_core_ports.specs.{Core.is_in_line, Core.last_line, Core.header_end, Core.with_added, Extended.IsExtended}

-- ---- bytes of one line

abbrev InLine : List ℕ → Type 0
InLine text = list_all is_in_line text ≡ true

joined : (xs ys : List ℕ) → InLine xs → InLine ys → InLine (xs ++ ys)
joined xs ys h k = list_all-append is_in_line xs ys ∙ and_from (list_all is_in_line xs) (list_all is_in_line ys) h k

abbrev AllInLine : Pieces → Type 0
AllInLine [] = Unit {0}
AllInLine (p ∷ ps) = InLine p × AllInLine ps

text_in_line : (ps : Pieces) → AllInLine ps → InLine (text_of ps)
text_in_line [] h = refl
text_in_line (p ∷ ps) h = joined p (text_of ps) h.0 (text_in_line ps h.1)

pieces_joined : (ps qs : Pieces) → AllInLine ps → AllInLine qs → AllInLine (ps ++ qs)
pieces_joined [] qs h k = k
pieces_joined (p ∷ ps) qs h k = (h.0, pieces_joined ps qs h.1 k)

each : (xs : List ℕ) → InLine xs → All (λ byte. is_in_line byte ≡ true) xs
each [] h k d l = absurd (omega (arith, l))
each (x ∷ xs) h zero d l = (and_parts (is_in_line x) (list_all is_in_line xs) h).0
each (x ∷ xs) h (suc k) d l = each xs (and_parts (is_in_line x) (list_all is_in_line xs) h).1 k d (omega (arith, l))

digit : (n : ℕ) → n < 10 → is_in_line (48 + n) ≡ true
digit n h = agree_below_at (λ k. is_in_line (48 + k)) (λ _. true) 10 n refl h

number : (n : ℕ) → n < 2 ^ 64 → InLine (decimal n)
number = decimal_by_steps (λ n ds. InLine ds) (λ n low. and_from (is_in_line (48 + n)) true (digit n low) refl)
    (λ n ds high done. joined ds _ done (and_from (is_in_line (48 + n % 10)) true (digit (n % 10) (omega arith)) refl))

-- ---- the names of a netlist

off_break : (b : ℕ) (t : Bool) → (b == 10) ≡ t → is_in_identifier b ≡ true → not t ≡ true
off_break b false e h = refl
off_break b true e h = let is : b ≡ 10 = eqb-true b 10 e in absurd (cc (subst (λ (x : ℕ). is_in_identifier x ≡ true) is h))

in_identifier : (b : ℕ) → is_in_identifier b ≡ true → is_in_line b ≡ true
in_identifier b h = off_break b (b == 10) refl h

in_name : (bs : List ℕ) → All (λ b. is_in_identifier b ≡ true) bs → InLine bs
in_name [] h = refl
in_name (b ∷ bs) h = and_from (is_in_line b) (list_all is_in_line bs) (in_identifier b (h 0 b (omega arith))) (in_name bs (λ k d l. h (suc k) d (omega (arith, l))))

-- ---- the first line

abbrev out_front : ℕ → ℕ → ℕ → Pieces
out_front full ue back =
    codes "output wire [" ∷ decimal (full - 1) ∷ codes ":0] full, output wire [" ∷ decimal (ue - 1) ∷ codes ":0] ue, output wire [" ∷ decimal (back - 1)
    ∷ codes ":0] back" ∷ []

abbrev front_pieces : List Node → Parts → Pieces
front_pieces ns p =
    codes "module " ∷ p.name ∷ codes "(input wire clk, " ∷ (reset_port p.reset ++ (codes "input wire [" ∷ decimal (p.ext - 1) ∷ codes ":0] ext, "
    ∷ (sample_ports p.samples ++ out_front (wide ns p.full.0) (wide ns p.ue.0) (wide ns p.back.0))))

-- a text that ends with another one
record Splits (ps qs : Pieces) (t : List ℕ) : Type 0 where
  pub is : text_of ps ≡ text_of qs ++ t

splits_cons : (p : List ℕ) (ps qs : Pieces) (t : List ℕ) → Splits ps qs t → Splits (p ∷ ps) (p ∷ qs) t
splits_cons p ps qs t h = record { is = ap (λ (x : List ℕ). p ++ x) h.is ∙ sym (append_assoc p (text_of qs) t) }

splits_behind : (xs ps qs : Pieces) (t : List ℕ) → Splits ps qs t → Splits (xs ++ ps) (xs ++ qs) t
splits_behind [] ps qs t h = h
splits_behind (x ∷ xs) ps qs t h = splits_cons x (xs ++ ps) (xs ++ qs) t (splits_behind xs ps qs t h)

out_splits : (full ue back : ℕ) → Splits (out_ports full ue back) (out_front full ue back) (codes ");\n")
out_splits full ue back = splits_cons _ _ _ _ (splits_cons _ _ _ _ (splits_cons _ _ _ _ (splits_cons _ _ _ _ (splits_cons _ _ _ _ (splits_cons _ _ _ _ (record { is = refl }))))))

header_splits : (ns : List Node) (p : Parts) → Splits (header ns p) (front_pieces ns p) (codes ");\n")
header_splits ns p =
    splits_cons _ _ _ _ (splits_cons _ _ _ _ (splits_cons _ _ _ _ (splits_behind (reset_port p.reset) _ _ _
    (splits_cons _ _ _ _ (splits_cons _ _ _ _ (splits_cons _ _ _ _ (splits_behind (sample_ports p.samples) _ _ _
    (out_splits (wide ns p.full.0) (wide ns p.ue.0) (wide ns p.back.0)))))))))

samples_in_line : (ss : List Port) → All PortOk ss → All (λ (s : Port). All (λ b. is_in_identifier b ≡ true) s.name) ss → AllInLine (sample_ports ss)
samples_in_line [] ok named = tt
samples_in_line (s ∷ ss) ok named =
    let few = (ok 0 s (omega arith)).at_most in
    let rest : AllInLine (sample_ports ss) = samples_in_line ss (λ k d l. ok (suc k) d (omega (arith, l))) (λ k d l. named (suc k) d (omega (arith, l))) in
    (refl, (number (s.width - 1) (omega (arith, few)), (refl, (in_name s.name (named 0 s (omega arith)), (refl, rest)))))

reset_in_line : (b : Bool) → AllInLine (reset_port b)
reset_in_line true = (refl, tt)
reset_in_line false = tt

sample_names : (ss : List Port) (test : List ℕ → Bool) → All (IsSpelled test) (map (λ (s : Port). s.name) ss)
    → All (λ (s : Port). All (λ b. is_in_identifier b ≡ true) s.name) ss
sample_names [] test h k d l = absurd (omega (arith, l))
sample_names (s ∷ ss) test h zero d l = (h 0 s.name (omega arith)).bytes
sample_names (s ∷ ss) test h (suc k) d l = sample_names ss test (λ i e m. h (suc i) e (omega (arith, m))) k d (omega (arith, l))

front_in_line : (net : Net) → NetOk net → IsNamed net → AllInLine (front_pieces net.nodes net.parts)
front_in_line net ok n =
    let most = n.at_most in
    let ext = number (net.parts.ext - 1) (omega (arith, most)) in
    let full = let e = n.full in number (wide net.nodes net.parts.full.0 - 1) (omega (arith, e, most)) in
    let ue = let e = n.ue in number (wide net.nodes net.parts.ue.0 - 1) (omega (arith, e, most)) in
    let back = let e = n.back in number (wide net.nodes net.parts.back.0 - 1) (omega (arith, e)) in
    let outputs : AllInLine (out_front (wide net.nodes net.parts.full.0) (wide net.nodes net.parts.ue.0) (wide net.nodes net.parts.back.0)) =
    (refl, (full, (refl, (ue, (refl, (back, (refl, tt))))))) in
    let samples = pieces_joined (sample_ports net.parts.samples) _ (samples_in_line net.parts.samples ok.parts.samples (sample_names net.parts.samples _ n.samples)) outputs in
    (refl, (in_name net.parts.name n.name.bytes, (refl, pieces_joined (reset_port net.parts.reset) _ (reset_in_line net.parts.reset) (refl, (ext, (refl, samples))))))

-- ---- the last line

record Closes (ps : Pieces) : Type 0 where
  pub middle : List ℕ
  pub is : text_of ps ≡ middle ++ codes "endmodule\n"

closes_cons : (p : List ℕ) (ps : Pieces) → Closes ps → Closes (p ∷ ps)
closes_cons p ps h = record { middle = p ++ h.middle; is = ap (λ (x : List ℕ). p ++ x) h.is ∙ sym (append_assoc p h.middle (codes "endmodule\n")) }

closes_behind : (xs ps : Pieces) → Closes ps → Closes (xs ++ ps)
closes_behind [] ps h = h
closes_behind (x ∷ xs) ps h = closes_cons x (xs ++ ps) (closes_behind xs ps h)

abbrev body_of : Net → Pieces
body_of net =
    reg_lines net.parts.regs
    ++ (file_lines net.parts.files
    ++ (integer_line net.parts.files
    ++ (node_lines net.parts 0 net.nodes
    ++ (out_line (codes "full") net.parts.full
    ++ (out_line (codes "ue") net.parts.ue
    ++ (out_line (codes "back") net.parts.back
    ++ (codes "  initial begin\n" ∷ (start_lines net.parts.regs
    ++ (fill_lines net.parts.files
    ++ (codes "  end\n  always @(posedge clk) begin\n" ∷ (body_lines net.parts.reset net.parts
    ++ (codes "  end\nendmodule\n" ∷ []))))))))))))

body_closes : (net : Net) → Closes (body_of net)
body_closes net =
    closes_behind (reg_lines net.parts.regs) _ (closes_behind (file_lines net.parts.files) _ (closes_behind (integer_line net.parts.files) _
    (closes_behind (node_lines net.parts 0 net.nodes) _ (closes_behind (out_line (codes "full") net.parts.full) _ (closes_behind (out_line (codes "ue") net.parts.ue) _
    (closes_behind (out_line (codes "back") net.parts.back) _ (closes_cons (codes "  initial begin\n") _ (closes_behind (start_lines net.parts.regs) _
    (closes_behind (fill_lines net.parts.files) _ (closes_cons (codes "  end\n  always @(posedge clk) begin\n") _ (closes_behind (body_lines net.parts.reset net.parts) _
    (record { middle = codes "  end\n"; is = refl }))))))))))))

-- ---- both

run_front : (front rest : List ℕ) → InLine front → run_length is_in_line (front ++ (codes ");\n" ++ rest)) ≡ length front + 2
run_front [] rest h = refl
run_front (c ∷ cs) rest h =
    let on = (and_parts (is_in_line c) (list_all is_in_line cs) h).0 in
    let more = run_front cs rest (and_parts (is_in_line c) (list_all is_in_line cs) h).1 in
    ap (λ (b : Bool). cond b (run_length is_in_line (cs ++ (codes ");\n" ++ rest)) + 1) 0) on ∙ omega (arith, more)

spliced : (front a m e ports lines text : List ℕ) (h n : ℕ) → text ≡ front ++ (a ++ (m ++ e)) → h ≡ length front → n ≡ length front + length (a ++ m)
    → take h text ++ (ports ++ (slice_range text h n ++ (lines ++ drop n text))) ≡ front ++ (ports ++ (a ++ (m ++ (lines ++ e))))
spliced front a m e ports lines text h n is start end =
    let am : List ℕ = a ++ m in
    let other : text ≡ front ++ (am ++ e) = is ∙ ap (λ (x : List ℕ). front ++ x) (sym (append_assoc a m e)) in
    let first : take h text ≡ front = ap (λ (x : List ℕ). take h x) other ∙ ap (λ (k : ℕ). take k (front ++ (am ++ e))) start ∙ take-append_seam front (am ++ e) in
    let rest : drop h text ≡ am ++ e = ap (λ (x : List ℕ). drop h x) other ∙ ap (λ (k : ℕ). drop k (front ++ (am ++ e))) start ∙ drop-append_seam front (am ++ e) in
    let many : n - h ≡ length am = omega (arith, start, end) in
    let middle : slice_range text h n ≡ am = ap (λ (x : List ℕ). take (n - h) x) rest ∙ ap (λ (k : ℕ). take k (am ++ e)) many ∙ take-append_seam am e in
    let last : drop n text ≡ e =
    ap (λ (x : List ℕ). drop n x) other ∙ ap (λ (k : ℕ). drop k (front ++ (am ++ e))) end ∙ drop-append-add front (am ++ e) (length am) ∙ drop-append_seam am e in
    rw (first, middle, last) (ap (λ (x : List ℕ). front ++ (ports ++ x)) (append_assoc a m (lines ++ e)))

extending : (front m ports lines text : List ℕ) → InLine front → text ≡ front ++ (codes ");\n" ++ (m ++ codes "endmodule\n"))
    → with_added text ports lines ≡ front ++ (ports ++ (codes ");\n" ++ (m ++ (lines ++ codes "endmodule\n"))))
extending front m ports lines text h is =
    let e : List ℕ = codes "endmodule\n" in
    let tail : length (m ++ e) ≡ length m + 10 = length-append m e in
    let all : length (front ++ (codes ");\n" ++ (m ++ e))) ≡ length front + length (codes ");\n" ++ (m ++ e)) = length-append front (codes ");\n" ++ (m ++ e)) in
    let behind : length (codes ");\n" ++ (m ++ e)) ≡ 3 + length (m ++ e) = length-append (codes ");\n") (m ++ e) in
    let am : length (codes ");\n" ++ m) ≡ 3 + length m = length-append (codes ");\n") m in
    let long : length text ≡ length front + (length m + 13) = ap (λ (x : List ℕ). length x) is ∙ omega (arith, all, behind, tail) in
    let line : run_length is_in_line text ≡ length front + 2 = ap (run_length is_in_line) is ∙ run_front front (m ++ e) h in
    spliced front (codes ");\n") m e ports lines text (header_end text) (last_line text) is (omega (arith, long, line)) (omega (arith, long, am))

pub extended : (net : Net) (ports lines : List ℕ) → NetOk net → IsNamed net → IsExtended (canon net) ports lines (with_added (canon net) ports lines)
unfolding canon
extended net ports lines ok n =
    let body = body_closes net in
    let m : List ℕ = body.middle in
    let front : List ℕ = text_of (front_pieces net.nodes net.parts) in
    let one : InLine front = text_in_line (front_pieces net.nodes net.parts) (front_in_line net ok n) in
    let is : text_of (pieces net) ≡ front ++ (codes ");\n" ++ (m ++ codes "endmodule\n")) =
    text_append (header net.nodes net.parts) (body_of net)
    ∙ ap (λ (x : List ℕ). x ++ text_of (body_of net)) (header_splits net.nodes net.parts).is
    ∙ append_assoc front (codes ");\n") (text_of (body_of net))
    ∙ ap (λ (x : List ℕ). front ++ (codes ");\n" ++ x)) body.is in
    record { front = front; middle = m; one_line = each front one; text_is = is; whole_is = extending front m ports lines (text_of (pieces net)) one is }
