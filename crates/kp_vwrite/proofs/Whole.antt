-- The canonical text is the concatenation of its parts.
use Rattle.std.proofs.Common.{◌≡◌, ◌∙◌, ℕ, ◌-◌, Bool, true, false, List, [], ◌∷◌, ◌++◌, refl, ap, ap₂, append_assoc, append-nil}
use Rattle.std.specs.Prelude.{codes, decimal}
use Rattle.kp_net.specs.{declared.node.Node.Node, declared.netlist.Parts.Parts, Widths.wide, Netlist.Net}
use Rattle.kp_vlog.specs.Canon.{canon, text_of, header, reset_port, sample_ports, out_ports, reg_lines, file_lines, integer_line, node_lines, out_line, start_lines, fill_lines, update_lines, port_lines, change_lines, reset_lines, body_lines}
use Rattle.kp_vwrite.specs.Texts.{reset_text, start_text, outputs_text, header_text, outs_text, samples_text, integer_text, changes_text, body_text, whole_text}
use Rattle.kp_vwrite.proofs.Lines.{text_append, samples_are, regs_are, files_are, nodes_are, starts_are, resets_are, fills_are, updates_are, ports_are}

header_split : (m n c r i x k s o : List ℕ) → m ++ (n ++ (c ++ (r ++ (i ++ (x ++ (k ++ (s ++ o))))))) ≡ (m ++ (n ++ (c ++ (r ++ (i ++ (x ++ (k ++ []))))))) ++ (s ++ o)
header_split m n c r i x k s o = simp (append_assoc, append-nil)

reset_is : (reset : Bool) (rest : List (List ℕ)) → text_of (reset_port reset ++ rest) ≡ reset_text reset ++ text_of rest
reset_is true rest = refl
reset_is false rest = refl

header_is : (ns : List Node) (p : Parts) → text_of (header ns p) ≡ header_text ns p
unfolding start_text outputs_text
header_is ns p =
    let outs = out_ports (wide ns p.full.0) (wide ns p.ue.0) (wide ns p.back.0) in
    ap (λ t. codes "module " ++ (p.name ++ (codes "(input wire clk, " ++ t))) (reset_is p.reset (codes "input wire [" ∷ decimal (p.ext - 1) ∷ codes ":0] ext, " ∷ (sample_ports p.samples ++ outs)))
    ∙ ap (λ t. codes "module " ++ (p.name ++ (codes "(input wire clk, " ++ (reset_text p.reset ++ (codes "input wire [" ++ (decimal (p.ext - 1) ++ (codes ":0] ext, " ++ t)))))))
    (text_append (sample_ports p.samples) outs ∙ ap (λ t. t ++ text_of outs) (samples_are p.samples))
    ∙ header_split (codes "module ") p.name (codes "(input wire clk, ") (reset_text p.reset) (codes "input wire [") (decimal (p.ext - 1)) (codes ":0] ext, ") (samples_text p.samples) (text_of outs)

changes_are : (margin : List ℕ) (p : Parts) → text_of (change_lines margin p) ≡ changes_text margin p
changes_are margin p = text_append (update_lines margin p.regs) (port_lines margin p.files) ∙ ap₂ (λ (x y : List ℕ). x ++ y) (updates_are margin p.regs) (ports_are margin p.files)

body_split : (r c : List (List ℕ)) (x y z : List ℕ) → text_of (x ∷ (r ++ (y ∷ (c ++ (z ∷ []))))) ≡ x ++ (text_of r ++ (y ++ (text_of c ++ z)))
body_split r c x y z = simp (text_append, append-nil)

body_is : (reset : Bool) (p : Parts) → text_of (body_lines reset p) ≡ body_text reset p
body_is false p = changes_are (codes "    ") p
body_is true p =
    body_split (reset_lines p.regs) (change_lines (codes "      ") p) (codes "    if (rst) begin\n") (codes "    end else begin\n") (codes "    end\n")
    ∙ ap₂ (λ (r c : List ℕ). codes "    if (rst) begin\n" ++ (r ++ (codes "    end else begin\n" ++ (c ++ codes "    end\n")))) (resets_are p.regs) (changes_are (codes "      ") p)

-- the lists of pieces, each by itself
split : (h r f i n o s w b : List (List ℕ)) (y z front : List ℕ) → text_of h ≡ front → text_of (h ++ (r ++ (f ++ (i ++ (n ++ (o ++ (s ++ (w ++ (y ∷ (b ++ (z ∷ [])))))))))))
    ≡ front ++ ((text_of r ++ (text_of f ++ text_of i)) ++ (text_of n ++ (text_of o ++ ((text_of s ++ text_of w) ++ (y ++ (text_of b ++ z))))))
split h r f i n o s w b y z front is = rw (← is) (simp (text_append, append_assoc, append-nil))

pub canon_is : (net : Net) → canon net ≡ whole_text net
unfolding canon integer_text outs_text
canon_is net =
    let p = net.parts in
    let outs = out_line (codes "full") p.full ++ (out_line (codes "ue") p.ue ++ (out_line (codes "back") p.back ++ (codes "  initial begin\n" ∷ []))) in
    split (header net.nodes p) (reg_lines p.regs) (file_lines p.files) (integer_line p.files) (node_lines p 0 net.nodes) outs
    (start_lines p.regs) (fill_lines p.files) (body_lines p.reset p) (codes "  end\n  always @(posedge clk) begin\n") (codes "  end\nendmodule\n")
    (header_text net.nodes p) (header_is net.nodes p)
    ∙ rw (regs_are p.regs, files_are p.files, nodes_are p 0 net.nodes, starts_are p.regs, fills_are p.files, body_is p.reset p) refl
