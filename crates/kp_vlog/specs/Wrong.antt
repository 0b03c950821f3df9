-- A module with every form, and replacements for its lines that violate a rule.
use Rattle.std.specs.Prelude.{ℕ, zero, suc, ◌-◌, List, [], ◌∷◌, codes}
use Rattle.kp_base.specs.Refusal.{v_rule}
use Rattle.kp_vlog.specs.{Examples.lines, Verdict.IsRefused}

abbrev pub sample_lines : List (List ℕ)
sample_lines =
    codes "module m_a(input wire clk, input wire rst, input wire [1:0] ext, input [3:0] s_Q, output wire [1:0] full, output wire [1:0] ue, output wire [3:0] back);"
    ∷ codes "  reg [3:0] r_X;"
    ∷ codes "  reg [7:0] f_M [0:3];"
    ∷ codes "  integer i;"
    ∷ codes "  wire [3:0] n0;"
    ∷ codes "  assign n0 = r_X;"
    ∷ codes "  wire [1:0] n1;"
    ∷ codes "  assign n1 = ext;"
    ∷ codes "  wire [7:0] n2;"
    ∷ codes "  assign n2 = f_M[n1];"
    ∷ codes "  wire [0:0] n3;"
    ∷ codes "  assign n3 = n0[3:3];"
    ∷ codes "  wire [3:0] n4;"
    ∷ codes "  assign n4 = s_Q;"
    ∷ codes "  wire [7:0] n5;"
    ∷ codes "  assign n5 = {n0, n4};"
    ∷ codes "  wire [3:0] n6;"
    ∷ codes "  assign n6 = n3 ? n0 : n4;"
    ∷ codes "  assign full = n1;"
    ∷ codes "  assign ue = n1;"
    ∷ codes "  assign back = n6;"
    ∷ codes "  initial begin"
    ∷ codes "    r_X = 4'h5;"
    ∷ codes "    for (i = 0; i < 4; i = i + 1) f_M[i] = 8'h00;"
    ∷ codes "    f_M[2] = 8'hff;"
    ∷ codes "  end"
    ∷ codes "  always @(posedge clk) begin"
    ∷ codes "    if (rst) begin"
    ∷ codes "      r_X <= 4'd5;"
    ∷ codes "    end else begin"
    ∷ codes "      r_X <= n6;"
    ∷ codes "      if (n3) f_M[n1] <= n5;"
    ∷ codes "    end"
    ∷ codes "  end"
    ∷ codes "endmodule"
    ∷ []

-- the lines with the one at this index, counted from 0, replaced
abbrev pub with_line : ℕ → List ℕ → List (List ℕ) → List (List ℕ)
with_line i line [] = []
with_line zero line (l ∷ ls) = line ∷ ls
with_line (suc i) line (l ∷ ls) = l ∷ with_line i line ls

-- the sample, with its line of this number, counted from 1, replaced by this one, violates the rule at the line and column
pub record Row : Type 0 where
  pub number : ℕ
  pub line : List ℕ
  pub rule : ℕ
  pub at_line : ℕ
  pub at_col : ℕ

abbrev row : ℕ → List ℕ → (rule at_line at_col : ℕ) → Row
row number line rule at_line at_col = record { number = number; line = line; rule = rule; at_line = at_line; at_col = at_col }

abbrev pub row_text : Row → List ℕ
row_text r = lines (with_line (r.number - 1) r.line sample_lines)

abbrev pub IsBroken : Row → Type 0
IsBroken r = IsRefused (row_text r) 0 (v_rule r.rule (record { line = r.at_line; col = r.at_col }))

abbrev pub AllBroken : List Row → Type 0
AllBroken [] = Unit {0}
AllBroken (r ∷ rs) = IsBroken r × AllBroken rs

abbrev pub wrong_tokens : List Row
wrong_tokens =
    row 6 (codes "  assign n0 = r_X # 1;") 1 6 19
    ∷ row 6 (codes "  assign n0 = 4'g1;") 1 6 15
    ∷ row 6 (codes "  /* assign n0 = r_X;") 1 6 3
    ∷ row 6 (codes "  assign n0 = nnnnnnnnnnnnnnnnnnnnnnnnnnnnnnnnnnnnnnnnnnnnnnnnnnnnnnnnnnnnnnnnnnnnnnn;") 1 6 15
    ∷ []

abbrev pub wrong_grammar : List Row
wrong_grammar =
    row 6 (codes "  assign n0 r_X;") 2 6 13
    ∷ row 16 (codes "  assign n5 = {n0};") 2 16 18
    ∷ row 16 (codes "  assign n5 = {n0, n4, n0, n0, n0, n0, n0, n0, n0, n0, n0, n0, n0};") 2 16 62
    ∷ row 10 (codes "  assign n2 = f_M[n1;") 2 10 21
    ∷ row 35 (codes "") 2 36 1
    ∷ row 35 (codes "endmodule n0") 2 35 11
    ∷ row 32 (codes "      if (n3) begin") 2 32 15
    ∷ []

abbrev pub wrong_names : List Row
wrong_names =
    row 1 (codes "module a(input wire clk, input wire rst, input wire [1:0] ext, input [3:0] s_Q, output wire [1:0] full, output wire [1:0] ue, output wire [3:0] back);") 3 1 8
    ∷ row 1 (codes "module m_a(input wire ck, input wire rst, input wire [1:0] ext, input [3:0] s_Q, output wire [1:0] full, output wire [1:0] ue, output wire [3:0] back);") 3 1 23
    ∷ row 1 (codes "module m_a(input wire clk, input wire rst, input wire [1:0] ext, input [3:0] q_Q, output wire [1:0] full, output wire [1:0] ue, output wire [3:0] back);") 3 1 78
    ∷ row 2 (codes "  reg [3:0] s_X;") 3 2 13
    ∷ row 3 (codes "  reg [7:0] r_M [0:3];") 3 3 13
    ∷ row 4 (codes "  integer j;") 3 4 11
    ∷ row 4 (codes "") 3 24 10
    ∷ row 5 (codes "  wire [3:0] n;") 3 5 14
    ∷ row 7 (codes "  wire [1:0] n0;") 3 7 14
    ∷ row 6 (codes "  assign n7 = r_X;") 3 6 10
    ∷ row 19 (codes "  assign full = {n3, n3};") 3 19 10
    ∷ row 19 (codes "  assign full = r_X;") 3 19 17
    ∷ row 14 (codes "  assign n4 = n0;") 3 14 15
    ∷ row 10 (codes "  assign n2 = r_X[n1];") 3 10 15
    ∷ row 12 (codes "  assign n3 = r_X[3:3];") 3 12 15
    ∷ row 23 (codes "    f_M = 4'h5;") 3 23 5
    ∷ row 24 (codes "    for (i = 0; i < 4; i = i + 1) f_M[n0] = 8'h00;") 3 24 39
    ∷ row 27 (codes "  always @(posedge rst) begin") 3 27 20
    ∷ row 28 (codes "    if (n3) begin") 3 28 9
    ∷ row 29 (codes "      f_M <= 4'd5;") 3 29 7
    ∷ row 31 (codes "      f_M <= n6;") 3 31 7
    ∷ row 32 (codes "      if (n3) r_X[n1] <= n5;") 3 32 15
    ∷ row 32 (codes "      if (n3) f_M[n1] <= r_X;") 3 32 26
    ∷ row 6 (codes "  assign n0 = n0;") 3 6 15
    ∷ row 18 (codes "  assign n6 = n0; assign n6 = n0;") 3 18 15
    ∷ []

abbrev pub wrong_widths : List Row
wrong_widths =
    row 1 (codes "module m_a(input wire clk, input wire rst, input wire [12:0] ext, input [3:0] s_Q, output wire [1:0] full, output wire [1:0] ue, output wire [3:0] back);") 4 1 62
    ∷ row 1 (codes "module m_a(input wire clk, input wire rst, input wire [1:0] ext, input [3:0] s_Q, output wire [1:0] full, output wire [1:0] ue, output wire [4:0] back);") 4 1 147
    ∷ row 5 (codes "  wire [64:0] n0;") 4 5 15
    ∷ row 5 (codes "  wire [3:1] n0;") 4 5 14
    ∷ row 3 (codes "  reg [7:0] f_M [0:4];") 4 3 13
    ∷ row 3 (codes "  reg [7:0] f_M [1:3];") 4 3 13
    ∷ row 6 (codes "  assign n0 = 5'h05;") 4 6 10
    ∷ row 6 (codes "  assign n0 = 4'h10;") 4 6 15
    ∷ row 16 (codes "  assign n5 = {n0, n3};") 4 16 10
    ∷ row 16 (codes "  assign n5 = n0 + n0;") 4 16 10
    ∷ row 12 (codes "  assign n3 = n0[4:4];") 4 12 10
    ∷ row 12 (codes "  assign n3 = n0[2:3];") 4 12 10
    ∷ row 12 (codes "  assign n3 = n0 == n1;") 4 12 10
    ∷ row 18 (codes "  assign n6 = n1 ? n0 : n4;") 4 18 10
    ∷ row 10 (codes "  assign n2 = f_M[n0];") 4 10 10
    ∷ row 18 (codes "  assign n6 = n5 << n4;") 4 18 10
    ∷ row 24 (codes "    for (i = 0; i < 5; i = i + 1) f_M[i] = 8'h00;") 4 24 35
    ∷ row 25 (codes "    f_M[4] = 8'hff;") 4 25 5
    ∷ row 23 (codes "    r_X = 5'h05;") 4 23 5
    ∷ row 29 (codes "      r_X <= 3'd5;") 4 29 7
    ∷ row 31 (codes "      r_X <= n5;") 4 31 7
    ∷ row 32 (codes "      if (n1) f_M[n1] <= n5;") 4 32 15
    ∷ row 1 (codes "module m_a(input wire clk, input wire rst, input wire [1:0] ext, input [3:0] s_Q, output wire [2:0] full, output wire [2:0] ue, output wire [3:0] back);") 4 19 10
    ∷ []

abbrev pub wrong_drivers : List Row
wrong_drivers =
    row 18 (codes "  assign n6 = n3 ? n6 : n4;") 5 18 20
    ∷ row 18 (codes "") 5 17 14
    ∷ row 20 (codes "") 5 1 125
    ∷ row 21 (codes "  assign back = n6; assign back = n6;") 5 21 28
    ∷ row 23 (codes "") 5 2 13
    ∷ row 23 (codes "    r_X = 4'h5; r_X = 4'h5;") 5 23 17
    ∷ row 24 (codes "") 5 3 13
    ∷ row 24 (codes "    f_M[1] = 8'hff; for (i = 0; i < 4; i = i + 1) f_M[i] = 8'h00;") 5 24 5
    ∷ row 25 (codes "    for (i = 0; i < 4; i = i + 1) f_M[i] = 8'h00;") 5 25 35
    ∷ row 29 (codes "") 5 2 13
    ∷ row 29 (codes "      r_X <= 4'd6;") 5 29 7
    ∷ row 29 (codes "      r_X <= 4'd5; r_X <= 4'd5;") 5 29 20
    ∷ row 31 (codes "") 5 2 13
    ∷ row 31 (codes "      r_X <= n6; r_X <= n6;") 5 31 18
    ∷ row 32 (codes "      if (n3) f_M[n1] <= n5; if (n3) f_M[n1] <= n5;") 5 32 38
    ∷ []

-- with a `ue` that is wider than `ext`
abbrev pub wide_ue : List ℕ
wide_ue = lines (with_line 19 (codes "  wire [2:0] n7; assign n7 = 3'h0; assign ue = n7;") (with_line 0 (codes "module m_a(input wire clk, input wire rst, input wire [1:0] ext, input [3:0] s_Q, output wire [1:0] full, output wire [2:0] ue, output wire [3:0] back);") sample_lines))

-- with a reset port and no reset list
abbrev pub no_reset_list : List ℕ
no_reset_list = lines (with_line 32 (codes "") (with_line 29 (codes "") (with_line 28 (codes "") (with_line 27 (codes "") sample_lines))))
