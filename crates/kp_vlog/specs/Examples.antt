-- Two netlists with their texts: a counter, and one with each kind of node, a file with and one without a write port, a reset and a sample port.
use Rattle.std.specs.Prelude.{ℕ, true, false, List, [], ◌∷◌, ◌++◌, codes, Option, Some, None}
use Rattle.kp_bits.specs.declared.operator.BinOp.{BinOp}
use Rattle.kp_net.specs.declared.node.{NodeId.NodeId, Kind.Kind}
use Rattle.kp_net.specs.declared.node.Kind.TheVariants.{Const, Ext, Sample, Reg, Word, Not, Binary, Mux, Concat, Slice}
use Rattle.kp_net.specs.declared.{node.Node.Node, netlist.Port.Port, netlist.WritePort.WritePort, netlist.NetReg.NetReg, netlist.NetFile.NetFile}
use Rattle.kp_net.specs.{declared.netlist.Parts.Parts, Netlist.Net}

-- lines, each ended by a line feed
abbrev pub lines : List (List ℕ) → List ℕ
lines [] = []
lines (l ∷ ls) = l ++ (10 ∷ lines ls)

abbrev pub node : ℕ → NodeId
node k = record { 0 = k }

abbrev pub of_kind : ℕ → Kind → Node
of_kind width kind = record { width = width; kind = kind }

abbrev pub port : List ℕ → ℕ → Port
port name width = record { name = name; width = width }

abbrev pub reg : List ℕ → (width start next : ℕ) → NetReg
reg name width value next = record { name = name; start = record { width = width; value = value }; next = node next }

abbrev pub file : List ℕ → (width address_width : ℕ) → List ℕ → Option WritePort → NetFile
file name width address_width words port = record { name = name; width = width; address_width = address_width; words = words; port = port }

abbrev pub counter_nodes : List Node
counter_nodes =
    of_kind 4 (Reg 0)
    ∷ of_kind 1 (Reg 1)
    ∷ of_kind 2 Ext
    ∷ of_kind 1 (Slice (node 2) 0 0)
    ∷ of_kind 1 (Slice (node 2) 1 1)
    ∷ of_kind 1 (Binary BinOp.And (node 1) (node 4))
    ∷ of_kind 1 (Binary BinOp.Or (node 3) (node 5))
    ∷ of_kind 1 (Not (node 6))
    ∷ of_kind 1 (Not (node 4))
    ∷ of_kind 1 (Binary BinOp.And (node 1) (node 8))
    ∷ of_kind 1 (Binary BinOp.Or (node 7) (node 5))
    ∷ of_kind 4 (Const 1)
    ∷ of_kind 4 (Binary BinOp.Add (node 0) (node 11))
    ∷ of_kind 4 (Mux (node 7) (node 12) (node 0))
    ∷ of_kind 1 (Const 1)
    ∷ of_kind 2 (Concat (node 1 ∷ node 14 ∷ []))
    ∷ of_kind 2 (Concat (node 9 ∷ node 7 ∷ []))
    ∷ of_kind 4 (Const 0)
    ∷ []

abbrev pub counter_parts : Parts
counter_parts = record {
  name = codes "m_cnt";
  ext = 2;
  reset = false;
  samples = [];
  regs = reg (codes "r_X") 4 0 13 ∷ reg (codes "q_0") 1 0 10 ∷ [];
  files = [];
  full = node 15;
  ue = node 16;
  back = node 17;
}

abbrev pub counter : Net
counter = record { nodes = counter_nodes; parts = counter_parts }

abbrev pub counter_text : List ℕ
counter_text = lines (
    codes "module m_cnt(input wire clk, input wire [1:0] ext, output wire [1:0] full, output wire [1:0] ue, output wire [3:0] back);"
    ∷ codes "  reg [3:0] r_X;"
    ∷ codes "  reg [0:0] q_0;"
    ∷ codes "  wire [3:0] n0;"
    ∷ codes "  assign n0 = r_X;"
    ∷ codes "  wire [0:0] n1;"
    ∷ codes "  assign n1 = q_0;"
    ∷ codes "  wire [1:0] n2;"
    ∷ codes "  assign n2 = ext;"
    ∷ codes "  wire [0:0] n3;"
    ∷ codes "  assign n3 = n2[0:0];"
    ∷ codes "  wire [0:0] n4;"
    ∷ codes "  assign n4 = n2[1:1];"
    ∷ codes "  wire [0:0] n5;"
    ∷ codes "  assign n5 = n1 & n4;"
    ∷ codes "  wire [0:0] n6;"
    ∷ codes "  assign n6 = n3 | n5;"
    ∷ codes "  wire [0:0] n7;"
    ∷ codes "  assign n7 = ~n6;"
    ∷ codes "  wire [0:0] n8;"
    ∷ codes "  assign n8 = ~n4;"
    ∷ codes "  wire [0:0] n9;"
    ∷ codes "  assign n9 = n1 & n8;"
    ∷ codes "  wire [0:0] n10;"
    ∷ codes "  assign n10 = n7 | n5;"
    ∷ codes "  wire [3:0] n11;"
    ∷ codes "  assign n11 = 4'h1;"
    ∷ codes "  wire [3:0] n12;"
    ∷ codes "  assign n12 = n0 + n11;"
    ∷ codes "  wire [3:0] n13;"
    ∷ codes "  assign n13 = n7 ? n12 : n0;"
    ∷ codes "  wire [0:0] n14;"
    ∷ codes "  assign n14 = 1'h1;"
    ∷ codes "  wire [1:0] n15;"
    ∷ codes "  assign n15 = {n1, n14};"
    ∷ codes "  wire [1:0] n16;"
    ∷ codes "  assign n16 = {n9, n7};"
    ∷ codes "  wire [3:0] n17;"
    ∷ codes "  assign n17 = 4'h0;"
    ∷ codes "  assign full = n15;"
    ∷ codes "  assign ue = n16;"
    ∷ codes "  assign back = n17;"
    ∷ codes "  initial begin"
    ∷ codes "    r_X = 4'h0;"
    ∷ codes "    q_0 = 1'h0;"
    ∷ codes "  end"
    ∷ codes "  always @(posedge clk) begin"
    ∷ codes "    r_X <= n13;"
    ∷ codes "    q_0 <= n10;"
    ∷ codes "  end"
    ∷ codes "endmodule" ∷ [])

abbrev pub store_nodes : List Node
store_nodes =
    of_kind 2 Ext
    ∷ of_kind 3 (Sample 0)
    ∷ of_kind 8 (Reg 0)
    ∷ of_kind 8 (Const 165)
    ∷ of_kind 2 (Slice (node 2) 1 0)
    ∷ of_kind 8 (Word 0 (node 4))
    ∷ of_kind 13 (Concat (node 0 ∷ node 1 ∷ node 2 ∷ []))
    ∷ of_kind 8 (Not (node 2))
    ∷ of_kind 1 (Slice (node 0) 1 1)
    ∷ of_kind 8 (Mux (node 8) (node 5) (node 7))
    ∷ of_kind 8 (Binary BinOp.And (node 9) (node 3))
    ∷ of_kind 8 (Binary BinOp.Or (node 10) (node 3))
    ∷ of_kind 8 (Binary BinOp.Xor (node 11) (node 3))
    ∷ of_kind 8 (Binary BinOp.Add (node 12) (node 3))
    ∷ of_kind 8 (Binary BinOp.Sub (node 13) (node 3))
    ∷ of_kind 8 (Binary BinOp.Mul (node 14) (node 3))
    ∷ of_kind 1 (Binary BinOp.Eq (node 2) (node 3))
    ∷ of_kind 1 (Binary BinOp.Lt (node 2) (node 3))
    ∷ of_kind 8 (Binary BinOp.Shl (node 2) (node 1))
    ∷ of_kind 8 (Binary BinOp.Shr (node 2) (node 1))
    ∷ of_kind 4 (Const 0)
    ∷ []

abbrev pub store_parts : Parts
store_parts = record {
  name = codes "m_store";
  ext = 2;
  reset = true;
  samples = port (codes "s_Q") 3 ∷ [];
  regs = reg (codes "r_X") 8 1 9 ∷ reg (codes "q_0") 1 0 16 ∷ [];
  files = file (codes "f_M") 8 2 (0 ∷ 17 ∷ 0 ∷ 255 ∷ []) (Some (record { enable = node 8; address = node 4; value = node 9 })) ∷ file (codes "f_N") 8 1 (3 ∷ 0 ∷ []) None ∷ [];
  full = node 0;
  ue = node 0;
  back = node 20;
}

abbrev pub store : Net
store = record { nodes = store_nodes; parts = store_parts }

abbrev pub store_text : List ℕ
store_text = lines (
    codes "module m_store(input wire clk, input wire rst, input wire [1:0] ext, input wire [2:0] s_Q, output wire [1:0] full, output wire [1:0] ue, output wire [3:0] back);"
    ∷ codes "  reg [7:0] r_X;"
    ∷ codes "  reg [0:0] q_0;"
    ∷ codes "  reg [7:0] f_M [0:3];"
    ∷ codes "  reg [7:0] f_N [0:1];"
    ∷ codes "  integer i;"
    ∷ codes "  wire [1:0] n0;"
    ∷ codes "  assign n0 = ext;"
    ∷ codes "  wire [2:0] n1;"
    ∷ codes "  assign n1 = s_Q;"
    ∷ codes "  wire [7:0] n2;"
    ∷ codes "  assign n2 = r_X;"
    ∷ codes "  wire [7:0] n3;"
    ∷ codes "  assign n3 = 8'ha5;"
    ∷ codes "  wire [1:0] n4;"
    ∷ codes "  assign n4 = n2[1:0];"
    ∷ codes "  wire [7:0] n5;"
    ∷ codes "  assign n5 = f_M[n4];"
    ∷ codes "  wire [12:0] n6;"
    ∷ codes "  assign n6 = {n0, n1, n2};"
    ∷ codes "  wire [7:0] n7;"
    ∷ codes "  assign n7 = ~n2;"
    ∷ codes "  wire [0:0] n8;"
    ∷ codes "  assign n8 = n0[1:1];"
    ∷ codes "  wire [7:0] n9;"
    ∷ codes "  assign n9 = n8 ? n5 : n7;"
    ∷ codes "  wire [7:0] n10;"
    ∷ codes "  assign n10 = n9 & n3;"
    ∷ codes "  wire [7:0] n11;"
    ∷ codes "  assign n11 = n10 | n3;"
    ∷ codes "  wire [7:0] n12;"
    ∷ codes "  assign n12 = n11 ^ n3;"
    ∷ codes "  wire [7:0] n13;"
    ∷ codes "  assign n13 = n12 + n3;"
    ∷ codes "  wire [7:0] n14;"
    ∷ codes "  assign n14 = n13 - n3;"
    ∷ codes "  wire [7:0] n15;"
    ∷ codes "  assign n15 = n14 * n3;"
    ∷ codes "  wire [0:0] n16;"
    ∷ codes "  assign n16 = n2 == n3;"
    ∷ codes "  wire [0:0] n17;"
    ∷ codes "  assign n17 = n2 < n3;"
    ∷ codes "  wire [7:0] n18;"
    ∷ codes "  assign n18 = n2 << n1;"
    ∷ codes "  wire [7:0] n19;"
    ∷ codes "  assign n19 = n2 >> n1;"
    ∷ codes "  wire [3:0] n20;"
    ∷ codes "  assign n20 = 4'h0;"
    ∷ codes "  assign full = n0;"
    ∷ codes "  assign ue = n0;"
    ∷ codes "  assign back = n20;"
    ∷ codes "  initial begin"
    ∷ codes "    r_X = 8'h01;"
    ∷ codes "    q_0 = 1'h0;"
    ∷ codes "    for (i = 0; i < 4; i = i + 1) f_M[i] = 8'h00;"
    ∷ codes "    f_M[1] = 8'h11;"
    ∷ codes "    f_M[3] = 8'hff;"
    ∷ codes "    for (i = 0; i < 2; i = i + 1) f_N[i] = 8'h00;"
    ∷ codes "    f_N[0] = 8'h03;"
    ∷ codes "  end"
    ∷ codes "  always @(posedge clk) begin"
    ∷ codes "    if (rst) begin"
    ∷ codes "      r_X <= 8'h01;"
    ∷ codes "      q_0 <= 1'h0;"
    ∷ codes "    end else begin"
    ∷ codes "      r_X <= n9;"
    ∷ codes "      q_0 <= n16;"
    ∷ codes "      if (n8) f_M[n4] <= n9;"
    ∷ codes "    end"
    ∷ codes "  end"
    ∷ codes "endmodule" ∷ [])
