-- The generated job of a number.
--
-- Register i is read in stage 0, its pipe receives the sum of two registers, and a later stage sets its result, the pipe and another one, shifted, to
-- be written in the same stage or later. The file is read in stage 0 at an address from a register, and written in the last stage. All positions are
-- the start of a text.
use Rattle.std.specs.Prelude.{ℕ, ◌+◌, ◌-◌, ◌%◌, List, [], ◌∷◌, ◌++◌, Option, Some, None, if◌then◌else◌, ◌==◌, length, map, codes, decimal}
use Rattle.std.specs.List.{range_with_len}
use Rattle.kp_base.specs.declared.place.Place.{Place}
use Rattle.kp_bits.specs.declared.operator.BinOp.{BinOp}
use Rattle.kp_ast.specs.declared.tree.{Named.Named, Num.Num, Lit.Lit, Expr.Expr, Decl.Decl, Stmt.Stmt, StmtKind.StmtKind, Block.Block, Stalls.Stalls, Job.Job}
use Rattle.kp_ast.specs.declared.tree.ExprKind.TheVariants as leaves
use Rattle.kp_ast.specs.declared.tree.ExprKind.TheViews as expressions
use Rattle.kp_ast.specs.declared.tree.Decl.TheVariants as decls
use Rattle.kp_ast.specs.declared.tree.StmtKind.TheVariants as stmts
use Rattle.kp_gen.specs.{declared.draws.Route.Route, Draws.stages_drawn, Draws.routes_drawn}

-- All positions are the same.
abbrev pub place : Place
place = record { line = 1; col = 1 }

abbrev pub named : List ℕ → Named
named name = record { name = name; at = place }

abbrev pub num : ℕ → Num
num n = record { value = n; at = place }

abbrev pub lit : ℕ → ℕ → Lit
lit width value = record { literal = record { width = width; value = value }; at = place }

-- a letter and a number, as `R12`
abbrev pub numbered : ℕ → ℕ → List ℕ
numbered letter i = letter ∷ decimal i

-- R, P, C and x, each with a number
abbrev pub register_name : ℕ → List ℕ
register_name i = numbered 82 i

abbrev pub pipe_name : ℕ → List ℕ
pipe_name i = numbered 80 i

abbrev pub result_name : ℕ → List ℕ
result_name i = numbered 67 i

abbrev pub read_name : ℕ → List ℕ
read_name i = numbered 120 i

-- expressions
abbrev pub name : List ℕ → Expr
name n = record { place = place; kind = leaves.Name n }

abbrev pub number : ℕ → ℕ → Expr
number width value = record { place = place; kind = leaves.Lit (record { width = width; value = value }) }

abbrev pub binary : BinOp → Expr → Expr → Expr
binary op a b = record { place = place; kind = expressions.Binary op a b }

-- `n[7:0]`
abbrev pub low_byte : List ℕ → Expr
low_byte n = record { place = place; kind = expressions.Slice (name n) 7 0 }

-- declarations: `reg R0 : 16 = 16'h1;`
abbrev pub register : ℕ → Decl
register i = decls.Reg (named (register_name i)) (num 16) (lit 16 (i + 1))

-- `pipe P0 : 16;`
abbrev pub pipe : ℕ → Decl
pipe i = decls.Pipe (named (pipe_name i)) (num 16)

-- `result C0 : 16 -> R0 at 3;`
abbrev pub target : List ℕ → List ℕ → Option Named → ℕ → Decl
target n to address stage = decls.Target (record {
  name = named n;
  width = num 16;
  target = named to;
  address = address;
  enable = None;
  stage = num stage;
})

abbrev pub result_of : ℕ → Route → Decl
result_of i r = target (result_name i) (register_name i) None r.write

-- statements: `read x0 = R0;`
abbrev pub stmt : StmtKind → Stmt
stmt kind = record { at = place; kind = kind }

abbrev pub read_from : List ℕ → List ℕ → Option Expr → Stmt
read_from n from address = stmt (stmts.Read (record { name = named n; target = named from; address = address; when = None; guess = None }))

abbrev pub read : ℕ → Stmt
read i = read_from (read_name i) (register_name i) None

-- `put P0 = x0 + x1;`, where the first register follows the last one
abbrev pub put : ℕ → ℕ → Stmt
put m i = stmt (stmts.Put (named (pipe_name i)) (binary BinOp.Add (name (read_name i)) (name (read_name ((i + 1) % m)))))

-- `set C0 = P0 ^ (P2 << 1'h1);`
abbrev pub set : ℕ → Route → Stmt
set i r =
    stmt (stmts.Set (named (result_name i)) (binary BinOp.Xor (name (pipe_name i)) (binary BinOp.Shl (name (pipe_name r.other)) (number 1 1))) None)

-- one for each register, from register number j on
abbrev pub for_each : {X : Type 0} → (ℕ → Route → X) → ℕ → List Route → List X
for_each make i [] = []
for_each make i (r ∷ rs) = make i r ∷ for_each make (i + 1) rs

abbrev pub all_decls : ℕ → List Route → List Decl
all_decls n rs =
    for_each (λ i r. register i) 0 rs
    ++ decls.File (named (codes "F")) (num 16) (num 8)
    ∷ for_each (λ i r. pipe i) 0 rs
    ++ decls.Pipe (named (codes "AF")) (num 8)
    ∷ decls.Pipe (named (codes "VF")) (num 16)
    ∷ for_each result_of 0 rs
    ++ target (codes "CF") (codes "F") (Some (named (codes "AF"))) (n - 1)
    ∷ []

-- `read f = F[x1[7:0]];`, `put AF = x0[7:0];` and `put VF = f;`
abbrev pub file_read : Stmt
file_read = read_from (codes "f") (codes "F") (Some (low_byte (read_name 1)))

abbrev pub address_put : Stmt
address_put = stmt (stmts.Put (named (codes "AF")) (low_byte (read_name 0)))

abbrev pub value_put : Stmt
value_put = stmt (stmts.Put (named (codes "VF")) (name (codes "f")))

abbrev pub first_stmts : List Route → List Stmt
first_stmts rs = for_each (λ i r. read i) 0 rs ++ file_read ∷ for_each (λ i r. put (length rs) i) 0 rs ++ address_put ∷ value_put ∷ []

-- the sets of the results that stage k sets
abbrev pub sets_from : ℕ → ℕ → List Route → List Stmt
sets_from k i [] = []
sets_from k i (r ∷ rs) = if r.set == k then set i r ∷ sets_from k (i + 1) rs else sets_from k (i + 1) rs

-- `set CF = P0 + VF;`
abbrev pub file_set : Stmt
file_set = stmt (stmts.Set (named (codes "CF")) (binary BinOp.Add (name (pipe_name 0)) (name (codes "VF"))) None)

-- stage 1 sets the file's result too, as the last one
abbrev pub file_sets : ℕ → List Stmt
file_sets k = if k == 1 then file_set ∷ [] else []

abbrev pub later_stmts : List Route → ℕ → List Stmt
later_stmts rs k = sets_from k 0 rs ++ file_sets k

abbrev pub block : ℕ → List Stmt → Block
block k ss = record { number = num k; stmts = ss }

abbrev pub later_block : List Route → ℕ → Block
later_block rs k = block k (later_stmts rs k)

abbrev pub all_blocks : ℕ → List Route → List Block
all_blocks n rs = block 0 (first_stmts rs) ∷ map (later_block rs) (range_with_len 1 (n - 1))

-- the stall entry: the last stage, from 5 to 100000 step 7
abbrev pub all_stalls : ℕ → List Stalls
all_stalls n = record { stage = num (n - 1); from = num 5; to = num 100000; step = Some (num 7) } ∷ []

-- the job with n stages and these choices
unfoldable pub job_of : ℕ → List Route → Job
job_of n rs = record {
  name = named (codes "gen");
  stages = num n;
  decls = all_decls n rs;
  blocks = all_blocks n rs;
  image = None;
  stalls = Some (all_stalls n);
  inputs = None;
}

-- the generated job of a number
abbrev pub gen_job : ℕ → Job
gen_job G = job_of (stages_drawn G) (routes_drawn G)
