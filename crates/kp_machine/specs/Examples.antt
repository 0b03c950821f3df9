-- Small jobs, as trees, with what they compute. The values and rows were computed by an independent program.
use Rattle.std.specs.Prelude.{ℕ, List, [], ◌∷◌, Option, Some, None, map, codes}
use Rattle.kp_base.specs.declared.place.Place.{Place}
use Rattle.kp_bits.specs.declared.operator.BinOp.{BinOp}
use Rattle.kp_ast.specs.declared.tree.{Named.Named, Num.Num, Lit.Lit, Expr.Expr, Decl.Decl, StmtKind.StmtKind, Block.Block, Image.Image, Job.Job}
use Rattle.kp_ast.specs.declared.tree.ExprKind.TheVariants as leaves
use Rattle.kp_ast.specs.declared.tree.ExprKind.TheViews as expressions
use Rattle.kp_ast.specs.declared.tree.Decl.TheVariants as decls
use Rattle.kp_ast.specs.declared.tree.StmtKind.TheVariants as stmts
use Rattle.kp_pipeline.specs.{Examples.row3, Examples.row4, Rows.Row}

-- All positions are the same.
abbrev pub place : Place
place = record { line = 1; col = 1 }

abbrev pub named : List ℕ → Named
named name = record { name = name; at = place }

abbrev pub num : ℕ → Num
num n = record { value = n; at = place }

abbrev pub lit : ℕ → ℕ → Lit
lit width value = record { literal = record { width = width; value = value }; at = place }

-- expressions
abbrev pub number : ℕ → ℕ → Expr
number width value = record { place = place; kind = leaves.Lit (record { width = width; value = value }) }

abbrev pub name : List ℕ → Expr
name n = record { place = place; kind = leaves.Name n }

abbrev pub sum : Expr → Expr → Expr
sum a b = record { place = place; kind = expressions.Binary BinOp.Add a b }

abbrev pub bit : Expr → ℕ → Expr
bit a i = record { place = place; kind = expressions.Slice a i i }

abbrev pub call : List ℕ → Expr → Expr
call f a = record { place = place; kind = expressions.Call f (a ∷ []) }

-- statements: `read name = target[address] when condition guess value`
abbrev pub read : List ℕ → List ℕ → Option Expr → Option Expr → Option Expr → StmtKind
read n target address when guess =
    stmts.Read (record { name = named n; target = named target; address = address; when = when; guess = guess })

abbrev pub block : ℕ → List StmtKind → Block
block k kinds = record { number = num k; stmts = map (λ kind. record { at = place; kind = kind }) kinds }

-- `result name : 8 -> target[address] when enable at stage`
abbrev pub result : List ℕ → List ℕ → Option Named → Option Named → ℕ → Decl
result n target address enable stage =
    decls.Target (record { name = named n; width = num 8; target = named target; address = address; enable = enable; stage = num stage })

abbrev pub job : ℕ → List Decl → List Block → Option (List Image) → Job
job stages ds bs image =
    record { name = named (codes "m"); stages = num stages; decls = ds; blocks = bs; image = image; stalls = None; inputs = None }

-- late3: stage 0 reads X and puts it, and stage 2 sets X to that value plus one and writes it. In hint3 the read has
-- a guess, which is one too high.
abbrev pub late : Option Expr → List StmtKind → List Decl → Job
late guess aims hints =
    job 3
    (decls.Reg (named (codes "X")) (num 8) (lit 8 1)
    ∷ decls.Pipe (named (codes "A")) (num 8)
    ∷ result (codes "C") (codes "X") None None 2
    ∷ hints)
    (block 0 (read (codes "x") (codes "X") None None guess ∷ stmts.Put (named (codes "A")) (name (codes "x")) ∷ aims)
    ∷ block 1 []
    ∷ block 2 (stmts.Set (named (codes "C")) (sum (name (codes "A")) (number 8 1)) None ∷ [])
    ∷ [])
    None

abbrev pub late3 : Job
late3 = late None [] []

abbrev pub late3_rows : List Row
late3_rows =
    row3 1 0 0 1 0 0 0
    ∷ row3 1 1 0 0 1 0 0
    ∷ row3 1 0 1 1 0 1 0
    ∷ row3 1 1 0 0 1 0 0
    ∷ row3 1 0 1 1 0 1 0
    ∷ []

abbrev pub hint3 : Job
hint3 =
    late (Some (name (codes "G"))) (stmts.Aim (named (codes "G")) (sum (name (codes "x")) (number 8 2)) ∷ [])
    (decls.Hint (named (codes "G")) (num 8) (lit 8 0) ∷ [])

-- In the third cycle stage 1 mismatches, so the stages below 2 are squashed.
abbrev pub hint3_rows : List Row
hint3_rows =
    row3 1 0 0 1 0 0 0
    ∷ row3 1 1 0 1 1 0 0
    ∷ row3 1 1 1 0 0 1 2
    ∷ []

-- near: word 1 of a file is incremented. Its start value is 10, from the image section.
abbrev pub near : Job
near =
    job 4
    (decls.File (named (codes "F")) (num 8) (num 2)
    ∷ decls.Pipe (named (codes "A")) (num 2)
    ∷ decls.Pipe (named (codes "V")) (num 8)
    ∷ result (codes "C") (codes "F") (Some (named (codes "A"))) None 3
    ∷ [])
    (block 0
    (read (codes "v") (codes "F") (Some (number 2 1)) None None
    ∷ stmts.Put (named (codes "A")) (number 2 1)
    ∷ stmts.Put (named (codes "V")) (name (codes "v"))
    ∷ [])
    ∷ block 1 (stmts.Set (named (codes "C")) (sum (name (codes "V")) (number 8 1)) None ∷ [])
    ∷ block 2 []
    ∷ block 3 []
    ∷ [])
    (Some (record { name = named (codes "F"); address = Some (num 1); values = lit 8 10 ∷ [] } ∷ []))

abbrev pub near_rows : List Row
near_rows =
    row4 1 0 0 0 1 0 0 0 0
    ∷ row4 1 1 0 0 1 1 0 0 0
    ∷ row4 1 1 1 0 1 1 1 0 0
    ∷ row4 1 1 1 1 1 1 1 1 0
    ∷ []

-- odd: a function increments X; and if X is odd, it is added to Y. In this case the set in stage 2 has no effect, since an earlier stage set the
-- result.
abbrev pub odd_block : Block
odd_block =
    block 0
    (read (codes "x") (codes "X") None None None
    ∷ stmts.Let (named (codes "e")) (bit (name (codes "x")) 0)
    ∷ stmts.Put (named (codes "E")) (name (codes "e"))
    ∷ read (codes "y") (codes "Y") None (Some (name (codes "e"))) None
    ∷ stmts.Set (named (codes "C")) (call (codes "up") (name (codes "x"))) None
    ∷ stmts.Set (named (codes "D")) (sum (name (codes "y")) (name (codes "x"))) (Some (name (codes "e")))
    ∷ [])

abbrev pub odd : Job
odd =
    job 3
    (decls.Reg (named (codes "X")) (num 8) (lit 8 5)
    ∷ decls.Reg (named (codes "Y")) (num 8) (lit 8 0)
    ∷ decls.Pipe (named (codes "E")) (num 1)
    ∷ decls.Func (record {
      name = named (codes "up");
      params = record { name = named (codes "a"); width = num 8 } ∷ [];
      width = num 8;
      body = sum (name (codes "a")) (number 8 1);
    })
    ∷ result (codes "C") (codes "X") None None 2
    ∷ result (codes "D") (codes "Y") None (Some (named (codes "E"))) 2
    ∷ [])
    (odd_block ∷ block 1 [] ∷ block 2 (stmts.Set (named (codes "D")) (number 8 255) None ∷ []) ∷ [])
    None
