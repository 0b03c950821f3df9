-- The description examples/cookbook/six.kp, with the positions of its text.
use Rattle.std.specs.Prelude.{ℕ, List, [], ◌∷◌, Option, Some, None, codes}
use Prim.Native.String.{String}
use Rattle.kp_bits.specs.declared.operator.BinOp.TheVariants.{And, Or, Xor, Add, Sub, Mul, Eq, Lt, Shl, Shr}
use Rattle.kp_ast.specs.declared.tree.{Named.Named, Num.Num, Image.Image, Job.Job}
use Rattle.kp_plain.specs.Plain.{p, named, num, lit_of, Term, lit, var, inv, bin, mux, cat, cut, zx, sx, app, none, more, Act, read, bind, put, set, aim, Part, register, file, pipe, hint, sample, result, func, job_of}

-- a name, a number, and a name as an expression
abbrev pub n : ℕ → ℕ → String → Named
n line col name = named (p line col) (codes name)

abbrev pub k : (line col value : ℕ) → Num
k line col value = num (p line col) value

abbrev pub v : ℕ → ℕ → String → Term
v line col name = var (p line col) (codes name)

abbrev pub parts : List Part
parts =
    register (n 9 5 "PC") (k 9 10 5) (lit_of (p 9 14) 5 0)
    ∷ register (n 10 5 "ACC") (k 10 11 8) (lit_of (p 10 15) 8 0)
    ∷ file (n 11 6 "IM") (k 11 11 8) (k 11 14 5)
    ∷ file (n 12 6 "DM") (k 12 11 8) (k 12 14 5)
    ∷ hint (n 13 6 "NEXT") (k 13 13 5) (lit_of (p 13 17) 5 0)
    ∷ pipe (n 14 6 "IR") (k 14 11 8)
    ∷ pipe (n 15 6 "P") (k 15 10 5)
    ∷ pipe (n 16 6 "OP") (k 16 11 3)
    ∷ pipe (n 17 6 "AD") (k 17 11 5)
    ∷ pipe (n 18 6 "V") (k 18 10 8)
    ∷ pipe (n 19 6 "W") (k 19 10 1)
    ∷ pipe (n 20 6 "S") (k 20 10 1)
    ∷ result (n 21 8 "NPC") (k 21 14 5) (n 21 19 "PC") None None (k 21 25 2)
    ∷ result (n 22 8 "SUM") (k 22 14 8) (n 22 19 "ACC") None (Some (n 22 28 "W")) (k 22 33 3)
    ∷ result (n 23 8 "M") (k 23 12 8) (n 23 17 "DM") (Some (n 23 20 "AD")) (Some (n 23 29 "S")) (k 23 34 3)
    ∷ []

abbrev pub stage0 : List Act
stage0 =
    read (p 25 3) (n 25 8 "pc") (n 25 13 "PC") None None (Some (v 25 22 "NEXT"))
    ∷ read (p 26 3) (n 26 8 "i") (n 26 12 "IM") (Some (v 26 15 "pc")) None None
    ∷ put (p 27 3) (n 27 7 "IR") (v 27 12 "i")
    ∷ put (p 28 3) (n 28 7 "P") (v 28 11 "pc")
    ∷ aim (p 29 3) (n 29 7 "NEXT") (bin (p 29 17) Add (v 29 14 "pc") (lit (p 29 19) 5 1))
    ∷ []

abbrev pub stage1 : List Act
stage1 =
    bind (p 32 3) (n 32 7 "op") (cut (p 32 14) (v 32 12 "IR") 7 5)
    ∷ bind (p 33 3) (n 33 7 "ad") (cut (p 33 14) (v 33 12 "IR") 4 0)
    ∷ read (p 34 3) (n 34 8 "m") (n 34 12 "DM") (Some (v 34 15 "ad")) (Some (bin (p 34 37) Or (bin (p 34 28) Eq (v 34 25 "op") (lit (p 34 31) 3 1)) (bin (p 34 43) Eq (v 34 40 "op") (lit (p 34 46) 3 2)))) None
    ∷ put (p 35 3) (n 35 7 "OP") (v 35 12 "op")
    ∷ put (p 36 3) (n 36 7 "AD") (v 36 12 "ad")
    ∷ put (p 37 3) (n 37 7 "V") (mux (p 37 22) (bin (p 37 14) Eq (v 37 11 "op") (lit (p 37 17) 3 0)) (zx (p 37 24) (v 37 29 "ad") (k 37 33 8)) (v 37 38 "m"))
    ∷ put (p 38 3) (n 38 7 "W") (bin (p 38 14) Lt (v 38 11 "op") (lit (p 38 16) 3 3))
    ∷ put (p 39 3) (n 39 7 "S") (bin (p 39 14) Eq (v 39 11 "op") (lit (p 39 17) 3 3))
    ∷ []

abbrev pub stage2 : List Act
stage2 =
    read (p 42 3) (n 42 8 "a") (n 42 12 "ACC") None None None
    ∷ set (p 43 3) (n 43 7 "SUM") (mux (p 43 24) (bin (p 43 16) Eq (v 43 13 "OP") (lit (p 43 19) 3 2)) (bin (p 43 28) Add (v 43 26 "a") (v 43 30 "V")) (v 43 34 "V")) None
    ∷ set (p 44 3) (n 44 7 "M") (v 44 11 "a") None
    ∷ set (p 45 3) (n 45 7 "NPC") (mux (p 45 59) (bin (p 45 26) Or (bin (p 45 17) Eq (v 45 14 "OP") (lit (p 45 20) 3 4)) (bin (p 45 42) And (bin (p 45 33) Eq (v 45 30 "OP") (lit (p 45 36) 3 5)) (inv (p 45 44) (bin (p 45 48) Eq (v 45 46 "a") (lit (p 45 51) 8 0))))) (v 45 61 "AD") (bin (p 45 68) Add (v 45 66 "P") (lit (p 45 70) 5 1))) None
    ∷ []

abbrev pub stage3 : List Act
stage3 =
    []

abbrev pub blocks : List (Num × List Act)
blocks = (k 24 7 0, stage0) ∷ (k 31 7 1, stage1) ∷ (k 41 7 2, stage2) ∷ (k 47 7 3, stage3) ∷ []

-- with this image
abbrev pub six : Option (List Image) → Job
six image = job_of (n 7 9 "six") (k 8 8 4) parts blocks image

-- the program in the text
abbrev pub program : List Image
program =
    record { name = (n 49 3 "IM"); address = (Some (k 49 6 0)); values = (lit_of (p 49 11) 8 3) ∷ (lit_of (p 49 25) 8 97) ∷ (lit_of (p 49 39) 8 131) ∷ [] }
    ∷ record { name = (n 50 3 "IM"); address = (Some (k 50 6 3)); values = (lit_of (p 50 11) 8 34) ∷ (lit_of (p 50 25) 8 65) ∷ (lit_of (p 50 39) 8 98) ∷ [] }
    ∷ record { name = (n 51 3 "IM"); address = (Some (k 51 6 6)); values = (lit_of (p 51 11) 8 33) ∷ (lit_of (p 51 25) 8 64) ∷ (lit_of (p 51 39) 8 97) ∷ (lit_of (p 51 53) 8 163) ∷ [] }
    ∷ record { name = (n 52 3 "IM"); address = (Some (k 52 6 10)); values = (lit_of (p 52 12) 8 138) ∷ [] }
    ∷ record { name = (n 53 3 "DM"); address = (Some (k 53 6 0)); values = (lit_of (p 53 11) 8 255) ∷ [] }
    ∷ []
