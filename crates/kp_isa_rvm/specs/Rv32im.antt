-- The description examples/riscv/rv32im.kp, with the positions of its text.
use Rattle.std.specs.Prelude.{ℕ, List, [], ◌∷◌, Option, Some, None, codes}
use Prim.Native.String.{String}
use Rattle.kp_bits.specs.declared.operator.BinOp.TheVariants.{And, Or, Xor, Add, Sub, Mul, Eq, Lt, Shl, Shr}
use Rattle.kp_ast.specs.declared.tree.{Named.Named, Num.Num, Image.Image, Job.Job}
use Rattle.kp_plain.specs.Plain.{p, named, num, lit_of, Term, lit, var, inv, bin, mux, cat, cut, zx, sx, app, none, more, Act, read, bind, put, set, aim, Part, register, file, pipe, hint, result, func, job_of}

-- a name, a number, and a name as an expression
abbrev pub n : ℕ → ℕ → String → Named
n line col name = named (p line col) (codes name)

abbrev pub k : (line col value : ℕ) → Num
k line col value = num (p line col) value

abbrev pub v : ℕ → ℕ → String → Term
v line col name = var (p line col) (codes name)

abbrev pub immi_body : Term
immi_body = sx (p 40 22) (cut (p 40 28) (v 40 27 "i") 31 20) (k 40 37 32)

abbrev pub imms_body : Term
imms_body = sx (p 41 22) (cat (p 41 27) (more (cut (p 41 29) (v 41 28 "i") 31 25) (more (cut (p 41 39) (v 41 38 "i") 11 7) none))) (k 41 48 32)

abbrev pub immb_body : Term
immb_body = sx (p 42 22) (cat (p 42 27) (more (cut (p 42 29) (v 42 28 "i") 31 31) (more (cut (p 42 36) (v 42 35 "i") 7 7) (more (cut (p 42 42) (v 42 41 "i") 30 25) (more (cut (p 42 52) (v 42 51 "i") 11 8) (more (lit (p 42 60) 1 0) none)))))) (k 42 67 32)

abbrev pub immu_body : Term
immu_body = cat (p 43 22) (more (cut (p 43 24) (v 43 23 "i") 31 12) (more (lit (p 43 33) 12 0) none))

abbrev pub immj_body : Term
immj_body = sx (p 44 22) (cat (p 44 27) (more (cut (p 44 29) (v 44 28 "i") 31 31) (more (cut (p 44 36) (v 44 35 "i") 19 12) (more (cut (p 44 46) (v 44 45 "i") 20 20) (more (cut (p 44 53) (v 44 52 "i") 30 21) (more (lit (p 44 62) 1 0) none)))))) (k 44 69 32)

abbrev pub less_body : Term
less_body = bin (p 47 46) Lt (bin (p 47 30) Xor (v 47 28 "a") (lit (p 47 32) 32 2147483648)) (bin (p 47 51) Xor (v 47 49 "b") (lit (p 47 53) 32 2147483648))

abbrev pub shr_body : Term
shr_body = bin (p 48 47) Xor (bin (p 48 41) Shr (bin (p 48 36) Xor (v 48 34 "a") (v 48 38 "f")) (v 48 44 "n")) (v 48 49 "f")

abbrev pub alu_body : Term
alu_body = mux (p 50 18) (bin (p 50 10) Eq (cut (p 50 4) (v 50 3 "f") 2 0) (lit (p 50 13) 3 0)) (mux (p 50 26) (cut (p 50 22) (v 50 21 "f") 3 3) (bin (p 50 30) Sub (v 50 28 "a") (v 50 32 "b")) (bin (p 50 38) Add (v 50 36 "a") (v 50 40 "b"))) (mux (p 51 18) (bin (p 51 10) Eq (cut (p 51 4) (v 51 3 "f") 2 0) (lit (p 51 13) 3 1)) (bin (p 51 22) Shl (v 51 20 "a") (cut (p 51 26) (v 51 25 "b") 4 0)) (mux (p 52 18) (bin (p 52 10) Eq (cut (p 52 4) (v 52 3 "f") 2 0) (lit (p 52 13) 3 2)) (zx (p 52 20) (app (p 52 25) (codes "less") (more (v 52 30 "a") (more (v 52 33 "b") none))) (k 52 37 32)) (mux (p 53 18) (bin (p 53 10) Eq (cut (p 53 4) (v 53 3 "f") 2 0) (lit (p 53 13) 3 3)) (zx (p 53 20) (bin (p 53 27) Lt (v 53 25 "a") (v 53 29 "b")) (k 53 32 32)) (mux (p 54 18) (bin (p 54 10) Eq (cut (p 54 4) (v 54 3 "f") 2 0) (lit (p 54 13) 3 4)) (bin (p 54 22) Xor (v 54 20 "a") (v 54 24 "b")) (mux (p 55 18) (bin (p 55 10) Eq (cut (p 55 4) (v 55 3 "f") 2 0) (lit (p 55 13) 3 5)) (app (p 55 20) (codes "shr") (more (v 55 24 "a") (more (sx (p 55 27) (bin (p 55 37) And (cut (p 55 33) (v 55 32 "f") 3 3) (cut (p 55 40) (v 55 39 "a") 31 31)) (k 55 46 32)) (more (cut (p 55 52) (v 55 51 "b") 4 0) none)))) (mux (p 56 18) (bin (p 56 10) Eq (cut (p 56 4) (v 56 3 "f") 2 0) (lit (p 56 13) 3 6)) (bin (p 56 22) Or (v 56 20 "a") (v 56 24 "b")) (bin (p 56 30) And (v 56 28 "a") (v 56 32 "b"))))))))

abbrev pub holds_body : Term
holds_body = bin (p 58 49) Xor (mux (p 58 9) (cut (p 58 5) (v 58 4 "f") 2 2) (mux (p 58 17) (cut (p 58 13) (v 58 12 "f") 1 1) (bin (p 58 21) Lt (v 58 19 "a") (v 58 23 "b")) (app (p 58 27) (codes "less") (more (v 58 32 "a") (more (v 58 35 "b") none)))) (bin (p 58 43) Eq (v 58 41 "a") (v 58 46 "b"))) (cut (p 58 52) (v 58 51 "f") 0 0)

abbrev pub loaded_body : Term
loaded_body = mux (p 62 8) (cut (p 62 4) (v 62 3 "f") 1 1) (v 62 10 "w") (mux (p 63 8) (cut (p 63 4) (v 63 3 "f") 0 0) (mux (p 63 16) (cut (p 63 12) (v 63 11 "f") 2 2) (zx (p 63 18) (cut (p 63 24) (v 63 23 "w") 15 0) (k 63 32 32)) (sx (p 63 38) (cut (p 63 44) (v 63 43 "w") 15 0) (k 63 52 32))) (mux (p 64 8) (cut (p 64 4) (v 64 3 "f") 2 2) (zx (p 64 10) (cut (p 64 16) (v 64 15 "w") 7 0) (k 64 23 32)) (sx (p 64 29) (cut (p 64 35) (v 64 34 "w") 7 0) (k 64 42 32))))

abbrev pub mask_body : Term
mask_body = mux (p 66 8) (cut (p 66 4) (v 66 3 "f") 1 1) (lit (p 66 10) 32 4294967295) (bin (p 66 62) Shl (mux (p 66 31) (cut (p 66 27) (v 66 26 "f") 0 0) (lit (p 66 33) 32 65535) (lit (p 66 48) 32 255)) (cat (p 66 65) (more (v 66 66 "o") (more (lit (p 66 69) 3 0) none))))

abbrev pub merged_body : Term
merged_body = bin (p 67 45) Or (bin (p 67 39) And (v 67 37 "w") (inv (p 67 41) (v 67 42 "k"))) (bin (p 67 50) And (v 67 48 "d") (v 67 52 "k"))

abbrev pub upper_body : Term
upper_body = bin (p 71 31) Sub (bin (p 71 5) Sub (v 71 3 "u") (mux (p 71 18) (bin (p 71 10) And (v 71 8 "s") (cut (p 71 13) (v 71 12 "a") 31 31)) (v 71 20 "b") (lit (p 71 24) 32 0))) (mux (p 71 44) (bin (p 71 36) And (v 71 34 "t") (cut (p 71 39) (v 71 38 "b") 31 31)) (v 71 46 "a") (lit (p 71 50) 32 0))

abbrev pub negate_body : Term
negate_body = mux (p 73 31) (v 73 29 "s") (bin (p 73 39) Sub (lit (p 73 33) 32 0) (v 73 41 "a")) (v 73 45 "a")

abbrev pub divide1_body : Term
divide1_body = mux (p 77 24) (bin (p 77 12) Lt (cut (p 77 4) (v 77 3 "s") 63 31) (cat (p 77 14) (more (lit (p 77 15) 1 0) (more (v 77 21 "d") none)))) (cat (p 77 26) (more (cut (p 77 28) (v 77 27 "s") 62 0) (more (lit (p 77 36) 1 0) none))) (cat (p 77 44) (more (bin (p 77 54) Sub (cut (p 77 46) (v 77 45 "s") 62 31) (v 77 56 "d")) (more (cut (p 77 60) (v 77 59 "s") 30 0) (more (lit (p 77 68) 1 1) none))))

abbrev pub divide4_body : Term
divide4_body = app (p 78 31) (codes "divide1") (more (app (p 78 39) (codes "divide1") (more (app (p 78 47) (codes "divide1") (more (app (p 78 55) (codes "divide1") (more (v 78 63 "s") (more (v 78 66 "d") none))) (more (v 78 70 "d") none))) (more (v 78 74 "d") none))) (more (v 78 78 "d") none))

abbrev pub parts : List Part
parts =
    register (n 15 6 "PC") (k 15 11 32) (lit_of (p 15 16) 32 1048576)
    ∷ file (n 16 6 "IM") (k 16 11 32) (k 16 15 16)
    ∷ file (n 17 6 "X") (k 17 11 32) (k 17 15 5)
    ∷ file (n 18 6 "DM") (k 18 11 32) (k 18 15 16)
    ∷ hint (n 19 6 "H") (k 19 11 32) (lit_of (p 19 16) 32 1048576)
    ∷ hint (n 20 6 "B") (k 20 11 64) (lit_of (p 20 16) 64 0)
    ∷ hint (n 21 6 "S0") (k 21 11 32) (lit_of (p 21 16) 32 0)
    ∷ hint (n 21 29 "S1") (k 21 34 32) (lit_of (p 21 39) 32 0)
    ∷ hint (n 21 52 "S2") (k 21 57 32) (lit_of (p 21 62) 32 0)
    ∷ hint (n 21 75 "S3") (k 21 80 32) (lit_of (p 21 85) 32 0)
    ∷ pipe (n 23 6 "P") (k 23 11 32)
    ∷ pipe (n 24 6 "IR") (k 24 11 32)
    ∷ pipe (n 25 6 "OA") (k 25 11 32)
    ∷ pipe (n 25 21 "OB") (k 25 26 32)
    ∷ pipe (n 25 36 "FN") (k 25 41 4)
    ∷ pipe (n 26 6 "T") (k 26 11 32)
    ∷ pipe (n 26 21 "BR") (k 26 26 1)
    ∷ pipe (n 27 6 "F3") (k 27 11 3)
    ∷ pipe (n 27 21 "SD") (k 27 26 32)
    ∷ pipe (n 27 36 "LD") (k 27 41 1)
    ∷ pipe (n 27 49 "ST") (k 27 54 1)
    ∷ pipe (n 28 6 "RD") (k 28 11 5)
    ∷ pipe (n 28 21 "GW") (k 28 26 1)
    ∷ pipe (n 29 6 "MD") (k 29 11 1)
    ∷ pipe (n 30 6 "MA") (k 30 11 16)
    ∷ pipe (n 30 21 "BO") (k 30 26 2)
    ∷ pipe (n 31 6 "PR") (k 31 11 64)
    ∷ pipe (n 31 21 "DA") (k 31 26 32)
    ∷ pipe (n 31 36 "DB") (k 31 41 32)
    ∷ pipe (n 32 6 "D3") (k 32 11 64)
    ∷ pipe (n 32 21 "D4") (k 32 26 64)
    ∷ pipe (n 32 36 "D5") (k 32 41 64)
    ∷ pipe (n 33 6 "D6") (k 33 11 64)
    ∷ pipe (n 33 21 "D7") (k 33 26 64)
    ∷ pipe (n 33 36 "D8") (k 33 41 64)
    ∷ pipe (n 33 51 "D9") (k 33 56 64)
    ∷ result (n 35 8 "NPC") (k 35 14 32) (n 35 20 "PC") None None (k 35 26 2)
    ∷ result (n 36 8 "G") (k 36 14 32) (n 36 20 "X") (Some (n 36 22 "RD")) (Some (n 36 31 "GW")) (k 36 37 11)
    ∷ result (n 37 8 "M") (k 37 14 32) (n 37 20 "DM") (Some (n 37 23 "MA")) (Some (n 37 32 "ST")) (k 37 38 3)
    ∷ func (n 40 4 "immi") ((n 40 9 "i", k 40 11 32) ∷ []) (k 40 17 32) immi_body
    ∷ func (n 41 4 "imms") ((n 41 9 "i", k 41 11 32) ∷ []) (k 41 17 32) imms_body
    ∷ func (n 42 4 "immb") ((n 42 9 "i", k 42 11 32) ∷ []) (k 42 17 32) immb_body
    ∷ func (n 43 4 "immu") ((n 43 9 "i", k 43 11 32) ∷ []) (k 43 17 32) immu_body
    ∷ func (n 44 4 "immj") ((n 44 9 "i", k 44 11 32) ∷ []) (k 44 17 32) immj_body
    ∷ func (n 47 4 "less") ((n 47 9 "a", k 47 11 32) ∷ (n 47 15 "b", k 47 17 32) ∷ []) (k 47 23 1) less_body
    ∷ func (n 48 4 "shr") ((n 48 8 "a", k 48 10 32) ∷ (n 48 14 "f", k 48 16 32) ∷ (n 48 20 "n", k 48 22 5) ∷ []) (k 48 27 32) shr_body
    ∷ func (n 49 4 "alu") ((n 49 8 "f", k 49 10 4) ∷ (n 49 13 "a", k 49 15 32) ∷ (n 49 19 "b", k 49 21 32) ∷ []) (k 49 27 32) alu_body
    ∷ func (n 57 4 "holds") ((n 57 10 "f", k 57 12 3) ∷ (n 57 15 "a", k 57 17 32) ∷ (n 57 21 "b", k 57 23 32) ∷ []) (k 57 29 1) holds_body
    ∷ func (n 61 4 "loaded") ((n 61 11 "f", k 61 13 3) ∷ (n 61 16 "w", k 61 18 32) ∷ []) (k 61 24 32) loaded_body
    ∷ func (n 65 4 "mask") ((n 65 9 "f", k 65 11 3) ∷ (n 65 14 "o", k 65 16 2) ∷ []) (k 65 21 32) mask_body
    ∷ func (n 67 4 "merged") ((n 67 11 "k", k 67 13 32) ∷ (n 67 17 "w", k 67 19 32) ∷ (n 67 23 "d", k 67 25 32) ∷ []) (k 67 31 32) merged_body
    ∷ func (n 70 4 "upper") ((n 70 10 "u", k 70 12 32) ∷ (n 70 16 "a", k 70 18 32) ∷ (n 70 22 "b", k 70 24 32) ∷ (n 70 28 "s", k 70 30 1) ∷ (n 70 33 "t", k 70 35 1) ∷ []) (k 70 40 32) upper_body
    ∷ func (n 73 4 "negate") ((n 73 11 "a", k 73 13 32) ∷ (n 73 17 "s", k 73 19 1) ∷ []) (k 73 24 32) negate_body
    ∷ func (n 76 4 "divide1") ((n 76 12 "s", k 76 14 64) ∷ (n 76 18 "d", k 76 20 32) ∷ []) (k 76 26 64) divide1_body
    ∷ func (n 78 4 "divide4") ((n 78 12 "s", k 78 14 64) ∷ (n 78 18 "d", k 78 20 32) ∷ []) (k 78 26 64) divide4_body
    ∷ []

abbrev pub stage0 : List Act
stage0 =
    read (p 81 3) (n 81 8 "pc") (n 81 13 "PC") None None (Some (v 81 22 "H"))
    ∷ read (p 82 3) (n 82 8 "i") (n 82 12 "IM") (Some (cut (p 82 17) (v 82 15 "pc") 17 2)) None None
    ∷ put (p 83 3) (n 83 7 "P") (v 83 11 "pc")
    ∷ put (p 84 3) (n 84 7 "IR") (v 84 12 "i")
    ∷ bind (p 85 3) (n 85 7 "next") (bin (p 85 17) Add (v 85 14 "pc") (lit (p 85 19) 32 4))
    ∷ bind (p 86 3) (n 86 7 "jal") (bin (p 86 20) Eq (cut (p 86 14) (v 86 13 "i") 6 0) (lit (p 86 23) 7 111))
    ∷ bind (p 87 3) (n 87 7 "jalr") (bin (p 87 21) Eq (cut (p 87 15) (v 87 14 "i") 6 0) (lit (p 87 24) 7 103))
    ∷ bind (p 88 3) (n 88 7 "branch") (bin (p 88 23) Eq (cut (p 88 17) (v 88 16 "i") 6 0) (lit (p 88 26) 7 99))
    ∷ bind (p 89 3) (n 89 7 "stop") (bin (p 89 21) Eq (cut (p 89 15) (v 89 14 "i") 6 0) (lit (p 89 24) 7 115))
    ∷ bind (p 90 3) (n 90 7 "call") (bin (p 90 27) And (bin (p 90 19) Or (v 90 15 "jal") (v 90 21 "jalr")) (bin (p 90 38) Eq (cut (p 90 31) (v 90 30 "i") 11 7) (lit (p 90 41) 5 1)))
    ∷ bind (p 91 3) (n 91 7 "back") (bin (p 91 40) And (bin (p 91 19) And (v 91 14 "jalr") (bin (p 91 31) Eq (cut (p 91 23) (v 91 22 "i") 19 15) (lit (p 91 34) 5 1))) (inv (p 91 42) (v 91 43 "call")))
    ∷ bind (p 92 3) (n 92 7 "there") (bin (p 92 18) Add (v 92 15 "pc") (mux (p 92 25) (v 92 21 "jal") (app (p 92 27) (codes "immj") (more (v 92 32 "i") none)) (app (p 92 37) (codes "immb") (more (v 92 42 "i") none))))
    ∷ aim (p 93 3) (n 93 7 "H") (mux (p 93 16) (v 93 11 "back") (v 93 18 "S0") (mux (p 93 28) (v 93 23 "stop") (v 93 30 "pc") (mux (p 94 38) (bin (p 94 9) Or (v 94 5 "jal") (bin (p 94 18) And (v 94 11 "branch") (cut (p 94 34) (bin (p 94 23) Shr (v 94 21 "B") (cut (p 94 28) (v 94 26 "pc") 7 2)) 0 0))) (v 94 40 "there") (v 94 48 "next"))))
    ∷ aim (p 95 3) (n 95 7 "S0") (mux (p 95 17) (v 95 12 "call") (v 95 19 "next") (mux (p 95 31) (v 95 26 "back") (v 95 33 "S1") (v 95 38 "S0")))
    ∷ aim (p 96 3) (n 96 7 "S1") (mux (p 96 17) (v 96 12 "call") (v 96 19 "S0") (mux (p 96 29) (v 96 24 "back") (v 96 31 "S2") (v 96 36 "S1")))
    ∷ aim (p 97 3) (n 97 7 "S2") (mux (p 97 17) (v 97 12 "call") (v 97 19 "S1") (mux (p 97 29) (v 97 24 "back") (v 97 31 "S3") (v 97 36 "S2")))
    ∷ aim (p 98 3) (n 98 7 "S3") (mux (p 98 17) (v 98 12 "call") (v 98 19 "S2") (v 98 24 "S3"))
    ∷ []

abbrev pub stage1 : List Act
stage1 =
    bind (p 101 3) (n 101 7 "op") (cut (p 101 14) (v 101 12 "IR") 6 0)
    ∷ bind (p 102 3) (n 102 7 "load") (bin (p 102 17) Eq (v 102 14 "op") (lit (p 102 20) 7 3))
    ∷ bind (p 103 3) (n 103 7 "store") (bin (p 103 18) Eq (v 103 15 "op") (lit (p 103 21) 7 35))
    ∷ bind (p 104 3) (n 104 7 "opimm") (bin (p 104 18) Eq (v 104 15 "op") (lit (p 104 21) 7 19))
    ∷ bind (p 105 3) (n 105 7 "opreg") (bin (p 105 18) Eq (v 105 15 "op") (lit (p 105 21) 7 51))
    ∷ bind (p 106 3) (n 106 7 "lui") (bin (p 106 16) Eq (v 106 13 "op") (lit (p 106 19) 7 55))
    ∷ bind (p 107 3) (n 107 7 "auipc") (bin (p 107 18) Eq (v 107 15 "op") (lit (p 107 21) 7 23))
    ∷ bind (p 108 3) (n 108 7 "branch") (bin (p 108 19) Eq (v 108 16 "op") (lit (p 108 22) 7 99))
    ∷ bind (p 109 3) (n 109 7 "jal") (bin (p 109 16) Eq (v 109 13 "op") (lit (p 109 19) 7 111))
    ∷ bind (p 110 3) (n 110 7 "jalr") (bin (p 110 17) Eq (v 110 14 "op") (lit (p 110 20) 7 103))
    ∷ bind (p 111 3) (n 111 7 "stop") (bin (p 111 17) Eq (v 111 14 "op") (lit (p 111 20) 7 115))
    ∷ bind (p 112 3) (n 112 7 "f3") (cut (p 112 14) (v 112 12 "IR") 14 12)
    ∷ read (p 113 3) (n 113 8 "xa") (n 113 13 "X") (Some (cut (p 113 17) (v 113 15 "IR") 19 15)) (Some (bin (p 113 69) Or (bin (p 113 60) Or (bin (p 113 52) Or (bin (p 113 44) Or (bin (p 113 36) Or (v 113 31 "load") (v 113 38 "store")) (v 113 46 "opimm")) (v 113 54 "opreg")) (v 113 62 "branch")) (v 113 71 "jalr"))) None
    ∷ bind (p 114 3) (n 114 7 "a") (mux (p 114 29) (bin (p 114 21) Eq (cut (p 114 13) (v 114 11 "IR") 19 15) (lit (p 114 24) 5 0)) (lit (p 114 31) 32 0) (v 114 39 "xa"))
    ∷ read (p 115 3) (n 115 8 "xb") (n 115 13 "X") (Some (cut (p 115 17) (v 115 15 "IR") 24 20)) (Some (bin (p 115 45) Or (bin (p 115 37) Or (v 115 31 "store") (v 115 39 "opreg")) (v 115 47 "branch"))) None
    ∷ bind (p 116 3) (n 116 7 "b") (mux (p 116 29) (bin (p 116 21) Eq (cut (p 116 13) (v 116 11 "IR") 24 20) (lit (p 116 24) 5 0)) (lit (p 116 31) 32 0) (v 116 39 "xb"))
    ∷ put (p 117 3) (n 117 7 "OA") (mux (p 117 31) (bin (p 117 24) Or (bin (p 117 18) Or (v 117 12 "auipc") (v 117 20 "jal")) (v 117 26 "jalr")) (v 117 33 "P") (v 117 37 "a"))
    ∷ put (p 118 3) (n 118 7 "OB") (mux (p 118 27) (bin (p 118 18) Or (v 118 12 "opreg") (v 118 20 "branch")) (v 118 29 "b") (mux (p 118 45) (bin (p 118 37) Or (v 118 33 "lui") (v 118 39 "auipc")) (app (p 118 47) (codes "immu") (more (v 118 52 "IR") none)) (mux (p 119 16) (bin (p 119 9) Or (v 119 5 "jal") (v 119 11 "jalr")) (lit (p 119 18) 32 4) (mux (p 119 32) (v 119 26 "store") (app (p 119 34) (codes "imms") (more (v 119 39 "IR") none)) (app (p 119 45) (codes "immi") (more (v 119 50 "IR") none))))))
    ∷ put (p 120 3) (n 120 7 "FN") (mux (p 120 26) (bin (p 120 18) Or (v 120 12 "opreg") (v 120 20 "opimm")) (cat (p 120 28) (more (bin (p 120 36) And (cut (p 120 31) (v 120 29 "IR") 30 30) (bin (p 120 45) Or (v 120 39 "opreg") (bin (p 120 51) Eq (v 120 48 "f3") (lit (p 120 54) 3 5)))) (more (v 120 62 "f3") none))) (lit (p 120 68) 4 0))
    ∷ put (p 121 3) (n 121 7 "T") (bin (p 122 47) And (bin (p 121 26) Add (mux (p 121 17) (v 121 12 "jalr") (v 121 19 "a") (v 121 23 "P")) (mux (p 121 33) (v 121 29 "jal") (app (p 121 35) (codes "immj") (more (v 121 40 "IR") none)) (mux (p 121 51) (v 121 46 "jalr") (app (p 121 53) (codes "immi") (more (v 121 58 "IR") none)) (mux (p 122 12) (v 122 5 "branch") (app (p 122 14) (codes "immb") (more (v 122 19 "IR") none)) (mux (p 122 30) (v 122 25 "stop") (lit (p 122 32) 32 0) (lit (p 122 40) 32 4)))))) (lit (p 122 49) 32 4294967294))
    ∷ put (p 123 3) (n 123 7 "MD") (bin (p 123 18) And (v 123 12 "opreg") (bin (p 123 31) Eq (cut (p 123 23) (v 123 21 "IR") 31 25) (lit (p 123 34) 7 1)))
    ∷ put (p 124 3) (n 124 7 "BR") (v 124 12 "branch")
    ∷ put (p 125 3) (n 125 7 "F3") (v 125 12 "f3")
    ∷ put (p 126 3) (n 126 7 "SD") (v 126 12 "b")
    ∷ put (p 127 3) (n 127 7 "LD") (v 127 12 "load")
    ∷ put (p 128 3) (n 128 7 "ST") (v 128 12 "store")
    ∷ put (p 129 3) (n 129 7 "RD") (cut (p 129 14) (v 129 12 "IR") 11 7)
    ∷ put (p 130 3) (n 130 7 "GW") (bin (p 130 62) And (bin (p 130 54) Or (bin (p 130 48) Or (bin (p 130 40) Or (bin (p 130 34) Or (bin (p 130 26) Or (bin (p 130 18) Or (v 130 13 "load") (v 130 20 "opimm")) (v 130 28 "opreg")) (v 130 36 "lui")) (v 130 42 "auipc")) (v 130 50 "jal")) (v 130 56 "jalr")) (inv (p 130 64) (bin (p 130 75) Eq (cut (p 130 68) (v 130 66 "IR") 11 7) (lit (p 130 78) 5 0))))
    ∷ []

abbrev pub stage2 : List Act
stage2 =
    bind (p 133 3) (n 133 7 "r") (app (p 133 11) (codes "alu") (more (v 133 15 "FN") (more (v 133 19 "OA") (more (v 133 23 "OB") none))))
    ∷ set (p 134 3) (n 134 7 "G") (v 134 11 "r") (Some (inv (p 134 18) (bin (p 134 23) Or (v 134 20 "LD") (v 134 25 "MD"))))
    ∷ put (p 135 3) (n 135 7 "PR") (bin (p 135 25) Mul (zx (p 135 12) (v 135 17 "OA") (k 135 21 64)) (zx (p 135 27) (v 135 32 "OB") (k 135 36 64)))
    ∷ put (p 136 3) (n 136 7 "DA") (app (p 136 12) (codes "negate") (more (v 136 19 "OA") (more (bin (p 136 30) And (cut (p 136 25) (v 136 23 "OA") 31 31) (inv (p 136 32) (cut (p 136 35) (v 136 33 "F3") 0 0))) none)))
    ∷ put (p 137 3) (n 137 7 "DB") (app (p 137 12) (codes "negate") (more (v 137 19 "OB") (more (bin (p 137 30) And (cut (p 137 25) (v 137 23 "OB") 31 31) (inv (p 137 32) (cut (p 137 35) (v 137 33 "F3") 0 0))) none)))
    ∷ put (p 138 3) (n 138 7 "MA") (cut (p 138 13) (v 138 12 "r") 17 2)
    ∷ put (p 139 3) (n 139 7 "BO") (cut (p 139 13) (v 139 12 "r") 1 0)
    ∷ bind (p 140 3) (n 140 7 "taken") (app (p 140 15) (codes "holds") (more (v 140 21 "F3") (more (v 140 25 "OA") (more (v 140 29 "OB") none))))
    ∷ set (p 141 3) (n 141 7 "NPC") (mux (p 141 25) (bin (p 141 16) And (v 141 13 "BR") (inv (p 141 18) (v 141 19 "taken"))) (bin (p 141 29) Add (v 141 27 "P") (lit (p 141 31) 32 4)) (v 141 39 "T")) None
    ∷ aim (p 142 3) (n 142 7 "B") (mux (p 142 14) (v 142 11 "BR") (bin (p 142 39) Or (bin (p 142 18) And (v 142 16 "B") (inv (p 142 20) (bin (p 142 28) Shl (lit (p 142 22) 64 1) (cut (p 142 32) (v 142 31 "P") 7 2)))) (bin (p 142 58) Shl (zx (p 142 42) (v 142 47 "taken") (k 142 54 64)) (cut (p 142 62) (v 142 61 "P") 7 2))) (v 142 71 "B"))
    ∷ []

abbrev pub stage3 : List Act
stage3 =
    read (p 145 3) (n 145 8 "m") (n 145 12 "DM") (Some (v 145 15 "MA")) None None
    ∷ bind (p 146 3) (n 146 7 "product") (mux (p 146 33) (bin (p 146 25) Eq (cut (p 146 19) (v 146 17 "F3") 1 0) (lit (p 146 28) 2 0)) (cut (p 146 37) (v 146 35 "PR") 31 0) (app (p 147 5) (codes "upper") (more (cut (p 147 13) (v 147 11 "PR") 63 32) (more (v 147 22 "OA") (more (v 147 26 "OB") (more (inv (p 147 30) (bin (p 147 40) Eq (cut (p 147 34) (v 147 32 "F3") 1 0) (lit (p 147 43) 2 3))) (more (bin (p 147 58) Eq (cut (p 147 52) (v 147 50 "F3") 1 0) (lit (p 147 61) 2 1)) none)))))))
    ∷ set (p 148 3) (n 148 7 "G") (mux (p 148 14) (v 148 11 "LD") (app (p 148 16) (codes "loaded") (more (v 148 23 "F3") (more (bin (p 148 29) Shr (v 148 27 "m") (cat (p 148 32) (more (v 148 33 "BO") (more (lit (p 148 37) 3 0) none)))) none))) (v 148 46 "product")) (Some (inv (p 148 59) (bin (p 148 64) And (v 148 61 "MD") (cut (p 148 68) (v 148 66 "F3") 2 2))))
    ∷ put (p 149 3) (n 149 7 "D3") (app (p 149 12) (codes "divide4") (more (cat (p 149 20) (more (lit (p 149 21) 32 0) (more (v 149 28 "DA") none))) (more (v 149 33 "DB") none)))
    ∷ set (p 150 3) (n 150 7 "M") (app (p 150 11) (codes "merged") (more (app (p 150 18) (codes "mask") (more (v 150 23 "F3") (more (v 150 27 "BO") none))) (more (v 150 32 "m") (more (bin (p 150 38) Shl (v 150 35 "SD") (cat (p 150 41) (more (v 150 42 "BO") (more (lit (p 150 46) 3 0) none)))) none)))) None
    ∷ []

abbrev pub stage4 : List Act
stage4 =
    put (p 152 11) (n 152 15 "D4") (app (p 152 20) (codes "divide4") (more (v 152 28 "D3") (more (v 152 32 "DB") none)))
    ∷ []

abbrev pub stage5 : List Act
stage5 =
    put (p 153 11) (n 153 15 "D5") (app (p 153 20) (codes "divide4") (more (v 153 28 "D4") (more (v 153 32 "DB") none)))
    ∷ []

abbrev pub stage6 : List Act
stage6 =
    put (p 154 11) (n 154 15 "D6") (app (p 154 20) (codes "divide4") (more (v 154 28 "D5") (more (v 154 32 "DB") none)))
    ∷ []

abbrev pub stage7 : List Act
stage7 =
    put (p 155 11) (n 155 15 "D7") (app (p 155 20) (codes "divide4") (more (v 155 28 "D6") (more (v 155 32 "DB") none)))
    ∷ []

abbrev pub stage8 : List Act
stage8 =
    put (p 156 11) (n 156 15 "D8") (app (p 156 20) (codes "divide4") (more (v 156 28 "D7") (more (v 156 32 "DB") none)))
    ∷ []

abbrev pub stage9 : List Act
stage9 =
    put (p 157 11) (n 157 15 "D9") (app (p 157 20) (codes "divide4") (more (v 157 28 "D8") (more (v 157 32 "DB") none)))
    ∷ []

abbrev pub stage10 : List Act
stage10 =
    bind (p 159 3) (n 159 7 "d") (app (p 159 11) (codes "divide4") (more (v 159 19 "D9") (more (v 159 23 "DB") none)))
    ∷ bind (p 160 3) (n 160 7 "minus") (bin (p 160 22) And (inv (p 160 15) (cut (p 160 18) (v 160 16 "F3") 0 0)) (mux (p 160 31) (cut (p 160 27) (v 160 25 "F3") 1 1) (cut (p 160 35) (v 160 33 "OA") 31 31) (bin (p 160 60) And (bin (p 160 50) Xor (cut (p 160 45) (v 160 43 "OA") 31 31) (cut (p 160 54) (v 160 52 "OB") 31 31)) (inv (p 160 62) (bin (p 160 67) Eq (v 160 64 "OB") (lit (p 160 70) 32 0))))))
    ∷ set (p 161 3) (n 161 7 "G") (app (p 161 11) (codes "negate") (more (mux (p 161 24) (cut (p 161 20) (v 161 18 "F3") 1 1) (cut (p 161 27) (v 161 26 "d") 63 32) (cut (p 161 38) (v 161 37 "d") 31 0)) (more (v 161 46 "minus") none))) None
    ∷ []

abbrev pub stage11 : List Act
stage11 =
    []

abbrev pub blocks : List (Num × List Act)
blocks = (k 80 7 0, stage0) ∷ (k 100 7 1, stage1) ∷ (k 132 7 2, stage2) ∷ (k 144 7 3, stage3) ∷ (k 152 7 4, stage4) ∷ (k 153 7 5, stage5) ∷ (k 154 7 6, stage6) ∷ (k 155 7 7, stage7) ∷ (k 156 7 8, stage8) ∷ (k 157 7 9, stage9) ∷ (k 158 7 10, stage10) ∷ (k 163 7 11, stage11) ∷ []

-- with this image
abbrev pub rv32im : Option (List Image) → Job
rv32im image = job_of (n 13 9 "rv32im") (k 14 8 12) parts blocks image
