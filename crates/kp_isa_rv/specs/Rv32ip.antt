-- The description examples/riscv/rv32ip.kp, with the positions of its text.
use Rattle.std.specs.Prelude.{List, [], ◌∷◌, Option, Some, None, codes}
use Rattle.kp_bits.specs.declared.operator.BinOp.TheVariants.{And, Or, Xor, Add, Sub, Eq, Lt, Shl, Shr}
use Rattle.kp_ast.specs.declared.tree.{Num.Num, Image.Image, Job.Job}
use Rattle.kp_plain.specs.Plain.{p, lit_of, Term, lit, inv, bin, mux, cat, cut, zx, sx, app, none, more, Act, read, bind, put, set, aim, Part, register, file, pipe, hint, result, func, job_of}
use Rattle.kp_isa_rv.specs.Rv32i.{n, k, v}

abbrev pub immi_body : Term
immi_body = sx (p 35 22) (cut (p 35 28) (v 35 27 "i") 31 20) (k 35 37 32)

abbrev pub imms_body : Term
imms_body = sx (p 36 22) (cat (p 36 27) (more (cut (p 36 29) (v 36 28 "i") 31 25) (more (cut (p 36 39) (v 36 38 "i") 11 7) none))) (k 36 48 32)

abbrev pub immb_body : Term
immb_body = sx (p 37 22) (cat (p 37 27) (more (cut (p 37 29) (v 37 28 "i") 31 31) (more (cut (p 37 36) (v 37 35 "i") 7 7) (more (cut (p 37 42) (v 37 41 "i") 30 25) (more (cut (p 37 52) (v 37 51 "i") 11 8) (more (lit (p 37 60) 1 0) none)))))) (k 37 67 32)

abbrev pub immu_body : Term
immu_body = cat (p 38 22) (more (cut (p 38 24) (v 38 23 "i") 31 12) (more (lit (p 38 33) 12 0) none))

abbrev pub immj_body : Term
immj_body = sx (p 39 22) (cat (p 39 27) (more (cut (p 39 29) (v 39 28 "i") 31 31) (more (cut (p 39 36) (v 39 35 "i") 19 12) (more (cut (p 39 46) (v 39 45 "i") 20 20) (more (cut (p 39 53) (v 39 52 "i") 30 21) (more (lit (p 39 62) 1 0) none)))))) (k 39 69 32)

abbrev pub less_body : Term
less_body = bin (p 42 46) Lt (bin (p 42 30) Xor (v 42 28 "a") (lit (p 42 32) 32 2147483648)) (bin (p 42 51) Xor (v 42 49 "b") (lit (p 42 53) 32 2147483648))

abbrev pub shr_body : Term
shr_body = bin (p 43 47) Xor (bin (p 43 41) Shr (bin (p 43 36) Xor (v 43 34 "a") (v 43 38 "f")) (v 43 44 "n")) (v 43 49 "f")

abbrev pub alu_body : Term
alu_body = mux (p 45 18) (bin (p 45 10) Eq (cut (p 45 4) (v 45 3 "f") 2 0) (lit (p 45 13) 3 0)) (mux (p 45 26) (cut (p 45 22) (v 45 21 "f") 3 3) (bin (p 45 30) Sub (v 45 28 "a") (v 45 32 "b")) (bin (p 45 38) Add (v 45 36 "a") (v 45 40 "b"))) (mux (p 46 18) (bin (p 46 10) Eq (cut (p 46 4) (v 46 3 "f") 2 0) (lit (p 46 13) 3 1)) (bin (p 46 22) Shl (v 46 20 "a") (cut (p 46 26) (v 46 25 "b") 4 0)) (mux (p 47 18) (bin (p 47 10) Eq (cut (p 47 4) (v 47 3 "f") 2 0) (lit (p 47 13) 3 2)) (zx (p 47 20) (app (p 47 25) (codes "less") (more (v 47 30 "a") (more (v 47 33 "b") none))) (k 47 37 32)) (mux (p 48 18) (bin (p 48 10) Eq (cut (p 48 4) (v 48 3 "f") 2 0) (lit (p 48 13) 3 3)) (zx (p 48 20) (bin (p 48 27) Lt (v 48 25 "a") (v 48 29 "b")) (k 48 32 32)) (mux (p 49 18) (bin (p 49 10) Eq (cut (p 49 4) (v 49 3 "f") 2 0) (lit (p 49 13) 3 4)) (bin (p 49 22) Xor (v 49 20 "a") (v 49 24 "b")) (mux (p 50 18) (bin (p 50 10) Eq (cut (p 50 4) (v 50 3 "f") 2 0) (lit (p 50 13) 3 5)) (app (p 50 20) (codes "shr") (more (v 50 24 "a") (more (sx (p 50 27) (bin (p 50 37) And (cut (p 50 33) (v 50 32 "f") 3 3) (cut (p 50 40) (v 50 39 "a") 31 31)) (k 50 46 32)) (more (cut (p 50 52) (v 50 51 "b") 4 0) none)))) (mux (p 51 18) (bin (p 51 10) Eq (cut (p 51 4) (v 51 3 "f") 2 0) (lit (p 51 13) 3 6)) (bin (p 51 22) Or (v 51 20 "a") (v 51 24 "b")) (bin (p 51 30) And (v 51 28 "a") (v 51 32 "b"))))))))

abbrev pub holds_body : Term
holds_body = bin (p 53 49) Xor (mux (p 53 9) (cut (p 53 5) (v 53 4 "f") 2 2) (mux (p 53 17) (cut (p 53 13) (v 53 12 "f") 1 1) (bin (p 53 21) Lt (v 53 19 "a") (v 53 23 "b")) (app (p 53 27) (codes "less") (more (v 53 32 "a") (more (v 53 35 "b") none)))) (bin (p 53 43) Eq (v 53 41 "a") (v 53 46 "b"))) (cut (p 53 52) (v 53 51 "f") 0 0)

abbrev pub loaded_body : Term
loaded_body = mux (p 57 8) (cut (p 57 4) (v 57 3 "f") 1 1) (v 57 10 "w") (mux (p 58 8) (cut (p 58 4) (v 58 3 "f") 0 0) (mux (p 58 16) (cut (p 58 12) (v 58 11 "f") 2 2) (zx (p 58 18) (cut (p 58 24) (v 58 23 "w") 15 0) (k 58 32 32)) (sx (p 58 38) (cut (p 58 44) (v 58 43 "w") 15 0) (k 58 52 32))) (mux (p 59 8) (cut (p 59 4) (v 59 3 "f") 2 2) (zx (p 59 10) (cut (p 59 16) (v 59 15 "w") 7 0) (k 59 23 32)) (sx (p 59 29) (cut (p 59 35) (v 59 34 "w") 7 0) (k 59 42 32))))

abbrev pub mask_body : Term
mask_body = mux (p 61 8) (cut (p 61 4) (v 61 3 "f") 1 1) (lit (p 61 10) 32 4294967295) (bin (p 61 62) Shl (mux (p 61 31) (cut (p 61 27) (v 61 26 "f") 0 0) (lit (p 61 33) 32 65535) (lit (p 61 48) 32 255)) (cat (p 61 65) (more (v 61 66 "o") (more (lit (p 61 69) 3 0) none))))

abbrev pub merged_body : Term
merged_body = bin (p 62 45) Or (bin (p 62 39) And (v 62 37 "w") (inv (p 62 41) (v 62 42 "k"))) (bin (p 62 50) And (v 62 48 "d") (v 62 52 "k"))

abbrev pub parts : List Part
parts =
    register (n 14 6 "PC") (k 14 11 32) (lit_of (p 14 16) 32 1048576)
    ∷ file (n 15 6 "IM") (k 15 11 32) (k 15 15 16)
    ∷ file (n 16 6 "X") (k 16 11 32) (k 16 15 5)
    ∷ file (n 17 6 "DM") (k 17 11 32) (k 17 15 16)
    ∷ hint (n 18 6 "H") (k 18 11 32) (lit_of (p 18 16) 32 1048576)
    ∷ hint (n 19 6 "B") (k 19 11 64) (lit_of (p 19 16) 64 0)
    ∷ hint (n 20 6 "S0") (k 20 11 32) (lit_of (p 20 16) 32 0)
    ∷ hint (n 20 29 "S1") (k 20 34 32) (lit_of (p 20 39) 32 0)
    ∷ hint (n 20 52 "S2") (k 20 57 32) (lit_of (p 20 62) 32 0)
    ∷ hint (n 20 75 "S3") (k 20 80 32) (lit_of (p 20 85) 32 0)
    ∷ pipe (n 22 6 "P") (k 22 11 32)
    ∷ pipe (n 23 6 "IR") (k 23 11 32)
    ∷ pipe (n 24 6 "OA") (k 24 11 32)
    ∷ pipe (n 24 21 "OB") (k 24 26 32)
    ∷ pipe (n 24 36 "FN") (k 24 41 4)
    ∷ pipe (n 25 6 "T") (k 25 11 32)
    ∷ pipe (n 25 21 "BR") (k 25 26 1)
    ∷ pipe (n 26 6 "F3") (k 26 11 3)
    ∷ pipe (n 26 21 "SD") (k 26 26 32)
    ∷ pipe (n 26 36 "LD") (k 26 41 1)
    ∷ pipe (n 26 49 "ST") (k 26 54 1)
    ∷ pipe (n 27 6 "RD") (k 27 11 5)
    ∷ pipe (n 27 21 "GW") (k 27 26 1)
    ∷ pipe (n 28 6 "MA") (k 28 11 16)
    ∷ pipe (n 28 21 "BO") (k 28 26 2)
    ∷ result (n 30 8 "NPC") (k 30 14 32) (n 30 20 "PC") None None (k 30 26 2)
    ∷ result (n 31 8 "G") (k 31 14 32) (n 31 20 "X") (Some (n 31 22 "RD")) (Some (n 31 31 "GW")) (k 31 37 4)
    ∷ result (n 32 8 "M") (k 32 14 32) (n 32 20 "DM") (Some (n 32 23 "MA")) (Some (n 32 32 "ST")) (k 32 38 3)
    ∷ func (n 35 4 "immi") ((n 35 9 "i", k 35 11 32) ∷ []) (k 35 17 32) immi_body
    ∷ func (n 36 4 "imms") ((n 36 9 "i", k 36 11 32) ∷ []) (k 36 17 32) imms_body
    ∷ func (n 37 4 "immb") ((n 37 9 "i", k 37 11 32) ∷ []) (k 37 17 32) immb_body
    ∷ func (n 38 4 "immu") ((n 38 9 "i", k 38 11 32) ∷ []) (k 38 17 32) immu_body
    ∷ func (n 39 4 "immj") ((n 39 9 "i", k 39 11 32) ∷ []) (k 39 17 32) immj_body
    ∷ func (n 42 4 "less") ((n 42 9 "a", k 42 11 32) ∷ (n 42 15 "b", k 42 17 32) ∷ []) (k 42 23 1) less_body
    ∷ func (n 43 4 "shr") ((n 43 8 "a", k 43 10 32) ∷ (n 43 14 "f", k 43 16 32) ∷ (n 43 20 "n", k 43 22 5) ∷ []) (k 43 27 32) shr_body
    ∷ func (n 44 4 "alu") ((n 44 8 "f", k 44 10 4) ∷ (n 44 13 "a", k 44 15 32) ∷ (n 44 19 "b", k 44 21 32) ∷ []) (k 44 27 32) alu_body
    ∷ func (n 52 4 "holds") ((n 52 10 "f", k 52 12 3) ∷ (n 52 15 "a", k 52 17 32) ∷ (n 52 21 "b", k 52 23 32) ∷ []) (k 52 29 1) holds_body
    ∷ func (n 56 4 "loaded") ((n 56 11 "f", k 56 13 3) ∷ (n 56 16 "w", k 56 18 32) ∷ []) (k 56 24 32) loaded_body
    ∷ func (n 60 4 "mask") ((n 60 9 "f", k 60 11 3) ∷ (n 60 14 "o", k 60 16 2) ∷ []) (k 60 21 32) mask_body
    ∷ func (n 62 4 "merged") ((n 62 11 "k", k 62 13 32) ∷ (n 62 17 "w", k 62 19 32) ∷ (n 62 23 "d", k 62 25 32) ∷ []) (k 62 31 32) merged_body
    ∷ []

abbrev pub stage0 : List Act
stage0 =
    read (p 65 3) (n 65 8 "pc") (n 65 13 "PC") None None (Some (v 65 22 "H"))
    ∷ read (p 66 3) (n 66 8 "i") (n 66 12 "IM") (Some (cut (p 66 17) (v 66 15 "pc") 17 2)) None None
    ∷ put (p 67 3) (n 67 7 "P") (v 67 11 "pc")
    ∷ put (p 68 3) (n 68 7 "IR") (v 68 12 "i")
    ∷ bind (p 69 3) (n 69 7 "next") (bin (p 69 17) Add (v 69 14 "pc") (lit (p 69 19) 32 4))
    ∷ bind (p 70 3) (n 70 7 "jal") (bin (p 70 20) Eq (cut (p 70 14) (v 70 13 "i") 6 0) (lit (p 70 23) 7 111))
    ∷ bind (p 71 3) (n 71 7 "jalr") (bin (p 71 21) Eq (cut (p 71 15) (v 71 14 "i") 6 0) (lit (p 71 24) 7 103))
    ∷ bind (p 72 3) (n 72 7 "branch") (bin (p 72 23) Eq (cut (p 72 17) (v 72 16 "i") 6 0) (lit (p 72 26) 7 99))
    ∷ bind (p 73 3) (n 73 7 "stop") (bin (p 73 21) Eq (cut (p 73 15) (v 73 14 "i") 6 0) (lit (p 73 24) 7 115))
    ∷ bind (p 74 3) (n 74 7 "call") (bin (p 74 27) And (bin (p 74 19) Or (v 74 15 "jal") (v 74 21 "jalr")) (bin (p 74 38) Eq (cut (p 74 31) (v 74 30 "i") 11 7) (lit (p 74 41) 5 1)))
    ∷ bind (p 75 3) (n 75 7 "back") (bin (p 75 40) And (bin (p 75 19) And (v 75 14 "jalr") (bin (p 75 31) Eq (cut (p 75 23) (v 75 22 "i") 19 15) (lit (p 75 34) 5 1))) (inv (p 75 42) (v 75 43 "call")))
    ∷ bind (p 76 3) (n 76 7 "there") (bin (p 76 18) Add (v 76 15 "pc") (mux (p 76 25) (v 76 21 "jal") (app (p 76 27) (codes "immj") (more (v 76 32 "i") none)) (app (p 76 37) (codes "immb") (more (v 76 42 "i") none))))
    ∷ aim (p 77 3) (n 77 7 "H") (mux (p 77 16) (v 77 11 "back") (v 77 18 "S0") (mux (p 77 28) (v 77 23 "stop") (v 77 30 "pc") (mux (p 78 38) (bin (p 78 9) Or (v 78 5 "jal") (bin (p 78 18) And (v 78 11 "branch") (cut (p 78 34) (bin (p 78 23) Shr (v 78 21 "B") (cut (p 78 28) (v 78 26 "pc") 7 2)) 0 0))) (v 78 40 "there") (v 78 48 "next"))))
    ∷ aim (p 79 3) (n 79 7 "S0") (mux (p 79 17) (v 79 12 "call") (v 79 19 "next") (mux (p 79 31) (v 79 26 "back") (v 79 33 "S1") (v 79 38 "S0")))
    ∷ aim (p 80 3) (n 80 7 "S1") (mux (p 80 17) (v 80 12 "call") (v 80 19 "S0") (mux (p 80 29) (v 80 24 "back") (v 80 31 "S2") (v 80 36 "S1")))
    ∷ aim (p 81 3) (n 81 7 "S2") (mux (p 81 17) (v 81 12 "call") (v 81 19 "S1") (mux (p 81 29) (v 81 24 "back") (v 81 31 "S3") (v 81 36 "S2")))
    ∷ aim (p 82 3) (n 82 7 "S3") (mux (p 82 17) (v 82 12 "call") (v 82 19 "S2") (v 82 24 "S3"))
    ∷ []

abbrev pub stage1 : List Act
stage1 =
    bind (p 85 3) (n 85 7 "op") (cut (p 85 14) (v 85 12 "IR") 6 0)
    ∷ bind (p 86 3) (n 86 7 "load") (bin (p 86 17) Eq (v 86 14 "op") (lit (p 86 20) 7 3))
    ∷ bind (p 87 3) (n 87 7 "store") (bin (p 87 18) Eq (v 87 15 "op") (lit (p 87 21) 7 35))
    ∷ bind (p 88 3) (n 88 7 "opimm") (bin (p 88 18) Eq (v 88 15 "op") (lit (p 88 21) 7 19))
    ∷ bind (p 89 3) (n 89 7 "opreg") (bin (p 89 18) Eq (v 89 15 "op") (lit (p 89 21) 7 51))
    ∷ bind (p 90 3) (n 90 7 "lui") (bin (p 90 16) Eq (v 90 13 "op") (lit (p 90 19) 7 55))
    ∷ bind (p 91 3) (n 91 7 "auipc") (bin (p 91 18) Eq (v 91 15 "op") (lit (p 91 21) 7 23))
    ∷ bind (p 92 3) (n 92 7 "branch") (bin (p 92 19) Eq (v 92 16 "op") (lit (p 92 22) 7 99))
    ∷ bind (p 93 3) (n 93 7 "jal") (bin (p 93 16) Eq (v 93 13 "op") (lit (p 93 19) 7 111))
    ∷ bind (p 94 3) (n 94 7 "jalr") (bin (p 94 17) Eq (v 94 14 "op") (lit (p 94 20) 7 103))
    ∷ bind (p 95 3) (n 95 7 "stop") (bin (p 95 17) Eq (v 95 14 "op") (lit (p 95 20) 7 115))
    ∷ bind (p 96 3) (n 96 7 "f3") (cut (p 96 14) (v 96 12 "IR") 14 12)
    ∷ read (p 97 3) (n 97 8 "xa") (n 97 13 "X") (Some (cut (p 97 17) (v 97 15 "IR") 19 15)) (Some (bin (p 97 69) Or (bin (p 97 60) Or (bin (p 97 52) Or (bin (p 97 44) Or (bin (p 97 36) Or (v 97 31 "load") (v 97 38 "store")) (v 97 46 "opimm")) (v 97 54 "opreg")) (v 97 62 "branch")) (v 97 71 "jalr"))) None
    ∷ bind (p 98 3) (n 98 7 "a") (mux (p 98 29) (bin (p 98 21) Eq (cut (p 98 13) (v 98 11 "IR") 19 15) (lit (p 98 24) 5 0)) (lit (p 98 31) 32 0) (v 98 39 "xa"))
    ∷ read (p 99 3) (n 99 8 "xb") (n 99 13 "X") (Some (cut (p 99 17) (v 99 15 "IR") 24 20)) (Some (bin (p 99 45) Or (bin (p 99 37) Or (v 99 31 "store") (v 99 39 "opreg")) (v 99 47 "branch"))) None
    ∷ bind (p 100 3) (n 100 7 "b") (mux (p 100 29) (bin (p 100 21) Eq (cut (p 100 13) (v 100 11 "IR") 24 20) (lit (p 100 24) 5 0)) (lit (p 100 31) 32 0) (v 100 39 "xb"))
    ∷ put (p 101 3) (n 101 7 "OA") (mux (p 101 31) (bin (p 101 24) Or (bin (p 101 18) Or (v 101 12 "auipc") (v 101 20 "jal")) (v 101 26 "jalr")) (v 101 33 "P") (v 101 37 "a"))
    ∷ put (p 102 3) (n 102 7 "OB") (mux (p 102 27) (bin (p 102 18) Or (v 102 12 "opreg") (v 102 20 "branch")) (v 102 29 "b") (mux (p 102 45) (bin (p 102 37) Or (v 102 33 "lui") (v 102 39 "auipc")) (app (p 102 47) (codes "immu") (more (v 102 52 "IR") none)) (mux (p 103 16) (bin (p 103 9) Or (v 103 5 "jal") (v 103 11 "jalr")) (lit (p 103 18) 32 4) (mux (p 103 32) (v 103 26 "store") (app (p 103 34) (codes "imms") (more (v 103 39 "IR") none)) (app (p 103 45) (codes "immi") (more (v 103 50 "IR") none))))))
    ∷ put (p 104 3) (n 104 7 "FN") (mux (p 104 26) (bin (p 104 18) Or (v 104 12 "opreg") (v 104 20 "opimm")) (cat (p 104 28) (more (bin (p 104 36) And (cut (p 104 31) (v 104 29 "IR") 30 30) (bin (p 104 45) Or (v 104 39 "opreg") (bin (p 104 51) Eq (v 104 48 "f3") (lit (p 104 54) 3 5)))) (more (v 104 62 "f3") none))) (lit (p 104 68) 4 0))
    ∷ put (p 105 3) (n 105 7 "T") (bin (p 106 47) And (bin (p 105 26) Add (mux (p 105 17) (v 105 12 "jalr") (v 105 19 "a") (v 105 23 "P")) (mux (p 105 33) (v 105 29 "jal") (app (p 105 35) (codes "immj") (more (v 105 40 "IR") none)) (mux (p 105 51) (v 105 46 "jalr") (app (p 105 53) (codes "immi") (more (v 105 58 "IR") none)) (mux (p 106 12) (v 106 5 "branch") (app (p 106 14) (codes "immb") (more (v 106 19 "IR") none)) (mux (p 106 30) (v 106 25 "stop") (lit (p 106 32) 32 0) (lit (p 106 40) 32 4)))))) (lit (p 106 49) 32 4294967294))
    ∷ put (p 107 3) (n 107 7 "BR") (v 107 12 "branch")
    ∷ put (p 108 3) (n 108 7 "F3") (v 108 12 "f3")
    ∷ put (p 109 3) (n 109 7 "SD") (v 109 12 "b")
    ∷ put (p 110 3) (n 110 7 "LD") (v 110 12 "load")
    ∷ put (p 111 3) (n 111 7 "ST") (v 111 12 "store")
    ∷ put (p 112 3) (n 112 7 "RD") (cut (p 112 14) (v 112 12 "IR") 11 7)
    ∷ put (p 113 3) (n 113 7 "GW") (bin (p 113 62) And (bin (p 113 54) Or (bin (p 113 48) Or (bin (p 113 40) Or (bin (p 113 34) Or (bin (p 113 26) Or (bin (p 113 18) Or (v 113 13 "load") (v 113 20 "opimm")) (v 113 28 "opreg")) (v 113 36 "lui")) (v 113 42 "auipc")) (v 113 50 "jal")) (v 113 56 "jalr")) (inv (p 113 64) (bin (p 113 75) Eq (cut (p 113 68) (v 113 66 "IR") 11 7) (lit (p 113 78) 5 0))))
    ∷ []

abbrev pub stage2 : List Act
stage2 =
    bind (p 116 3) (n 116 7 "r") (app (p 116 11) (codes "alu") (more (v 116 15 "FN") (more (v 116 19 "OA") (more (v 116 23 "OB") none))))
    ∷ set (p 117 3) (n 117 7 "G") (v 117 11 "r") (Some (inv (p 117 18) (v 117 19 "LD")))
    ∷ put (p 118 3) (n 118 7 "MA") (cut (p 118 13) (v 118 12 "r") 17 2)
    ∷ put (p 119 3) (n 119 7 "BO") (cut (p 119 13) (v 119 12 "r") 1 0)
    ∷ bind (p 120 3) (n 120 7 "taken") (app (p 120 15) (codes "holds") (more (v 120 21 "F3") (more (v 120 25 "OA") (more (v 120 29 "OB") none))))
    ∷ set (p 121 3) (n 121 7 "NPC") (mux (p 121 25) (bin (p 121 16) And (v 121 13 "BR") (inv (p 121 18) (v 121 19 "taken"))) (bin (p 121 29) Add (v 121 27 "P") (lit (p 121 31) 32 4)) (v 121 39 "T")) None
    ∷ aim (p 122 3) (n 122 7 "B") (mux (p 122 14) (v 122 11 "BR") (bin (p 122 39) Or (bin (p 122 18) And (v 122 16 "B") (inv (p 122 20) (bin (p 122 28) Shl (lit (p 122 22) 64 1) (cut (p 122 32) (v 122 31 "P") 7 2)))) (bin (p 122 58) Shl (zx (p 122 42) (v 122 47 "taken") (k 122 54 64)) (cut (p 122 62) (v 122 61 "P") 7 2))) (v 122 71 "B"))
    ∷ []

abbrev pub stage3 : List Act
stage3 =
    read (p 125 3) (n 125 8 "m") (n 125 12 "DM") (Some (v 125 15 "MA")) None None
    ∷ set (p 126 3) (n 126 7 "G") (app (p 126 11) (codes "loaded") (more (v 126 18 "F3") (more (bin (p 126 24) Shr (v 126 22 "m") (cat (p 126 27) (more (v 126 28 "BO") (more (lit (p 126 32) 3 0) none)))) none))) None
    ∷ set (p 127 3) (n 127 7 "M") (app (p 127 11) (codes "merged") (more (app (p 127 18) (codes "mask") (more (v 127 23 "F3") (more (v 127 27 "BO") none))) (more (v 127 32 "m") (more (bin (p 127 38) Shl (v 127 35 "SD") (cat (p 127 41) (more (v 127 42 "BO") (more (lit (p 127 46) 3 0) none)))) none)))) None
    ∷ []

abbrev pub stage4 : List Act
stage4 =
    []

abbrev pub blocks : List (Num × List Act)
blocks = (k 64 7 0, stage0) ∷ (k 84 7 1, stage1) ∷ (k 115 7 2, stage2) ∷ (k 124 7 3, stage3) ∷ (k 129 7 4, stage4) ∷ []

-- with this image
abbrev pub rv32ip : Option (List Image) → Job
rv32ip image = job_of (n 12 9 "rv32ip") (k 13 8 5) parts blocks image
