-- The description examples/riscv/rv32ib.kp, with the positions of its text.
use Rattle.std.specs.Prelude.{List, [], ◌∷◌, Option, Some, None, codes}
use Rattle.kp_bits.specs.declared.operator.BinOp.TheVariants.{And, Or, Xor, Add, Sub, Eq, Lt, Shl, Shr}
use Rattle.kp_ast.specs.declared.tree.{Num.Num, Image.Image, Job.Job}
use Rattle.kp_plain.specs.Plain.{p, lit_of, Term, lit, inv, bin, mux, cat, cut, zx, sx, app, none, more, Act, read, bind, put, set, aim, Part, register, file, pipe, hint, result, func, job_of}
use Rattle.kp_isa_rv.specs.Rv32i.{n, k, v}

abbrev pub immi_body : Term
immi_body = sx (p 36 22) (cut (p 36 28) (v 36 27 "i") 31 20) (k 36 37 32)

abbrev pub imms_body : Term
imms_body = sx (p 37 22) (cat (p 37 27) (more (cut (p 37 29) (v 37 28 "i") 31 25) (more (cut (p 37 39) (v 37 38 "i") 11 7) none))) (k 37 48 32)

abbrev pub immb_body : Term
immb_body = sx (p 38 22) (cat (p 38 27) (more (cut (p 38 29) (v 38 28 "i") 31 31) (more (cut (p 38 36) (v 38 35 "i") 7 7) (more (cut (p 38 42) (v 38 41 "i") 30 25) (more (cut (p 38 52) (v 38 51 "i") 11 8) (more (lit (p 38 60) 1 0) none)))))) (k 38 67 32)

abbrev pub immu_body : Term
immu_body = cat (p 39 22) (more (cut (p 39 24) (v 39 23 "i") 31 12) (more (lit (p 39 33) 12 0) none))

abbrev pub immj_body : Term
immj_body = sx (p 40 22) (cat (p 40 27) (more (cut (p 40 29) (v 40 28 "i") 31 31) (more (cut (p 40 36) (v 40 35 "i") 19 12) (more (cut (p 40 46) (v 40 45 "i") 20 20) (more (cut (p 40 53) (v 40 52 "i") 30 21) (more (lit (p 40 62) 1 0) none)))))) (k 40 69 32)

abbrev pub less_body : Term
less_body = bin (p 43 46) Lt (bin (p 43 30) Xor (v 43 28 "a") (lit (p 43 32) 32 2147483648)) (bin (p 43 51) Xor (v 43 49 "b") (lit (p 43 53) 32 2147483648))

abbrev pub shr_body : Term
shr_body = bin (p 44 47) Xor (bin (p 44 41) Shr (bin (p 44 36) Xor (v 44 34 "a") (v 44 38 "f")) (v 44 44 "n")) (v 44 49 "f")

abbrev pub alu_body : Term
alu_body = mux (p 46 18) (bin (p 46 10) Eq (cut (p 46 4) (v 46 3 "f") 2 0) (lit (p 46 13) 3 0)) (mux (p 46 26) (cut (p 46 22) (v 46 21 "f") 3 3) (bin (p 46 30) Sub (v 46 28 "a") (v 46 32 "b")) (bin (p 46 38) Add (v 46 36 "a") (v 46 40 "b"))) (mux (p 47 18) (bin (p 47 10) Eq (cut (p 47 4) (v 47 3 "f") 2 0) (lit (p 47 13) 3 1)) (bin (p 47 22) Shl (v 47 20 "a") (cut (p 47 26) (v 47 25 "b") 4 0)) (mux (p 48 18) (bin (p 48 10) Eq (cut (p 48 4) (v 48 3 "f") 2 0) (lit (p 48 13) 3 2)) (zx (p 48 20) (app (p 48 25) (codes "less") (more (v 48 30 "a") (more (v 48 33 "b") none))) (k 48 37 32)) (mux (p 49 18) (bin (p 49 10) Eq (cut (p 49 4) (v 49 3 "f") 2 0) (lit (p 49 13) 3 3)) (zx (p 49 20) (bin (p 49 27) Lt (v 49 25 "a") (v 49 29 "b")) (k 49 32 32)) (mux (p 50 18) (bin (p 50 10) Eq (cut (p 50 4) (v 50 3 "f") 2 0) (lit (p 50 13) 3 4)) (bin (p 50 22) Xor (v 50 20 "a") (v 50 24 "b")) (mux (p 51 18) (bin (p 51 10) Eq (cut (p 51 4) (v 51 3 "f") 2 0) (lit (p 51 13) 3 5)) (app (p 51 20) (codes "shr") (more (v 51 24 "a") (more (sx (p 51 27) (bin (p 51 37) And (cut (p 51 33) (v 51 32 "f") 3 3) (cut (p 51 40) (v 51 39 "a") 31 31)) (k 51 46 32)) (more (cut (p 51 52) (v 51 51 "b") 4 0) none)))) (mux (p 52 18) (bin (p 52 10) Eq (cut (p 52 4) (v 52 3 "f") 2 0) (lit (p 52 13) 3 6)) (bin (p 52 22) Or (v 52 20 "a") (v 52 24 "b")) (bin (p 52 30) And (v 52 28 "a") (v 52 32 "b"))))))))

abbrev pub holds_body : Term
holds_body = bin (p 54 49) Xor (mux (p 54 9) (cut (p 54 5) (v 54 4 "f") 2 2) (mux (p 54 17) (cut (p 54 13) (v 54 12 "f") 1 1) (bin (p 54 21) Lt (v 54 19 "a") (v 54 23 "b")) (app (p 54 27) (codes "less") (more (v 54 32 "a") (more (v 54 35 "b") none)))) (bin (p 54 43) Eq (v 54 41 "a") (v 54 46 "b"))) (cut (p 54 52) (v 54 51 "f") 0 0)

abbrev pub loaded_body : Term
loaded_body = mux (p 58 8) (cut (p 58 4) (v 58 3 "f") 1 1) (v 58 10 "w") (mux (p 59 8) (cut (p 59 4) (v 59 3 "f") 0 0) (mux (p 59 16) (cut (p 59 12) (v 59 11 "f") 2 2) (zx (p 59 18) (cut (p 59 24) (v 59 23 "w") 15 0) (k 59 32 32)) (sx (p 59 38) (cut (p 59 44) (v 59 43 "w") 15 0) (k 59 52 32))) (mux (p 60 8) (cut (p 60 4) (v 60 3 "f") 2 2) (zx (p 60 10) (cut (p 60 16) (v 60 15 "w") 7 0) (k 60 23 32)) (sx (p 60 29) (cut (p 60 35) (v 60 34 "w") 7 0) (k 60 42 32))))

abbrev pub mask_body : Term
mask_body = mux (p 62 8) (cut (p 62 4) (v 62 3 "f") 1 1) (lit (p 62 10) 32 4294967295) (bin (p 62 62) Shl (mux (p 62 31) (cut (p 62 27) (v 62 26 "f") 0 0) (lit (p 62 33) 32 65535) (lit (p 62 48) 32 255)) (cat (p 62 65) (more (v 62 66 "o") (more (lit (p 62 69) 3 0) none))))

abbrev pub merged_body : Term
merged_body = bin (p 63 45) Or (bin (p 63 39) And (v 63 37 "w") (inv (p 63 41) (v 63 42 "k"))) (bin (p 63 50) And (v 63 48 "d") (v 63 52 "k"))

abbrev pub follow_body : Term
follow_body = mux (p 67 60) (bin (p 67 40) Eq (cut (p 67 32) (v 67 31 "t") 32 16) (cat (p 67 43) (more (lit (p 67 44) 1 1) (more (cut (p 67 52) (v 67 50 "pc") 17 2) none)))) (cat (p 67 62) (more (cut (p 67 65) (v 67 63 "pc") 31 18) (more (cut (p 67 75) (v 67 74 "t") 15 0) (more (lit (p 67 83) 2 0) none)))) (bin (p 67 94) Add (v 67 91 "pc") (lit (p 67 96) 32 4))

abbrev pub pick_body : Term
pick_body = mux (p 69 8) (cut (p 69 4) (v 69 3 "n") 2 2) (mux (p 69 16) (cut (p 69 12) (v 69 11 "n") 1 1) (mux (p 69 24) (cut (p 69 20) (v 69 19 "n") 0 0) (v 69 26 "h") (v 69 30 "g")) (mux (p 69 40) (cut (p 69 36) (v 69 35 "n") 0 0) (v 69 42 "f") (v 69 46 "e"))) (mux (p 69 56) (cut (p 69 52) (v 69 51 "n") 1 1) (mux (p 69 64) (cut (p 69 60) (v 69 59 "n") 0 0) (v 69 66 "d") (v 69 70 "c")) (mux (p 69 80) (cut (p 69 76) (v 69 75 "n") 0 0) (v 69 82 "b") (v 69 86 "a")))

abbrev pub note_body : Term
note_body = mux (p 71 18) (inv (p 71 3) (bin (p 71 12) Eq (cut (p 71 6) (v 71 5 "p") 4 2) (v 71 15 "n"))) (v 71 20 "t") (mux (p 71 26) (v 71 24 "j") (cat (p 71 28) (more (lit (p 71 29) 1 1) (more (cut (p 71 36) (v 71 35 "p") 17 2) (more (cut (p 71 45) (v 71 44 "q") 17 2) none)))) (mux (p 71 57) (v 71 55 "k") (lit (p 71 59) 33 0) (v 71 67 "t")))

abbrev pub parts : List Part
parts =
    register (n 15 6 "PC") (k 15 11 32) (lit_of (p 15 16) 32 1048576)
    ∷ file (n 16 6 "IM") (k 16 11 32) (k 16 15 16)
    ∷ file (n 17 6 "X") (k 17 11 32) (k 17 15 5)
    ∷ file (n 18 6 "DM") (k 18 11 32) (k 18 15 16)
    ∷ hint (n 19 6 "H") (k 19 11 32) (lit_of (p 19 16) 32 1048576)
    ∷ hint (n 20 6 "T0") (k 20 11 33) (lit_of (p 20 16) 33 0)
    ∷ hint (n 20 29 "T1") (k 20 34 33) (lit_of (p 20 39) 33 0)
    ∷ hint (n 20 52 "T2") (k 20 57 33) (lit_of (p 20 62) 33 0)
    ∷ hint (n 20 75 "T3") (k 20 80 33) (lit_of (p 20 85) 33 0)
    ∷ hint (n 21 6 "T4") (k 21 11 33) (lit_of (p 21 16) 33 0)
    ∷ hint (n 21 29 "T5") (k 21 34 33) (lit_of (p 21 39) 33 0)
    ∷ hint (n 21 52 "T6") (k 21 57 33) (lit_of (p 21 62) 33 0)
    ∷ hint (n 21 75 "T7") (k 21 80 33) (lit_of (p 21 85) 33 0)
    ∷ pipe (n 23 6 "P") (k 23 11 32)
    ∷ pipe (n 24 6 "IR") (k 24 11 32)
    ∷ pipe (n 25 6 "OA") (k 25 11 32)
    ∷ pipe (n 25 21 "OB") (k 25 26 32)
    ∷ pipe (n 25 36 "FN") (k 25 41 4)
    ∷ pipe (n 26 6 "T") (k 26 11 32)
    ∷ pipe (n 26 21 "BR") (k 26 26 1)
    ∷ pipe (n 26 35 "JP") (k 26 40 1)
    ∷ pipe (n 27 6 "F3") (k 27 11 3)
    ∷ pipe (n 27 21 "SD") (k 27 26 32)
    ∷ pipe (n 27 36 "LD") (k 27 41 1)
    ∷ pipe (n 27 49 "ST") (k 27 54 1)
    ∷ pipe (n 28 6 "RD") (k 28 11 5)
    ∷ pipe (n 28 21 "GW") (k 28 26 1)
    ∷ pipe (n 29 6 "MA") (k 29 11 16)
    ∷ pipe (n 29 21 "BO") (k 29 26 2)
    ∷ result (n 31 8 "NPC") (k 31 14 32) (n 31 20 "PC") None None (k 31 26 2)
    ∷ result (n 32 8 "G") (k 32 14 32) (n 32 20 "X") (Some (n 32 22 "RD")) (Some (n 32 31 "GW")) (k 32 37 4)
    ∷ result (n 33 8 "M") (k 33 14 32) (n 33 20 "DM") (Some (n 33 23 "MA")) (Some (n 33 32 "ST")) (k 33 38 3)
    ∷ func (n 36 4 "immi") ((n 36 9 "i", k 36 11 32) ∷ []) (k 36 17 32) immi_body
    ∷ func (n 37 4 "imms") ((n 37 9 "i", k 37 11 32) ∷ []) (k 37 17 32) imms_body
    ∷ func (n 38 4 "immb") ((n 38 9 "i", k 38 11 32) ∷ []) (k 38 17 32) immb_body
    ∷ func (n 39 4 "immu") ((n 39 9 "i", k 39 11 32) ∷ []) (k 39 17 32) immu_body
    ∷ func (n 40 4 "immj") ((n 40 9 "i", k 40 11 32) ∷ []) (k 40 17 32) immj_body
    ∷ func (n 43 4 "less") ((n 43 9 "a", k 43 11 32) ∷ (n 43 15 "b", k 43 17 32) ∷ []) (k 43 23 1) less_body
    ∷ func (n 44 4 "shr") ((n 44 8 "a", k 44 10 32) ∷ (n 44 14 "f", k 44 16 32) ∷ (n 44 20 "n", k 44 22 5) ∷ []) (k 44 27 32) shr_body
    ∷ func (n 45 4 "alu") ((n 45 8 "f", k 45 10 4) ∷ (n 45 13 "a", k 45 15 32) ∷ (n 45 19 "b", k 45 21 32) ∷ []) (k 45 27 32) alu_body
    ∷ func (n 53 4 "holds") ((n 53 10 "f", k 53 12 3) ∷ (n 53 15 "a", k 53 17 32) ∷ (n 53 21 "b", k 53 23 32) ∷ []) (k 53 29 1) holds_body
    ∷ func (n 57 4 "loaded") ((n 57 11 "f", k 57 13 3) ∷ (n 57 16 "w", k 57 18 32) ∷ []) (k 57 24 32) loaded_body
    ∷ func (n 61 4 "mask") ((n 61 9 "f", k 61 11 3) ∷ (n 61 14 "o", k 61 16 2) ∷ []) (k 61 21 32) mask_body
    ∷ func (n 63 4 "merged") ((n 63 11 "k", k 63 13 32) ∷ (n 63 17 "w", k 63 19 32) ∷ (n 63 23 "d", k 63 25 32) ∷ []) (k 63 31 32) merged_body
    ∷ func (n 67 4 "follow") ((n 67 11 "t", k 67 13 33) ∷ (n 67 17 "pc", k 67 20 32) ∷ []) (k 67 26 32) follow_body
    ∷ func (n 68 4 "pick") ((n 68 9 "n", k 68 11 3) ∷ (n 68 14 "a", k 68 16 33) ∷ (n 68 20 "b", k 68 22 33) ∷ (n 68 26 "c", k 68 28 33) ∷ (n 68 32 "d", k 68 34 33) ∷ (n 68 38 "e", k 68 40 33) ∷ (n 68 44 "f", k 68 46 33) ∷ (n 68 50 "g", k 68 52 33) ∷ (n 68 56 "h", k 68 58 33) ∷ []) (k 68 64 33) pick_body
    ∷ func (n 70 4 "note") ((n 70 9 "t", k 70 11 33) ∷ (n 70 15 "n", k 70 17 3) ∷ (n 70 20 "j", k 70 22 1) ∷ (n 70 25 "k", k 70 27 1) ∷ (n 70 30 "p", k 70 32 32) ∷ (n 70 36 "q", k 70 38 32) ∷ []) (k 70 44 33) note_body
    ∷ []

abbrev pub stage0 : List Act
stage0 =
    read (p 74 3) (n 74 8 "pc") (n 74 13 "PC") None None (Some (v 74 22 "H"))
    ∷ read (p 75 3) (n 75 8 "i") (n 75 12 "IM") (Some (cut (p 75 17) (v 75 15 "pc") 17 2)) None None
    ∷ put (p 76 3) (n 76 7 "P") (v 76 11 "pc")
    ∷ put (p 77 3) (n 77 7 "IR") (v 77 12 "i")
    ∷ aim (p 78 3) (n 78 7 "H") (app (p 78 11) (codes "follow") (more (app (p 78 18) (codes "pick") (more (cut (p 78 25) (v 78 23 "pc") 4 2) (more (v 78 32 "T0") (more (v 78 36 "T1") (more (v 78 40 "T2") (more (v 78 44 "T3") (more (v 78 48 "T4") (more (v 78 52 "T5") (more (v 78 56 "T6") (more (v 78 60 "T7") none)))))))))) (more (v 78 65 "pc") none)))
    ∷ []

abbrev pub stage1 : List Act
stage1 =
    bind (p 81 3) (n 81 7 "op") (cut (p 81 14) (v 81 12 "IR") 6 0)
    ∷ bind (p 82 3) (n 82 7 "load") (bin (p 82 17) Eq (v 82 14 "op") (lit (p 82 20) 7 3))
    ∷ bind (p 83 3) (n 83 7 "store") (bin (p 83 18) Eq (v 83 15 "op") (lit (p 83 21) 7 35))
    ∷ bind (p 84 3) (n 84 7 "opimm") (bin (p 84 18) Eq (v 84 15 "op") (lit (p 84 21) 7 19))
    ∷ bind (p 85 3) (n 85 7 "opreg") (bin (p 85 18) Eq (v 85 15 "op") (lit (p 85 21) 7 51))
    ∷ bind (p 86 3) (n 86 7 "lui") (bin (p 86 16) Eq (v 86 13 "op") (lit (p 86 19) 7 55))
    ∷ bind (p 87 3) (n 87 7 "auipc") (bin (p 87 18) Eq (v 87 15 "op") (lit (p 87 21) 7 23))
    ∷ bind (p 88 3) (n 88 7 "branch") (bin (p 88 19) Eq (v 88 16 "op") (lit (p 88 22) 7 99))
    ∷ bind (p 89 3) (n 89 7 "jal") (bin (p 89 16) Eq (v 89 13 "op") (lit (p 89 19) 7 111))
    ∷ bind (p 90 3) (n 90 7 "jalr") (bin (p 90 17) Eq (v 90 14 "op") (lit (p 90 20) 7 103))
    ∷ bind (p 91 3) (n 91 7 "stop") (bin (p 91 17) Eq (v 91 14 "op") (lit (p 91 20) 7 115))
    ∷ bind (p 92 3) (n 92 7 "f3") (cut (p 92 14) (v 92 12 "IR") 14 12)
    ∷ read (p 93 3) (n 93 8 "xa") (n 93 13 "X") (Some (cut (p 93 17) (v 93 15 "IR") 19 15)) (Some (bin (p 93 69) Or (bin (p 93 60) Or (bin (p 93 52) Or (bin (p 93 44) Or (bin (p 93 36) Or (v 93 31 "load") (v 93 38 "store")) (v 93 46 "opimm")) (v 93 54 "opreg")) (v 93 62 "branch")) (v 93 71 "jalr"))) None
    ∷ bind (p 94 3) (n 94 7 "a") (mux (p 94 29) (bin (p 94 21) Eq (cut (p 94 13) (v 94 11 "IR") 19 15) (lit (p 94 24) 5 0)) (lit (p 94 31) 32 0) (v 94 39 "xa"))
    ∷ read (p 95 3) (n 95 8 "xb") (n 95 13 "X") (Some (cut (p 95 17) (v 95 15 "IR") 24 20)) (Some (bin (p 95 45) Or (bin (p 95 37) Or (v 95 31 "store") (v 95 39 "opreg")) (v 95 47 "branch"))) None
    ∷ bind (p 96 3) (n 96 7 "b") (mux (p 96 29) (bin (p 96 21) Eq (cut (p 96 13) (v 96 11 "IR") 24 20) (lit (p 96 24) 5 0)) (lit (p 96 31) 32 0) (v 96 39 "xb"))
    ∷ put (p 97 3) (n 97 7 "OA") (mux (p 97 31) (bin (p 97 24) Or (bin (p 97 18) Or (v 97 12 "auipc") (v 97 20 "jal")) (v 97 26 "jalr")) (v 97 33 "P") (v 97 37 "a"))
    ∷ put (p 98 3) (n 98 7 "OB") (mux (p 98 27) (bin (p 98 18) Or (v 98 12 "opreg") (v 98 20 "branch")) (v 98 29 "b") (mux (p 98 45) (bin (p 98 37) Or (v 98 33 "lui") (v 98 39 "auipc")) (app (p 98 47) (codes "immu") (more (v 98 52 "IR") none)) (mux (p 99 16) (bin (p 99 9) Or (v 99 5 "jal") (v 99 11 "jalr")) (lit (p 99 18) 32 4) (mux (p 99 32) (v 99 26 "store") (app (p 99 34) (codes "imms") (more (v 99 39 "IR") none)) (app (p 99 45) (codes "immi") (more (v 99 50 "IR") none))))))
    ∷ put (p 100 3) (n 100 7 "FN") (mux (p 100 26) (bin (p 100 18) Or (v 100 12 "opreg") (v 100 20 "opimm")) (cat (p 100 28) (more (bin (p 100 36) And (cut (p 100 31) (v 100 29 "IR") 30 30) (bin (p 100 45) Or (v 100 39 "opreg") (bin (p 100 51) Eq (v 100 48 "f3") (lit (p 100 54) 3 5)))) (more (v 100 62 "f3") none))) (lit (p 100 68) 4 0))
    ∷ put (p 101 3) (n 101 7 "T") (bin (p 102 47) And (bin (p 101 26) Add (mux (p 101 17) (v 101 12 "jalr") (v 101 19 "a") (v 101 23 "P")) (mux (p 101 33) (v 101 29 "jal") (app (p 101 35) (codes "immj") (more (v 101 40 "IR") none)) (mux (p 101 51) (v 101 46 "jalr") (app (p 101 53) (codes "immi") (more (v 101 58 "IR") none)) (mux (p 102 12) (v 102 5 "branch") (app (p 102 14) (codes "immb") (more (v 102 19 "IR") none)) (mux (p 102 30) (v 102 25 "stop") (lit (p 102 32) 32 0) (lit (p 102 40) 32 4)))))) (lit (p 102 49) 32 4294967294))
    ∷ put (p 103 3) (n 103 7 "BR") (v 103 12 "branch")
    ∷ put (p 104 3) (n 104 7 "JP") (bin (p 104 32) Or (bin (p 104 25) Or (bin (p 104 19) Or (v 104 12 "branch") (v 104 21 "jal")) (v 104 27 "jalr")) (v 104 34 "stop"))
    ∷ put (p 105 3) (n 105 7 "F3") (v 105 12 "f3")
    ∷ put (p 106 3) (n 106 7 "SD") (v 106 12 "b")
    ∷ put (p 107 3) (n 107 7 "LD") (v 107 12 "load")
    ∷ put (p 108 3) (n 108 7 "ST") (v 108 12 "store")
    ∷ put (p 109 3) (n 109 7 "RD") (cut (p 109 14) (v 109 12 "IR") 11 7)
    ∷ put (p 110 3) (n 110 7 "GW") (bin (p 110 62) And (bin (p 110 54) Or (bin (p 110 48) Or (bin (p 110 40) Or (bin (p 110 34) Or (bin (p 110 26) Or (bin (p 110 18) Or (v 110 13 "load") (v 110 20 "opimm")) (v 110 28 "opreg")) (v 110 36 "lui")) (v 110 42 "auipc")) (v 110 50 "jal")) (v 110 56 "jalr")) (inv (p 110 64) (bin (p 110 75) Eq (cut (p 110 68) (v 110 66 "IR") 11 7) (lit (p 110 78) 5 0))))
    ∷ []

abbrev pub stage2 : List Act
stage2 =
    bind (p 113 3) (n 113 7 "r") (app (p 113 11) (codes "alu") (more (v 113 15 "FN") (more (v 113 19 "OA") (more (v 113 23 "OB") none))))
    ∷ set (p 114 3) (n 114 7 "G") (v 114 11 "r") (Some (inv (p 114 18) (v 114 19 "LD")))
    ∷ put (p 115 3) (n 115 7 "MA") (cut (p 115 13) (v 115 12 "r") 17 2)
    ∷ put (p 116 3) (n 116 7 "BO") (cut (p 116 13) (v 116 12 "r") 1 0)
    ∷ bind (p 117 3) (n 117 7 "skipped") (bin (p 117 20) And (v 117 17 "BR") (inv (p 117 22) (app (p 117 23) (codes "holds") (more (v 117 29 "F3") (more (v 117 33 "OA") (more (v 117 37 "OB") none))))))
    ∷ set (p 118 3) (n 118 7 "NPC") (mux (p 118 21) (v 118 13 "skipped") (bin (p 118 25) Add (v 118 23 "P") (lit (p 118 27) 32 4)) (v 118 35 "T")) None
    ∷ bind (p 119 3) (n 119 7 "taken") (bin (p 119 18) And (v 119 15 "JP") (inv (p 119 20) (v 119 21 "skipped")))
    ∷ aim (p 120 3) (n 120 7 "T0") (app (p 120 12) (codes "note") (more (v 120 17 "T0") (more (lit (p 120 21) 3 0) (more (v 120 27 "taken") (more (v 120 34 "JP") (more (v 120 38 "P") (more (v 120 41 "T") none)))))))
    ∷ aim (p 121 3) (n 121 7 "T1") (app (p 121 12) (codes "note") (more (v 121 17 "T1") (more (lit (p 121 21) 3 1) (more (v 121 27 "taken") (more (v 121 34 "JP") (more (v 121 38 "P") (more (v 121 41 "T") none)))))))
    ∷ aim (p 122 3) (n 122 7 "T2") (app (p 122 12) (codes "note") (more (v 122 17 "T2") (more (lit (p 122 21) 3 2) (more (v 122 27 "taken") (more (v 122 34 "JP") (more (v 122 38 "P") (more (v 122 41 "T") none)))))))
    ∷ aim (p 123 3) (n 123 7 "T3") (app (p 123 12) (codes "note") (more (v 123 17 "T3") (more (lit (p 123 21) 3 3) (more (v 123 27 "taken") (more (v 123 34 "JP") (more (v 123 38 "P") (more (v 123 41 "T") none)))))))
    ∷ aim (p 124 3) (n 124 7 "T4") (app (p 124 12) (codes "note") (more (v 124 17 "T4") (more (lit (p 124 21) 3 4) (more (v 124 27 "taken") (more (v 124 34 "JP") (more (v 124 38 "P") (more (v 124 41 "T") none)))))))
    ∷ aim (p 125 3) (n 125 7 "T5") (app (p 125 12) (codes "note") (more (v 125 17 "T5") (more (lit (p 125 21) 3 5) (more (v 125 27 "taken") (more (v 125 34 "JP") (more (v 125 38 "P") (more (v 125 41 "T") none)))))))
    ∷ aim (p 126 3) (n 126 7 "T6") (app (p 126 12) (codes "note") (more (v 126 17 "T6") (more (lit (p 126 21) 3 6) (more (v 126 27 "taken") (more (v 126 34 "JP") (more (v 126 38 "P") (more (v 126 41 "T") none)))))))
    ∷ aim (p 127 3) (n 127 7 "T7") (app (p 127 12) (codes "note") (more (v 127 17 "T7") (more (lit (p 127 21) 3 7) (more (v 127 27 "taken") (more (v 127 34 "JP") (more (v 127 38 "P") (more (v 127 41 "T") none)))))))
    ∷ []

abbrev pub stage3 : List Act
stage3 =
    read (p 130 3) (n 130 8 "m") (n 130 12 "DM") (Some (v 130 15 "MA")) None None
    ∷ set (p 131 3) (n 131 7 "G") (app (p 131 11) (codes "loaded") (more (v 131 18 "F3") (more (bin (p 131 24) Shr (v 131 22 "m") (cat (p 131 27) (more (v 131 28 "BO") (more (lit (p 131 32) 3 0) none)))) none))) None
    ∷ set (p 132 3) (n 132 7 "M") (app (p 132 11) (codes "merged") (more (app (p 132 18) (codes "mask") (more (v 132 23 "F3") (more (v 132 27 "BO") none))) (more (v 132 32 "m") (more (bin (p 132 38) Shl (v 132 35 "SD") (cat (p 132 41) (more (v 132 42 "BO") (more (lit (p 132 46) 3 0) none)))) none)))) None
    ∷ []

abbrev pub stage4 : List Act
stage4 =
    []

abbrev pub blocks : List (Num × List Act)
blocks = (k 73 7 0, stage0) ∷ (k 80 7 1, stage1) ∷ (k 112 7 2, stage2) ∷ (k 129 7 3, stage3) ∷ (k 134 7 4, stage4) ∷ []

-- with this image
abbrev pub rv32ib : Option (List Image) → Job
rv32ib image = job_of (n 13 9 "rv32ib") (k 14 8 5) parts blocks image
