-- The section of a description that fills the file IM with words.
use Rattle.std.specs.Prelude.{ℕ, ◌+◌, List, [], ◌∷◌, ◌++◌, codes, decimal}
use Rattle.kp_bits.specs.{Word.Word, Word.word, Spelling.spelling}

-- `  IM[0] = 32'h20010003;`
unfoldable pub image_line : ℕ → Word → List ℕ
image_line i value = codes "  IM[" ++ decimal i ++ codes "] = " ++ spelling value ++ codes ";\n"

-- a line for each word, the first of which has this number
abbrev pub lines_from : ℕ → List ℕ → List ℕ
lines_from i [] = []
lines_from i (w ∷ words) = image_line i (word 32 w) ++ lines_from (i + 1) words

-- `image {`, a line for each word, and `}`
abbrev pub image_text_of : List ℕ → List ℕ
image_text_of words = codes "image {\n" ++ lines_from 0 words ++ codes "}\n"
