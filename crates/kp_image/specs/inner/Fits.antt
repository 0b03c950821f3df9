-- Properties of declarations and entries that violate no rule: every number in the start state fits its destination.
use Rattle.std.specs.{Prelude.◌≡◌, Prelude.ℕ, Prelude.◌+◌, Prelude.◌^◌, Prelude.◌≤◌, Prelude.List, Prelude.length, Prelude.true, List.All}
use Rattle.kp_bits.specs.Word.{IsWord, word}
use Rattle.kp_ast.specs.{Expressions.is_same_name, declared.tree.Decl.Decl, declared.tree.Image.Image}
use Rattle.kp_ast.specs.declared.tree.Decl.TheVariants as decls
use Rattle.kp_stage.specs.Start.{first_address, laid_over}

-- an entry for this name ends within this many words
abbrev pub EndsWithin : List ℕ → ℕ → Image → Type 0
EndsWithin name words e = is_same_name e.name.name name ≡ true → first_address e + length e.values ≤ words

-- a register starts with a word of its width, and each entry for a file ends within its words
abbrev pub StartFits : List Image → Decl → Type 0
StartFits es (decls.Reg n width start) = IsWord (word width.value (laid_over es n.name 0 start.literal.value))
StartFits es (decls.File n width address) = (address.value ≤ 16) × All (EndsWithin n.name (2 ^ address.value)) es
StartFits es _ = Unit {0}
