-- A description with any sections: its text up to the first section, and then what may follow.
use Rattle.std.specs.Prelude.{ℕ, ◌≡◌, ◌∷◌, [], List, ◌++◌, Option, Some, None, codes}
use Rattle.kp_grammar.specs.Grammar.{Nonterminal, Action}
use Rattle.kp_ast.specs.declared.tree.{Image.Image, Stalls.Stalls, Inputs.Inputs, Job.Job}
use Rattle.kp_parse_grammar.specs.Language.{Value, at, named, number, decls, blocks, perhaps_images, perhaps_stalls, perhaps_inputs, word, mark, no_images, image_section, no_stalls, stall_section, make_job, WORDS, SPANS, STALLS, INPUTS}
use Rattle.kp_lex.specs.declared.token.Keyword.TheVariants as keywords
use Rattle.kp_lex.specs.declared.token.Mark.TheVariants as marks
use Rattle.kp_described.specs.Computed.{Reading, front_reading}

-- the texts that begin with this head, and go on with a section or with `end`
pub data IsWith (head : List ℕ) : List ℕ → Type 0 where
  with_image : (rest : List ℕ) → IsWith head (head ++ codes "image {" ++ rest)
  with_stalls : (rest : List ℕ) → IsWith head (head ++ codes "stalls {" ++ rest)
  with_end : (rest : List ℕ) → IsWith head (head ++ codes "end\n" ++ rest)

-- the job with these sections
abbrev pub with_sections : Job → Option (List Image) → Option (List Stalls) → Option (List Inputs) → Job
with_sections job image stalls inputs = record { name = job.name; stages = job.stages; decls = job.decls; blocks = job.blocks; image = image; stalls = stalls; inputs = inputs }

-- the job but for its sections
abbrev pub HasSections : Job → Job → Type 0
HasSections job j = (image : Option (List Image)) × (stalls : Option (List Stalls)) × (inputs : Option (List Inputs)) × (j ≡ with_sections job image stalls inputs)

-- what is built of a job before its sections
abbrev pub parts_of : Job → List Value
parts_of job = blocks job.blocks ∷ decls job.decls ∷ number job.stages ∷ named job.name ∷ []

-- the readings after the word of a section, and after `end`
abbrev pub at_image : Job → Reading
at_image job = record {
  symbols = mark marks.OpenBrace ∷ Action no_images ∷ Nonterminal WORDS ∷ mark marks.CloseBrace ∷ Action image_section ∷ Nonterminal STALLS ∷ Nonterminal INPUTS ∷ word keywords.End ∷ Action make_job ∷ [];
  state = at [] (parts_of job);
}

abbrev pub at_stalls : Job → Reading
at_stalls job = record {
  symbols = mark marks.OpenBrace ∷ Action no_stalls ∷ Nonterminal SPANS ∷ mark marks.CloseBrace ∷ Action stall_section ∷ Nonterminal INPUTS ∷ word keywords.End ∷ Action make_job ∷ [];
  state = at [] (perhaps_images None ∷ parts_of job);
}

abbrev pub at_end : Job → Reading
at_end job = record {
  symbols = Action make_job ∷ [];
  state = at [] (perhaps_inputs None ∷ perhaps_stalls None ∷ perhaps_images None ∷ parts_of job);
}

-- The head is that of this job: so it is read, whatever follows.
pub record IsHead (head : List ℕ) (job : Job) : Type 0 where
  pub image : (rest : List ℕ) → front_reading (head ++ codes "image {" ++ rest) ≡ Some (at_image job)
  pub stalls : (rest : List ℕ) → front_reading (head ++ codes "stalls {" ++ rest) ≡ Some (at_stalls job)
  pub ends : (rest : List ℕ) → front_reading (head ++ codes "end\n" ++ rest) ≡ Some (at_end job)
