-- The files of a job whose widths are right have at most 65,536 words.
use Rattle.std.proofs.Common.{◌≡◌, ◌≤◌, List, None, refl}
use Rattle.std.proofs.lemmas.List.Elements.{All-weaker}
use Rattle.std.specs.List.{All}
use Rattle.kp_base.specs.{First.first, Check.ok, Check.◌>>=◌}
use Rattle.kp_ast.specs.declared.tree.{Decl.Decl, Job.Job}
use Rattle.kp_ast.specs.declared.tree.Decl.TheVariants as decls
use Rattle.kp_width.specs.{Names.nothing, Declarations.declarations_of, Statements.blocks_of, Widths.widths_of}
use Rattle.kp_width.proofs.Unbroken.{bind_unbroken}
use Rattle.kp_image.proofs.Declared.{IsSettled, settled}

abbrev pub HasFewWords : Decl → Type 0
HasFewWords (decls.File n width address) = address.value ≤ 16
HasFewWords _ = Unit {0}

few_one : (ds : List Decl) (d : Decl) → IsSettled ds d → HasFewWords d
few_one ds (decls.File n width address) d = d.right.2
few_one ds x d = tt

pub few_words : (job : Job) → first (widths_of job).asked ≡ None → All HasFewWords job.decls
few_words job e =
    All-weaker (IsSettled job.decls) HasFewWords (few_one job.decls) job.decls
    (settled job.decls 0 0 nothing refl
    (bind_unbroken (declarations_of job.decls 0 0 nothing job.decls) (λ s. blocks_of job.decls 0 s job.blocks >>= (λ t. ok t.entries)) e).0)
