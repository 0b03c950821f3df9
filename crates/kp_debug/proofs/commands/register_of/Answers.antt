use Rattle.std.proofs.Common.{◌≡◌, ◌<◌, ◌∙◌, List, length, get_or, ap, sym, subst}
use Rattle.kp_ast.specs.declared.tree.{Decl.Decl, Job.Job}
use Rattle.kp_machine.specs.{Slots.targets_of, Words.no_slot}
use Rattle.kp_implements.specs.Naming.{place_among, register_name, register_names}
use Rattle.kp_debug.proofs.commands.register_of.Goals as goal

pub register_at-requires : goal.register_at-requires
register_at-requires c =
    let are : c.as_slice.result.now ≡ c.args.job.now.design.job.decls = c.as_slice.ensures ∙ ap (λ (j : Job). j.decls) c.job.ensures.job in
    subst (λ (ds : List Decl). c.args.target < length (targets_of ds)) (sym are) c.requires.there

pub returns : goal.returns
returns c =
    let are : c.as_slice.result.now ≡ c.args.job.now.design.job.decls = c.as_slice.ensures ∙ ap (λ (j : Job). j.decls) c.job.ensures.job in
    record {
      there = c.requires.there;
      kind = c.requires.kind;
      is =
          c.register_at.ensures
          ∙ ap (λ (ds : List Decl). place_among (register_names c.args.net.now) (register_name (get_or (targets_of ds) c.args.target no_slot))) are;
    }
