-- Netlists of one job can be compared.
use Rattle.std.proofs.Common.{◌≡◌, ◌∙◌, ℕ, ◌<◌, [], length, get_or, sym, ap, arith}
use Rattle.kp_ast.specs.declared.tree.Job.{Job}
use Rattle.kp_machine.specs.{Slots.Slot, Words.target}
use Rattle.kp_net.specs.{Names.Differ, Names.IsNamed, Netlist.Net, Parts.no_file}
use Rattle.kp_implements.specs.{Naming.file_name as target_file_name, Naming.file_of, Shows.IsOfJob}
use Rattle.kp_equiv.{specs.Named.file_names, specs.Named.HasNames, specs.Verdicts.HasFiles, specs.Verdicts.IsComparable, proofs.NamedAlike.one_number}
use Rattle.kp_equiv.proofs.{Places.file_names_are, Places.file_count, Shown.placed_at}

has_files : (a b : Net) (job : Job) → Differ (file_names a) → IsOfJob a job → IsOfJob b job → HasFiles a.parts.files b.parts.files
has_files a b job d x y f l =
    let n = x.no_more_files f l in
    let s : Slot = target job n.0 in
    let hx = x.files n.0 n.1 n.2 in
    let hy = y.files n.0 n.1 n.2 in
    let p : ℕ = file_of a s in
    let q : ℕ = file_of b s in
    let lp : p < length (file_names a) = (let t = hx.there in omega (arith, t, file_count a)) in
    let lq : q < length (file_names b) = (let t = hy.there in omega (arith, t, file_count b)) in
    let np : get_or (file_names a) p [] ≡ target_file_name s = placed_at (file_names a) (target_file_name s) lp in
    let nq : get_or (file_names b) q [] ≡ target_file_name s = placed_at (file_names b) (target_file_name s) lq in
    let z : f ≡ p = one_number (file_names a) d f p (omega (arith, l, file_count a)) lp (n.3 ∙ sym np) in (
      q,
      hy.there,
      record {
        name = sym (file_names_are a f) ∙ n.3 ∙ sym nq ∙ file_names_are b q;
        width = ap (λ (k : ℕ). (get_or a.parts.files k no_file).width) z ∙ hx.width ∙ sym hy.width;
        address = ap (λ (k : ℕ). (get_or a.parts.files k no_file).address_width) z ∙ hx.address ∙ sym hy.address;
      },
    )

has_names : (net : Net) → IsNamed net → HasNames net
has_names net h = record { regs = h.regs_differ; files = h.files_differ; samples = h.samples_differ }

pub comparable : (a b : Net) (job : Job) → IsNamed a → IsNamed b → IsOfJob a job → IsOfJob b job → IsComparable a b
comparable a b job na nb x y = record {
  first = has_names a na;
  second = has_names b nb;
  there = has_files a b job na.files_differ x y;
  back = has_files b a job nb.files_differ y x;
}
