-- An input violates one rule first, or none.
use Rattle.std.proofs.Common.{◌≡◌, ◌≤◌, ◌∙◌, ℕ, List, drop, length, Ok, Err, Option, Some, None, inl, inr, refl, ap, sym, subst, arith}
use Rattle.std.specs.declared.result.Result.{Result}
use Rattle.kp_base.specs.declared.refusal.Refusal.{Refusal}
use Rattle.kp_ast.specs.declared.tree.Job.{Job}
use Rattle.kp_net.specs.Netlist.{Net}
use Rattle.kp_vlog.{specs.Denote.Denotes, specs.Verdict.IsRefused, specs.Verdict.refusal_of, proofs.Unique.no_rule, proofs.Unique.one_net, proofs.Unique.one_rule}
use Rattle.kp_implements.specs.Shows.{IsOfJob}
use Rattle.kp_frontend.{specs.Judging.most_bytes, specs.Judging.Judges.within, specs.Judging.JudgesHead.head_within, proofs.Verdicts.one_verdict, proofs.Verdicts.one_head}
use Rattle.kp_view_explain.specs.Explaining.{Finds, FindsIn, FindsInModule, FindsInVerilog, FindsWatched, Says, in_script, rule_of, Finds.over, Finds.within as not_long}
use Rattle.kp_view_explain.specs.declared.words.Subject.{Subject}
use Rattle.kp_view_explain.specs.declared.words.Subject.TheVariants as subjects

module _ (text : List ℕ) (from : ℕ) where
  one_refusal : (a b : Refusal) → IsRefused text from a → IsRefused text from b → a ≡ b
  one_refusal a b (f, x, e) (g, y, d) = e ∙ ap (refusal_of text) (one_rule from (drop from text) f g x y) ∙ sym d

  no_both : {G : Type 0} (net : Net) (a : Refusal) → Denotes from (drop from text) net → IsRefused text from a → G
  no_both net a d (f, x, e) = absurd (no_rule from (drop from text) net f d x)

  in_verilog : (a b : Option Refusal) → FindsInVerilog text from a → FindsInVerilog text from b → a ≡ b
  in_verilog None None x y = refl
  in_verilog None (Some b) (net, d) y = no_both net b d y
  in_verilog (Some a) None x (net, d) = no_both net a d x
  in_verilog (Some a) (Some b) x y = ap Some (one_refusal a b x y)

  module _ (job : Job) where
    own_and_other : {G : Type 0} (net other : Net) → Denotes from (drop from text) net → IsOfJob net job → Denotes from (drop from text) other → (IsOfJob other job → ⊥) → G
    own_and_other net other d own c not_own =
        absurd (not_own (subst (λ (n : Net). IsOfJob n job) (one_net from (drop from text) net other d c) own))

    in_module : (a b : Option Refusal) → FindsInModule job text from a → FindsInModule job text from b → a ≡ b
    in_module None None x y = refl
    in_module None (Some b) (net, d, own) (inl y) = no_both net b d y
    in_module None (Some b) (net, d, own) (inr (other, c, not_own, e)) = own_and_other net other d own c not_own
    in_module (Some a) None (inl x) (net, d, own) = no_both net a d x
    in_module (Some a) None (inr (other, c, not_own, e)) (net, d, own) = own_and_other net other d own c not_own
    in_module (Some a) (Some b) (inl x) (inl y) = ap Some (one_refusal a b x y)
    in_module (Some a) (Some b) (inl x) (inr (other, c, not_own, e)) = no_both other a c x
    in_module (Some a) (Some b) (inr (other, c, not_own, e)) (inl y) = no_both other b c y
    in_module (Some a) (Some b) (inr (net, d, foreign, e)) (inr (other, c, not_own, f)) = ap Some (e ∙ sym f)

watched : (text : List ℕ) (v w : Result (Job × ℕ) Refusal) (a b : Option Refusal) → v ≡ w → FindsWatched text v a → FindsWatched text w b → a ≡ b
watched text v w a b same x y = of_one w (subst (λ (u : Result (Job × ℕ) Refusal). FindsWatched text u a) same x) y
  where
    of_one : (u : Result (Job × ℕ) Refusal) → FindsWatched text u a → FindsWatched text u b → a ≡ b
    of_one (Ok (job, from)) x y = in_module text from job a b x y
    of_one (Err refusal) x y = x ∙ sym y

one : (subject : Subject) (text : List ℕ) (a b : Option Refusal) → length text ≤ most_bytes → FindsIn subject text a → FindsIn subject text b → a ≡ b
one subjects.Job text a b few (v, j, e) (w, k, f) = e ∙ ap rule_of (one_verdict text v w (within few j) (within few k)) ∙ sym f
one subjects.Verilog text a b few x y = in_verilog text 0 a b x y
one subjects.Watched text a b few (v, j, x) (w, k, y) = watched text v w a b (one_head text v w (head_within few j) (head_within few k)) x y
one subjects.Program text a b few x y = x ∙ sym y
one subjects.Debugged text a b few (v, j, e) (w, k, f) = e ∙ ap (in_script text) (one_head text v w (head_within few j) (head_within few k)) ∙ sym f

-- so what is said for one finding is said for each
pub one_finding : (subject : Subject) (input : List ℕ) (a b : Option Refusal) → Finds subject input a → Finds subject input b → a ≡ b
one_finding subject input _ _ (over l) (over m) = refl
one_finding subject input _ _ (over l) (not_long few x) = absurd (omega (arith, l, few))
one_finding subject input _ _ (not_long few x) (over m) = absurd (omega (arith, few, m))
one_finding subject input _ _ (not_long few x) (not_long less y) = one subject input _ _ few x y
