use Rattle.std.proofs.Common.{◌≡◌, ◌∙◌, ◌<◌, ℕ, List, [], ◌∷◌, ◌++◌, All, map, ap, arith, refl, subst, sym}
use Rattle.std.proofs.lemmas.{List.get_or-replicate, List.Elements.All-cons, List.Elements.All-nil}
use Rattle.kp_run.proofs.Machines.{stages_fit}
use Rattle.kp_diagram_text.specs.{Losses.loss_shown, Windows.placed_seen, declared.window.Placed.Placed}
use Rattle.kp_diagram_text.specs.declared.account.Loss.TheVariants as losses
use Rattle.kp_diagram_run.specs.inner.Walks.{no_placed}
use Rattle.kp_diagram_run.proofs.window.begin.Goals as goal

pub returns : goal.returns
returns c = λ ext.
    let s = c.args.job.now.design.job.stages.value in
    let fit = stages_fit c.args.job.now.design.job c.job-kept.ensures.sound.stages in
    let items : c.push.new.self.items ≡ no_placed ∷ [] = c.in_ok-push.ensures.items ∙ ap (λ (ps : List Placed). ps ++ no_placed ∷ []) c.new-flight.ensures.items in
    record {
      seen = c.monitor_of.ensures.seen;
      stages = c.monitor_of.ensures.stages;
      flight = ap (map placed_seen) items;
      within = subst (All (λ (p : Placed). p.stage < s)) (sym items) (All-cons (λ (p : Placed). p.stage < s) no_placed [] (omega (arith, fit.0)) (All-nil (λ (p : Placed). p.stage < s)));
      losses = λ k b. ap loss_shown (get_or-replicate 12 k losses.Filling losses.Filling (omega (arith, b, fit.1)));
      twelve = refl;
    }
