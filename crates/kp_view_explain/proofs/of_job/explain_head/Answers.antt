use Rattle.std.proofs.Common.{subst}
use Rattle.std.specs.declared.option.Option.{Option}
use Rattle.kp_frontend.specs.Judging.{broken_in}
use Rattle.kp_view_explain.specs.{inner.Found.IsOfTree, inner.Reading.IsReadAs, declared.explanation.Explanation.Explanation, declared.reading.Reading.Reading}
use Rattle.kp_view_explain.proofs.{Places.begins, Said.broken_head, Said.unread_head}
use Rattle.kp_view_explain.proofs.of_job.explain_head.Goals as goal

pub returns-in-Refused-clause-begins : goal.returns-in-Refused-clause-begins
returns-in-Refused-clause-begins c =
    let file = c.args.file.now in
    let text = c.args.text.now in
    let unread = subst (λ (r : Reading). IsReadAs file text r) c.in-Refused.is c.in_ok-said.ensures in
    begins (unread_head file text c.in-Refused.said c.args.refusal c.requires.short c.requires.judged unread).0.1

pub returns-in-Refused-clause-next : goal.returns-in-Refused-clause-next
returns-in-Refused-clause-next c =
    let file = c.args.file.now in
    let text = c.args.text.now in
    let unread = subst (λ (r : Reading). IsReadAs file text r) c.in-Refused.is c.in_ok-said.ensures in
    (unread_head file text c.in-Refused.said c.args.refusal c.requires.short c.requires.judged unread).1

pub returns-in-Some-clause-begins : goal.returns-in-Some-clause-begins
returns-in-Some-clause-begins c =
    let file = c.args.file.now in
    let text = c.args.text.now in
    let read = c.in-Tree.parsed in
    let is = subst (λ (r : Reading). IsReadAs file text r) c.in-Tree.is c.in_ok-said.ensures in
    let broken = subst (λ (o : Option Explanation). IsOfTree file text (broken_in read.job) o) c.in-Some.is c.in_ok-said-in-Tree.ensures in
    begins (broken_head file text c.in-Some.said c.args.refusal c.requires.short c.requires.judged read is broken).0.1

pub returns-in-Some-clause-next : goal.returns-in-Some-clause-next
returns-in-Some-clause-next c =
    let file = c.args.file.now in
    let text = c.args.text.now in
    let read = c.in-Tree.parsed in
    let is = subst (λ (r : Reading). IsReadAs file text r) c.in-Tree.is c.in_ok-said.ensures in
    let broken = subst (λ (o : Option Explanation). IsOfTree file text (broken_in read.job) o) c.in-Some.is c.in_ok-said-in-Tree.ensures in
    (broken_head file text c.in-Some.said c.args.refusal c.requires.short c.requires.judged read is broken).1
