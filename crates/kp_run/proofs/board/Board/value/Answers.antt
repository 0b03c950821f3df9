use Rattle.std.proofs.Common.{◌≡◌, ◌<◌, ◌∙◌, [], List, get_or, length, ap, sym, subst, arith}
use Rattle.std.proofs.lemmas.List.{get_or_default}
use Rattle.kp_bits.specs.Word.{Word, word}
use Rattle.kp_machine.specs.{Slots.targets_of, Words.no_slot}
use Rattle.kp_seq.specs.Running.{Running, state}
use Rattle.kp_run.{specs.Boards.due_behind, specs.Homes.home_of, proofs.Boards.home_at, proofs.Boards.machine_shows}
use Rattle.kp_run.proofs.board.Board.value.Goals as goal

pub index-requires : goal.index-requires
index-requires c =
    let there = (c.args.self.now.are c.in-Some.finals c.in-Some.is).there c.args.t c.requires.target in
    omega (arith, there, c.in-Some.finals.ok)

pub at-requires : goal.at-requires
at-requires c =
    let t = c.args.t in
    let finals = c.in-Some.finals.items in
    let are = c.args.self.now.are c.in-Some.finals c.in-Some.is in
    let same : c.index.result.now ≡ get_or finals t [] = c.index.ensures ∙ get_or_default finals t c.index.result.now [] (are.there t c.requires.target) in
    subst (λ (w : List Word). c.args.address < length w) (sym same) ((are.words t c.requires.target).there c.args.address c.requires)

pub returns-in-Some : goal.returns-in-Some
returns-in-Some c =
    let t = c.args.t in
    let finals = c.in-Some.finals.items in
    let are = c.args.self.now.are c.in-Some.finals c.in-Some.is in
    let same : c.index.result.now ≡ get_or finals t [] = c.index.ensures ∙ get_or_default finals t c.index.result.now [] (are.there t c.requires.target) in
    c.at.ensures ∙ ap (λ (w : List Word). get_or w c.args.address (word 0 0)) same ∙ (are.words t c.requires.target).values c.args.address c.requires

pub returns-in-None : goal.returns-in-None
returns-in-None c =
    let board = c.args.self.now in
    let job = board.design.now.job in
    let rows = board.cycles.rows.items in
    let ms = board.lanes.machines.items in
    let homes = board.lanes.homes.items in
    let is = board.is c.in-None.is in
    let m = c.index-in-None.result.now in
    let t = c.args.t in
    let a = c.args.address in
    let at : c.from.result ≡ home_of job t = c.from.ensures ∙ c.index-home.ensures ∙ home_at job rows ms homes is t _ c.requires.target in
    let there : c.from.result < length ms = omega (arith, at, is.count t) in
    let alike : targets_of m.job.decls ≡ targets_of job.decls = ap (λ (x : Running). targets_of x.job.decls) c.index-in-None.ensures ∙ is.jobs c.from.result m there in
    let shows : state m t a ≡ due_behind job rows t a = ap (λ (x : Running). state x t a) c.index-in-None.ensures ∙ machine_shows job rows ms homes is c.from.result t a m at in
    c.value.ensures ∙ (λ i. word (get_or (alike i) t no_slot).width (shows i))
