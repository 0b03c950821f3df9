use Rattle.std.proofs.Common.{◌≡◌, true, ◌∙◌, sym, ap, subst, inl, inr, map, true≢false, string_bytes, Option}
use Rattle.std.specs.Prelude.{Some, option_map}
use Rattle.clap.specs.{Kinds.IsAmong, Values.kind_of, Walk.is_empty, Simple.App, Simple.is_simple, Simple.subcommand_of, Faults.fault_of, Faults.is_simple_and_free}
use Rattle.kp_command_line.{specs.Words.Text, specs.Words.name_seen, specs.inner.Programs.named_by, proofs.Parses.name_read, proofs.Parses.passed, proofs.Parses.refused, proofs.Parses.simple, proofs.Parses.simple_and_free}
use Rattle.kp_command_line.proofs.match_words.Goals as goal

pub returns-in-Ok : goal.returns-in-Ok
returns-in-Ok c =
    let texts = map string_bytes c.args.words.now in
    let leaf = is_empty c.args.names.now in
    let given = c.in_ok-command.ensures in
    let found = c.in-Ok.ensures.matches (ap is_simple given ∙ simple c.args.program.now c.args.most (map name_seen c.args.names.now) leaf) in
    let none = c.in-Ok.ensures.kinds (ap is_simple_and_free given ∙ simple_and_free c.args.program.now c.args.most (map name_seen c.args.names.now) leaf) in
    ap Some c.named.ensures
    ∙ ap (λ (name : Option Text). Some (named_by name texts)) (c.subcommand_name.ensures ∙ name_read _ ∙ ap (option_map (λ p. p.0)) (found.1 ∙ ap (λ (a : App). subcommand_of a texts) given))
    ∙ passed c.args.program.now c.args.most (map name_seen c.args.names.now) leaf texts c.requires (ap (λ (a : App). fault_of a texts) (sym given) ∙ none)

pub returns : goal.returns
returns c =
    let texts = map string_bytes c.args.words.now in
    let leaf = is_empty c.args.names.now in
    let given = c.in_ok-command.ensures in
    let failed = c.in-Err.ensures.kinds (ap is_simple_and_free given ∙ simple_and_free c.args.program.now c.args.most (map name_seen c.args.names.now) leaf) in
    sym (refused c.args.program.now c.args.most (map name_seen c.args.names.now) leaf texts c.requires (λ none. elim failed [
      | inl memory ↦ let eq : c.eq.result ≡ true = rw (c.kind.ensures ∙ memory) at c.eq.ensures in absurd (true≢false (sym eq ∙ c.if-eq.false))
      | inr among ↦ subst (IsAmong (kind_of c.in-Err.error)) (ap (λ (a : App). fault_of a texts) given ∙ none) among
    ]))
