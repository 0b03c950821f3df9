use Rattle.std.proofs.Common.{◌≡◌, ◌∙◌, ℕ, Bool, cond, codes, List, Option, Some, None, ap, sym, subst}
use Rattle.std.specs.{Prelude.string_bytes, Result.IfOk, Str.bytes_eq}
use Rattle.kp_runner.{specs.Words.Asked, specs.Words.Settings, specs.Words.asked, specs.Words.settings_seen, specs.Words.with_option, proofs.Options.quiet_on, proofs.Options.value_on}
use Rattle.kp_runner.proofs.request.Request.+of_options.Goals as goal

pub returns-in-len1-up-more : goal.returns-in-len1-up-more
returns-in-len1-up-more n c =
    let quiet = sym c.if-quiet-2.true ∙ c.eq-quiet.ensures ∙ ap (λ (x : List ℕ). bytes_eq x (codes "--quiet")) c.as_str.ensures.value in
    subst (λ (x : Asked). IfOk c.of_options.result (λ request. asked request ≡ x))
    (quiet_on string_bytes (settings_seen c.args.settings) (settings_seen c.silent-in-len1-up-more.result) c.args.words.now c.word-item.result
    c.in-len1-up.len_at_least c.word-item.is c.in-len1-up-more.len_at_least c.silent-in-len1-up-more.ensures quiet) c.of_options.ensures

pub returns-then-branch : goal.returns-then-branch
returns-then-branch n c =
    let loud = sym c.if-quiet-2.false ∙ c.eq-quiet.ensures ∙ ap (λ (x : List ℕ). bytes_eq x (codes "--quiet")) c.as_str.ensures.value in
    let s = settings_seen c.args.settings in
    let t = settings_seen c.set.new.self in
    let option = ap (λ (x : List ℕ). with_option s x (string_bytes c.value-item.result)) (sym c.as_str-in-len1-up-2.ensures.value)
    ∙ c.in_ok-set-in-len1-up-2.ensures ∙ ap (λ (b : Bool). cond b (Some t) None) c.if-branch.true in
    subst (λ (x : Asked). IfOk c.of_options-then-branch.result (λ request. asked request ≡ x))
    (value_on string_bytes s t c.args.words.now c.word-item.result c.value-item.result
    c.in-len1-up.len_at_least c.word-item.is c.in-len1-up-more.len_at_least c.value-item.is loud option) c.of_options-then-branch.ensures
