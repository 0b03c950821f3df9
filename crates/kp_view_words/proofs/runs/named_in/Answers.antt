use Rattle.std.proofs.{Common.◌∙◌, Common.sym, Common.ap, Common.map, Common.string_bytes, lemmas.List.Folds.list_all-map}
use Rattle.std.specs.List.{list_all}
use Rattle.kp_view_words.{specs.Words.is_name, proofs.Rests.named_none, proofs.Rests.named_some}
use Rattle.kp_view_words.proofs.runs.named_in.Goals as goal

pub returns-then-are_names : goal.returns-then-are_names
returns-then-are_names c =
    named_some (map string_bytes c.args.rest.now) _ _ c.names_in-names.ensures c.file_in.ensures
    (ap (list_all is_name) (sym c.names_in-names.ensures) ∙ list_all-map is_name string_bytes c.names_in-names.result.now
    ∙ sym c.are_names.ensures ∙ c.if-are_names.true)

pub returns-else-are_names : goal.returns-else-are_names
returns-else-are_names c =
    named_none (map string_bytes c.args.rest.now)
    (ap (list_all is_name) (sym c.names_in-names.ensures) ∙ list_all-map is_name string_bytes c.names_in-names.result.now
    ∙ sym c.are_names.ensures ∙ c.if-are_names.false)
