use Rattle.std.proofs.Common.{◌∙◌, ap₂, map, string_bytes, sym}
use Rattle.kp_view_words.{specs.Words.asks_listing, proofs.Flags.no_listing, proofs.Flags.short, proofs.Flags.with_listing}
use Rattle.kp_view_words.proofs.labels.listed_by.Goals as goal

pub returns-in_default : goal.returns-in_default
returns-in_default c =
    c.labelled_by.ensures
    ∙ short string_bytes (map string_bytes c.args.before.now) (string_bytes c.args.flag.now) (string_bytes c.args.label.now) c.args.more.now c.in_default.len_below

pub returns-then-asks_listing : goal.returns-then-asks_listing
returns-then-asks_listing c =
    c.labelled_by-then-asks_listing.ensures
    ∙ with_listing string_bytes (map string_bytes c.args.before.now) (string_bytes c.args.flag.now) (string_bytes c.args.label.now) c.args.more.now
    c.word-item.result c.file-item.result c.in-len2-up.len_at_least c.word-item.is c.file-item.is
    (sym c.if-asks_listing.true ∙ c.asks_listing.ensures ∙ ap₂ asks_listing c.as_str.ensures.value c.as_bytes.ensures.value)

pub returns-else-asks_listing : goal.returns-else-asks_listing
returns-else-asks_listing c =
    c.labelled_by-else-asks_listing.ensures
    ∙ no_listing string_bytes (map string_bytes c.args.before.now) (string_bytes c.args.flag.now) (string_bytes c.args.label.now) c.args.more.now
    c.word-item.result c.file-item.result c.in-len2-up.len_at_least c.word-item.is c.file-item.is
    (sym c.if-asks_listing.false ∙ c.asks_listing.ensures ∙ ap₂ asks_listing c.as_str.ensures.value c.as_bytes.ensures.value)
