-- A run and a file of the program, as those of the words.
use Rattle.std.specs.Prelude.{map, string_bytes, option_map}
use Rattle.kp_view_words.specs.{Asked.run_seen, Words.Named, Words.RunAsked, Words.Span}
use Rattle.kp_view_words.specs.declared.task.Span as code_span
use Rattle.kp_view_words.specs.declared.runs.Named as code_named
use Rattle.kp_view_words.specs.declared.runs.RunAsked as code

abbrev pub run_asked : code.RunAsked → RunAsked
run_asked asked = record { run = run_seen asked.run; file = option_map (λ word. string_bytes word.now) asked.file }

-- names and a file
abbrev pub named_seen : code_named.Named → Named
named_seen named = record { names = map string_bytes named.names.now; file = option_map (λ word. string_bytes word.now) named.file }

-- and so the cycles of a window
abbrev pub span_seen : code_span.Span → Span
span_seen span = record { from = span.from; count = span.count }
