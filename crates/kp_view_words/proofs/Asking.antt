-- What words ask for, by the tests on them.
use Rattle.std.proofs.Common.{◌≡◌, ◌∙◌, ℕ, Bool, true, false, cond, ◌||◌, List, map, Option, refl, ap}
use Rattle.std.specs.{List.list_any, Option.option_map_or, Prelude.slice_get}
use Rattle.kp_command_line.{specs.Words.Text, specs.Words.is_flag, proofs.Parses.any_text}
use Rattle.kp_view_words.specs.Words.{Asked, Task, asked_for, asked_or, asks_help, flagged_task, help, help_place, is_help_flag, is_help_word, is_version_flag, task_named, task_of, topic_of, version}

module _ {X : Type 0} (text : X → Text) (words : List X) where
  abbrev all : List Text
  all = map text words

  tested : (test : Text → Bool) (b : Bool) → b ≡ list_any (λ word. test (text word)) words → b ≡ list_any test all
  tested test b is = is ∙ any_text text test words

  abbrev in_order : Bool → Bool → Option Task → Asked
  in_order first second task = cond first (help (topic_of all)) (cond second version (asked_or (topic_of all) task))

  pub versioned : false ≡ asks_help all → true ≡ list_any (λ word. is_version_flag (text word)) words → version ≡ asked_for all
  versioned other is =
      ap (λ (b : Bool). in_order false b (task_of all)) (tested is_version_flag true is)
      ∙ ap (λ (b : Bool). in_order b (list_any is_version_flag all) (task_of all)) other

  pub shown : (task : Option Task) → false ≡ asks_help all → false ≡ list_any (λ word. is_version_flag (text word)) words → task ≡ task_of all
      → asked_or (topic_of all) task ≡ asked_for all
  shown task other none is =
      ap (asked_or (topic_of all)) is
      ∙ ap (λ (b : Bool). in_order false b (task_of all)) (tested is_version_flag false none)
      ∙ ap (λ (b : Bool). in_order b (list_any is_version_flag all) (task_of all)) other

  abbrev task_by : Bool → Option Task
  task_by b = cond b (flagged_task all) (task_named all)

  pub with_dash : (task : Option Task) → true ≡ list_any (λ word. is_flag (text word)) words → task ≡ flagged_task all → task ≡ task_of all
  with_dash task is flagged = flagged ∙ ap task_by (tested is_flag true is)

  pub without_dash : false ≡ list_any (λ word. is_flag (text word)) words → task_named all ≡ task_of all
  without_dash is = ap task_by (tested is_flag false is)

  -- the first word isn't `help`
  abbrev place_by : Bool → ℕ
  place_by first = cond first 1 0

  asks_by : (first flag b : Bool) → (place_by first ≡ 1 → ⊥) → b ≡ flag → b ≡ (first || flag)
  asks_by true flag b other is = absurd (other refl)
  asks_by false flag b other is = is

  pub flagged : (b : Bool) → (help_place all ≡ 1 → ⊥) → b ≡ list_any (λ word. is_help_flag (text word)) words → b ≡ asks_help all
  flagged b other is = asks_by (option_map_or is_help_word (slice_get all 0) false) (list_any is_help_flag all) b other (tested is_help_flag b is)
