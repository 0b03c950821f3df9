-- A text that is to be written.
use Rattle.std.specs.Prelude.{ℕ, List}
use Rattle.kp_core.specs.declared.answer.Said.{Said, TheVariants.Fixed, TheVariants.Made}

abbrev pub text_said : Said → List ℕ
text_said (Fixed text) = text.now
text_said (Made text) = text.items
