-- What is said of names and widths.
use Rattle.std.proofs.Common.{◌≡◌, ℕ, List, Option, Some, None, subst, sym}
use Rattle.std.specs.Prelude.{option_map}
use Rattle.kp_base.specs.declared.finding.Finding.{Finding}
use Rattle.kp_ast.specs.declared.tree.Job.{Job}
use Rattle.kp_width.specs.{Faults.rule_of, declared.fault.WidthFault.WidthFault}
use Rattle.kp_width.specs.declared.fault.WidthFault.TheVariants as faults
use Rattle.kp_view_excerpt.specs.Tokens.{token_at}
use Rattle.kp_view_expected.specs.declared.set.Expected.{Expected}
use Rattle.kp_view_help.specs.{Helps.IsHelpForWords, Helps.HelpsAt, declared.allowed.Before.Before, declared.help.Help.Help, declared.word.Word.Word, declared.found.FoundToken.FoundToken}
use Rattle.kp_view_message.specs.Helps.{IsReadingHelp}
use Rattle.kp_view_message.specs.declared.reading_fault.ReadingFault.{ReadingFault}
use Rattle.kp_view_message.specs.declared.reading_fault.ReadingFault.TheVariants as reading
use Rattle.kp_view_help.specs.declared.help.Help.TheVariants as help
use Rattle.kp_view_message.specs.Sites.{holder, other_case}
use Rattle.kp_view_message.specs.Names.{AreElsewhereHelps, AreOwnHelps, bytes_of, through_pipe, with_word}
use Rattle.kp_view_message.specs.Widths.{AreNameHelps, AreNumberHelps, IsWidthMessage, bits_in, widths_in}
use Rattle.kp_view_message.specs.declared.{message.Message.Message, sentence.Sentence.Sentence}
use Rattle.kp_view_message.specs.declared.message.Message.TheVariants as messages

pub said : (text : List ℕ) (job : Job) (f : Finding WidthFault) (m : Message) (s : Sentence) (name : Word) → m ≡ messages.Rule (rule_of f.fault) s
    → bits_in s.terms ≡ widths_in f.fault → name.0.now ≡ token_at text f.place → AreNameHelps text job f.place name f.fault s.helps → IsWidthMessage text job f m
said text job f m s name is widths spelled helps = (s, is, widths, (name, spelled, helps))

pub words : (width : ℕ) (found : Option Help) (helps : Option Help × Option Help) → IsHelpForWords width found → helps ≡ (found, None)
    → AreNumberHelps (faults.DeclaredAddress width) helps
words width found helps is same = (found, is, same)

pub own : (n : Word) (job : Job) (other : Option Word) (helps : Option Help × Option Help) → option_map bytes_of other ≡ other_case n.0.now job
    → helps ≡ (with_word help.OtherCase (Some help.OwnDefinition) other, None) → AreOwnHelps n job helps
own n job other helps same is = (other, same, is)

pub held : (text : List ℕ) (n : Word) (job : Job) (here : ℕ) (width : Option ℕ) (there : ℕ) (pipe : Option Word) (helps : Option Help × Option Help)
    → option_map bytes_of pipe ≡ holder text job n.0.now here there
    → helps ≡ (Some (help.KnownThere there), with_word help.HeldBy (through_pipe n here width there) pipe) → AreElsewhereHelps text n job here width there helps
held text n job here width there pipe helps same is = (pipe, same, is)

pub unexpected : (fault : ReadingFault) (found : FoundToken) (e : Expected) (before : Before) (result : Option Help) → fault ≡ reading.Unexpected found e before
    → HelpsAt found e before result → IsReadingHelp fault result
unexpected fault found e before result is helps = subst (λ (f : ReadingFault). IsReadingHelp f result) (sym is) helps
