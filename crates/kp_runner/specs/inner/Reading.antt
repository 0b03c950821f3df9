-- What is read of words and files, by what the calls return.
use Rattle.std.specs.Prelude.{◌≡◌, List, map, option_map, Result, Ok, Err, ⊤}
use Rattle.std.specs.Prelude.{All, IfSome}
use Rattle.kp_ast.specs.declared.tree.Job.{Job}
use Rattle.kp_until.specs.{Expected.IsCheck, Expected.script_of, Parts.IsPart, Untils.IsUntil}
use Rattle.kp_runner.specs.{Due.Complains, Reading.Complaint, Reading.File, Reading.Reading}
use Rattle.kp_runner.specs.declared.{answer.Own.Own, reading.Reading.Reading as code}
use Rattle.kp_runner.specs.declared.unread.Unread.{Unread, TheVariants.Refused, TheVariants.NoMemory}

abbrev pub own_seen : Own → File
own_seen own = record { name = own.name.now; text = own.text.now }

abbrev pub reading_seen : code → Reading
reading_seen r = record { untils = r.untils.items; only = option_map (λ parts. parts.items) r.only; scripts = map script_of r.scripts.items }

-- a call that returns what is read, of which `view` is a view, or what is said of what isn't accepted
abbrev pub Reads : {T X : Type 0} → (T → X) → Result T Unread → Result X Complaint → Type 0
Reads view (Ok t) read = read ≡ Ok (view t)
Reads view (Err (Refused a)) read = (c : Complaint) × (read ≡ Err c) × Complains c a.status a.text.items
Reads view (Err NoMemory) read = ⊤

-- all words that were read are words of the job
pub record IsOf (job : Job) (r : code) : Type 0 where
  pub untils : All (IsUntil job) r.untils.items
  pub only : IfSome r.only (λ parts. All (IsPart job) parts.items)
  pub scripts : All (λ e. All (IsCheck job) e.checks.items) r.scripts.items
