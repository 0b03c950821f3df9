-- The registers and files of a netlist that store the targets of its job.
use Rattle.std.specs.Prelude.{◌≡◌, ℕ, ◌<◌, ◌^◌, List, length, get_or, map, if◌then◌else◌}
use Rattle.kp_bits.specs.Word.{Word}
use Rattle.kp_ast.specs.declared.tree.Job.{Job}
use Rattle.kp_cycle.specs.Steps.{Running, reg_shown, word_shown}
use Rattle.kp_machine.specs.Slots.{Slot, targets_of, is_register}
use Rattle.kp_net.specs.{Netlist.Net, Parts.no_file}
use Rattle.kp_implements.specs.Naming.{register_of, file_of}
use Rattle.kp_run.specs.declared.places.Place.{Place, TheVariants.Register, TheVariants.File}

-- The register with the name of a target, or the file with the number of its words.
abbrev pub place_in : Net → Slot → Place
place_in net s = if is_register s then Register (register_of net s) else File (file_of net s) (2 ^ s.address)

abbrev pub places_in : Job → Net → List Place
places_in job net = map (place_in net) (targets_of job.decls)

abbrev pub words_at : Place → ℕ
words_at (Register r) = 1
words_at (File f words) = words

-- The netlist has this register, or this file with this number of words.
abbrev pub IsPlace : Net → Place → Type 0
IsPlace net (Register r) = r < length net.parts.regs
IsPlace net (File f words) = (f < length net.parts.files) × (words ≡ 2 ^ (get_or net.parts.files f no_file).address_width)

-- The word at an address of it in a state of the netlist. A register has only address 0.
abbrev pub word_at : Running → Place → ℕ → Word
word_at sim (Register r) a = reg_shown sim r
word_at sim (File f words) a = word_shown sim f a
