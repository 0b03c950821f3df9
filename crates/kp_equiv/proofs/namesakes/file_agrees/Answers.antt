use Rattle.std.proofs.Common.{ap}
use Rattle.kp_net.specs.declared.netlist.NetFile.{NetFile}
use Rattle.kp_equiv.specs.{Alike.file_name, Agreement.FilesAlike, Agreement.FileAgrees}
use Rattle.kp_equiv.proofs.{Ordered.file_found, Ordered.looked_up, Ordered.not_found, Places.memories}
use Rattle.kp_equiv.proofs.namesakes.file_agrees.Goals as goal

pub returns-in-None : goal.returns-in-None
returns-in-None c =
    let name = file_name c.args.a.now c.args.i in
    not_found memories c.args.b.now.parts.files name c.file_at-file.result.now c.args.files.now (FileAgrees c.args.a.now c.args.b.now name) (λ h. (h.second, h.in_second, h.named_second))
    (ap (λ (f : NetFile). f.name) c.file_at-file.ensures.value) c.requires.names c.in-None.ensures

pub returns-in-Some : goal.returns-in-Some
returns-in-Some c =
    let a = c.args.a.now in
    let b = c.args.b.now in
    looked_up memories (FilesAlike a b) (FileAgrees a b) a.parts.files b.parts.files c.args.i c.in-Some.g c.file_at-file.result.now c.file_at-other.result.now c.args.files.now
    (λ g l. file_found a b c.args.i g c.requires.first.files c.requires.second.files c.requires.inside l) c.file_at-file.ensures.value c.file_at-other.ensures.value
    c.requires.names c.in-Some.ensures c.files_are_alike.result c.files_are_alike.ensures
