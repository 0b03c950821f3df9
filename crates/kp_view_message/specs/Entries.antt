-- The name of the entry of a section that a fault is of.
use Rattle.kp_base.specs.declared.place.Place.{Place}
use Rattle.kp_image.specs.declared.fault.SectionFault.{SectionFault}
use Rattle.kp_image.specs.declared.fault.SectionFault.TheVariants as section

-- it stands at a place of its own where the fault is at a literal or an address, else at that of the fault
abbrev pub entry_name : SectionFault → Place → Place
entry_name (section.ValueWidth name kind width found value) at = name
entry_name (section.AddressBeyond name words address) at = name
entry_name (section.WordBeyond name words) at = name
entry_name (section.SecondStart name) at = name
entry_name _ at = at
