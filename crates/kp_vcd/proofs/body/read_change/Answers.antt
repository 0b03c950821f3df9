use Rattle.std.proofs.Common.{◌≡◌, ◌∙◌, sym, ap}
use Rattle.kp_vcd.specs.Forms.{said_by}
use Rattle.kp_vcd.specs.declared.forms.Said.TheVariants as said
use Rattle.kp_vcd.proofs.body.read_change.Goals as goal

pub returns-in-Bits-clause-meets : goal.returns-in-Bits-clause-meets
returns-in-Bits-clause-meets c d time before is =
    let e : said_by c.args.word.now.bytes ≡ said.Bits c.in-Bits.value = ap said_by (sym c.bytes.ensures) ∙ sym c.said_by.ensures ∙ c.in-Bits.is in
    rw e (c.read_code.ensures.meets d time before is)
