-- One time more is recorded.
use Rattle.std.proofs.Common.{◌≡◌, ◌∙◌, ℕ, suc, ◌+◌, List, ◌++◌, Option, ap₂, subst, arith}
use Rattle.std.specs.Option.{option_to_list}
use Rattle.kp_vcd.specs.declared.dump.{Change.Change, Moment.Moment}
use Rattle.kp_vcd.specs.Recording.{Values, Record, changes_from, changes_at, moment_of, HasRecorded}

pub recorded_next : (values : ℕ → Values) (T : ℕ) (old new : Record) (now : Values) (kept : Option Moment) (changes : List Change) → HasRecorded values old.last T old → now ≡ values T
    → changes ≡ changes_from 0 old.before now → option_to_list kept ≡ moment_of old.last old.at changes → new.last ≡ old.last → new.at ≡ old.at + 1 → new.before ≡ now
    → new.moments ≡ old.moments ++ option_to_list kept → HasRecorded values old.last (T + 1) new
recorded_next values T old new now kept changes has is made reported last at before moments =
    let one : suc T ≡ T + 1 = omega arith in
    let these : changes ≡ changes_at values T = made ∙ ap₂ (changes_from 0) has.before is in
    subst (λ (m : ℕ). HasRecorded values old.last m new) one
    (record {
      last = last;
      at = at ∙ (let e : old.at + 1 ≡ suc T = omega (arith, has.at) in e);
      before = before ∙ is;
      moments =
          moments
          ∙ ap₂ (λ (ms ns : List Moment). ms ++ ns) has.moments
          (reported ∙ ap₂ (λ (t : ℕ) (cs : List Change). moment_of old.last t cs) has.at these);
    })
