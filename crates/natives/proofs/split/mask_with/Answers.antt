use Rattle.std.proofs.Common.{inl, inr, ◌∙◌, w64}
use Rattle.std.proofs.lemmas.Bool.{cases_eq}
use Rattle.std.proofs.lemmas.Nat.Bits.{bit_at_set_other, bit_at_set_same}
use Rattle.natives.proofs.split.mask_with.Goals as goal

pub returns-clause-there : goal.returns-clause-there
returns-clause-there c = bit_at_set_same w64 c.args.mask c.args.register c.requires

pub returns-clause-kept : goal.returns-clause-kept
returns-clause-kept c = λ r was. elim (cases_eq r c.args.register) [
  | inl e ↦ rw e (bit_at_set_same w64 c.args.mask c.args.register c.requires)
  | inr n ↦ bit_at_set_other w64 c.args.mask c.args.register c.requires r n ∙ was
]
