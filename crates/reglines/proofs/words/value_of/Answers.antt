use Rattle.std.proofs.Common.{◌+◌, ◌<◌, refl, arith}
use Rattle.std.proofs.lemmas.Bool.{lt-leb}
use Rattle.std.specs.Str.Parse.{digits_value}
use Rattle.reglines.proofs.Digits.{value_more, front_value}
use Rattle.reglines.proofs.words.value_of.Goals as goal

pub returns-then-more-from : goal.returns-then-more-from
returns-then-more-from c =
    let digits = c.args.digits.now in
    let i = c.loop-digit.digit-index in
    let more = value_more digits i c.requires c.loop-digit-test.true in
    let front = front_value (i + 1) digits in
    let above : 1000000000 < digits_value 10 digits = omega arith in
    rw (lt-leb (digits_value 10 digits) 1000000000 above) refl

pub loop-digit-preserved : goal.loop-digit-preserved
loop-digit-preserved c =
    let more = value_more c.args.digits.now c.loop-digit.digit-index c.requires c.loop-digit-test.true in
    record { so_far = omega arith; fits = omega arith }
