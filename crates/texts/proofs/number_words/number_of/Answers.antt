use Rattle.std.proofs.Common.{arith, ◌∙◌, sym}
use Rattle.std.proofs.lemmas.Fmt.{decimal_injective}
use Rattle.texts.proofs.number_words.number_of.Goals as goal

pub returns-in_err-number : goal.returns-in_err-number
returns-in_err-number c = rw c.from_residual.ensures (record { some = tt; small = tt; none = λ n low e. c.in_err-number.ensures.none n (omega (arith, low)) e })

pub returns-then-number-from : goal.returns-then-number-from
returns-then-number-from c = record {
  some = tt;
  small = tt;
  none = λ n low e.
      let same = decimal_injective n c.in_ok-number.number (omega (arith, low)) (omega arith) (e ∙ sym c.in_ok-number.ensures.some) in
      omega (arith, low, same);
}

pub returns : goal.returns
returns c = record { some = c.in_ok-number.ensures.some; small = omega arith; none = tt }
