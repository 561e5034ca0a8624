use Rattle.std.proofs.Common.{◌++◌, ◌∷◌, [], ap, arith, get_or, rules, sym, true≢false}
use Rattle.told.specs.Bytes.{size_of}
use Rattle.told.specs.Numbers.{numbers_in}
use Rattle.told.proofs.NumberBytes.{beginning_fits}
use Rattle.told.proofs.numbers.Told.put_all.Goals as goal

pub returns-in_err-put-clause-room : goal.returns-in_err-put-clause-room
returns-in_err-put-clause-room c all_fit =
    let numbers = c.args.numbers.now in
    let i = c.loop-number.number-index in
    let fits = beginning_fits (numbers_in c.args.self.now) numbers i 0 (search rules) in
    let same = ap (λ told. size_of (told ++ get_or numbers i 0 ∷ [])) c.loop-number.invariant in
    absurd (true≢false (sym (c.in_err-put.ensures.room (omega (arith, fits, same, all_fit)))))
