use Rattle.texts.proofs.Bytes.{IsCut}
use Rattle.orders.proofs.PartWords.{cut_word, digits_are, no_rest, numbers_are}
use Rattle.orders.proofs.bounds.numbers_of.Goals as goal

pub returns-in_err-number-clause-is : goal.returns-in_err-number-clause-is
returns-in_err-number-clause-is c = λ n m hn hm e.
    let cut : IsCut 47 c.args.word.now c.cut_at.result.0.now c.cut_at.result.1.now = record { parts = c.cut_at.ensures.parts; before = c.cut_at.ensures.before; after = c.cut_at.ensures.after } in
    absurd (c.in_err-number.ensures.none n hn (cut_word c.args.word.now c.cut_at.result.0.now c.cut_at.result.1.now n m cut hn e).0)

pub returns-in_err-_slash-clause-is : goal.returns-in_err-_slash-clause-is
returns-in_err-_slash-clause-is c = λ n m hn hm e.
    let cut : IsCut 47 c.args.word.now c.cut_at.result.0.now c.cut_at.result.1.now = record { parts = c.cut_at.ensures.parts; before = c.cut_at.ensures.before; after = c.cut_at.ensures.after } in
    absurd (no_rest _ _ c.cut_at.result.1.now (cut_word c.args.word.now c.cut_at.result.0.now c.cut_at.result.1.now n m cut hn e).1 c.in_err-_slash.ensures.cases)

pub returns-in_err-count-clause-is : goal.returns-in_err-count-clause-is
returns-in_err-count-clause-is c = λ n m hn hm e.
    let cut : IsCut 47 c.args.word.now c.cut_at.result.0.now c.cut_at.result.1.now = record { parts = c.cut_at.ensures.parts; before = c.cut_at.ensures.before; after = c.cut_at.ensures.after } in
    absurd (c.in_err-count.ensures.none m hm (digits_are c.args.word.now c.cut_at.result.0.now c.cut_at.result.1.now c.in_ok-_slash.digits.now c.in_ok-_slash._slash.now n m cut c.in_ok-_slash.ensures.cases.0 hn e))

pub returns-clause-is : goal.returns-clause-is
returns-clause-is c = λ n m hn hm e.
    let cut : IsCut 47 c.args.word.now c.cut_at.result.0.now c.cut_at.result.1.now = record { parts = c.cut_at.ensures.parts; before = c.cut_at.ensures.before; after = c.cut_at.ensures.after } in
    let same = numbers_are c.args.word.now c.cut_at.result.0.now c.cut_at.result.1.now c.in_ok-_slash.digits.now c.in_ok-_slash._slash.now c.in_ok-number.number c.in_ok-count.count n m cut c.in_ok-_slash.ensures.cases.0 c.in_ok-number.ensures.some c.in_ok-count.ensures.some c.in_ok-number.ensures.small c.in_ok-count.ensures.small hn hm e in
    cc (same.0, same.1)
