use Rattle.std.specs.Str.Parse.{ExplainsUnsignedError, HasUnsignedDigitsIfOk, ParsesUnsigned}
use Rattle.clap.specs.Words.{found_of, one_text}
use Rattle.orders.proofs.Numbers.{number_told}
use Rattle.orders.proofs.words.number_or.Goals as goal

pub returns : goal.returns
returns c = rw c.unwrap_or.ensures (number_told (λ t r. ParsesUnsigned 32 10 t r × ExplainsUnsignedError 10 t r × HasUnsignedDigitsIfOk t r) (λ t r g. g.0) (one_text (found_of c.args.words.now) c.args.name.now) c.args.other c.get_one.result c.get_one.ensures.none c.get_one.ensures.value)
